-- Heard sets within the receive set.
use Prim.Native.Nat.{ℕ, ◌<◌}
use mathlib.Core.Path.{◌≡◌, refl, sym, ap, ◌∙◌}
use mathlib.Core.Bool.{Bool, true, ◌&&◌}
use lib.Dec.{eqb}
use borrow.Author.Tests.{eqb-true}
use Rattle.encoding.proofs.Below.{either, clash, and_fst, and_snd}
use Rattle.offsets.specs.Table.{ranks}
use Rattle.pattern.specs.Sets.{sends_to, gets_from}
use Rattle.pattern.proofs.Sets.{gets_sends}
use Rattle.repartition.specs.Run.{Run, Setting}
use Rattle.repartition.specs.Lists.{deliver, Built, hears, nobody}

-- only ranks of the receive set are heard
pub record InReceive (run : Run) (H : ℕ → Bool) : Type 0 where
  pub below : (s : ℕ) → H s ≡ true → s < ranks run.old
  pub due : (s : ℕ) → H s ≡ true → gets_from run.old run.new run.rank s ≡ true

module _ (run : Run) where
  -- nobody is heard at first
  pub nobody_receive : InReceive run (nobody)
  unfolding nobody
  nobody_receive = record { below = λ s e. clash e refl; due = λ s e. clash e refl }

  module _ (S : Setting run) (H : ℕ → Bool) (r : InReceive run H) (p q : ℕ) (b : Built run p q) where
    -- who is heard after a delivery: whoever was, or its sender
    pub heard_cases : {C : Type 0} (s : ℕ) → hears run H (deliver p q) s ≡ true → (H s ≡ true → C) → (q ≡ run.rank → s ≡ p → C) → C
    unfolding hears
    heard_cases s e before now =
        either (H s) before
        (λ f. let g : (eqb q run.rank && eqb s p) ≡ true = rw f at e in now (eqb-true q run.rank (and_fst (eqb q run.rank) (eqb s p) g)) (eqb-true s p (and_snd (eqb q run.rank) (eqb s p) g)))

    -- the sender of a message for the rank is in the receive set
    pub built_due : q ≡ run.rank → gets_from run.old run.new run.rank p ≡ true
    built_due e =
        gets_sends run.old run.new S.tables p run.rank b.sender_below S.rank_below ∙ ap (sends_to run.old run.new p) (sym e) ∙ b.sends_tree

    -- a delivery keeps within the receive set
    pub hears_receive : InReceive run (hears run H (deliver p q))
    hears_receive =
        record {
          below = λ s e. heard_cases s e (r.below s) (λ f g. rw g b.sender_below);
          due = λ s e. heard_cases s e (r.due s) (λ f g. rw g (built_due f));
        }
