-- The checks of a call in their order, the room at the end, and what a call writes.
use Prim.Native.Nat.{ℕ, ◌≤◌, ◌<◌}
use mathlib.Core.Path.{◌≡◌, refl, sym, ◌∙◌}
use mathlib.Core.Bool.{Bool, true, ◌&&◌}
use mathlib.Core.List.{List, [], ◌∷◌, ◌++◌}
use lib.Dec.{leb}
use lib.ListN.{length}
use borrow.Author.Tests.{le-leb, lt-leb, ne_eqb}
use Rattle.encoding.specs.Answer.{length_refused, length_answer, written, write_answer}
use Rattle.encoding.specs.Pieces.{splice}
use Rattle.encoding.specs.Refusal.{Check, check, first_failed}
use Rattle.encoding.specs.declared.answer.Length.{Length}
use Rattle.encoding.proofs.Below.{tests, either, and_fst, and_snd}

-- no check has the number 0
unfoldable pub numbered : List Check → Bool
numbered [] = true
numbered (c ∷ cs) = leb 1 c.number && numbered cs

-- all pass
unfoldable pub all_pass : List Check → Bool
all_pass [] = true
all_pass (c ∷ cs) = c.passes && all_pass cs

-- one fails: those behind it don't matter
pub first_fails : (cs ds : List Check) → (first_failed cs ≡ 0 → ⊥) → first_failed cs ≡ first_failed (cs ++ ds)
unfolding first_failed all_pass numbered
first_fails [] ds h = absurd (h refl)
first_fails (c ∷ cs) ds h = either c.passes (λ p. rw p (first_fails cs ds (λ z. h (rw p z)))) (λ p. rw p)

-- none fails
pub none_fails : (cs : List Check) → numbered cs ≡ true → first_failed cs ≡ 0 → all_pass cs ≡ true
unfolding first_failed all_pass numbered
none_fails [] n e = refl
none_fails (c ∷ cs) n e =
    either c.passes
    (λ p. rw p (none_fails cs (and_snd (leb 1 c.number) (numbered cs) n) (rw p at e)))
    (λ p. absurd (omega (tests, and_fst (leb 1 c.number) (numbered cs) n, rw p at e)))

-- those behind them decide
pub rest_decides : (cs ds : List Check) → all_pass cs ≡ true → first_failed (cs ++ ds) ≡ first_failed ds
unfolding first_failed all_pass numbered
rest_decides [] ds e = refl
rest_decides (c ∷ cs) ds e = rw (and_fst c.passes (all_pass cs) e) (rest_decides cs ds (and_snd c.passes (all_pass cs) e))

-- a call that writes an object of n bytes
module _ (cs : List Check) (n : ℕ) (object out : List ℕ) {r : ℕ} (checked : r ≡ first_failed cs) where
  -- a check fails
  pub write_refused : {a : Length} → a ≡ length_refused r → (r ≡ 0 → ⊥) → (a, out) ≡ write_answer (first_failed (cs ++ (check (leb n (length out)) 22 ∷ []))) object out
  unfolding write_answer length_answer written
  write_refused e h = rw (← first_fails cs (check (leb n (length out)) 22 ∷ []) (λ z. h (checked ∙ z)), ← checked, ne_eqb r 0 h, e)

  module _ (ok : r ≡ 0) (counted : numbered cs ≡ true) where
    pub passed : all_pass cs ≡ true
    passed = none_fails cs counted (sym checked ∙ ok)

    -- the buffer is too short
    pub write_short : {a : Length} → a ≡ length_refused 22 → length out < n → (a, out) ≡ write_answer (first_failed (cs ++ (check (leb n (length out)) 22 ∷ []))) object out
    unfolding write_answer length_answer written first_failed
    write_short e h = rw (rest_decides cs (check (leb n (length out)) 22 ∷ []) passed, lt-leb n (length out) h, e)

    -- the object is written
    pub write_done : {m : ℕ} {last : List ℕ} → n ≤ length out → m ≡ length object → last ≡ splice out 0 object
        → (record { refusal = 0; length = m }, last) ≡ write_answer (first_failed (cs ++ (check (leb n (length out)) 22 ∷ []))) object out
    unfolding write_answer length_answer written first_failed
    write_done h l e = rw (rest_decides cs (check (leb n (length out)) 22 ∷ []) passed, le-leb n (length out) h, l, e)
