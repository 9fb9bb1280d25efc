-- From one step to every list of calls. What a step does is given here; Delivering and Closing show it.
use Prim.Native.Nat.{ℕ, ◌+◌}
use native.Mathlib.Nat.{zero-add}
use mathlib.Core.Path.{◌≡◌, refl, sym, ap, ap₂, ◌∙◌}
use mathlib.Core.Bool.{Bool, true, false, cond, not, ◌&&◌, ◌||◌}
use mathlib.Core.List.{List, [], ◌∷◌, ◌++◌}
use lib.Dec.{leb, eqb}
use lib.ListN.{length}
use borrow.Author.Tests.{eqb-true, eq-eqb, not-true}
use Rattle.encoding.specs.Answer.{write_answer}
use Rattle.encoding.proofs.Below.{either, clash, and_fst, and_snd, and_intro}
use Rattle.part.specs.Cut.{cut_part}
use Rattle.area.specs.Deliver.{deliver_of}
use Rattle.area.specs.Close.{close_of}
use Rattle.repartition.proofs.Canonical.{canonical}
use Rattle.repartition.specs.Run.{Run, Setting}
use Rattle.repartition.specs.Lists.{deliver, Call, close, Answer, count_in, AllIn, Built, AllBuilt, message_of, area_after, answer_of, area_after_all, answers_of, accepted_by, hears, hears_all, all_due, due, due_all}
use Rattle.repartition.proofs.Receive.{InReceive, hears_receive}

module _ (run : Run) (S : Setting run) where
  -- what one call does to the area of a heard set, and answers
  pub record Steps : Type 0 where
    pub delivers : (H : ℕ → Bool) → InReceive run H → (tail : List ℕ) (p q : ℕ) → Built run p q
        → deliver_of (canonical run H ++ tail) (message_of run p q)
        ≡ (cond (eqb q run.rank) (cond (H p) 15 0) 13, canonical run (hears run H (deliver p q)) ++ tail)
    pub closes : (H : ℕ → Bool) → InReceive run H → (tail out : List ℕ)
        → close_of (canonical run H ++ tail) out
        ≡ write_answer (cond (all_due run H) (cond (leb (length (cut_part run.mesh run.new run.rank)) (length out)) 0 22) 20) (cut_part run.mesh run.new run.rank) out

  -- what is so of every message built is so of every message accepted
  pub accepted_all : (Q : List ℕ → Type 0) → ((p q : ℕ) → Built run p q → Q (message_of run p q)) → (cs : List Call) → AllBuilt run cs → (a : List ℕ) → AllIn Q (accepted_by run a cs)
  unfolding AllBuilt accepted_by AllIn
  accepted_all Q each [] b a = tt
  accepted_all Q each (deliver p q ∷ cs) b a =
      let more : AllIn Q (accepted_by run (area_after run a (deliver p q)) cs) = accepted_all Q each cs b.1 (area_after run a (deliver p q)) in
      either (eqb (deliver_of a (message_of run p q)).0 0) (λ t. rw t (each p q b.0, more)) (λ t. rw t more)
  accepted_all Q each (close out ∷ cs) b a = accepted_all Q each cs b (area_after run a (close out))

  module _ (steps : Steps) where
    -- a delivery to the area of a heard set, and its answer
    one-delivery : (H : ℕ → Bool) → InReceive run H → (tail : List ℕ) (p q : ℕ) → Built run p q
        → area_after run (canonical run H ++ tail) (deliver p q) ≡ canonical run (hears run H (deliver p q)) ++ tail
    unfolding area_after
    one-delivery H r tail p q b = rw (steps.delivers H r tail p q b, area_after)

    delivery-answer : (H : ℕ → Bool) → InReceive run H → (tail : List ℕ) (p q : ℕ) → Built run p q
        → answer_of run (canonical run H ++ tail) (deliver p q) ≡ due run H (deliver p q)
    unfolding answer_of due
    delivery-answer H r tail p q b = rw (steps.delivers H r tail p q b)

    -- a close leaves it as it is, and its answer
    one-close : (H : ℕ → Bool) (tail out : List ℕ) → area_after run (canonical run H ++ tail) (close out) ≡ canonical run H ++ tail
    unfolding area_after
    one-close H tail out = refl

    close-answer : (H : ℕ → Bool) → InReceive run H → (tail out : List ℕ) → answer_of run (canonical run H ++ tail) (close out) ≡ due run H (close out)
    unfolding answer_of due
    close-answer H r tail out = rw (steps.closes H r tail out)

    -- the area after a list is that of who is heard by it
    pub after_all : (cs : List Call) → AllBuilt run cs → (H : ℕ → Bool) → InReceive run H → (tail : List ℕ)
        → area_after_all run (canonical run H ++ tail) cs ≡ canonical run (hears_all run H cs) ++ tail
    unfolding AllBuilt area_after_all hears_all hears
    after_all [] b H r tail = refl
    after_all (deliver p q ∷ cs) b H r tail =
        ap (λ (a : List ℕ). area_after_all run a cs) (one-delivery H r tail p q b.0)
        ∙ after_all cs b.1 (hears run H (deliver p q)) (hears_receive run S H r p q b.0) tail
    after_all (close out ∷ cs) b H r tail = ap (λ (a : List ℕ). area_after_all run a cs) (one-close H tail out) ∙ after_all cs b H r tail

    -- the answers are those that the calls alone say
    pub answers_all : (cs : List Call) → AllBuilt run cs → (H : ℕ → Bool) → InReceive run H → (tail : List ℕ)
        → answers_of run (canonical run H ++ tail) cs ≡ due_all run H cs
    unfolding AllBuilt answers_of due_all hears
    answers_all [] b H r tail = refl
    answers_all (deliver p q ∷ cs) b H r tail =
        ap₂ (λ (x : Answer) (y : List Answer). x ∷ y) (delivery-answer H r tail p q b.0)
        (ap (λ (a : List ℕ). answers_of run a cs) (one-delivery H r tail p q b.0)
        ∙ answers_all cs b.1 (hears run H (deliver p q)) (hears_receive run S H r p q b.0) tail)
    answers_all (close out ∷ cs) b H r tail =
        ap₂ (λ (x : Answer) (y : List Answer). x ∷ y) (close-answer H r tail out)
        (ap (λ (a : List ℕ). answers_of run a cs) (one-close H tail out) ∙ answers_all cs b H r tail)

    -- ---- how often an item comes

    or_kept : (a c : Bool) → (c ≡ true → a ≡ true) → (a || c) ≡ a
    or_kept true c f = refl
    or_kept false true f = sym (f refl)
    or_kept false false f = refl

    heard-stays : (cs : List Call) (H : ℕ → Bool) (s : ℕ) → H s ≡ true → hears_all run H cs s ≡ true
    unfolding hears_all hears
    heard-stays [] H s e = e
    heard-stays (deliver p q ∷ cs) H s e = heard-stays cs (hears run H (deliver p q)) s (rw e)
    heard-stays (close out ∷ cs) H s e = heard-stays cs H s e

    -- a test of messages that of the senders to the rank passes s alone: of the messages accepted it passes one if s is heard by the list and wasn't before, else none
    module _ (s : ℕ) (test : List ℕ → Bool) (at : test (message_of run s run.rank) ≡ true)
        (only : (p : ℕ) → Built run p run.rank → (p ≡ s → ⊥) → test (message_of run p run.rank) ≡ false) where
      abbrev pub times : (ℕ → Bool) → List Call → ℕ
      times H cs = cond (hears_all run H cs s && not (H s)) 1 0

      module _ (p q : ℕ) (cs : List Call) (H : ℕ → Bool) where
        -- s was heard before the delivery if it is heard after it
        kept : ((eqb q run.rank && eqb s p) ≡ true → H s ≡ true) → times (hears run H (deliver p q)) cs ≡ times H (deliver p q ∷ cs)
        unfolding hears_all hears
        kept f = ap (λ (b : Bool). cond {A = ℕ} (hears_all run (hears run H (deliver p q)) cs s && not b) 1 0) (or_kept (H s) (eqb q run.rank && eqb s p) f)

        -- one that is accepted
        first-time : q ≡ run.rank → Built run p q → H p ≡ false
            → cond (test (message_of run p q)) 1 0 + times (hears run H (deliver p q)) cs ≡ times H (deliver p q ∷ cs)
        unfolding hears_all hears
        first-time e b f =
            let H' : ℕ → Bool = hears run H (deliver p q) in
            either (eqb p s)
            (λ t. let x : p ≡ s = eqb-true p s t in
            let g : H s ≡ false = ap H (sym x) ∙ f in
            let here : (H s || (eqb q run.rank && eqb s p)) ≡ true = rw (g, eq-eqb q run.rank e, eq-eqb s p (sym x)) in
            let m : test (message_of run p q) ≡ true = rw (e, x) at in
            let l : hears_all run H' cs s ≡ true = heard-stays cs H' s here in
            ap₂ (λ (a b : Bool). cond {A = ℕ} a 1 0 + cond {A = ℕ} (hears_all run H' cs s && not b) 1 0) m here
            ∙ ap₂ (λ (a b : Bool). cond {A = ℕ} true 1 0 + cond {A = ℕ} (a && b) 1 0) l refl
            ∙ sym (ap₂ (λ (a b : Bool). cond {A = ℕ} (a && not b) 1 0) l g))
            (λ t. let m : test (message_of run p q) ≡ false = rw e (only p (rw e at b) (λ x. clash (eq-eqb p s x) t)) in
            ap (λ (a : Bool). cond {A = ℕ} a 1 0 + times H' cs) m ∙ zero-add (times H' cs) ∙ kept (λ c. clash (eq-eqb p s (sym (eqb-true s p (and_snd (eqb q run.rank) (eqb s p) c)))) t))

        -- one that is refused
        other-time : (eqb q run.rank && not (H p)) ≡ false → times (hears run H (deliver p q)) cs ≡ times H (deliver p q ∷ cs)
        other-time e =
            kept
            (λ c. let x : s ≡ p = eqb-true s p (and_snd (eqb q run.rank) (eqb s p) c) in
            let y : eqb q run.rank ≡ true = and_fst (eqb q run.rank) (eqb s p) c in
            either (H s) (λ h. h) (λ h. clash (and_intro (eqb q run.rank) (not (H p)) y (ap (λ (k : ℕ). not (H k)) (sym x) ∙ ap not h)) e))

      -- a refused delivery adds no message
      refused_none : (q : ℕ) (h : Bool) (m : List ℕ) (rest : List (List ℕ)) → (eqb q run.rank && not h) ≡ false
          → count_in test (cond (eqb (cond (eqb q run.rank) (cond h 15 0) 13) 0) (m ∷ rest) rest) ≡ count_in test rest
      refused_none q true m rest e = either (eqb q run.rank) (λ t. rw t) (λ t. rw t)
      refused_none q false m rest e = either (eqb q run.rank) (λ t. clash (and_intro (eqb q run.rank) true t refl) e) (λ t. rw t)

      -- how often the test passes
      pub accepted_times : (cs : List Call) → AllBuilt run cs → (H : ℕ → Bool) → InReceive run H → (tail : List ℕ)
          → count_in test (accepted_by run (canonical run H ++ tail) cs) ≡ times H cs
      unfolding AllBuilt accepted_by count_in hears_all hears
      accepted_times [] b H r tail = sym (either (H s) (λ h. rw h) (λ h. rw h))
      accepted_times (deliver p q ∷ cs) b H r tail =
          let m : List ℕ = message_of run p q in
          let H' : ℕ → Bool = hears run H (deliver p q) in
          let rest : List (List ℕ) = accepted_by run (canonical run H' ++ tail) cs in
          let more : count_in test rest ≡ times H' cs = accepted_times cs b.1 H' (hears_receive run S H r p q b.0) tail in
          ap₂ (λ (x : ℕ) (a : List ℕ). count_in test (cond (eqb x 0) (m ∷ accepted_by run a cs) (accepted_by run a cs)))
          (ap (λ (x : ℕ × List ℕ). x.0) (steps.delivers H r tail p q b.0)) (one-delivery H r tail p q b.0)
          ∙ either (eqb q run.rank && not (H p))
          (λ t. let e : eqb q run.rank ≡ true = and_fst (eqb q run.rank) (not (H p)) t in
          let f : H p ≡ false = not-true (H p) (and_snd (eqb q run.rank) (not (H p)) t) in
          ap₂ (λ (x y : Bool). count_in test (cond (eqb (cond x (cond y 15 0) 13) 0) (m ∷ rest) rest)) e f
          ∙ ap (cond (test m) 1 0 +◌) more ∙ first-time p q cs H (eqb-true q run.rank e) b.0 f)
          (λ t. refused_none q (H p) m rest t ∙ more ∙ other-time p q cs H t)
      accepted_times (close out ∷ cs) b H r tail =
          ap (λ (a : List ℕ). count_in test (accepted_by run a cs)) (one-close H tail out) ∙ accepted_times cs b H r tail
