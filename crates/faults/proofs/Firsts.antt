-- Laws of the first place and the first face that are wrong.
use Prim.Native.Nat.{ℕ, ◌+◌, ◌≤◌, ◌<◌}
use mathlib.Core.Path.{◌≡◌, refl, sym, ap, ◌∙◌}
use mathlib.Core.Bool.{Bool, true, false, not, ◌&&◌, ◌||◌}
use lib.Dec.{eqb}
use borrow.Author.Tests.{eqb-true, eq-eqb, ne_eqb}
use Rattle.encoding.specs.Below.{all_below, least_below}
use Rattle.encoding.proofs.Below.{all_at, all_more, all_to, any_intro, any_none, least_is}
use Rattle.faults.specs.declared.answer.Fault.{Fault}
use Rattle.faults.specs.Answer.{Wrong, wrong, is_fault, no_fault, fault_at, first_place, first_fault}
use Rattle.faults.specs.Record.{first_face}

-- a check of something only where something else holds
pub guard_fails : (x y : Bool) → (x && not y) ≡ true → (not x || y) ≡ false
guard_fails true true e = sym e
guard_fails true false e = refl
guard_fails false y e = sym e

pub guard_holds : (x y : Bool) → (x && not y) ≡ false → (not x || y) ≡ true
guard_holds true true e = refl
guard_holds true false e = sym e
guard_holds false y e = refl

-- the kinds of the places below i are 0
unfoldable pub quiet : (ℕ → ℕ) → ℕ → Bool
quiet kind i = all_below i (λ j. eqb (kind j) 0)

pub quiet_start : (kind : ℕ → ℕ) → quiet kind 0 ≡ true
unfolding quiet all_below
quiet_start kind = refl

pub quiet_at : (kind : ℕ → ℕ) (i : ℕ) → quiet kind i ≡ true → (j : ℕ) → j < i → kind j ≡ 0
unfolding quiet
quiet_at kind i a j h = eqb-true _ _ (all_at i (λ j. eqb (kind j) 0) a j h)

-- of places
module _ (fault n : ℕ) (at : ℕ → Wrong) where
  pub first_found : (i : ℕ) → i < n → quiet (λ j. (at j).kind) i ≡ true → ((at i).kind ≡ 0 → ⊥) → first_fault fault n at ≡ fault_at fault i (at i)
  unfolding first_fault first_place
  first_found i h a e =
      let bad : is_fault (at i).kind ≡ true = rw (ne_eqb (at i).kind 0 e) in
      let least : least_below n (λ j. is_fault (at j).kind) ≡ i = least_is n (λ j. is_fault (at j).kind) i h bad (λ j p. rw (quiet_at (λ j. (at j).kind) i a j p)) in
      rw (any_intro n (λ j. is_fault (at j).kind) i h bad, least)

  pub first_none : quiet (λ j. (at j).kind) n ≡ true → first_fault fault n at ≡ no_fault
  unfolding first_fault
  first_none a = rw (any_none n (λ j. is_fault (at j).kind) (λ i h. rw (quiet_at (λ j. (at j).kind) n a i h)))

-- of faces
module _ (kind : ℕ → ℕ) where
  pub face_found : (f : ℕ) → f < 6 → quiet kind f ≡ true → (kind f ≡ 0 → ⊥) → first_face kind ≡ wrong (kind f) f
  unfolding first_face
  face_found f h a e =
      let bad : is_fault (kind f) ≡ true = rw (ne_eqb (kind f) 0 e) in
      let least : least_below 6 (λ g. is_fault (kind g)) ≡ f = least_is 6 (λ g. is_fault (kind g)) f h bad (λ g p. rw (quiet_at kind f a g p)) in
      rw (any_intro 6 (λ g. is_fault (kind g)) f h bad, least)

  pub face_none : quiet kind 6 ≡ true → first_face kind ≡ wrong 0 0
  unfolding first_face
  face_none a = rw (any_none 6 (λ g. is_fault (kind g)) (λ f h. rw (quiet_at kind 6 a f h)))

-- ---- the turns of a search

-- the kind read at i is 0
pub quiet_more : (kind : ℕ → ℕ) (i : ℕ) → quiet kind i ≡ true → {k : ℕ} → k ≡ kind i → k ≡ 0 → quiet kind (i + 1) ≡ true
unfolding quiet
quiet_more kind i a e z = all_more i (λ j. eqb (kind j) 0) a (eq-eqb (kind i) 0 (sym e ∙ z))

pub quiet_to : (n : ℕ) (kind : ℕ → ℕ) (i : ℕ) → i ≤ n → n ≤ i → quiet kind i ≡ true → quiet kind n ≡ true
unfolding quiet
quiet_to n kind i p q a = all_to n (λ j. eqb (kind j) 0) i p q a

-- the kind read at face f isn't
pub face_read : (kind : ℕ → ℕ) (f : ℕ) → f < 6 → quiet kind f ≡ true → {k : ℕ} → k ≡ kind f → (k ≡ 0 → ⊥) → wrong k f ≡ first_face kind
face_read kind f h a e z = rw e (sym (face_found kind f h a (λ q. z (e ∙ q))))

-- what is read at place i isn't
pub first_read : (fault n : ℕ) (at : ℕ → Wrong) (i : ℕ) → i < n → quiet (λ j. (at j).kind) i ≡ true → {w : Wrong} {a : Fault} → w ≡ at i → (w.kind ≡ 0 → ⊥) → a ≡ fault_at fault i w → a ≡ first_fault fault n at
first_read fault n at i h q {w} {a} e z p = p ∙ rw e (sym (first_found fault n at i h q (λ k. z (ap (λ (x : Wrong). x.kind) e ∙ k))))
