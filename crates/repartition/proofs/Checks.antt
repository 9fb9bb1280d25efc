-- Laws of lists of checks: one list after another.
use Prim.Native.Nat.{ℕ, suc}
use native.Mathlib.Omega.{arith}
use mathlib.Core.Path.{◌≡◌, refl}
use mathlib.Core.Bool.{Bool, true, false, cond, not, ◌&&◌}
use mathlib.Core.List.{List, [], ◌∷◌, ◌++◌}
use lib.Dec.{eqb}
use borrow.Author.Tests.{not-true}
use Rattle.encoding.specs.Refusal.{Check, check, first_failed}
use Rattle.encoding.proofs.Below.{either, and_fst, and_snd}

-- no check of the list has number 0
unfoldable pub numbered : List Check → Bool
numbered [] = true
numbered (c ∷ cs) = not (eqb c.number 0) && numbered cs

-- the checks after others count where those pass
pub checks_then : (xs ys : List Check) → numbered xs ≡ true → first_failed (xs ++ ys) ≡ cond (eqb (first_failed xs) 0) (first_failed ys) (first_failed xs)
unfolding first_failed numbered
checks_then [] ys n = refl
checks_then (c ∷ cs) ys n =
    either c.passes
    (λ t. rw t (checks_then cs ys (and_snd (not (eqb c.number 0)) (numbered cs) n)))
    (λ t. rw (t, not-true (eqb c.number 0) (and_fst (not (eqb c.number 0)) (numbered cs) n)))

-- one check more after others, that of the buffer
pub room_last : (cs : List Check) → numbered cs ≡ true → (b : Bool) → first_failed (cs ++ (check b 22 ∷ [])) ≡ cond (eqb (first_failed cs) 0) (cond b 0 22) (first_failed cs)
unfolding first_failed
room_last cs n b = checks_then cs (check b 22 ∷ []) n

-- where one failed, no check after it counts
pub first_stays : (cs ds : List Check) → (first_failed cs ≡ 0 → ⊥) → first_failed (cs ++ ds) ≡ first_failed cs
unfolding first_failed
first_stays [] ds declined = absurd (declined refl)
first_stays (c ∷ cs) ds declined = either c.passes (λ t. rw t (first_stays cs ds (λ e. declined (rw t e)))) (λ t. rw t)

-- the first of several passed, and so did the others
pub pass_first : (b : Bool) (rest n : ℕ) → cond b rest (suc n) ≡ 0 → (b ≡ true) × (rest ≡ 0)
pass_first true rest n e = (refl, e)
pass_first false rest n e = absurd (omega arith)
