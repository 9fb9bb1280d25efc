-- Laws of bytes that stand apart.
use Rattle.std.proofs.Common.{◌≡◌, ℕ, zero, suc, ◌+◌, ◌*◌, ◌<◌, List, [], ◌∷◌, length, get_or, refl, ◌∙◌, mul-le-mul_left, add-one, arith, length-append}
use lib.ListN.{get_or-append}
use lib.Seq.{get_or_at}
use Rattle.encoding.proofs.Below.{below_suc}
use Rattle.columns_read.specs.Columns.{spaced}

module _ (bs : List ℕ) (off step : ℕ) where
  pub spaced_length : (n : ℕ) → length (spaced bs off step n) ≡ n
  unfolding spaced
  spaced_length zero = refl
  spaced_length (suc n) = length-append (spaced bs off step n) (get_or bs (off + step * n) 0 ∷ []) ∙ rw (spaced_length n) (add-one n)

  pub spaced_at : (n i : ℕ) → i < n → get_or (spaced bs off step n) i 0 ≡ get_or bs (off + step * i) 0
  unfolding spaced
  spaced_at zero i h = absurd (omega arith)
  spaced_at (suc n) i h =
      below_suc i n h
      (λ l. get_or-append (spaced bs off step n) (get_or bs (off + step * n) 0 ∷ []) 0 i (rw (spaced_length n) l) ∙ spaced_at n i l)
      (λ e. rw e (get_or_at (spaced bs off step n) (get_or bs (off + step * n) 0) [] 0 n (spaced_length n)))

-- byte j of 40 is there where the last is
pub spaced_fits : (at step j m : ℕ) → at + step * 39 < m → j < 40 → at + step * j < m
spaced_fits at step j m h l = omega (arith, mul-le-mul_left {m = j} {n = 39} step (omega arith))
