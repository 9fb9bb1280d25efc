-- Which floats are no NaN, by their bits and by comparison with themselves.
use Prim.Native.Nat.{ℕ, ◌%◌}
use mathlib.Core.Path.{◌≡◌, sym, ap, ◌∙◌}
use mathlib.Core.Bool.{Bool, true, not}
use lib.Dec.{T, ltb}
use lib.Ieee.{binary32, is_nan, nan_bits, of_bits}
use lib.Ieee.Bits.{nan_bits_is, nan_bits_above}

-- the bits without their sign are above those of infinity exactly where they are a NaN's
pub bits_number : (b : ℕ) → not (ltb 2139095040 (b % 2147483648)) ≡ not (is_nan (of_bits binary32 b))
bits_number b = ap not (sym (nan_bits_above binary32 b) ∙ nan_bits_is binary32 b)

is_t : {b : Bool} → b ≡ true → T b
is_t e = rw e tt

-- bits of a number may be made a float
pub bits_float : (b : ℕ) → not (is_nan (of_bits binary32 b)) ≡ true → T (not (nan_bits binary32 b))
bits_float b h = is_t (ap not (nan_bits_is binary32 b) ∙ h)
