use Rattle.plan_read.specs.Means.{digit_count_ok, byte_at, digit_count, value_of, digits_ok, read_number}
use Rattle.encoding.specs.Pieces.{piece}
use mathlib.Core.List.{List}
use mathlib.Core.Bool.{Bool, true, false}
use mathlib.Core.Path.{◌≡◌, sym}
use Prim.Native.Nat.{ℕ, ◌+◌}
use Rattle.plan_read.proofs.number.read_number.Goals as goal

module _ (text : List ℕ) (at n b : ℕ) {r : Bool} (en : n ≡ digit_count text at) (eb : b ≡ byte_at text at) (er : r ≡ digit_count_ok n b) where
  tested : digits_ok text at ≡ r
  unfolding digits_ok
  tested = rw (← en, ← eb) (sym er)

  bad : r ≡ false → record { ok = false; value = 0; next = at + n } ≡ read_number text at
  unfolding read_number
  bad p = rw (tested, p, ← en)

  good : {v : ℕ} → r ≡ true → v ≡ value_of 0 (piece text at n) → record { ok = true; value = v; next = at + n } ≡ read_number text at
  unfolding read_number
  good p e = rw (tested, p, ← en, e)

pub returns-then-not-digit_count_ok : goal.returns-then-not-digit_count_ok
returns-then-not-digit_count_ok c = bad _ _ _ _ c.digit_count-n.ensures.0 c.byte_at.ensures c.digit_count_ok.ensures c.if-not-digit_count_ok.true

pub returns : goal.returns
returns c = good _ _ _ _ c.digit_count-n.ensures.0 c.byte_at.ensures c.digit_count_ok.ensures c.if-not-digit_count_ok.false c.digits_value.ensures
