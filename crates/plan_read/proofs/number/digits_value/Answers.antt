use Rattle.std.proofs.lemmas.List.{length-take, length-drop}
use Rattle.plan_read.proofs.Grammar.{count_digits}
use Rattle.plan_read.proofs.Decimals.{digit_range, decimal_limit, value_snoc}
use Rattle.plan_read.specs.Means.{byte_at, digit_count, value_of}
use Rattle.plan_read.specs.Text.{number_limit}
use Rattle.encoding.proofs.Pieces.{piece_length, piece_at, piece_add, piece_cons}
use Rattle.encoding.specs.Pieces.{piece}
use lib.ListN.{length, get_or, take, drop}
use native.Mathlib.Omega.{arith}
use mathlib.Core.List.{List}
use mathlib.Core.Path.{◌≡◌, sym, refl}
use Prim.Native.Nat.{ℕ, ◌+◌, ◌-◌, ◌*◌, ◌≤◌, ◌<◌}
use Rattle.plan_read.proofs.number.digits_value.Goals as goal

module _ (text : List ℕ) (at n : ℕ) (h : (n ≡ digit_count text at) × (at + n ≤ length text) × (n ≤ 8)) where
  -- the bytes that the loop goes over
  abbrev part : List ℕ
  part = take (at + n - at) (drop at text)

  part_length : length part ≡ n
  part_length = omega (arith, length-take (at + n - at) (drop at text), length-drop at text)

  part_at : (i : ℕ) → i < n → get_or part i 0 ≡ byte_at text (at + i)
  unfolding piece
  part_at i l = piece_at text at (at + n - at) i (omega arith)

  -- each byte is a digit
  digit-here : (i : ℕ) → i < n → (48 ≤ get_or part i 0) × (get_or part i 0 ≤ 57)
  digit-here i l = rw (part_at i l) (digit_range (byte_at text (at + i)) (count_digits text at i (omega arith)))

  -- the first i digits stand for a number within its limit
  value-small : (i : ℕ) → i ≤ n → value_of 0 (piece text at i) < number_limit
  value-small i l =
      let k : length (piece text at i) ≡ i = piece_length text at i (omega arith) in
      decimal_limit (piece text at i) (λ j m. rw (piece_at text at i j (omega arith)) (count_digits text at j (omega arith))) (omega arith)

  -- one more digit
  value-more : (i : ℕ) → i < n → 10 * value_of 0 (piece text at i) + (byte_at text (at + i) - 48) ≡ value_of 0 (piece text at (i + 1))
  unfolding piece
  value-more i l =
      rw (piece_add text at i 1, piece_cons text (at + i) 0 (omega arith)) (sym (value_snoc 0 (piece text at i) (byte_at text (at + i))))

  turn : (i v : ℕ) → i < n → v ≡ value_of 0 (piece text at i)
      → (10 * v + (get_or part i 0 - 48) ≡ value_of 0 (piece text at (i + 1))) × (10 * v + (get_or part i 0 - 48) < number_limit)
  turn i v l e = rw (e, part_at i l, value-more i l) (refl, value-small (i + 1) (omega arith))

pub loop-b-init : goal.loop-b-init
unfolding piece value_of
loop-b-init c = (refl, omega arith)

pub overflow_sub-v : goal.overflow_sub-v
overflow_sub-v c = (digit-here _ _ _ c.requires _ (omega (arith, part_length _ _ _ c.requires))).0

pub loop-b-preserved : goal.loop-b-preserved
loop-b-preserved c = turn _ _ _ c.requires _ _ (omega (arith, part_length _ _ _ c.requires)) c.loop-b.invariant.0

pub returns : goal.returns
returns c =
    let e : c.loop-b.b-index ≡ c.args.n = omega (arith, part_length _ _ _ c.requires) in
    rw e at c.loop-b.invariant.0
