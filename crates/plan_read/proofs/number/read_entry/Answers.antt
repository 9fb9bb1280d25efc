use Rattle.plan_read.proofs.Grammar.{byte_within}
use Rattle.plan_read.specs.Means.{byte_at, Number, read_number, negated, read_entry}
use borrow.Author.Tests.{ne_eqb}
use lib.ListN.{length}
use native.Mathlib.Omega.{arith}
use mathlib.Core.List.{List}
use mathlib.Core.Path.{◌≡◌}
use Prim.Native.Nat.{ℕ, ◌+◌, ◌<◌}
use Rattle.plan_read.proofs.number.read_entry.Goals as goal

module _ (text : List ℕ) (at : ℕ) {b : ℕ} (eb : b ≡ byte_at text at) where
  -- a minus sign is within the text
  within : b ≡ 45 → at < length text
  within p = byte_within text at (omega arith)

  minus : {m n : Number} → b ≡ 45 → n ≡ read_number text (at + 1) → m ≡ negated n → m ≡ read_entry text at
  unfolding read_entry
  minus p en em = rw (← eb, p, ← en) em

  plain : {m : Number} → (b ≡ 45 → ⊥) → m ≡ read_number text at → m ≡ read_entry text at
  unfolding read_entry
  plain p em = rw (← eb, ne_eqb b 45 p) em

pub overflow_add-at : goal.overflow_add-at
overflow_add-at c = omega (arith, within c.args.text.now c.args.at c.byte_at.ensures c.if-byte_at-eq45.true)

pub returns-then-byte_at-eq45 : goal.returns-then-byte_at-eq45
returns-then-byte_at-eq45 c = minus _ _ c.byte_at.ensures c.if-byte_at-eq45.true c.read_number.ensures c.negated.ensures

pub returns : goal.returns
returns c = plain _ _ c.byte_at.ensures c.if-byte_at-eq45.false c.read_number-2.ensures
