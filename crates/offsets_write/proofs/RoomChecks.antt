-- What the checks tell that every call makes that writes a table.
use Prim.Native.Nat.{ℕ, ◌<◌}
use native.Mathlib.Omega.{arith}
use mathlib.Core.Path.{◌≡◌, refl}
use mathlib.Core.Bool.{Bool, true, false, cond}
use mathlib.Core.List.{List}
use lib.Dec.{leb}
use lib.ListN.{length}
use Rattle.encoding.specs.declared.refusal.Refusal.{Refusal}
use Rattle.encoding.specs.Refusals.{refusal_number}
use Rattle.encoding.proofs.Refusals.{number_positive}
use Rattle.offsets.specs.Limits.{rank_count_ok}
use Rattle.offsets.specs.Table.{table_length}
use Rattle.offsets_write.specs.Means.{ranks_refusal, room_refusal}

test_passed : (b : Bool) (n : ℕ) → 0 < n → 0 ≡ cond b 0 n → b ≡ true
test_passed true n h e = refl
test_passed false n h e = absurd (omega arith)

test_failed : (b : Bool) (n : ℕ) (e : Refusal) → refusal_number e ≡ cond b 0 n → (b ≡ false) × (refusal_number e ≡ n)
test_failed true n e h = absurd (number_positive e h)
test_failed false n e h = (refl, h)

module _ (P : ℕ) where
  pub ranks_pass : 0 ≡ ranks_refusal P → rank_count_ok P ≡ true
  ranks_pass h = test_passed _ 2 (omega arith) h

  pub ranks_fail : (e : Refusal) → refusal_number e ≡ ranks_refusal P → (rank_count_ok P ≡ false) × (refusal_number e ≡ 2)
  ranks_fail e h = test_failed _ 2 e h

  module _ (out : List ℕ) where
    pub room_pass : 0 ≡ room_refusal P out → leb (table_length P) (length out) ≡ true
    room_pass h = test_passed _ 22 (omega arith) h

    pub room_fail : (e : Refusal) → refusal_number e ≡ room_refusal P out → (leb (table_length P) (length out) ≡ false) × (refusal_number e ≡ 22)
    room_fail e h = test_failed _ 22 e h
