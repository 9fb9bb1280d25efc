use Rattle.std.proofs.Common.{ℕ, Bool, ◌≡◌}
use Rattle.columns_read.specs.Means.{Run}
use Rattle.columns_read.proofs.alike.alike.Given as goal

abbrev pub invariant-loop-i : goal.invariant-loop-i
invariant-loop-i g l = (test : ℕ → Bool) → ((k : ℕ) (b : Bool) → goal.F-post g l.like k b → b ≡ test k) → Run test l.low l.some l.i
