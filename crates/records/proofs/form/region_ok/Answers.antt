use Prim.Native.Nat.{ℕ}
use mathlib.Core.Path.{ap}
use lib.Dec.{ltb}
use Rattle.records.specs.Record.{region_limit, region_ok}
use Rattle.records.proofs.form.region_ok.Goals as goal

pub returns : goal.returns
unfolding region_ok
returns c = ap (λ (n : ℕ). ltb n region_limit) c.region_of.ensures
