use Rattle.records.proofs.Forms.{region_at}
use native.Mathlib.Omega.{arith}
use Rattle.records.proofs.read.region_of.Goals as goal

pub returns : goal.returns
returns c =
    let args = c.args in
    let pre = c.requires in
    omega (arith, region_at args.bs.now args.at pre)
