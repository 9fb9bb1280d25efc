use Prim.Native.Nat.{ℕ}
use mathlib.Core.Path.{◌≡◌, ap, ◌∙◌}
use native.Mathlib.Numerals.{add-one}
use native.Mathlib.Omega.{arith}
use Rattle.records.proofs.Rows.{first_rows, first_none, first_next, first_six}
use Rattle.records.proofs.links.put_rows.Goals as goal

pub loop-face-init : goal.loop-face-init
loop-face-init c = first_none _ _ _ _

pub put_row-requires : goal.put_row-requires
put_row-requires c = (omega arith, (c.loop-face-test.true, c.requires.1.codes c.loop-face.face c.loop-face-test.true))

pub loop-face-preserved : goal.loop-face-preserved
loop-face-preserved c = rw add-one (first_next _ _ _ _ _ c.loop-face-test.true c.requires.0 c.loop-face.invariant c.put_row.ensures)

pub returns : goal.returns
returns c =
    let e : c.loop-face.face ≡ 6 = omega arith in
    first_six _ _ _ _ c.requires.0 (rw e at c.loop-face.invariant)
