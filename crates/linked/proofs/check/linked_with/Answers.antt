use lib.ListN.{length-replicate}
use Rattle.std.specs.Prelude.{ℕ}
use native.Mathlib.Omega.{arith}
use Rattle.positions.proofs.Positions.{blank}
use Rattle.linked.proofs.Numbers.{numbers_below, marked}
use Rattle.linked.proofs.check.linked_with.Goals as goal

pub make-requires : goal.make-requires
make-requires g c =
    let pre = c.requires in
    (numbers_below _ _ pre.0 pre.1, omega (arith, length-replicate {A = ℕ} g.row.WORDS 0), blank g.row.WORDS (omega arith))

pub linked_by-requires : goal.linked_by-requires
linked_by-requires g c =
    let pre = c.requires in
    (marked _ _ pre.0 pre.1 c.make.ensures, pre.1, omega (arith, length-replicate {A = ℕ} g.row.WORDS 0, c.make.auto.marks))
