use Rattle.std.proofs.lemmas.Result.{err_from_is_err_and}
use mathlib.Core.Path.{refl}
use native.Mathlib.Omega.{arith}
use Rattle.brick.specs.Calls.{yes}
use Rattle.brick.proofs.Answers.{length_known, write_outside, write_short, write_done}
use Rattle.brick.proofs.write_brick.Goals as goal

pub returns-in_err-length : goal.returns-in_err-length
returns-in_err-length c =
    let p = err_from_is_err_and c.from_residual.result c.from_residual.ensures.1 in
    rw (p.1, p.2) (write_outside _ _ _ _ _ _ _ _ c.in_err-length.ensures)

pub returns-then-out-length : goal.returns-then-out-length
returns-then-out-length c =
    let known = length_known _ _ _ c.in_ok-length.ensures in
    write_short _ _ _ _ _ _ _ known.0 known.1 c.if-out-length.true refl

pub write_trees-requires : goal.write_trees-requires
write_trees-requires c =
    let known = length_known _ _ _ c.in_ok-length.ensures in
    record { extents = known.0; room = omega (arith, known.1, c.if-out-length.false) }

pub returns : goal.returns
unfolding yes
returns c =
    let known = length_known _ _ _ c.in_ok-length.ensures in
    write_done _ _ _ _ _ _ _ known.0 known.1 (omega (arith, c.if-out-length.false)) c.write_trees.ensures
