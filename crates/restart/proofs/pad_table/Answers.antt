use Rattle.std.proofs.lemmas.Result.{err_from_is_err_and}
use Rattle.encoding.proofs.Refusals.{number_positive}
use mathlib.Core.Path.{refl}
use native.Mathlib.Omega.{arith}
use mathlib.Core.Path.{sym}
use Rattle.restart.specs.Calls.{pad_table}
use Rattle.restart.proofs.Writing.{padded_length}
use Rattle.restart.proofs.Checks.{pad_numbered, pad_known}
use Rattle.restart.proofs.Answers.{write_refused, write_short, write_done}
use Rattle.restart.proofs.pad_table.Goals as goal

pub returns-in_err-check_pad : goal.returns-in_err-check_pad
unfolding pad_table
returns-in_err-check_pad c =
    let p = err_from_is_err_and c.from_residual.result c.from_residual.ensures.1 in
    rw (p.1, p.2) (write_refused _ _ _ _ c.in_err-check_pad.ensures refl (number_positive _))

pub returns-then-out-n : goal.returns-then-out-n
unfolding pad_table
returns-then-out-n c =
    let if2 = c.if-out-n in
    write_short _ _ _ _ c.in_ok-check_pad.ensures refl (pad_numbered _ _) refl (omega (arith, if2.true))

pub write_entries-requires : goal.write_entries-requires
write_entries-requires c = ((pad_known _ _ (sym c.in_ok-check_pad.ensures)).is_table.counted, (omega (arith, c.if-out-n.false)))

pub returns : goal.returns
unfolding pad_table
returns c =
    let if2 = c.if-out-n in
    write_done _ _ _ _ c.in_ok-check_pad.ensures refl (pad_numbered _ _) if2.false (sym (padded_length _ _)) c.write_entries.ensures
