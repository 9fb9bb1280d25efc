use Rattle.part.specs.Means.{rows_with}
use Rattle.message_build.proofs.index.global_rows.Goals as goal

pub returns : goal.returns
unfolding rows_with
returns c =
    let global-row = c.global_row in
    let global-row2 = c.global_row-2 in
    let global-row3 = c.global_row-3 in
    let global-row4 = c.global_row-4 in
    let global-row5 = c.global_row-5 in
    rw (global-row.ensures, global-row2.ensures, global-row3.ensures, global-row4.ensures, global-row5.ensures, c.global_row-6.ensures)
