use Rattle.part.specs.Means.{rows_with}
use Rattle.part_cut.proofs.locals.Renaming.rename_rows.Goals as goal

pub returns : goal.returns
unfolding rows_with
returns c =
    let rename-row = c.rename_row in
    let rename-row2 = c.rename_row-2 in
    let rename-row3 = c.rename_row-3 in
    let rename-row4 = c.rename_row-4 in
    let rename-row5 = c.rename_row-5 in
    rw (rename-row.ensures, rename-row2.ensures, rename-row3.ensures, rename-row4.ensures, rename-row5.ensures, c.rename_row-6.ensures)
