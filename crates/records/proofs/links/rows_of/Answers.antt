use Rattle.records.specs.Links.{rows_of}
use Rattle.records.proofs.links.rows_of.Goals as goal

pub returns : goal.returns
unfolding rows_of
returns c =
    let row = c.row in
    let row2 = c.row-2 in
    let row3 = c.row-3 in
    let row4 = c.row-4 in
    let row5 = c.row-5 in
    rw (row.ensures, row2.ensures, row3.ensures, row4.ensures, row5.ensures, c.row-6.ensures)
