use Rattle.part_cut.proofs.Renaming.{local_rows, record_written}
use borrow.Author.Rules.{rules}
use Rattle.part_cut.proofs.locals.write_tree.Goals as goal

pub put_rows-requires : goal.put_rows-requires
put_rows-requires c =
    let pre = c.requires in
    let shared-slice-known = c.shared_slice_known-1 in
    let rows_of_call = c.rows_of-rows in
    let rename-rows = c.rename_rows-local in
    (search rules, local_rows _ _ _ _ _ _ _ _ _ _ pre (λ i. (shared-slice-known.given i).fits) rows_of_call.ensures rename-rows.ensures)

pub returns : goal.returns
returns c =
    let pre = c.requires in
    let rows_of_call = c.rows_of-rows in
    let rename-rows = c.rename_rows-local in
    let copy64 = c.copy64 in
    let put-rows = c.put_rows in
    record_written _ _ _ _ _ _ _ _ _ _ pre rows_of_call.ensures rename-rows.ensures copy64.ensures put-rows.ensures
