use Rattle.message_build.proofs.Writing.{global_hold, links_put, tree_written}
use borrow.Author.Rules.{rules}
use Rattle.message_build.proofs.write.write_tree.Goals as goal

pub put_rows-requires : goal.put_rows-requires
put_rows-requires c =
    let pre = c.requires in
    let shared-slice-known = c.shared_slice_known-1 in
    let rows_of_call = c.rows_of-rows in
    let global-rows = c.global_rows-global in
    (search rules, global_hold _ _ _ (λ i. (shared-slice-known.given i).fits) pre.faced rows_of_call.ensures global-rows.ensures)

pub returns : goal.returns
returns c =
    let pre = c.requires in
    let rows_of_call = c.rows_of-rows in
    let global-rows = c.global_rows-global in
    let copy64 = c.copy64 in
    let put-rows = c.put_rows in
    tree_written _ _ _ _ _ pre.source pre.target copy64.ensures (links_put _ _ _ _ _ rows_of_call.ensures global-rows.ensures put-rows.ensures)
