use Rattle.message_build.proofs.Writing.{global_hold, links_put}
use borrow.Author.Rules.{rules}
use Rattle.message_build.proofs.write.put_links.Goals as goal

pub put_rows-requires : goal.put_rows-requires
put_rows-requires c =
    let shared-slice-known = c.shared_slice_known-1 in
    let pre = c.requires in
    let rows_of_call = c.rows_of-rows in
    let global-rows = c.global_rows-global in
    (search rules, global_hold _ _ _ (λ i. (shared-slice-known.given i).fits) pre.faced rows_of_call.ensures global-rows.ensures)

pub returns : goal.returns
returns c =
    let rows_of_call = c.rows_of-rows in
    let global-rows = c.global_rows-global in
    let put-rows = c.put_rows in
    links_put _ _ _ _ _ rows_of_call.ensures global-rows.ensures put-rows.ensures
