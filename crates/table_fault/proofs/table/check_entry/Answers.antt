use Rattle.table_fault.proofs.Entries.{table_long, kind_first, kind_trees, kind_above, kind_last, kind_counted}
use native.Mathlib.Omega.{arith}
use Rattle.table_fault.proofs.table.check_entry.Goals as goal

pub entry-v-requires : goal.entry-v-requires
entry-v-requires c = omega (arith, table_long _ c.requires.0)

pub returns-then-p-v : goal.returns-then-p-v
returns-then-p-v c = kind_first _ _ c.entry-v.ensures c.requires.1 c.requires.2 c.if-p-v.true

pub returns-then-p-ranks : goal.returns-then-p-ranks
returns-then-p-ranks c =
    let entry = c.entry-v in
    let pre = c.requires in
    let if1 = c.if-p-v in
    let tree-count-ok = c.tree_count_ok in
    kind_trees _ _ entry.ensures pre.1 pre.2 if1.false tree-count-ok.ensures c.if-p-ranks.true

pub returns-then-trees-magnitude : goal.returns-then-trees-magnitude
returns-then-trees-magnitude c =
    let entry = c.entry-v in
    let pre = c.requires in
    let if1 = c.if-p-v in
    let tree-count-ok = c.tree_count_ok in
    let if2 = c.if-p-ranks in
    let magnitude = c.magnitude in
    kind_above _ _ entry.ensures pre.1 pre.2 if1.false tree-count-ok.ensures if2.false magnitude.ensures c.if-trees-magnitude.true

pub returns-then-ranks-p : goal.returns-then-ranks-p
returns-then-ranks-p c =
    let entry = c.entry-v in
    let pre = c.requires in
    let if1 = c.if-p-v in
    let tree-count-ok = c.tree_count_ok in
    let if2 = c.if-p-ranks in
    let magnitude = c.magnitude in
    let if3 = c.if-trees-magnitude in
    kind_last _ _ entry.ensures pre.1 pre.2 if1.false tree-count-ok.ensures if2.false magnitude.ensures if3.false c.if-ranks-p.true

pub entry-requires : goal.entry-requires
entry-requires c = omega (arith, table_long _ c.requires.0)

pub returns : goal.returns
returns c =
    let entry = c.entry-v in
    let pre = c.requires in
    let if1 = c.if-p-v in
    let tree-count-ok = c.tree_count_ok in
    let if2 = c.if-p-ranks in
    let magnitude = c.magnitude in
    let if3 = c.if-trees-magnitude in
    let if4 = c.if-ranks-p in
    let entry2 = c.entry in
    let magnitude2 = c.magnitude-2 in
    kind_counted _ _ entry.ensures pre.1 pre.2 if1.false tree-count-ok.ensures if2.false magnitude.ensures if3.false if4.false entry2.ensures magnitude2.ensures c.check_count.ensures
