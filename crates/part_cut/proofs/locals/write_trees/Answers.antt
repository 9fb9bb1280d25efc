use Rattle.part_cut.proofs.Renaming.{records_start, record_room, records_next, records_end}
use Rattle.part_cut.proofs.locals.write_trees.Goals as goal

pub loop-i-init : goal.loop-i-init
loop-i-init c = records_start _ _ _ _ _ _ _ _ _ c.requires

pub write_tree-requires : goal.write_tree-requires
write_tree-requires c = record_room _ _ _ _ _ _ _ _ _ c.requires c.loop-i.invariant c.loop-i-test.true

pub loop-i-preserved : goal.loop-i-preserved
loop-i-preserved c =
    let pre = c.requires in
    let loop = c.loop-i in
    let loop-test = c.loop-i-test in
    let write-tree = c.write_tree in
    records_next _ _ _ _ _ _ _ _ _ pre loop.invariant loop-test.true write-tree.ensures

pub returns : goal.returns
returns c = records_end _ _ _ _ _ _ _ _ _ c.requires c.loop-i.invariant c.loop-i-test.false
