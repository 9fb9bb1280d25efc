use Rattle.std.specs.Prelude.{Some, None, ◌*◌}
use Rattle.linked.proofs.Numbers.{ghosts_marked}
use Rattle.linked.proofs.FromOneEnd.{trees_fail, ghosts_fail, links_counted, ghosts_read}
use Rattle.linked.proofs.check.linked_by.Goals as goal

pub returns-in_default : goal.returns-in_default
returns-in_default c = trees_fail _ _ c.requires.1 c.in_default.ensures

pub ghosts_linked-requires : goal.ghosts_linked-requires
ghosts_linked-requires c =
    let pre = c.requires in
    ghosts_marked _ _ pre.0.laid pre.1 pre.0.indexed pre.2

pub returns-in_default-ghosts_linked : goal.returns-in_default-ghosts_linked
returns-in_default-ghosts_linked c = ghosts_fail _ _ c.requires.1 (ghosts_read _ _ (6 * c.args.x.ghosts) None c.in_default-ghosts_linked.ensures)

pub returns : goal.returns
returns c = links_counted _ _ c.requires.1 c.in-Some.ensures (ghosts_read _ _ (6 * c.args.x.ghosts) (Some c.in-Some-ghosts_linked.of_ghosts) c.in-Some-ghosts_linked.ensures)
