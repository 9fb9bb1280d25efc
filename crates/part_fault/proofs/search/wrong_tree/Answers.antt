use mathlib.Core.Path.{refl}
use Rattle.faults.proofs.Positive.{kind_positive}
use Rattle.part_fault.proofs.Finding.{tree_found, tree_searched}
use Rattle.part_fault.proofs.search.wrong_tree.Goals as goal

pub returns-in-Err : goal.returns-in-Err
returns-in-Err c = tree_found _ _ c.requires.0 _ c.tree_at.ensures c.requires.1 c.tree_numbered-in_order.ensures c.in-Err.ensures (kind_positive _)

pub returns : goal.returns
returns c = tree_searched _ _ c.requires.0 _ c.tree_at.ensures c.requires.1 c.tree_numbered-in_order.ensures c.in_default.ensures refl c.wrong_face.ensures
