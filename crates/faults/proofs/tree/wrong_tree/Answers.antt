use mathlib.Core.Path.{refl}
use Rattle.faults.proofs.Positive.{kind_positive}
use Rattle.faults.proofs.Searches.{tree_kind, tree_found}
use Rattle.faults.proofs.tree.wrong_tree.Goals as goal

pub returns-in-Err : goal.returns-in-Err
returns-in-Err c = tree_kind _ _ _ _ c.tree_at-at.ensures c.number_of.ensures c.in-Err.ensures (kind_positive _)

pub returns : goal.returns
returns c = tree_found _ _ _ _ c.tree_at-at.ensures c.number_of.ensures c.in_default.ensures refl c.wrong_face.ensures
