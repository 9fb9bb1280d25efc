-- The message from rank p's part.
use Rattle.std.specs.Prelude.{ℕ, ◌-◌, List}
use Rattle.encoding.specs.Pieces.{piece}
use Rattle.records.specs.Shape.{faces_in}
use Rattle.records.specs.Record.{tree_size}
use Rattle.part.specs.Layout.{tree_place}
use Rattle.part.specs.Cut.{renamed}
use Rattle.part.specs.Part.{part_dimension, part_first, global_number, part_holds, part_core}
use Rattle.message.specs.Rule.{rule_message}

-- the record of tree k of a part, with its data and its neighbours as global numbers
unfoldable pub part_record : List ℕ → ℕ → List ℕ
part_record part k = renamed (global_number part) (faces_in (part_dimension part)) (piece part (tree_place (k - part_first part)) tree_size)

-- the message from p's part to q
unfoldable pub part_message : List ℕ → List ℕ → List ℕ → ℕ → ℕ → ℕ → List ℕ
part_message part old new p q epoch = rule_message (part_core part) old new (part_holds part) (part_record part) p q epoch (part_dimension part)
