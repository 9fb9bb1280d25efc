-- For a local index and a face: the shape, and one of boundary, unused, a local tree or a ghost, with face and orientation.
use Rattle.std.specs.Prelude.{ℕ, ◌+◌, ◌-◌, cond, List, leb, ltb}
use Rattle.offsets.specs.Table.{first_tree, tree_count, holds}
use Rattle.records.specs.Shape.{face_count}
use Rattle.records.specs.Record.{shape_of, neighbour_of, face_of, orientation_of, to_itself}
use Rattle.mesh.specs.Mesh.{mesh_core}
use Rattle.part_neighbour.specs.declared.link.Across.{Across}
use Rattle.part_neighbour.specs.declared.link.NeighbourAnswer.{NeighbourAnswer}
use Rattle.part_neighbour.specs.declared.link.Link.{Link}
use Rattle.part_neighbour.specs.declared.link.Link.TheVariants.{Boundary, Unused, Local, Ghost}
use Rattle.part.specs.Ghosts.{ghost_position}
use Rattle.part.specs.Part.{part_count, stored_tree}

-- the number of each case
unfoldable pub link_kind : Link → ℕ
link_kind (Boundary a) = 0
link_kind (Unused a) = 1
link_kind (Local a) = 2
link_kind (Ghost a) = 3

-- its values
unfoldable pub link_across : Link → Across
link_across (Boundary a) = a
link_across (Unused a) = a
link_across (Local a) = a
link_across (Ghost a) = a

abbrev pub across : ℕ → ℕ → ℕ → Across
across index face orientation = record { index = record { 0 = index }; face = face; orientation = orientation }

-- what stands across face f of tree i of a part: a ghost's index is n plus its position, as it is stored
unfoldable pub link_of : List ℕ → ℕ → ℕ → Link
link_of part i f =
    cond (leb (face_count (shape_of (stored_tree part i))) f) (Unused (across 0 0 0))
    (cond (to_itself i (stored_tree part i) f) (Boundary (across i f 0))
    (cond (ltb (neighbour_of (stored_tree part i) f) (part_count part))
    (Local (across (neighbour_of (stored_tree part i) f) (face_of (stored_tree part i) f) (orientation_of (stored_tree part i) f)))
    (Ghost (across (neighbour_of (stored_tree part i) f) (face_of (stored_tree part i) f) (orientation_of (stored_tree part i) f)))))

-- the same of a part cut out of a whole mesh, by the mesh alone: with k the tree's number, a neighbour in f(rank) is a local tree, every other a ghost
unfoldable pub mesh_link : List ℕ → List ℕ → ℕ → ℕ → ℕ → Link
mesh_link mesh table rank i f =
    let k : ℕ = first_tree table rank + i in
    let r : List ℕ = mesh_core mesh k in
    cond (leb (face_count (shape_of r)) f) (Unused (across 0 0 0))
    (cond (to_itself k r f) (Boundary (across i f 0))
    (cond (holds table rank (neighbour_of r f))
    (Local (across (neighbour_of r f - first_tree table rank) (face_of r f) (orientation_of r f)))
    (Ghost (across (tree_count table rank + ghost_position (mesh_core mesh) table rank (neighbour_of r f)) (face_of r f) (orientation_of r f)))))

-- an answer: the shape and the link, or a refusal and zeros
pub record Answered : Type 0 where
  pub refusal : ℕ
  pub shape : ℕ
  pub link : Link

-- an answer as numbers alone
abbrev pub flat_answer : Answered → NeighbourAnswer
flat_answer n =
    record {
      refusal = n.refusal;
      shape = n.shape;
      kind = link_kind n.link;
      index = (link_across n.link).index.0;
      face = (link_across n.link).face;
      orientation = (link_across n.link).orientation;
    }
