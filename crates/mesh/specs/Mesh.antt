-- A whole mesh: dimension and K (u32 each), then K tree records in order, neighbours as global numbers.
use Rattle.std.specs.Prelude.{ℕ, ◌+◌, ◌*◌, Bool, ◌&&◌, ◌||◌, List, [], ◌∷◌, ltb, eqb, length}
use Rattle.encoding.specs.Below.{all_below, any_below}
use Rattle.encoding.specs.Numbers.{u32_at}
use Rattle.encoding.specs.Pieces.{piece}
use Rattle.encoding.specs.Refusal.{check, first_failed}
use Rattle.offsets.specs.Limits.{tree_count_ok}
use Rattle.records.specs.Shape.{dimension_of, face_count}
use Rattle.records.specs.Record.{core_size, tree_size, number_of, shape_of, neighbour_of, in_form}
use Rattle.mesh.specs.Link.{link_ok}

abbrev pub mesh_header : ℕ
mesh_header = 8

unfoldable pub mesh_dimension : List ℕ → ℕ
mesh_dimension m = u32_at m 0

-- K
unfoldable pub mesh_trees : List ℕ → ℕ
mesh_trees m = u32_at m 4

unfoldable pub dimension_ok : ℕ → Bool
dimension_ok d = eqb d 2 || eqb d 3

-- the core of tree k: its record without the tree data
unfoldable pub mesh_core : List ℕ → ℕ → List ℕ
mesh_core m k = piece m (mesh_header + tree_size * k) core_size

-- the record of tree k
unfoldable pub mesh_record : List ℕ → ℕ → List ℕ
mesh_record m k = piece m (mesh_header + tree_size * k) tree_size

-- face f of tree k: a neighbour below K, and the rule of the link
unfoldable pub face_sound : (ℕ → List ℕ) → ℕ → ℕ → ℕ → Bool
face_sound core K k f = ltb (neighbour_of (core k) f) K && link_ok core k f

-- tree k: its record in form, its number in order, a shape of the dimension, and each face that the shape has
unfoldable pub tree_sound : (ℕ → List ℕ) → ℕ → ℕ → ℕ → Bool
tree_sound core dimension K k =
    in_form k (core k) && eqb (number_of (core k)) k && eqb (dimension_of (shape_of (core k))) dimension && all_below (face_count (shape_of (core k))) (face_sound core K k)

-- the header and the length
unfoldable pub header_sound : List ℕ → Bool
header_sound m = dimension_ok (mesh_dimension m) && tree_count_ok (mesh_trees m) && eqb (length m) (mesh_header + tree_size * mesh_trees m)

-- the mesh is sound
unfoldable pub mesh_sound : List ℕ → Bool
mesh_sound m = header_sound m && all_below (mesh_trees m) (tree_sound (mesh_core m) (mesh_dimension m) (mesh_trees m))

-- check a whole mesh
unfoldable pub mesh_refusal : List ℕ → ℕ
mesh_refusal m = first_failed (check (mesh_sound m) 7 ∷ [])

-- n is a face neighbour of tree k
unfoldable pub face_neighbour : (ℕ → List ℕ) → ℕ → ℕ → Bool
face_neighbour core k n = any_below (face_count (shape_of (core k))) (λ f. eqb (neighbour_of (core k) f) n)
