-- Means, no part of what is promised: a part as the code writes it, by the range and by the set of its ghosts.
use Rattle.std.specs.Prelude.{ℕ, zero, suc, ◌+◌, ◌-◌, ◌*◌, ◌^◌, ◌≤◌, ◌<◌, Bool, true, false, cond, not, ◌&&◌, ◌≡◌, List, [], ◌++◌, eqb, length}
use Rattle.encoding.specs.Pieces.{piece}
use Rattle.encoding.specs.Below.{any_below, count_below}
use Rattle.encoding.specs.Refusal.{first_failed}
use Rattle.bits.specs.Bits.{in_set}
use Rattle.offsets.specs.Table.{first_tree, end_tree, tree_count}
use Rattle.records.specs.Shape.{face_count, faces_in}
use Rattle.records.specs.Record.{core_size, tree_size, unused, shape_of, neighbour_of}
use Rattle.mesh.specs.Mesh.{mesh_header, mesh_dimension, mesh_trees, mesh_core, mesh_sound}
use Rattle.part.specs.Layout.{part_header, header_bytes, part_size}
use Rattle.part.specs.Cut.{renamed}
use Rattle.part.specs.Means.{in_range, ghost_in}
use Rattle.positions.specs.Means.{Blank, Counts, cores_below}
use Rattle.part_cut.specs.Calls.{cut_checks}

-- ---- the ghosts as a set of bits

-- k is outside the range and across one of the first n faces of record r
unfoldable pub out_faces : ℕ → ℕ → List ℕ → ℕ → ℕ → Bool
out_faces first end r n k = any_below n (λ f. not (in_range first end (neighbour_of r f)) && eqb (neighbour_of r f) k)

-- the same for the faces of one of the first n trees of the range
unfoldable pub out_trees : (ℕ → List ℕ) → ℕ → ℕ → ℕ → ℕ → Bool
out_trees core first end n k = any_below n (λ i. out_faces first end (core (first + i)) (face_count (shape_of (core (first + i)))) k)

-- the record at byte at, whose first faces lead to numbers that the set can hold
pub record FacesFit (bs : List ℕ) (at faces first end : ℕ) (ws : List ℕ) : Type 0 where
  pub fits : at + core_size ≤ length bs
  pub few : faces ≤ 6
  pub range : first ≤ end
  pub low : (f : ℕ) → f < faces → neighbour_of (piece bs at core_size) f < 64 * length ws

-- a range of a sound mesh, whose trees the set can hold
pub record TreesFit (mesh : List ℕ) (first end : ℕ) (ws : List ℕ) : Type 0 where
  pub sound : mesh_sound mesh ≡ true
  pub range : first ≤ end
  pub within : end ≤ mesh_trees mesh
  pub room : mesh_trees mesh ≤ 64 * length ws

-- where no check of the cut fails: words of 0 for all trees, and for their counts
pub record CutSpace (mesh table : List ℕ) (rank : ℕ) (ws behind : List ℕ) : Type 0 where
  pub checked : first_failed (cut_checks mesh table rank) ≡ 0
  pub room : mesh_trees mesh ≤ 64 * length ws
  pub blank : Blank ws behind

-- where no check of the cut fails: so many words have bits for all trees
pub record CutRoom (mesh table : List ℕ) (rank words : ℕ) : Type 0 where
  pub checked : first_failed (cut_checks mesh table rank) ≡ 0
  pub room : mesh_trees mesh ≤ 64 * words
  pub few : words ≤ 2 ^ 20

-- the set has the range's ghosts among the trees below K and nothing else, and its counts
pub record GhostSet (mesh : List ℕ) (K first end : ℕ) (ws behind : List ℕ) (count : ℕ) : Type 0 where
  pub few : length ws ≤ 2 ^ 20
  pub room : K ≤ 64 * length ws
  pub members : (k : ℕ) → k < K → in_set ws k ≡ ghost_in (mesh_core mesh) first end k
  pub past : (k : ℕ) → K ≤ k → in_set ws k ≡ false
  pub counted : Counts ws behind count
  pub many : count ≡ count_below K (ghost_in (mesh_core mesh) first end)

-- the range of a rank, n trees from the first on, and the set of its ghosts
pub record Measured (mesh table : List ℕ) (rank : ℕ) (ws behind : List ℕ) (first n count : ℕ) : Type 0 where
  pub is_first : first ≡ first_tree table rank
  pub is_count : n ≡ tree_count table rank
  pub is_end : first + n ≡ end_tree table rank
  pub within : first + n ≤ mesh_trees mesh
  pub ghosts : GhostSet mesh (mesh_trees mesh) first (first + n) ws behind count

-- ---- trees with local indices

-- what the renaming by the index of the ghosts reads: their numbers as a set with its counts, and the range
pub record Known (marks behind : List ℕ) (count first end : ℕ) : Type 0 where
  pub counted : Counts marks behind count
  pub range : first ≤ end
  pub small : end + count < 4294967296

-- the local index of a neighbour, by the set of the ghosts' numbers
unfoldable pub local_in : List ℕ → ℕ → ℕ → ℕ → ℕ
local_in marks first end k = cond (eqb k unused) unused (cond (in_range first end k) (k - first) (end - first + count_below k (in_set marks)))

-- what writing the tree record at byte from of a buffer to byte to needs
pub record RecordRoom (bs out : List ℕ) (from faces : ℕ) (marks behind : List ℕ) (count first end to : ℕ) : Type 0 where
  pub source : from + tree_size ≤ length bs
  pub target : to + tree_size ≤ length out
  pub faced : 0 < faces
  pub known : Known marks behind count first end

-- the same for the n records of the trees from first on, behind a part's header
pub record RecordsRoom (bs out : List ℕ) (from faces first n : ℕ) (marks behind : List ℕ) (count : ℕ) : Type 0 where
  pub source : from + tree_size * n ≤ length bs
  pub target : part_header + tree_size * n ≤ length out
  pub faced : 0 < faces
  pub known : Known marks behind count first (first + n)

-- the n tree records from byte from on, renamed
unfoldable pub records_with : (ℕ → ℕ) → ℕ → List ℕ → ℕ → ℕ → List ℕ
records_with rename F bs from zero = []
records_with rename F bs from (suc n) = records_with rename F bs from n ++ renamed rename F (piece bs (from + tree_size * n) tree_size)

-- ---- the part

-- the members of a set are trees of the mesh, and there is room for their cores from byte at on
pub record GhostsRoom (mesh ws out : List ℕ) (at : ℕ) : Type 0 where
  pub few : length ws ≤ 2 ^ 20
  pub there : (k : ℕ) → in_set ws k ≡ true → mesh_header + tree_size * k + tree_size ≤ length mesh
  pub room : at + core_size * count_below (64 * length ws) (in_set ws) ≤ length out

-- what writing a part needs: n trees of the mesh from the first on, the set of their ghosts, and room
pub record PartRoom (mesh : List ℕ) (first n : ℕ) (ws behind : List ℕ) (count : ℕ) (out : List ℕ) : Type 0 where
  pub long : length mesh ≡ mesh_header + tree_size * mesh_trees mesh
  pub within : first + n ≤ mesh_trees mesh
  pub small : first + n + count < 4294967296
  pub ghosts : GhostSet mesh (mesh_trees mesh) first (first + n) ws behind count
  pub room : part_size n count ≤ length out

-- the part, as the code writes it
unfoldable pub part_with : List ℕ → ℕ → ℕ → ℕ → ℕ → List ℕ → ℕ → List ℕ
part_with mesh P rank first n ws count =
    header_bytes (mesh_dimension mesh) (mesh_trees mesh) P rank first n count
    ++ (records_with (local_in ws first (first + n)) (faces_in (mesh_dimension mesh)) mesh (mesh_header + tree_size * first) n
    ++ cores_below (mesh_core mesh) (in_set ws) (64 * length ws))
