-- What may be wrong with a tree of a whole mesh. core k is the core of tree k, K the number of trees.
use Rattle.std.specs.Prelude.{ℕ, cond, List, ltb, eqb}
use Rattle.records.specs.Record.{number_of, neighbour_of}
use Rattle.faults.specs.Answer.{Wrong}
use Rattle.faults.specs.Record.{record_kind, face_kind, link_kind, first_face, record_wrong}

-- the link of face f of tree k
--   13 its neighbour isn't below K
unfoldable pub tree_link_kind : (ℕ → List ℕ) → ℕ → ℕ → ℕ → ℕ
tree_link_kind core K k f =
    cond (ltb (neighbour_of (core k) f) K) (link_kind k (core k) f (core (neighbour_of (core k) f))) 13

unfoldable pub tree_face_kind : (ℕ → List ℕ) → ℕ → ℕ → ℕ → ℕ
tree_face_kind core K k = face_kind k (core k) (tree_link_kind core K k)

-- tree k: its number is its place
unfoldable pub tree_wrong : (ℕ → List ℕ) → ℕ → ℕ → ℕ → Wrong
tree_wrong core dimension K k =
    record_wrong (record_kind (eqb (number_of (core k)) k) dimension (core k)) (first_face (tree_face_kind core K k))
