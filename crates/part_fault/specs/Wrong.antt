-- What may be wrong with a tree or a ghost of a part, over what the part says. A tree's neighbours are local indices, a ghost's are numbers. Kinds 13, 14 and 17; the others are those of a record.
use Rattle.std.specs.Prelude.{ℕ, ◌+◌, ◌-◌, Bool, cond, not, ◌&&◌, ltb, eqb}
use Rattle.encoding.specs.Below.{any_below, least_below}
use Rattle.records.specs.Shape.{face_count}
use Rattle.records.specs.Record.{number_of, shape_of, neighbour_of}
use Rattle.mesh.specs.Link.{orientation_ok}
use Rattle.part.specs.View.{View, local_in, ghost_ascends}
use Rattle.faults.specs.Answer.{Wrong, wrong}
use Rattle.faults.specs.Record.{record_kind, face_kind, link_kind, first_face, record_wrong}

module _ (v : View) where
  -- ---- trees

  -- tree i has its number
  unfoldable pub tree_order_in : ℕ → Bool
  tree_order_in i = eqb (number_of (v.stored i)) (v.first + i)

  -- the link of face f of tree i to local index m, below n a tree, else n plus the ghost's position. A tree's link leads back to the local index i, a ghost's to the tree's number
  --   13 no record has this index
  unfoldable pub tree_to_in : ℕ → ℕ → ℕ → ℕ
  tree_to_in i f m =
      cond (ltb m v.n) (link_kind i (v.stored i) f (v.stored m))
      (cond (ltb (m - v.n) v.g) (link_kind (number_of (v.stored i)) (v.stored i) f (v.ghost (m - v.n))) 13)

  unfoldable pub tree_face_in : ℕ → ℕ → ℕ
  tree_face_in i = face_kind i (v.stored i) (λ f. tree_to_in i f (neighbour_of (v.stored i) f))

  unfoldable pub tree_wrong_in : ℕ → Wrong
  tree_wrong_in i = record_wrong (record_kind (tree_order_in i) v.dimension (v.stored i)) (first_face (tree_face_in i))

  -- ---- ghosts

  -- ghost j is below K, outside f(p), and comes after the ghost before it
  unfoldable pub ghost_order_in : ℕ → Bool
  ghost_order_in j = ltb (number_of (v.ghost j)) v.K && not (local_in v (number_of (v.ghost j))) && ghost_ascends v j

  -- a ghost is found by its number among those before the first that is out of order: all of them, if none is
  unfoldable pub found_in : ℕ
  found_in = least_below v.g (λ j. not (ghost_order_in j))

  -- the link of face f of ghost j to the tree with number k: a tree of f(p), whose link leads back to the ghost's local index; another ghost; or one that isn't held
  --   13 the number isn't below K
  --   14 the orientation isn't below the corners of the own face
  unfoldable pub ghost_to_in : ℕ → ℕ → ℕ → ℕ
  ghost_to_in j f k =
      cond (local_in v k) (link_kind (v.n + j) (v.ghost j) f (v.stored (k - v.first)))
      (cond (any_below found_in (λ m. eqb (number_of (v.ghost m)) k))
      (link_kind (number_of (v.ghost j)) (v.ghost j) f (v.ghost (least_below found_in (λ m. eqb (number_of (v.ghost m)) k))))
      (cond (ltb k v.K) (cond (orientation_ok (v.ghost j) f) 0 14) 13))

  unfoldable pub ghost_face_in : ℕ → ℕ → ℕ
  ghost_face_in j = face_kind (number_of (v.ghost j)) (v.ghost j) (λ f. ghost_to_in j f (neighbour_of (v.ghost j) f))

  -- ghost j has a face neighbour in f(p)
  unfoldable pub ghost_beside_in : ℕ → Bool
  ghost_beside_in j = any_below (face_count (shape_of (v.ghost j))) (λ f. local_in v (neighbour_of (v.ghost j) f))

  -- asked last
  --   17 the ghost is beside no tree
  unfoldable pub ghost_wrong_in : ℕ → Wrong
  ghost_wrong_in j =
      let w : Wrong = record_wrong (record_kind (ghost_order_in j) v.dimension (v.ghost j)) (first_face (ghost_face_in j)) in
      cond (eqb w.kind 0) (wrong (cond (ghost_beside_in j) 0 17) 0) w

  -- ---- records: ghosts count on from n

  unfoldable pub face_in : ℕ → ℕ → ℕ
  face_in i = cond (ltb i v.n) (tree_face_in i) (ghost_face_in (i - v.n))

  unfoldable pub wrong_in : ℕ → Wrong
  wrong_in i = cond (ltb i v.n) (tree_wrong_in i) (ghost_wrong_in (i - v.n))
