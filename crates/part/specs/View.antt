-- When a part is sound, in document 01's words, over what the part says.
use Rattle.std.specs.Prelude.{ℕ, ◌+◌, ◌-◌, Bool, true, cond, not, ◌&&◌, ◌||◌, List, leb, ltb, eqb}
use Rattle.encoding.specs.Below.{all_below, any_below, least_below}
use Rattle.records.specs.Shape.{dimension_of, face_count}
use Rattle.records.specs.Record.{number_of, shape_of, neighbour_of, boundary_ok, in_form}
use Rattle.mesh.specs.Link.{orientation_ok, link_ok}
use Rattle.mesh.specs.Mesh.{face_neighbour}

-- what a part says: dimension, K, the first tree of f(p), n and g; tree record i as it stands, its neighbours local indices; the cores of tree i and of ghost j with neighbours as global numbers
pub record View : Type 0 where
  pub dimension : ℕ
  pub K : ℕ
  pub first : ℕ
  pub n : ℕ
  pub g : ℕ
  pub stored : ℕ → List ℕ
  pub tree : ℕ → List ℕ
  pub ghost : ℕ → List ℕ

module _ (v : View) where
  -- k is in f(p), the n trees from the first on
  abbrev pub local_in : ℕ → Bool
  local_in k = leb v.first k && ltb k (v.first + v.n)

  -- k is the number of a ghost
  abbrev pub ghostly_in : ℕ → Bool
  ghostly_in k = any_below v.g (λ j. eqb (number_of (v.ghost j)) k)

  -- a record with number k is held
  abbrev pub held_in : ℕ → Bool
  held_in k = local_in k || ghostly_in k

  -- that record, with neighbours as global numbers
  abbrev pub core_in : ℕ → List ℕ
  core_in k = cond (local_in k) (v.tree (k - v.first)) (v.ghost (least_below v.g (λ j. eqb (number_of (v.ghost j)) k)))

  -- tree i: in form, the own number being the local index; in order; with a shape of the dimension
  unfoldable pub tree_in_form : ℕ → Bool
  tree_in_form i = in_form i (v.stored i) && eqb (number_of (v.stored i)) (v.first + i) && eqb (dimension_of (shape_of (v.stored i))) v.dimension

  -- ghost j comes after the ghost before it
  unfoldable pub ghost_ascends : ℕ → Bool
  ghost_ascends j = cond (eqb j 0) true (ltb (number_of (v.ghost (j - 1))) (number_of (v.ghost j)))

  -- ghost j: in form; in order, ascending by global number; with a shape of the dimension
  unfoldable pub ghost_in_form : ℕ → Bool
  ghost_in_form j = in_form (number_of (v.ghost j)) (v.ghost j) && ghost_ascends j && eqb (dimension_of (shape_of (v.ghost j))) v.dimension

  -- k is a face neighbour of one of the trees
  unfoldable pub beside_tree : ℕ → Bool
  beside_tree k = any_below v.n (λ i. face_neighbour v.tree i k)

  -- ghost j is below K, and a neighbour of a tree, outside f(p)
  unfoldable pub ghost_near : ℕ → Bool
  ghost_near j = ltb (number_of (v.ghost j)) v.K && beside_tree (number_of (v.ghost j)) && not (local_in (number_of (v.ghost j)))

  -- every neighbour of tree i outside f(p) is a ghost
  unfoldable pub neighbours_ghostly : ℕ → Bool
  neighbours_ghostly i =
      all_below (face_count (shape_of (v.tree i))) (λ f. cond (local_in (neighbour_of (v.tree i) f)) true (ghostly_in (neighbour_of (v.tree i) f)))

  -- the ghosts are below K and exactly the neighbours of the trees outside f(p)
  unfoldable pub ghosts_exact : Bool
  ghosts_exact = all_below v.g ghost_near && all_below v.n neighbours_ghostly

  -- the whole mesh rule for the link of face f of record k; a link from a face to itself is the boundary only
  unfoldable pub link_rule : ℕ → ℕ → Bool
  link_rule k f = link_ok core_in k f && boundary_ok k (core_in k) f

  -- each link of record k to a record held obeys it
  unfoldable pub links_obey : ℕ → Bool
  links_obey k = all_below (face_count (shape_of (core_in k))) (λ f. cond (held_in (neighbour_of (core_in k) f)) (link_rule k f) true)

  -- each link of ghost j to a tree not held has a number below K outside f(p) and an orientation below the corners of its own face
  unfoldable pub links_far : ℕ → Bool
  links_far j =
      all_below (face_count (shape_of (v.ghost j))) (λ f. cond (held_in (neighbour_of (v.ghost j) f)) true (ltb (neighbour_of (v.ghost j) f) v.K && not (local_in (neighbour_of (v.ghost j) f)) && orientation_ok (v.ghost j) f))

  -- a link between two records held obeys the whole mesh rule, and a ghost's link to a tree not held is as above
  unfoldable pub links_hold : Bool
  links_hold = all_below v.n (λ i. links_obey (v.first + i)) && all_below v.g (λ j. links_obey (number_of (v.ghost j))) && all_below v.g links_far

  -- the records are sound
  unfoldable pub records_hold : Bool
  records_hold = all_below v.n tree_in_form && all_below v.g ghost_in_form && ghosts_exact && links_hold
