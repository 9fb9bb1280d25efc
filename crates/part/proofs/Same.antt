-- What soundness reads: the trees below n and the ghosts below g alone. And the records that a part holds, by the names of the means.
use Prim.Native.Nat.{ℕ, ◌+◌, ◌-◌, ◌<◌}
use native.Mathlib.Omega.{arith}
use mathlib.Core.Path.{◌≡◌, refl, sym, ap, ◌∙◌}
use mathlib.Core.Bool.{Bool, true, cond, not, ◌&&◌, ◌||◌}
use mathlib.Core.List.{List}
use lib.Dec.{ltb, eqb}
use Rattle.encoding.specs.Below.{all_below, any_below}
use Rattle.encoding.proofs.Below.{either, all_same, any_same}
use Rattle.records.specs.Shape.{face_count}
use Rattle.records.specs.Record.{number_of, shape_of, neighbour_of, boundary_ok}
use Rattle.mesh.specs.Link.{orientation_ok, link_ok}
use Rattle.mesh.specs.Mesh.{face_neighbour}
use Rattle.part.specs.View.{View, local_in, ghostly_in, held_in, tree_in_form, ghost_ascends, ghost_in_form, beside_tree, ghost_near, neighbours_ghostly, ghosts_exact, link_rule, links_obey, links_far, links_hold, records_hold}
use Rattle.part.specs.Part.{part_first, part_count, part_ghost_count, stored_ghost, global_tree, part_holds, part_core}
use Rattle.part.specs.Means.{is_local, ghost_is, held, held_core}
use Rattle.part.proofs.Views.{link_same, local_at, local_held, ghost_at_held, held_same, core_same}

-- ---- the records that a part holds

module _ (part : List ℕ) where
  pub holds_held : (k : ℕ) → part_holds part k ≡ held (part_first part) (part_count part) (part_ghost_count part) (global_tree part) (stored_ghost part) k
  unfolding part_holds held is_local ghost_is
  holds_held k = refl

  pub core_held : (k : ℕ) → part_core part k ≡ held_core (part_first part) (part_count part) (part_ghost_count part) (global_tree part) (stored_ghost part) k
  unfolding part_core held_core is_local ghost_is
  core_held k = refl

-- ---- two views that agree on the trees below n and the ghosts below g

module _ (dimension K first n g : ℕ) (sa sb ta tb ga gb : ℕ → List ℕ) (same-stored : (i : ℕ) → i < n → sa i ≡ sb i) (same_trees_lem : (i : ℕ) → i < n → ta i ≡ tb i) (same_ghosts : (j : ℕ) → j < g → ga j ≡ gb j) where
  abbrev va : View
  va = record { dimension = dimension; K = K; first = first; n = n; g = g; stored = sa; tree = ta; ghost = ga }

  abbrev vb : View
  vb = record { dimension = dimension; K = K; first = first; n = n; g = g; stored = sb; tree = tb; ghost = gb }

  form-same : (i : ℕ) → i < n → tree_in_form va i ≡ tree_in_form vb i
  unfolding tree_in_form
  form-same i h = rw (same-stored i h)

  ghost-same : (j : ℕ) → j < g → ghost_in_form va j ≡ ghost_in_form vb j
  unfolding ghost_in_form ghost_ascends
  ghost-same j h = rw (same_ghosts j h, same_ghosts (j - 1) (omega arith))

  beside_same : (k : ℕ) → beside_tree va k ≡ beside_tree vb k
  unfolding beside_tree face_neighbour
  beside_same k =
      any_same n (λ i. any_below (face_count (shape_of (ta i))) (λ f. eqb (neighbour_of (ta i) f) k)) (λ i. any_below (face_count (shape_of (tb i))) (λ f. eqb (neighbour_of (tb i) f) k)) (λ i h. rw (same_trees_lem i h))

  named-same : (k : ℕ) → ghostly_in va k ≡ ghostly_in vb k
  named-same k = any_same g (λ j. eqb (number_of (ga j)) k) (λ j. eqb (number_of (gb j)) k) (λ j h. rw (same_ghosts j h))

  in-same : (k : ℕ) → held_in va k ≡ held_in vb k
  in-same k = ap (λ (b : Bool). local_in va k || b) (named-same k)

  near_same : (j : ℕ) → j < g → ghost_near va j ≡ ghost_near vb j
  unfolding ghost_near
  near_same j h = rw (same_ghosts j h, beside_same (number_of (gb j)))

  neighbours-same : (i : ℕ) → i < n → neighbours_ghostly va i ≡ neighbours_ghostly vb i
  unfolding neighbours_ghostly
  neighbours-same i h =
      rw (same_trees_lem i h)
      (all_same (face_count (shape_of (tb i))) (λ f. cond (local_in va (neighbour_of (tb i) f)) true (ghostly_in va (neighbour_of (tb i) f))) (λ f. cond (local_in vb (neighbour_of (tb i) f)) true (ghostly_in vb (neighbour_of (tb i) f)))
      (λ f l. ap (cond (local_in va (neighbour_of (tb i) f)) true) (named-same (neighbour_of (tb i) f))))

  abbrev ca : ℕ → List ℕ
  ca = held_core first n g ta ga

  abbrev cb : ℕ → List ℕ
  cb = held_core first n g tb gb

  abbrev obeys : (ℕ → Bool) → (ℕ → List ℕ) → ℕ → List ℕ → ℕ → Bool
  obeys has core k r f = cond (has (neighbour_of r f)) (link_ok core k f && boundary_ok k r f) true

  obey-a : (k : ℕ) → links_obey va k ≡ all_below (face_count (shape_of (ca k))) (obeys (held first n g ta ga) ca k (ca k))
  unfolding links_obey link_rule held held_core is_local ghost_is
  obey-a k = refl

  obey-b : (k : ℕ) → links_obey vb k ≡ all_below (face_count (shape_of (cb k))) (obeys (held first n g tb gb) cb k (cb k))
  unfolding links_obey link_rule held held_core is_local ghost_is
  obey-b k = refl

  obey-same : (k : ℕ) → held first n g ta ga k ≡ true → links_obey va k ≡ links_obey vb k
  obey-same k e =
      let c : ca k ≡ cb k = core_same first n g ta tb ga gb same_trees_lem same_ghosts k e in
      obey-a k
      ∙ ap (λ (r : List ℕ). all_below (face_count (shape_of r)) (obeys (held first n g ta ga) ca k r)) c
      ∙ all_same (face_count (shape_of (cb k))) (obeys (held first n g ta ga) ca k (cb k)) (obeys (held first n g tb gb) cb k (cb k))
      (λ f l.
      let m : ℕ = neighbour_of (cb k) f in
      let s : held first n g ta ga m ≡ held first n g tb gb m = held_same first n g ta tb ga gb same_trees_lem same_ghosts m in
      either (held first n g ta ga m)
      (λ p. let q : link_ok ca k f ≡ link_ok cb k f = link_same ca cb k f c (core_same first n g ta tb ga gb same_trees_lem same_ghosts m p) in rw (p, sym s ∙ p, q))
      (λ p. rw (p, sym s ∙ p)))
      ∙ sym (obey-b k)

  far-same : (j : ℕ) → j < g → links_far va j ≡ links_far vb j
  unfolding links_far
  far-same j h =
      rw (same_ghosts j h)
      (all_same (face_count (shape_of (gb j)))
      (λ f. cond (held_in va (neighbour_of (gb j) f)) true (ltb (neighbour_of (gb j) f) K && not (local_in va (neighbour_of (gb j) f)) && orientation_ok (gb j) f))
      (λ f. cond (held_in vb (neighbour_of (gb j) f)) true (ltb (neighbour_of (gb j) f) K && not (local_in vb (neighbour_of (gb j) f)) && orientation_ok (gb j) f))
      (λ f l. let m : ℕ = neighbour_of (gb j) f in ap (λ (b : Bool). cond b true (ltb m K && not (local_in va m) && orientation_ok (gb j) f)) (in-same m)))

  -- so both are sound or neither
  pub records_same : records_hold va ≡ records_hold vb
  unfolding records_hold ghosts_exact links_hold
  records_same =
      rw (
        all_same n (tree_in_form va) (tree_in_form vb) form-same,
        all_same g (ghost_in_form va) (ghost_in_form vb) ghost-same,
        all_same g (ghost_near va) (ghost_near vb) near_same,
        all_same n (neighbours_ghostly va) (neighbours_ghostly vb) neighbours-same,
        all_same n (λ i. links_obey va (first + i)) (λ i. links_obey vb (first + i)) (λ i h. obey-same (first + i) (local_held first n g ta ga (first + i) (local_at first n g ta ga i h))),
        all_same g (λ j. links_obey va (number_of (ga j))) (λ j. links_obey vb (number_of (gb j))) (λ j h. obey-same (number_of (ga j)) (ghost_at_held first n g ta ga j h) ∙ ap (λ (r : List ℕ). links_obey vb (number_of r)) (same_ghosts j h)),
        all_same g (links_far va) (links_far vb) far-same,
      )
