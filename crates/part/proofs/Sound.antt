-- Soundness in document 01's words is what the code finds: a ghost is a neighbour of a tree where its own link leads to one, since links between records held are answered.
use Prim.Native.Nat.{ℕ, zero, suc, ◌+◌, ◌-◌, ◌≤◌, ◌<◌}
use native.Mathlib.Omega.{arith}
use mathlib.Core.Path.{◌≡◌, refl, sym, ap, ◌∙◌}
use mathlib.Core.Bool.{Bool, true, false, cond, not, ◌&&◌, ◌||◌}
use mathlib.Core.List.{List}
use lib.Dec.{ltb, eqb, eqb-suc-zero}
use lib.ListN.{length}
use borrow.Author.Tests.{ltb-true, eqb-true, lt-ltb, eq-eqb, ne_eqb, eqb-false, not-true}
use Rattle.encoding.specs.Below.{all_below, any_below}
use Rattle.encoding.specs.Numbers.{u32_at}
use Rattle.encoding.specs.Pieces.{Bytes}
use Rattle.encoding.proofs.Below.{either, tests, clash, below_suc, and_fst, and_snd, and_intro, iff_eq, all_at, all_intro, any_at, any_intro, any_same, least_is}
use Rattle.encoding.proofs.Pieces.{piece_length}
use Rattle.offsets.specs.Limits.{max_trees}
use Rattle.offsets.specs.Table.{ranks, trees, first_tree, tree_count}
use Rattle.offsets.proofs.Tables.{count_add, end_trees, trees_high}
use Rattle.records.specs.Shape.{dimension_of, face_count, faces_in}
use Rattle.records.specs.Record.{core_size, unused, number_of, shape_of, neighbour_of, code_of, face_of, orientation_of, unused_ok, to_itself, boundary_ok, in_form}
use Rattle.records.proofs.Forms.{form_shape, form_zeros, form_region, form_used, form_unused, form_intro, boundary_zero, unused_neighbour, unused_code}
use Rattle.records.proofs.Shapes.{count_six}
use Rattle.mesh.specs.Link.{orientation_ok, link_ok}
use Rattle.mesh.specs.Mesh.{dimension_ok, face_neighbour}
use Rattle.mesh.proofs.Soundness.{link_there, link_answered}
use Rattle.part.specs.Layout.{tree_place, part_size}
use Rattle.part.specs.View.{View, local_in, ghostly_in, held_in, core_in, tree_in_form, ghost_ascends, ghost_in_form, beside_tree, ghost_near, neighbours_ghostly, ghosts_exact, link_rule, links_obey, links_far, links_hold, records_hold}
use Rattle.part.specs.Part.{part_dimension, part_k, part_first, part_count, part_ghost_count, stored_tree, stored_ghost, global_number, global_tree, view_of, part_header_sound, part_sound}
use Rattle.part.specs.Means.{RankKnown, is_local, ghost_is, held, held_core, ghost_link, ghost_after, ghost_beside, view_sound, part_linked}
use Rattle.part.proofs.Global.{Alike, alike_face, alike_region, alike_orientation, renamed_alike, renamed_neighbour}
use Rattle.part.proofs.Views.{TreeView, GhostView, tree_link_held, tree_link_make, view_make, view_trees, view_ghosts, local_at, local_held, ghost_at_held, core_tree, core_ghost, view_form, view_link, view_far, view_beside}

-- ---- tests

cond_then : (a b c : Bool) → cond a b c ≡ true → a ≡ true → b ≡ true
cond_then true b c e h = e
cond_then false b c e h = clash h refl

cond_else : (a b c : Bool) → cond a b c ≡ true → a ≡ false → c ≡ true
cond_else true b c e h = clash refl h
cond_else false b c e h = e

cond_make : (a b c : Bool) → (a ≡ true → b ≡ true) → (a ≡ false → c ≡ true) → cond a b c ≡ true
cond_make true b c p q = p refl
cond_make false b c p q = q refl

or_cond : (a b : Bool) → (a || b) ≡ cond a true b
or_cond true b = refl
or_cond false b = refl

-- a face that isn't the boundary unless its orientation is 0
boundary_make : (own : ℕ) (r : List ℕ) (f : ℕ) → (neighbour_of r f ≡ own → face_of r f ≡ f → orientation_of r f ≡ 0) → boundary_ok own r f ≡ true
unfolding boundary_ok to_itself
boundary_make own r f z =
    cond_make (eqb (neighbour_of r f) own && eqb (face_of r f) f) (eqb (orientation_of r f) 0) true
    (λ e. eq-eqb (orientation_of r f) 0 (z (eqb-true _ _ (and_fst (eqb (neighbour_of r f) own) (eqb (face_of r f) f) e)) (eqb-true _ _ (and_snd (eqb (neighbour_of r f) own) (eqb (face_of r f) f) e))))
    (λ e. refl)

unused_make : (r : List ℕ) (f : ℕ) → neighbour_of r f ≡ unused → code_of r f ≡ 0 → unused_ok r f ≡ true
unfolding unused_ok
unused_make r f n c = rw (eq-eqb (neighbour_of r f) unused n, eq-eqb (code_of r f) 0 c)

-- ---- what the words say of each record

module _ (v : View) where
  abbrev local : ℕ → Bool
  local = is_local v.first v.n v.g v.tree v.ghost

  abbrev has : ℕ → Bool
  has = held v.first v.n v.g v.tree v.ghost

  abbrev core : ℕ → List ℕ
  core = held_core v.first v.n v.g v.tree v.ghost

  abbrev number : ℕ → ℕ
  number j = number_of (v.ghost j)

  record TreeSaid (i : ℕ) : Type 0 where
    form : in_form i (v.stored i) ≡ true
    order : number_of (v.stored i) ≡ v.first + i
    shape : dimension_of (shape_of (v.stored i)) ≡ v.dimension

  tree-said : (i : ℕ) → tree_in_form v i ≡ true → TreeSaid i
  unfolding tree_in_form
  tree-said i e =
      let a : Bool = in_form i (v.stored i) in
      let b : Bool = eqb (number_of (v.stored i)) (v.first + i) in
      let c : Bool = eqb (dimension_of (shape_of (v.stored i))) v.dimension in
      record {
        form = and_fst a b (and_fst (a && b) c e);
        order = eqb-true _ _ (and_snd a b (and_fst (a && b) c e));
        shape = eqb-true _ _ (and_snd (a && b) c e);
      }

  tree-say : (i : ℕ) → TreeSaid i → tree_in_form v i ≡ true
  unfolding tree_in_form
  tree-say i t = rw (t.form, eq-eqb _ _ t.order, eq-eqb _ _ t.shape)

  record GhostSaid (j : ℕ) : Type 0 where
    form : in_form (number j) (v.ghost j) ≡ true
    after : ghost_ascends v j ≡ true
    shape : dimension_of (shape_of (v.ghost j)) ≡ v.dimension

  ghost-said : (j : ℕ) → ghost_in_form v j ≡ true → GhostSaid j
  unfolding ghost_in_form
  ghost-said j e =
      let a : Bool = in_form (number j) (v.ghost j) in
      let b : Bool = ghost_ascends v j in
      let c : Bool = eqb (dimension_of (shape_of (v.ghost j))) v.dimension in
      record {
        form = and_fst a b (and_fst (a && b) c e);
        after = and_snd a b (and_fst (a && b) c e);
        shape = eqb-true _ _ (and_snd (a && b) c e);
      }

  ghost-say : (j : ℕ) → GhostSaid j → ghost_in_form v j ≡ true
  unfolding ghost_in_form
  ghost-say j t = rw (t.form, t.after, eq-eqb _ _ t.shape)

  record NearSaid (j : ℕ) : Type 0 where
    below : number j < v.K
    beside : beside_tree v (number j) ≡ true
    outside : local (number j) ≡ false

  near-said : (j : ℕ) → ghost_near v j ≡ true → NearSaid j
  unfolding ghost_near is_local
  near-said j e =
      let a : Bool = ltb (number j) v.K in
      let b : Bool = beside_tree v (number j) in
      let c : Bool = not (local_in v (number j)) in
      record {
        below = ltb-true _ _ (and_fst a b (and_fst (a && b) c e));
        beside = and_snd a b (and_fst (a && b) c e);
        outside = not-true _ (and_snd (a && b) c e);
      }

  near-say : (j : ℕ) → NearSaid j → ghost_near v j ≡ true
  unfolding ghost_near is_local
  near-say j t = rw (lt-ltb _ _ t.below, t.beside, t.outside)

  -- every neighbour of tree i is held
  neighbours-said : (i : ℕ) → neighbours_ghostly v i ≡ true → (f : ℕ) → f < face_count (shape_of (v.tree i)) → has (neighbour_of (v.tree i) f) ≡ true
  unfolding neighbours_ghostly held is_local ghost_is
  neighbours-said i e f h =
      let m : ℕ = neighbour_of (v.tree i) f in
      or_cond (local_in v m) (ghostly_in v m)
      ∙ all_at (face_count (shape_of (v.tree i))) (λ f. cond (local_in v (neighbour_of (v.tree i) f)) true (ghostly_in v (neighbour_of (v.tree i) f))) e f h

  neighbours-say : (i : ℕ) → ((f : ℕ) → f < face_count (shape_of (v.tree i)) → has (neighbour_of (v.tree i) f) ≡ true) → neighbours_ghostly v i ≡ true
  unfolding neighbours_ghostly held is_local ghost_is
  neighbours-say i t =
      all_intro (face_count (shape_of (v.tree i))) (λ f. cond (local_in v (neighbour_of (v.tree i) f)) true (ghostly_in v (neighbour_of (v.tree i) f)))
      (λ f h. let m : ℕ = neighbour_of (v.tree i) f in sym (or_cond (local_in v m) (ghostly_in v m)) ∙ t f h)

  abbrev ruled : ℕ → ℕ → Type 0
  ruled k f = (link_ok core k f ≡ true) × (boundary_ok k (core k) f ≡ true)

  links-said : (k : ℕ) → links_obey v k ≡ true → (f : ℕ) → f < face_count (shape_of (core k)) → has (neighbour_of (core k) f) ≡ true → ruled k f
  unfolding links_obey link_rule held held_core is_local ghost_is
  links-said k e f h p =
      let t : cond (held_in v (neighbour_of (core_in v k) f)) (link_rule v k f) true ≡ true =
      all_at (face_count (shape_of (core_in v k))) (λ f. cond (held_in v (neighbour_of (core_in v k) f)) (link_rule v k f) true) e f h in
      let u : link_rule v k f ≡ true = cond_then (held_in v (neighbour_of (core_in v k) f)) (link_rule v k f) true t p in
      (and_fst (link_ok (core_in v) k f) (boundary_ok k (core_in v k) f) u, and_snd (link_ok (core_in v) k f) (boundary_ok k (core_in v k) f) u)

  links-say : (k : ℕ) → ((f : ℕ) → f < face_count (shape_of (core k)) → has (neighbour_of (core k) f) ≡ true → ruled k f) → links_obey v k ≡ true
  unfolding links_obey link_rule held held_core is_local ghost_is
  links-say k t =
      all_intro (face_count (shape_of (core_in v k))) (λ f. cond (held_in v (neighbour_of (core_in v k) f)) (link_rule v k f) true)
      (λ f h. cond_make (held_in v (neighbour_of (core_in v k) f)) (link_rule v k f) true
      (λ p. let u = t f h p in and_intro (link_ok (core_in v) k f) (boundary_ok k (core_in v k) f) u.0 u.1)
      (λ p. refl))

  abbrev distant : ℕ → ℕ → Type 0
  distant j f = (neighbour_of (v.ghost j) f < v.K) × (local (neighbour_of (v.ghost j) f) ≡ false) × (orientation_ok (v.ghost j) f ≡ true)

  far-said : (j : ℕ) → links_far v j ≡ true → (f : ℕ) → f < face_count (shape_of (v.ghost j)) → has (neighbour_of (v.ghost j) f) ≡ false → distant j f
  unfolding links_far held is_local ghost_is
  far-said j e f h p =
      let m : ℕ = neighbour_of (v.ghost j) f in
      let a : Bool = ltb m v.K in
      let b : Bool = not (local_in v m) in
      let c : Bool = orientation_ok (v.ghost j) f in
      let t : cond (held_in v m) true (a && b && c) ≡ true =
      all_at (face_count (shape_of (v.ghost j))) (λ f. cond (held_in v (neighbour_of (v.ghost j) f)) true (ltb (neighbour_of (v.ghost j) f) v.K && not (local_in v (neighbour_of (v.ghost j) f)) && orientation_ok (v.ghost j) f)) e f h in
      let u : (a && b && c) ≡ true = cond_else (held_in v m) true (a && b && c) t p in
      (ltb-true _ _ (and_fst a b (and_fst (a && b) c u)), not-true _ (and_snd a b (and_fst (a && b) c u)), and_snd (a && b) c u)

  far-say : (j : ℕ) → ((f : ℕ) → f < face_count (shape_of (v.ghost j)) → has (neighbour_of (v.ghost j) f) ≡ false → distant j f) → links_far v j ≡ true
  unfolding links_far held is_local ghost_is
  far-say j t =
      all_intro (face_count (shape_of (v.ghost j))) (λ f. cond (held_in v (neighbour_of (v.ghost j) f)) true (ltb (neighbour_of (v.ghost j) f) v.K && not (local_in v (neighbour_of (v.ghost j) f)) && orientation_ok (v.ghost j) f))
      (λ f h. cond_make (held_in v (neighbour_of (v.ghost j) f)) true _
      (λ p. refl)
      (λ p. let u = t f h p in rw (lt-ltb _ _ u.0, u.1, u.2)))

  -- ---- all of it

  record Said : Type 0 where
    tree : (i : ℕ) → i < v.n → TreeSaid i
    ghost : (j : ℕ) → j < v.g → GhostSaid j
    near : (j : ℕ) → j < v.g → NearSaid j
    neighbour : (i : ℕ) → i < v.n → (f : ℕ) → f < face_count (shape_of (v.tree i)) → has (neighbour_of (v.tree i) f) ≡ true
    tree-links : (i : ℕ) → i < v.n → (f : ℕ) → f < face_count (shape_of (core (v.first + i))) → has (neighbour_of (core (v.first + i)) f) ≡ true → ruled (v.first + i) f
    ghost-links : (j : ℕ) → j < v.g → (f : ℕ) → f < face_count (shape_of (core (number j))) → has (neighbour_of (core (number j)) f) ≡ true → ruled (number j) f
    far : (j : ℕ) → j < v.g → (f : ℕ) → f < face_count (shape_of (v.ghost j)) → has (neighbour_of (v.ghost j) f) ≡ false → distant j f

  said : records_hold v ≡ true → Said
  unfolding records_hold ghosts_exact links_hold
  said e =
      let a : Bool = all_below v.n (tree_in_form v) in
      let b : Bool = all_below v.g (ghost_in_form v) in
      let c : Bool = all_below v.g (ghost_near v) in
      let d : Bool = all_below v.n (neighbours_ghostly v) in
      let x : Bool = all_below v.n (λ i. links_obey v (v.first + i)) in
      let y : Bool = all_below v.g (λ j. links_obey v (number_of (v.ghost j))) in
      let z : Bool = all_below v.g (links_far v) in
      let e3 : (a && b && (c && d)) ≡ true = and_fst (a && b && (c && d)) (x && y && z) e in
      let e4 : (x && y && z) ≡ true = and_snd (a && b && (c && d)) (x && y && z) e in
      let e2 : (a && b) ≡ true = and_fst (a && b) (c && d) e3 in
      let e1 : (c && d) ≡ true = and_snd (a && b) (c && d) e3 in
      let e5 : (x && y) ≡ true = and_fst (x && y) z e4 in
      record {
        tree = λ i h. tree-said i (all_at v.n (tree_in_form v) (and_fst a b e2) i h);
        ghost = λ j h. ghost-said j (all_at v.g (ghost_in_form v) (and_snd a b e2) j h);
        near = λ j h. near-said j (all_at v.g (ghost_near v) (and_fst c d e1) j h);
        neighbour = λ i h. neighbours-said i (all_at v.n (neighbours_ghostly v) (and_snd c d e1) i h);
        tree-links = λ i h. links-said (v.first + i) (all_at v.n (λ i. links_obey v (v.first + i)) (and_fst x y e5) i h);
        ghost-links = λ j h. links-said (number j) (all_at v.g (λ j. links_obey v (number_of (v.ghost j))) (and_snd x y e5) j h);
        far = λ j h. far-said j (all_at v.g (links_far v) (and_snd (x && y) z e4) j h);
      }

  say : Said → records_hold v ≡ true
  unfolding records_hold ghosts_exact links_hold
  say s =
      rw (
        all_intro v.n (tree_in_form v) (λ i h. tree-say i (s.tree i h)),
        all_intro v.g (ghost_in_form v) (λ j h. ghost-say j (s.ghost j h)),
        all_intro v.g (ghost_near v) (λ j h. near-say j (s.near j h)),
        all_intro v.n (neighbours_ghostly v) (λ i h. neighbours-say i (s.neighbour i h)),
        all_intro v.n (λ i. links_obey v (v.first + i)) (λ i h. links-say (v.first + i) (s.tree-links i h)),
        all_intro v.g (λ j. links_obey v (number_of (v.ghost j))) (λ j h. links-say (number j) (s.ghost-links j h)),
        all_intro v.g (links_far v) (λ j h. far-say j (s.far j h)),
      )

  -- a tree with neighbours as global numbers differs from what is stored in its neighbours alone
  module _ (alike : (i : ℕ) → i < v.n → Alike (v.tree i) (v.stored i)) where
    -- ---- from the words to what the code asks; a face without use stays so

    module _ (kept : (i : ℕ) → i < v.n → (f : ℕ) → f < 6 → neighbour_of (v.stored i) f ≡ unused → neighbour_of (v.tree i) f ≡ unused) (s : Said) where
      after_next : (j : ℕ) → suc j < v.g → number j < number (suc j)
      unfolding ghost_ascends
      after_next j h =
          let e : suc j - 1 ≡ j = omega arith in
          ltb-true _ _ (rw (eqb-suc-zero j, e) at (s.ghost (suc j) h).after)

      ascends : (i j : ℕ) → i < j → j < v.g → number i < number j
      ascends i zero h l = absurd (omega arith)
      ascends i (suc j) h l = below_suc i j h (λ p. omega (arith, ascends i j p (omega arith), after_next j l)) (λ q. rw q (after_next j l))

      core-said : (j : ℕ) → j < v.g → core (number j) ≡ v.ghost j
      unfolding held_core ghost_is
      core-said j h =
          let k : ℕ = number j in
          rw ((s.near j h).outside, least_is v.g (λ i. eqb (number_of (v.ghost i)) k) j h (eq-eqb k k refl) (λ i p. ne_eqb (number_of (v.ghost i)) k (λ e. omega (arith, ascends i j p h))))

      core_local : (i : ℕ) → i < v.n → core (v.first + i) ≡ v.tree i
      core_local i h = core_tree v.first v.n v.g v.tree v.ghost i h

      -- a tree's link
      rule-local : (i : ℕ) → i < v.n → (f : ℕ) → f < face_count (shape_of (v.tree i)) → ruled (v.first + i) f
      rule-local i h f l =
          let c = core_local i h in
          s.tree-links i h f (rw c l) (rw c (s.neighbour i h f l))

      tree_view : (i : ℕ) → i < v.n → TreeView v.first v.n v.g v.tree v.ghost v.dimension i
      tree_view i h =
          let a = alike i h in
          let t = s.tree i h in
          let c = core_local i h in
          record {
            form = form_intro (v.first + i) (v.tree i) (rw a.shape (form_shape i (v.stored i) t.form)) (rw a.zeros (form_zeros i (v.stored i) t.form)) (alike_region a ∙ form_region i (v.stored i) t.form)
                (λ f l. rw c at (rule-local i h f l).1)
                (λ f l m.
                let u : unused_ok (v.stored i) f ≡ true = form_unused i (v.stored i) t.form f (rw a.shape at l) m in
                unused_make (v.tree i) f (kept i h f m (unused_neighbour (v.stored i) f u)) (a.code f m ∙ unused_code (v.stored i) f u));
            number = a.number ∙ t.order;
            shape = rw a.shape t.shape;
            links = λ f l. tree_link_make v.first v.n v.g v.tree v.ghost (v.first + i) f (rw c (s.neighbour i h f l)) (rule-local i h f l).0;
          }

      -- a ghost beside a tree leads back to it
      ghost-back : (j : ℕ) → j < v.g → ghost_beside v.first v.n v.g v.tree v.ghost j ≡ true
      unfolding ghost_beside beside_tree face_neighbour
      ghost-back j h =
          let k : ℕ = number j in
          let a = any_at v.n (λ i. any_below (face_count (shape_of (v.tree i))) (λ f. eqb (neighbour_of (v.tree i) f) k)) (s.near j h).beside in
          let i : ℕ = a.0 in
          let b = any_at (face_count (shape_of (v.tree i))) (λ f. eqb (neighbour_of (v.tree i) f) k) a.2 in
          let f : ℕ = b.0 in
          let m : ℕ = v.first + i in
          let link : link_ok core m f ≡ true = (rule-local i a.1 f b.1).0 in
          let p : neighbour_of (core m) f ≡ k = ap (λ (r : List ℕ). neighbour_of r f) (core_local i a.1) ∙ eqb-true _ _ b.2 in
          let c : core (neighbour_of (core m) f) ≡ v.ghost j = ap core p ∙ core-said j h in
          let there : face_of (core m) f < face_count (shape_of (v.ghost j)) = rw c at (link_there core m f link) in
          let back : neighbour_of (v.ghost j) (face_of (core m) f) ≡ m = rw c at (link_answered core m f link).0 in
          any_intro (face_count (shape_of (v.ghost j))) (λ f. local (neighbour_of (v.ghost j) f)) (face_of (core m) f) there
          (ap local back ∙ local_at v.first v.n v.g v.tree v.ghost i a.1)

      ghost-link : (j : ℕ) → j < v.g → (f : ℕ) → f < face_count (shape_of (v.ghost j)) → ghost_link v.first v.n v.g v.tree v.ghost v.K (number j) f ≡ true
      unfolding ghost_link
      ghost-link j h f l =
          let c = core-said j h in
          let m : ℕ = neighbour_of (core (number j)) f in
          cond_make (has m) (link_ok core (number j) f) (ltb m v.K && orientation_ok (core (number j)) f)
          (λ p. (s.ghost-links j h f (rw c l) p).0)
          (λ p. let u = s.far j h f l (rw c at p) in rw (c, lt-ltb _ _ u.0, u.2))

      ghost_view : (j : ℕ) → j < v.g → GhostView v.first v.n v.g v.tree v.ghost v.dimension v.K j
      unfolding ghost_after ghost_ascends
      ghost_view j h =
          let t = s.ghost j h in
          let u = s.near j h in
          record {
            form = t.form;
            below = u.below;
            outside = u.outside;
            after = t.after;
            shape = t.shape;
            beside = ghost-back j h;
            links = ghost-link j h;
          }

      to-view : view_sound v.first v.n v.g v.tree v.ghost v.dimension v.K ≡ true
      to-view = view_make v.first v.n v.g v.tree v.ghost v.dimension v.K tree_view ghost_view

    -- ---- and back: an index that is its own tree's leads there, and only unused leads to unused

    module _ (itself : (i : ℕ) → i < v.n → (f : ℕ) → f < 6 → neighbour_of (v.stored i) f ≡ i → neighbour_of (v.tree i) f ≡ v.first + i)
        (no-use : (i : ℕ) → i < v.n → (f : ℕ) → f < 6 → neighbour_of (v.tree i) f ≡ unused → neighbour_of (v.stored i) f ≡ unused)
        (sound : view_sound v.first v.n v.g v.tree v.ghost v.dimension v.K ≡ true) where
      tree-at : (i : ℕ) → i < v.n → TreeView v.first v.n v.g v.tree v.ghost v.dimension i
      tree-at = view_trees v.first v.n v.g v.tree v.ghost v.dimension v.K sound

      ghost_at : (j : ℕ) → j < v.g → GhostView v.first v.n v.g v.tree v.ghost v.dimension v.K j
      ghost_at = view_ghosts v.first v.n v.g v.tree v.ghost v.dimension v.K sound

      core-here : (i : ℕ) → i < v.n → core (v.first + i) ≡ v.tree i
      core-here i h = core_tree v.first v.n v.g v.tree v.ghost i h

      core-there : (j : ℕ) → j < v.g → core (number j) ≡ v.ghost j
      core-there j h = core_ghost v.first v.n v.g v.tree v.ghost v.dimension v.K sound j h

      tree-words : (i : ℕ) → i < v.n → TreeSaid i
      tree-words i h =
          let a = alike i h in
          let t = tree-at i h in
          record {
            form = form_intro i (v.stored i) (rw a.shape at (form_shape (v.first + i) (v.tree i) t.form)) (rw a.zeros at (form_zeros (v.first + i) (v.tree i) t.form)) (sym (alike_region a) ∙ form_region (v.first + i) (v.tree i) t.form)
                (λ f l.
                let six : f < 6 = omega (arith, count_six (shape_of (v.stored i))) in
                boundary_make i (v.stored i) f (λ p q.
                sym (alike_orientation a f six) ∙ boundary_zero (v.first + i) (v.tree i) f (form_used (v.first + i) (v.tree i) t.form f (rw a.shape l)) (itself i h f six p) (alike_face a f six ∙ q)))
                (λ f l m.
                let u : unused_ok (v.tree i) f ≡ true = form_unused (v.first + i) (v.tree i) t.form f (rw a.shape l) m in
                unused_make (v.stored i) f (no-use i h f m (unused_neighbour (v.tree i) f u)) (sym (a.code f m) ∙ unused_code (v.tree i) f u));
            order = sym a.number ∙ t.number;
            shape = rw a.shape at t.shape;
          }

      ghost-words : (j : ℕ) → j < v.g → GhostSaid j
      unfolding ghost_after ghost_ascends
      ghost-words j h = let t = ghost_at j h in record { form = t.form; after = t.after; shape = t.shape }

      -- a ghost is a neighbour of a tree
      near-words : (j : ℕ) → j < v.g → NearSaid j
      unfolding beside_tree face_neighbour ghost_is
      near-words j h =
          let k : ℕ = number j in
          let t = ghost_at j h in
          let some : any_below v.g (λ i. eqb (number_of (v.ghost i)) k) ≡ true = any_intro v.g (λ i. eqb (number_of (v.ghost i)) k) j h (eq-eqb k k refl) in
          record {
            below = t.below;
            beside =
                any_same v.n (λ i. any_below (face_count (shape_of (v.tree i))) (λ f. eqb (neighbour_of (v.tree i) f) k)) (λ i. any_below (face_count (shape_of (core (v.first + i)))) (λ f. eqb (neighbour_of (core (v.first + i)) f) k)) (λ i l. rw (core-here i l))
                ∙ sym (view_beside v.first v.n v.g v.tree v.ghost v.dimension v.K sound k t.outside) ∙ some;
            outside = t.outside;
          }

      neighbour-words : (i : ℕ) → i < v.n → (f : ℕ) → f < face_count (shape_of (v.tree i)) → has (neighbour_of (v.tree i) f) ≡ true
      neighbour-words i h f l = rw (core-here i h) at (tree_link_held v.first v.n v.g v.tree v.ghost (v.first + i) f ((tree-at i h).links f l))

      -- the links of a record held
      link-words : (k : ℕ) → has k ≡ true → (f : ℕ) → f < face_count (shape_of (core k)) → has (neighbour_of (core k) f) ≡ true → ruled k f
      link-words k e f l p = (
        view_link v.first v.n v.g v.tree v.ghost v.dimension v.K sound k e f l p,
        form_used k (core k) (view_form v.first v.n v.g v.tree v.ghost v.dimension v.K sound k e) f l,
      )

      far-words : (j : ℕ) → j < v.g → (f : ℕ) → f < face_count (shape_of (v.ghost j)) → has (neighbour_of (v.ghost j) f) ≡ false → distant j f
      far-words j h f l p =
          let c = core-there j h in
          let m : ℕ = neighbour_of (v.ghost j) f in
          let t = view_far v.first v.n v.g v.tree v.ghost v.dimension v.K sound (number j) (ghost_at_held v.first v.n v.g v.tree v.ghost j h) f (rw c l) (rw c p) in
          let out : local m ≡ false = either (local m) (λ q. clash (local_held v.first v.n v.g v.tree v.ghost m q) p) (λ q. q) in
          (rw c at t.0, out, rw c at t.1)

      to-words : records_hold v ≡ true
      to-words =
          say (record {
            tree = tree-words;
            ghost = ghost-words;
            near = near-words;
            neighbour = neighbour-words;
            tree-links = λ i h. link-words (v.first + i) (local_held v.first v.n v.g v.tree v.ghost (v.first + i) (local_at v.first v.n v.g v.tree v.ghost i h));
            ghost-links = λ j h. link-words (number j) (ghost_at_held v.first v.n v.g v.tree v.ghost j h);
            far = far-words;
          })

-- ---- a part's bytes

module _ (part : List ℕ) (long : length part ≡ part_size (part_count part) (part_ghost_count part)) where
  stored-long : (i : ℕ) → i < part_count part → length (stored_tree part i) ≡ 40
  unfolding stored_tree
  stored-long i h = piece_length part (tree_place i) core_size (omega (arith, long))

  tree-alike : (i : ℕ) → i < part_count part → Alike (global_tree part i) (stored_tree part i)
  unfolding global_tree
  tree-alike i h = renamed_alike (global_number part) (faces_in (part_dimension part)) (stored_tree part i) (stored-long i h)

  looked-up : (i : ℕ) → i < part_count part → (f : ℕ) → f < 6 → global_number part (neighbour_of (stored_tree part i) f) < 4294967296
      → neighbour_of (global_tree part i) f ≡ global_number part (neighbour_of (stored_tree part i) f)
  unfolding global_tree
  looked-up i h f l w = renamed_neighbour (global_number part) (faces_in (part_dimension part)) (stored_tree part i) (stored-long i h) f l w

  index_unused : global_number part unused ≡ unused
  unfolding global_number
  index_unused = refl

  unused-kept : (i : ℕ) → i < part_count part → (f : ℕ) → f < 6 → neighbour_of (stored_tree part i) f ≡ unused → neighbour_of (global_tree part i) f ≡ unused
  unused-kept i h f l e =
      let q : global_number part (neighbour_of (stored_tree part i) f) ≡ unused = ap (global_number part) e ∙ index_unused in
      looked-up i h f l (omega arith) ∙ q

  records-linked : records_hold (view_of part) ≡ true → view_sound (part_first part) (part_count part) (part_ghost_count part) (global_tree part) (stored_ghost part) (part_dimension part) (part_k part) ≡ true
  records-linked e = to-view (view_of part) tree-alike unused-kept (said (view_of part) e)

  -- where its trees are below K, and K within its limit
  module _ (within : part_first part + part_count part ≤ part_k part) (most : part_k part ≤ max_trees)
      (sound : view_sound (part_first part) (part_count part) (part_ghost_count part) (global_tree part) (stored_ghost part) (part_dimension part) (part_k part) ≡ true) where
    tree_number : (i : ℕ) → i < part_count part → number_of (stored_tree part i) ≡ part_first part + i
    tree_number i h = sym (tree-alike i h).number ∙ (view_trees (part_first part) (part_count part) (part_ghost_count part) (global_tree part) (stored_ghost part) (part_dimension part) (part_k part) sound i h).number

    ghost_below : (j : ℕ) → j < part_ghost_count part → number_of (stored_ghost part j) < part_k part
    ghost_below j h = (view_ghosts (part_first part) (part_count part) (part_ghost_count part) (global_tree part) (stored_ghost part) (part_dimension part) (part_k part) sound j h).below

    -- the number behind every other index is below unused
    index-other : (j : ℕ) → (j ≡ unused → ⊥) → global_number part j < unused
    unfolding global_number
    index-other j u =
        rw (ne_eqb j unused u)
        (either (ltb j (part_count part)) (λ p. rw p (let h : j < part_count part = omega tests in omega (arith, tree_number j h)))
        (λ p. rw p (either (ltb j (part_count part + part_ghost_count part))
        (λ q. rw q (let h : j - part_count part < part_ghost_count part = omega tests in omega (arith, ghost_below (j - part_count part) h)))
        (λ q. rw q (omega arith)))))

    index_word : (j : ℕ) → global_number part j < 4294967296
    index_word j =
        either (eqb j unused) (λ p. let e : global_number part j ≡ unused = ap (global_number part) (eqb-true _ _ p) ∙ index_unused in omega arith)
        (λ p. omega (arith, index-other j (eqb-false _ _ p)))

    index-itself : (i : ℕ) → i < part_count part → global_number part i ≡ part_first part + i
    unfolding global_number
    index-itself i h = rw (ne_eqb i unused (λ e. omega arith), lt-ltb i (part_count part) h) (tree_number i h)

    linked-records : records_hold (view_of part) ≡ true
    linked-records =
        to-words (view_of part) tree-alike
        (λ i h f l e. looked-up i h f l (index_word _) ∙ ap (global_number part) e ∙ index-itself i h)
        (λ i h f l e.
        let j : ℕ = neighbour_of (stored_tree part i) f in
        let q : global_number part j ≡ unused = sym (looked-up i h f l (index_word j)) ∙ e in
        either (eqb j unused) (λ p. eqb-true _ _ p) (λ p. absurd (omega (arith, index-other j (eqb-false _ _ p)))))
        sound

-- ---- soundness

module _ (part table : List ℕ) (rank : ℕ) where
  abbrev length_ok : Bool
  length_ok = eqb (length part) (part_size (part_count part) (part_ghost_count part))

  abbrev linked : Bool
  linked = view_sound (part_first part) (part_count part) (part_ghost_count part) (global_tree part) (stored_ghost part) (part_dimension part) (part_k part)

  -- a sound part is what the code asks
  pub sound_linked : part_sound part table rank ≡ true → part_linked part table rank ≡ true
  unfolding part_sound part_linked
  sound_linked e =
      let h : (part_header_sound part table rank && length_ok) ≡ true = and_fst (part_header_sound part table rank && length_ok) (records_hold (view_of part)) e in
      let r : records_hold (view_of part) ≡ true = and_snd (part_header_sound part table rank && length_ok) (records_hold (view_of part)) e in
      and_intro (part_header_sound part table rank && length_ok) linked h (records-linked part (eqb-true _ _ (and_snd (part_header_sound part table rank) length_ok h)) r)

  -- the header's K, first tree and n
  header-counts : part_header_sound part table rank ≡ true → (part_k part ≡ trees table) × (part_first part ≡ first_tree table rank) × (part_count part ≡ tree_count table rank)
  unfolding part_header_sound
  header-counts h =
      let a : Bool = dimension_ok (part_dimension part) in
      let b : Bool = eqb (part_k part) (trees table) in
      let c : Bool = eqb (u32_at part 8) (ranks table) in
      let d : Bool = eqb (u32_at part 12) rank in
      let e : Bool = eqb (part_first part) (first_tree table rank) in
      let f : Bool = eqb (part_count part) (tree_count table rank) in
      let t6 = and_fst (a && b && c && d && e && f) (eqb (u32_at part 28) 0) h in
      let t5 = and_fst (a && b && c && d && e) f t6 in
      let t2 = and_fst (a && b) c (and_fst (a && b && c) d (and_fst (a && b && c && d) e t5)) in
      (eqb-true _ _ (and_snd a b t2), eqb-true _ _ (and_snd (a && b && c && d) e t5), eqb-true _ _ (and_snd (a && b && c && d && e) f t6))

  linked-sound : Bytes table → RankKnown table rank → part_linked part table rank ≡ true → part_sound part table rank ≡ true
  unfolding part_sound part_linked
  linked-sound b known e =
      let h : (part_header_sound part table rank && length_ok) ≡ true = and_fst (part_header_sound part table rank && length_ok) linked e in
      let r : linked ≡ true = and_snd (part_header_sound part table rank && length_ok) linked e in
      let t = header-counts (and_fst (part_header_sound part table rank) length_ok h) in
      let s = count_add table b known.counted known.checked rank known.below in
      let w = end_trees table b known.counted known.checked rank known.below in
      let m = trees_high table b known.counted known.checked in
      and_intro (part_header_sound part table rank && length_ok) (records_hold (view_of part)) h
      (linked-records part (eqb-true _ _ (and_snd (part_header_sound part table rank) length_ok h)) (omega (arith, t.0, t.1, t.2)) (omega (arith, t.0)) r)

  -- for a valid table and a rank of it, soundness in document 01's words is what the code asks
  pub part_sound_is : Bytes table → RankKnown table rank → part_sound part table rank ≡ part_linked part table rank
  part_sound_is b known = iff_eq (part_sound part table rank) (part_linked part table rank) sound_linked (linked-sound b known)
