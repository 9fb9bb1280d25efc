-- What soundness says of each record of a part, and the parts of it that others read.
use Prim.Native.Nat.{ℕ, zero, suc, ◌+◌, ◌-◌, ◌≤◌, ◌<◌}
use native.Mathlib.Nat.{add-sub_cancel_left}
use native.Mathlib.Omega.{arith}
use mathlib.Core.Path.{◌≡◌, refl, sym, ap, ap₂, ◌∙◌}
use mathlib.Core.Bool.{Bool, true, false, not, ◌&&◌, ◌||◌, or-true}
use mathlib.Core.List.{List}
use lib.Dec.{leb, ltb, eqb, eqb-suc-zero}
use borrow.Author.Tests.{ltb-true, leb-true, eqb-true, le-leb, lt-ltb, eq-eqb, ne_eqb, not-true}
use Rattle.encoding.specs.Below.{all_below, any_below, least_below}
use Rattle.encoding.proofs.Below.{either, clash, below_suc, and_fst, and_snd, and_intro, iff_eq, all_at, all_intro, all_same, any_at, any_intro, any_same, least_is, least_lt, least_same}
use Rattle.records.specs.Shape.{dimension_of, face_count}
use Rattle.records.specs.Record.{number_of, shape_of, neighbour_of, face_of, in_form}
use Rattle.mesh.specs.Link.{orientation_ok, link_ok}
use Rattle.mesh.specs.Mesh.{face_neighbour}
use Rattle.mesh.proofs.Soundness.{link_there, link_answered}
use Rattle.part.specs.Means.{is_local, ghost_is, held, held_core, tree_link, ghost_link, local_sound, ghost_after, ghost_beside, ghost_sound, view_sound}

-- a link's rule reads the records at both its ends
pub link_same : (a b : ℕ → List ℕ) (k f : ℕ) → a k ≡ b k → a (neighbour_of (b k) f) ≡ b (neighbour_of (b k) f) → link_ok a k f ≡ link_ok b k f
unfolding link_ok
link_same a b k f e h = rw (e, h)

module _ (first n g : ℕ) (tree ghostly : ℕ → List ℕ) where
  -- a link of record k
  module _ (k f : ℕ) where
    -- a tree's leads to a record held and obeys the rule
    pub tree_link_held : tree_link first n g tree ghostly k f ≡ true → held first n g tree ghostly (neighbour_of (held_core first n g tree ghostly k) f) ≡ true
    unfolding tree_link
    tree_link_held e = and_fst _ (link_ok (held_core first n g tree ghostly) k f) e

    pub tree_link_ok : tree_link first n g tree ghostly k f ≡ true → link_ok (held_core first n g tree ghostly) k f ≡ true
    unfolding tree_link
    tree_link_ok e = and_snd (held first n g tree ghostly (neighbour_of (held_core first n g tree ghostly k) f)) _ e

    pub tree_link_make : held first n g tree ghostly (neighbour_of (held_core first n g tree ghostly k) f) ≡ true → link_ok (held_core first n g tree ghostly) k f ≡ true → tree_link first n g tree ghostly k f ≡ true
    unfolding tree_link
    tree_link_make h e = rw (h, e)

    module _ (K : ℕ) where
      -- a ghost's obeys the rule where it leads to a record held
      pub ghost_link_ok : ghost_link first n g tree ghostly K k f ≡ true → held first n g tree ghostly (neighbour_of (held_core first n g tree ghostly k) f) ≡ true → link_ok (held_core first n g tree ghostly) k f ≡ true
      unfolding ghost_link
      ghost_link_ok e h = rw h at e

      -- and has a number below K and an orientation below the corners elsewhere
      pub ghost_link_far : ghost_link first n g tree ghostly K k f ≡ true → held first n g tree ghostly (neighbour_of (held_core first n g tree ghostly k) f) ≡ false
          → (neighbour_of (held_core first n g tree ghostly k) f < K) × (orientation_ok (held_core first n g tree ghostly k) f ≡ true)
      unfolding ghost_link
      ghost_link_far e h =
          let t : (ltb (neighbour_of (held_core first n g tree ghostly k) f) K && orientation_ok (held_core first n g tree ghostly k) f) ≡ true = rw h at e in
          (ltb-true _ _ (and_fst _ (orientation_ok (held_core first n g tree ghostly k) f) t), and_snd (ltb (neighbour_of (held_core first n g tree ghostly k) f) K) _ t)

      pub ghost_link_make : (held first n g tree ghostly (neighbour_of (held_core first n g tree ghostly k) f) ≡ true → link_ok (held_core first n g tree ghostly) k f ≡ true)
          → neighbour_of (held_core first n g tree ghostly k) f < K → orientation_ok (held_core first n g tree ghostly k) f ≡ true → ghost_link first n g tree ghostly K k f ≡ true
      unfolding ghost_link
      ghost_link_make ok l o =
          either (held first n g tree ghostly (neighbour_of (held_core first n g tree ghostly k) f)) (λ h. rw h (ok h)) (λ h. rw (h, lt-ltb _ _ l, o))

  -- tree i of a sound part
  pub record TreeView (dimension i : ℕ) : Type 0 where
    pub form : in_form (first + i) (tree i) ≡ true
    pub number : number_of (tree i) ≡ first + i
    pub shape : dimension_of (shape_of (tree i)) ≡ dimension
    pub links : (f : ℕ) → f < face_count (shape_of (tree i)) → tree_link first n g tree ghostly (first + i) f ≡ true

  -- ghost j of a sound part
  pub record GhostView (dimension K j : ℕ) : Type 0 where
    pub form : in_form (number_of (ghostly j)) (ghostly j) ≡ true
    pub below : number_of (ghostly j) < K
    pub outside : is_local first n g tree ghostly (number_of (ghostly j)) ≡ false
    pub after : ghost_after first n g tree ghostly j ≡ true
    pub shape : dimension_of (shape_of (ghostly j)) ≡ dimension
    pub beside : ghost_beside first n g tree ghostly j ≡ true
    pub links : (f : ℕ) → f < face_count (shape_of (ghostly j)) → ghost_link first n g tree ghostly K (number_of (ghostly j)) f ≡ true

  module _ (dimension i : ℕ) where
    abbrev faces : Bool
    faces = all_below (face_count (shape_of (tree i))) (tree_link first n g tree ghostly (first + i))

    -- what its soundness says, and back
    pub tree_view : local_sound first n g tree ghostly dimension i ≡ true → TreeView dimension i
    unfolding local_sound
    tree_view e =
        let form : Bool = in_form (first + i) (tree i) in
        let number : Bool = eqb (number_of (tree i)) (first + i) in
        let shape : Bool = eqb (dimension_of (shape_of (tree i))) dimension in
        record {
          form = and_fst form number (and_fst (form && number) shape (and_fst (form && number && shape) faces e));
          number = eqb-true _ _ (and_snd form number (and_fst (form && number) shape (and_fst (form && number && shape) faces e)));
          shape = eqb-true _ _ (and_snd (form && number) shape (and_fst (form && number && shape) faces e));
          links = all_at (face_count (shape_of (tree i))) (tree_link first n g tree ghostly (first + i)) (and_snd (form && number && shape) faces e);
        }

    pub view_tree : TreeView dimension i → local_sound first n g tree ghostly dimension i ≡ true
    unfolding local_sound
    view_tree v =
        rw (v.form, eq-eqb _ _ v.number, eq-eqb _ _ v.shape) (all_intro (face_count (shape_of (tree i))) (tree_link first n g tree ghostly (first + i)) v.links)

  module _ (dimension K j : ℕ) where
    -- what its soundness says, and back
    pub ghost_view : ghost_sound first n g tree ghostly dimension K j ≡ true → GhostView dimension K j
    unfolding ghost_sound
    ghost_view e =
        let form : Bool = in_form (number_of (ghostly j)) (ghostly j) in
        let below : Bool = ltb (number_of (ghostly j)) K in
        let outside : Bool = not (is_local first n g tree ghostly (number_of (ghostly j))) in
        let after : Bool = ghost_after first n g tree ghostly j in
        let shape : Bool = eqb (dimension_of (shape_of (ghostly j))) dimension in
        let beside : Bool = ghost_beside first n g tree ghostly j in
        let links : Bool = all_below (face_count (shape_of (ghostly j))) (ghost_link first n g tree ghostly K (number_of (ghostly j))) in
        let e6 = and_fst (form && below && outside && after && shape && beside) links e in
        let e5 = and_fst (form && below && outside && after && shape) beside e6 in
        let e4 = and_fst (form && below && outside && after) shape e5 in
        let e3 = and_fst (form && below && outside) after e4 in
        let e2 = and_fst (form && below) outside e3 in
        record {
          form = and_fst form below e2;
          below = ltb-true _ _ (and_snd form below e2);
          outside = not-true _ (and_snd (form && below) outside e3);
          after = and_snd (form && below && outside) after e4;
          shape = eqb-true _ _ (and_snd (form && below && outside && after) shape e5);
          beside = and_snd (form && below && outside && after && shape) beside e6;
          links = all_at (face_count (shape_of (ghostly j))) (ghost_link first n g tree ghostly K (number_of (ghostly j))) (and_snd (form && below && outside && after && shape && beside) links e);
        }

    pub view_ghost : GhostView dimension K j → ghost_sound first n g tree ghostly dimension K j ≡ true
    unfolding ghost_sound
    view_ghost v =
        rw (v.form, lt-ltb _ _ v.below, v.outside, v.after, eq-eqb _ _ v.shape, v.beside)
        (all_intro (face_count (shape_of (ghostly j))) (ghost_link first n g tree ghostly K (number_of (ghostly j))) v.links)

  module _ (dimension K : ℕ) where
    -- soundness is that of each record
    pub view_make : ((i : ℕ) → i < n → TreeView dimension i) → ((j : ℕ) → j < g → GhostView dimension K j) → view_sound first n g tree ghostly dimension K ≡ true
    unfolding view_sound
    view_make t h =
        and_intro (all_below n (local_sound first n g tree ghostly dimension)) _
        (all_intro n (local_sound first n g tree ghostly dimension) (λ i l. view_tree dimension i (t i l)))
        (all_intro g (ghost_sound first n g tree ghostly dimension K) (λ j l. view_ghost dimension K j (h j l)))

    module _ (sound : view_sound first n g tree ghostly dimension K ≡ true) where
      pub view_trees : (i : ℕ) → i < n → TreeView dimension i
      unfolding view_sound
      view_trees i l =
          tree_view dimension i (all_at n (local_sound first n g tree ghostly dimension) (and_fst (all_below n (local_sound first n g tree ghostly dimension)) _ sound) i l)

      pub view_ghosts : (j : ℕ) → j < g → GhostView dimension K j
      unfolding view_sound
      view_ghosts j l =
          ghost_view dimension K j (all_at g (ghost_sound first n g tree ghostly dimension K) (and_snd (all_below n (local_sound first n g tree ghostly dimension)) (all_below g (ghost_sound first n g tree ghostly dimension K)) sound) j l)

-- ---- the records held

module _ (first n g : ℕ) (tree ghostly : ℕ → List ℕ) where
  abbrev core : ℕ → List ℕ
  core = held_core first n g tree ghostly

  abbrev has : ℕ → Bool
  has = held first n g tree ghostly

  -- the trees are those from first on
  pub local_at : (i : ℕ) → i < n → is_local first n g tree ghostly (first + i) ≡ true
  unfolding is_local
  local_at i h = and_intro (leb first (first + i)) _ (le-leb first (first + i) (omega arith)) (lt-ltb (first + i) (first + n) (omega arith))

  pub local_range : (k : ℕ) → is_local first n g tree ghostly k ≡ true → (first ≤ k) × (k < first + n)
  unfolding is_local
  local_range k e = (leb-true _ _ (and_fst (leb first k) _ e), ltb-true _ _ (and_snd (leb first k) _ e))

  -- trees and ghosts are held
  pub local_held : (k : ℕ) → is_local first n g tree ghostly k ≡ true → held first n g tree ghostly k ≡ true
  unfolding held
  local_held k e = rw e

  held-outside : (k : ℕ) → is_local first n g tree ghostly k ≡ false → held first n g tree ghostly k ≡ any_below g (ghost_is first n g tree ghostly k)
  unfolding held
  held-outside k e = rw e

  pub ghost_at_held : (j : ℕ) → j < g → held first n g tree ghostly (number_of (ghostly j)) ≡ true
  unfolding held ghost_is
  ghost_at_held j h =
      rw (any_intro g (λ i. eqb (number_of (ghostly i)) (number_of (ghostly j))) j h (eq-eqb (number_of (ghostly j)) (number_of (ghostly j)) refl), or-true)

  -- the record of tree i
  pub core_tree : (i : ℕ) → i < n → held_core first n g tree ghostly (first + i) ≡ tree i
  unfolding held_core
  core_tree i h = rw (local_at i h, add-sub_cancel_left first i)

  -- a record held is a tree or a ghost
  pub held_cases : {C : Type 0} (k : ℕ) → held first n g tree ghostly k ≡ true → ((i : ℕ) → i < n → k ≡ first + i → C)
      → ((j : ℕ) → j < g → number_of (ghostly j) ≡ k → is_local first n g tree ghostly k ≡ false → C) → C
  unfolding held ghost_is
  held_cases k e t h =
      either (is_local first n g tree ghostly k)
      (λ p. let r = local_range k p in t (k - first) (omega arith) (omega arith))
      (λ p.
      let a = any_at g (λ j. eqb (number_of (ghostly j)) k) (rw p at e) in
      h a.0 a.1 (eqb-true _ _ a.2) p)

  module _ (dimension K : ℕ) (sound : view_sound first n g tree ghostly dimension K ≡ true) where
    trees : (i : ℕ) → i < n → TreeView first n g tree ghostly dimension i
    trees = view_trees first n g tree ghostly dimension K sound

    ghosts : (j : ℕ) → j < g → GhostView first n g tree ghostly dimension K j
    ghosts = view_ghosts first n g tree ghostly dimension K sound

    after_next : (j : ℕ) → suc j < g → number_of (ghostly j) < number_of (ghostly (suc j))
    unfolding ghost_after
    after_next j h =
        let e : suc j - 1 ≡ j = omega arith in
        ltb-true _ _ (rw (eqb-suc-zero j, e) at (ghosts (suc j) h).after)

    -- ghosts ascend
    pub view_ascends : (i j : ℕ) → i < j → j < g → number_of (ghostly i) < number_of (ghostly j)
    view_ascends i zero h l = absurd (omega arith)
    view_ascends i (suc j) h l =
        below_suc i j h (λ p. omega (arith, view_ascends i j p (omega arith), after_next j l)) (λ q. rw q (after_next j l))

    -- the record of ghost j
    pub core_ghost : (j : ℕ) → j < g → held_core first n g tree ghostly (number_of (ghostly j)) ≡ ghostly j
    unfolding held_core ghost_is
    core_ghost j h =
        let k : ℕ = number_of (ghostly j) in
        rw ((ghosts j h).outside, least_is g (λ i. eqb (number_of (ghostly i)) k) j h (eq-eqb k k refl) (λ i p. ne_eqb (number_of (ghostly i)) k (λ e. omega (arith, view_ascends i j p h))))

    module _ (k : ℕ) (has-k : held first n g tree ghostly k ≡ true) where
      -- each record held has its number
      pub view_number : number_of (held_core first n g tree ghostly k) ≡ k
      view_number =
          held_cases k has-k
          (λ i h e. rw (e, core_tree i h) (trees i h).number)
          (λ j h e o. ap number_of (ap core (sym e) ∙ core_ghost j h) ∙ e)

      -- is in form
      pub view_form : in_form k (held_core first n g tree ghostly k) ≡ true
      view_form =
          held_cases k has-k
          (λ i h e. rw (e, core_tree i h) (trees i h).form)
          (λ j h e o. rw (← e, core_ghost j h) (ghosts j h).form)

      -- has a shape of the dimension
      pub view_shape : dimension_of (shape_of (held_core first n g tree ghostly k)) ≡ dimension
      view_shape =
          held_cases k has-k
          (λ i h e. rw (e, core_tree i h) (trees i h).shape)
          (λ j h e o. rw (← e, core_ghost j h) (ghosts j h).shape)

      module _ (f : ℕ) (face : f < face_count (shape_of (held_core first n g tree ghostly k))) where
        -- a link as the definition has it: a tree's or a ghost's
        link-cases : {C : Type 0} → (is_local first n g tree ghostly k ≡ true → tree_link first n g tree ghostly k f ≡ true → C)
            → (is_local first n g tree ghostly k ≡ false → ghost_link first n g tree ghostly K k f ≡ true → C) → C
        link-cases t h =
            held_cases k has-k
            (λ i l e. t (rw e (local_at i l)) (rw e ((trees i l).links f (rw (e, core_tree i l) at face))))
            (λ j l e o. h o (rw e at ((ghosts j l).links f (rw (← e, core_ghost j l) at face))))

        -- a link to a record held obeys the rule
        pub view_link : held first n g tree ghostly (neighbour_of (held_core first n g tree ghostly k) f) ≡ true → link_ok (held_core first n g tree ghostly) k f ≡ true
        view_link p =
            link-cases
            (λ o e. tree_link_ok first n g tree ghostly k f e)
            (λ o e. ghost_link_ok first n g tree ghostly k f K e p)

        -- the neighbours of a tree are held
        pub view_neighbour : is_local first n g tree ghostly k ≡ true → held first n g tree ghostly (neighbour_of (held_core first n g tree ghostly k) f) ≡ true
        view_neighbour p =
            link-cases
            (λ o e. tree_link_held first n g tree ghostly k f e)
            (λ o e. clash p o)

        -- a link to a tree not held has a number below K and an orientation below the corners of the face
        pub view_far : held first n g tree ghostly (neighbour_of (held_core first n g tree ghostly k) f) ≡ false
            → (neighbour_of (held_core first n g tree ghostly k) f < K) × (orientation_ok (held_core first n g tree ghostly k) f ≡ true)
        view_far p =
            link-cases
            (λ o e. clash (tree_link_held first n g tree ghostly k f e) p)
            (λ o e. ghost_link_far first n g tree ghostly k f K e p)

    -- a tree with k as a face neighbour
    abbrev beside : ℕ → ℕ → Bool
    beside k i = face_neighbour (held_core first n g tree ghostly) (first + i) k

    -- a ghost is a face neighbour of a tree
    ghost-to : (k : ℕ) → held first n g tree ghostly k ≡ true → is_local first n g tree ghostly k ≡ false → any_below n (beside k) ≡ true
    unfolding ghost_beside face_neighbour
    ghost-to k e o =
        held_cases k e
        (λ i h p. clash (rw p (local_at i h)) o)
        (λ j h p q.
        let c : core k ≡ ghostly j = ap core (sym p) ∙ core_ghost j h in
        let a = any_at (face_count (shape_of (ghostly j))) (λ f. is_local first n g tree ghostly (neighbour_of (ghostly j) f)) (ghosts j h).beside in
        let f : ℕ = a.0 in
        let m : ℕ = neighbour_of (core k) f in
        let same : m ≡ neighbour_of (ghostly j) f = ap (λ (r : List ℕ). neighbour_of r f) c in
        let l : is_local first n g tree ghostly m ≡ true = ap (is_local first n g tree ghostly) same ∙ a.2 in
        let face : f < face_count (shape_of (core k)) = rw c a.1 in
        let link : link_ok core k f ≡ true = view_link k e f face (local_held m l) in
        let r = local_range m l in
        let s : first + (m - first) ≡ m = omega arith in
        any_intro n (beside k) (m - first) (omega arith)
        (rw s (any_intro (face_count (shape_of (core m))) (λ b. eqb (neighbour_of (core m) b) k) (face_of (core k) f) (link_there core k f link) (eq-eqb (neighbour_of (core m) (face_of (core k) f)) k (link_answered core k f link).0))))

    -- a face neighbour of a tree is held
    ghost-back : (k : ℕ) → any_below n (beside k) ≡ true → held first n g tree ghostly k ≡ true
    unfolding face_neighbour
    ghost-back k e =
        let a = any_at n (beside k) e in
        let m : ℕ = first + a.0 in
        let l : is_local first n g tree ghostly m ≡ true = local_at a.0 a.1 in
        let b = any_at (face_count (shape_of (core m))) (λ f. eqb (neighbour_of (core m) f) k) a.2 in
        let q : neighbour_of (core m) b.0 ≡ k = eqb-true _ _ b.2 in
        ap has (sym q) ∙ view_neighbour m (local_held m l) b.0 b.1 l

    -- outside the trees, the ghosts are exactly the face neighbours of trees
    pub view_beside : (k : ℕ) → is_local first n g tree ghostly k ≡ false
        → any_below g (ghost_is first n g tree ghostly k) ≡ any_below n (λ i. face_neighbour (held_core first n g tree ghostly) (first + i) k)
    view_beside k o =
        let is : held first n g tree ghostly k ≡ any_below g (ghost_is first n g tree ghostly k) = held-outside k o in
        sym is ∙ iff_eq (held first n g tree ghostly k) (any_below n (beside k)) (λ e. ghost-to k e o) (ghost-back k)

    -- every record held is below K, where the trees are
    pub view_below : first + n ≤ K → (k : ℕ) → held first n g tree ghostly k ≡ true → k < K
    view_below w k e = held_cases k e (λ i h p. omega arith) (λ j h p o. omega (arith, (ghosts j h).below))

-- ---- soundness reads the trees below n and the ghosts below g alone

module _ (first n g : ℕ) (ta tb ga gb : ℕ → List ℕ) (same_trees_lem : (i : ℕ) → i < n → ta i ≡ tb i) (same_ghosts : (j : ℕ) → j < g → ga j ≡ gb j) where
  local_same : (k : ℕ) → is_local first n g ta ga k ≡ is_local first n g tb gb k
  unfolding is_local
  local_same k = refl

  is_same : (k j : ℕ) → j < g → ghost_is first n g ta ga k j ≡ ghost_is first n g tb gb k j
  unfolding ghost_is
  is_same k j h = rw (same_ghosts j h)

  pub held_same : (k : ℕ) → held first n g ta ga k ≡ held first n g tb gb k
  unfolding held
  held_same k = ap₂ (λ (a b : Bool). a || b) (local_same k) (any_same g (ghost_is first n g ta ga k) (ghost_is first n g tb gb k) (is_same k))

  pub core_same : (k : ℕ) → held first n g ta ga k ≡ true → held_core first n g ta ga k ≡ held_core first n g tb gb k
  unfolding held_core held
  core_same k e =
      either (is_local first n g ta ga k)
      (λ p. let r = local_range first n g ta ga k p in rw (p, sym (local_same k) ∙ p) (same_trees_lem (k - first) (omega arith)))
      (λ p.
      let b : any_below g (ghost_is first n g ta ga k) ≡ true = rw p at e in
      rw (p, sym (local_same k) ∙ p, ← least_same g (ghost_is first n g ta ga k) (ghost_is first n g tb gb k) (is_same k)) (same_ghosts (least_below g (ghost_is first n g ta ga k)) (least_lt g (ghost_is first n g ta ga k) b)))

  abbrev ca : ℕ → List ℕ
  ca = held_core first n g ta ga

  abbrev cb : ℕ → List ℕ
  cb = held_core first n g tb gb

  module _ (k : ℕ) (has : held first n g ta ga k ≡ true) (f : ℕ) where
    neighbour-same : neighbour_of (ca k) f ≡ neighbour_of (cb k) f
    neighbour-same = ap (λ (r : List ℕ). neighbour_of r f) (core_same k has)

    both-held : held first n g ta ga (neighbour_of (ca k) f) ≡ held first n g tb gb (neighbour_of (cb k) f)
    both-held = held_same (neighbour_of (ca k) f) ∙ ap (held first n g tb gb) neighbour-same

    links_same : held first n g ta ga (neighbour_of (ca k) f) ≡ true → link_ok ca k f ≡ link_ok cb k f
    links_same p = link_same ca cb k f (core_same k has) (core_same (neighbour_of (cb k) f) (ap (held first n g ta ga) (sym neighbour-same) ∙ p))

    tree-link-same : tree_link first n g ta ga k f ≡ tree_link first n g tb gb k f
    unfolding tree_link
    tree-link-same =
        either (held first n g ta ga (neighbour_of (ca k) f))
        (λ p. rw (p, sym both-held ∙ p, links_same p))
        (λ p. rw (p, sym both-held ∙ p))

    ghost-link-same : (K : ℕ) → ghost_link first n g ta ga K k f ≡ ghost_link first n g tb gb K k f
    unfolding ghost_link
    ghost-link-same K =
        either (held first n g ta ga (neighbour_of (ca k) f))
        (λ p. rw (p, sym both-held ∙ p, links_same p))
        (λ p. rw (p, sym both-held ∙ p, core_same k has))

  tree-same : (dimension i : ℕ) → i < n → local_sound first n g ta ga dimension i ≡ local_sound first n g tb gb dimension i
  unfolding local_sound
  tree-same dimension i h =
      rw (same_trees_lem i h, all_same (face_count (shape_of (tb i))) (tree_link first n g ta ga (first + i)) (tree_link first n g tb gb (first + i)) (λ f p. tree-link-same (first + i) (local_held first n g ta ga (first + i) (local_at first n g ta ga i h)) f))

  after_same : (j : ℕ) → j < g → ghost_after first n g ta ga j ≡ ghost_after first n g tb gb j
  unfolding ghost_after
  after_same j h = rw (same_ghosts j h, same_ghosts (j - 1) (omega arith))

  beside_same : (j : ℕ) → j < g → ghost_beside first n g ta ga j ≡ ghost_beside first n g tb gb j
  unfolding ghost_beside is_local
  beside_same j h = rw (same_ghosts j h)

  ghost-same : (dimension K j : ℕ) → j < g → ghost_sound first n g ta ga dimension K j ≡ ghost_sound first n g tb gb dimension K j
  unfolding ghost_sound
  ghost-same dimension K j h =
      let c : ga j ≡ gb j = same_ghosts j h in
      let k : ℕ = number_of (gb j) in
      let t : held first n g ta ga k ≡ true = ap (λ (r : List ℕ). held first n g ta ga (number_of r)) (sym c) ∙ ghost_at_held first n g ta ga j h in
      rw (after_same j h, beside_same j h, c, local_same k, all_same (face_count (shape_of (gb j))) (ghost_link first n g ta ga K k) (ghost_link first n g tb gb K k) (λ f p. ghost-link-same k t f K))

  -- so two views that agree there are both sound or neither
  pub view_same : (dimension K : ℕ) → view_sound first n g ta ga dimension K ≡ view_sound first n g tb gb dimension K
  unfolding view_sound
  view_same dimension K =
      ap₂ (λ (a b : Bool). a && b)
      (all_same n (local_sound first n g ta ga dimension) (local_sound first n g tb gb dimension) (tree-same dimension))
      (all_same g (ghost_sound first n g ta ga dimension K) (ghost_sound first n g tb gb dimension K) (ghost-same dimension K))
