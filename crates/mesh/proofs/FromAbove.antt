-- A link looked at from one end: where each link down obeys the rules and as many links lead up as down, each link up is the answer to one down, and obeys them too.
use Prim.Native.Nat.{ℕ, ◌≤◌, ◌<◌}
use mathlib.Core.Path.{◌≡◌, refl, sym, ◌∙◌}
use mathlib.Core.Bool.{Bool, true, false, ◌&&◌}
use mathlib.Core.List.{List}
use lib.Dec.{ltb, eqb}
use borrow.Author.Tests.{ltb-true, eqb-true, eq-eqb, ne_eqb, lt-ltb, le-ltb}
use Rattle.encoding.specs.Below.{all_below, sum_below}
use Rattle.encoding.proofs.Below.{tests, either, and_fst, and_snd, and_intro, iff_eq, all_at, all_intro}
use Rattle.records.specs.Shape.{shape_ok, dimension_of, face_count, corners}
use Rattle.records.specs.Record.{number_of, shape_of, neighbour_of, face_of, orientation_of, region_ok, zeros_ok, unused_ok, to_itself, boundary_ok, in_form}
use Rattle.records.specs.Means.{unused_from}
use Rattle.records.proofs.Shapes.{count_six}
use Rattle.records.proofs.Forms.{face_six, form_shape, form_zeros, form_region, form_used, form_unused, form_intro}
use Rattle.mesh.specs.Link.{orientation_ok, same_corners, answered, link_ok}
use Rattle.mesh.specs.Mesh.{face_sound, tree_sound}
use Rattle.mesh.specs.Means.{link_between, link_by_dimension, leads_up, leads_down, links_up, links_down, alone_by_dimension, face_from_above, tree_from_above, trees_from_above}
use Rattle.mesh.proofs.OneEnd.{Obeys, Turns, as_many, ups_obey}
use Rattle.mesh.proofs.Soundness.{link_orientation, link_corners, link_there, link_answered}
use Rattle.mesh.proofs.ByDimension.{Fits, link_same}

-- the answer to a link that obeys the rule obeys it
link_turned : (core : ℕ → List ℕ) (n g k f : ℕ) → link_ok core n g ≡ true → neighbour_of (core n) g ≡ k → face_of (core n) g ≡ f → link_ok core k f ≡ true
unfolding link_ok orientation_ok same_corners answered
link_turned core n g k f ok there face =
    let back = link_answered core n g ok in
    let to : neighbour_of (core k) f ≡ n = rw (there, face) at back.0 in
    let at_face : face_of (core k) f ≡ g = rw (there, face) at back.1 in
    let turned : orientation_of (core k) f ≡ orientation_of (core n) g = rw (there, face) at back.2 in
    let alike : corners (shape_of (core n)) g ≡ corners (shape_of (core k)) f = rw (there, face) at (link_corners core n g ok) in
    let low : orientation_of (core k) f < corners (shape_of (core k)) f = rw (turned, ← alike) (link_orientation core n g ok) in
    rw (to, at_face, lt-ltb _ _ low, eq-eqb _ _ (sym alike), eq-eqb _ _ there, eq-eqb _ _ face, eq-eqb _ _ (sym turned))

-- a link to another tree is no boundary
boundary_other : (own : ℕ) (r : List ℕ) (f : ℕ) → (neighbour_of r f ≡ own → ⊥) → boundary_ok own r f ≡ true
unfolding boundary_ok to_itself
boundary_other own r f h = rw (ne_eqb (neighbour_of r f) own h)

module _ (core : ℕ → List ℕ) (d K : ℕ) where
  abbrev faces : ℕ → ℕ
  faces k = face_count (shape_of (core k))

  -- where each link leads
  abbrev to : ℕ → ℕ → ℕ
  to k f = neighbour_of (core k) f

  abbrev at_face : ℕ → ℕ → ℕ
  at_face k f = face_of (core k) f

  -- the answer to a sound link leads back, and is sound
  answer : (k f : ℕ) → k < K → face_sound core K k f ≡ true
      → (to k f < K) × (at_face k f < faces (to k f)) × (to (to k f) (at_face k f) ≡ k) × (at_face (to k f) (at_face k f) ≡ f) × (face_sound core K (to k f) (at_face k f) ≡ true)
  unfolding face_sound
  answer k f tree e =
      let less : to k f < K = ltb-true _ _ (and_fst (ltb (to k f) K) _ e) in
      let ok : link_ok core k f ≡ true = and_snd (ltb (to k f) K) _ e in
      let back = link_answered core k f ok in
      (less, link_there core k f ok, back.0, back.1, and_intro (ltb (to (to k f) (at_face k f)) K) _ (rw back.0 (lt-ltb k K tree)) (link_turned core k f (to k f) (at_face k f) ok refl refl))

  turn_up : (k f n g : ℕ) → neighbour_of (core k) f ≡ n → neighbour_of (core n) g ≡ k → leads_up core k f ≡ true → leads_down core n g ≡ true
  unfolding leads_up leads_down
  turn_up k f n g there back e = rw back (rw there at e)

  turn-down : (k f n g : ℕ) → neighbour_of (core k) f ≡ n → neighbour_of (core n) g ≡ k → leads_down core k f ≡ true → leads_up core n g ≡ true
  unfolding leads_up leads_down
  turn-down k f n g there back e = rw back (rw there at e)

  turns_up : Turns K faces to at_face (face_sound core K) (leads_up core) (leads_down core)
  turns_up k f tree face e ok = let s = answer k f tree ok in (s.0, s.1, s.2, s.3, s.4, turn_up k f (to k f) (at_face k f) refl s.2 e)

  turns_down : Turns K faces to at_face (face_sound core K) (leads_down core) (leads_up core)
  turns_down k f tree face e ok = let s = answer k f tree ok in (s.0, s.1, s.2, s.3, s.4, turn-down k f (to k f) (at_face k f) refl s.2 e)

  six : (k : ℕ) → faces k ≤ 6
  six k = count_six (shape_of (core k))

  low : (k f : ℕ) → at_face k f < 6
  low k f = face_six (core k) f

  -- ---- where the definition holds

  module _ (sound : (k : ℕ) → k < K → tree_sound core d K k ≡ true) where
    module _ (k : ℕ) (tree : k < K) where
      abbrev formed : Bool
      formed = in_form k (core k)

      abbrev numbered : Bool
      numbered = eqb (number_of (core k)) k

      abbrev shaped : Bool
      shaped = eqb (dimension_of (shape_of (core k))) d

      parts : (in_form k (core k) ≡ true) × (eqb (number_of (core k)) k ≡ true) × (eqb (dimension_of (shape_of (core k))) d ≡ true) × (all_below (faces k) (face_sound core K k) ≡ true)
      unfolding tree_sound
      parts =
          let all : Bool = all_below (faces k) (face_sound core K k) in
          let first = and_fst (formed && numbered && shaped) all (sound k tree) in
          let two = and_fst (formed && numbered) shaped first in
          (and_fst formed numbered two, and_snd formed numbered two, and_snd (formed && numbered) shaped first, and_snd (formed && numbered && shaped) all (sound k tree))

      fits : Fits d (core k)
      fits = (form_shape k (core k) parts.0, eqb-true _ _ parts.2)

    sound-face : (k f : ℕ) → k < K → f < faces k → (neighbour_of (core k) f < K) × (link_ok core k f ≡ true)
    unfolding face_sound
    sound-face k f tree face =
        let e = all_at (faces k) (face_sound core K k) (parts k tree).3 f face in
        (ltb-true _ _ (and_fst (ltb (neighbour_of (core k) f) K) _ e), and_snd (ltb (neighbour_of (core k) f) K) _ e)

    face-passes : (k f : ℕ) → k < K → f < faces k → face_from_above core d K k f ≡ true
    unfolding face_from_above link_ok link_between
    face-passes k f tree face =
        let n : ℕ = neighbour_of (core k) f in
        let s = sound-face k f tree face in
        let link : link_by_dimension d k (core k) f (core n) ≡ true = link_same d (core k) (core n) (fits k tree) (fits n s.0) k f face ∙ s.1 in
        either (leads_up core k f) (λ e. rw e (lt-ltb n K s.0)) (λ e. rw e (and_intro (boundary_ok k (core k) f) _ (form_used k (core k) (parts k tree).0 f face) link))

    unused-passes : (k f : ℕ) → k < K → f < 6 → unused_from (faces k) (core k) f ≡ true
    unfolding unused_from
    unused-passes k f tree six = either (ltb f (faces k)) (λ e. rw e) (λ e. rw e (form_unused k (core k) (parts k tree).0 f (omega tests) six))

    tree_passes : (k : ℕ) → k < K → tree_from_above core d K k ≡ true
    unfolding tree_from_above alone_by_dimension
    tree_passes k tree =
        let p = parts k tree in
        let r = core k in
        rw (form_shape k r p.0, form_zeros k r p.0, form_region k r p.0, p.1, p.2, all_intro 6 (unused_from (faces k) (core k)) (λ f six. unused-passes k f tree six))
        (all_intro (faces k) (face_from_above core d K k) (λ f face. face-passes k f tree face))

    obeys : (a : ℕ → ℕ → Bool) → Obeys K faces to at_face (face_sound core K) a
    unfolding tree_sound
    obeys a k f tree face e = all_at (faces k) (face_sound core K k) (parts k tree).3 f face

    same-sums : sum_below K (links_up core) ≡ sum_below K (links_down core)
    unfolding links_up links_down
    same-sums = as_many K faces to at_face (face_sound core K) six low (leads_up core) (leads_down core) turns_down turns_up (obeys (leads_up core)) (obeys (leads_down core))

  -- ---- where the check passes

  module _ (passed : (k : ℕ) → k < K → tree_from_above core d K k ≡ true) (same : sum_below K (links_up core) ≡ sum_below K (links_down core)) where
    module _ (k : ℕ) (tree : k < K) where
      passed-parts : (alone_by_dimension d k (core k) ≡ true) × (all_below 6 (unused_from (faces k) (core k)) ≡ true) × (all_below (faces k) (face_from_above core d K k) ≡ true)
      unfolding tree_from_above
      passed-parts =
          let first = and_fst (alone_by_dimension d k (core k) && all_below 6 (unused_from (faces k) (core k))) _ (passed k tree) in
          (and_fst (alone_by_dimension d k (core k)) _ first, and_snd (alone_by_dimension d k (core k)) _ first, and_snd (alone_by_dimension d k (core k) && all_below 6 (unused_from (faces k) (core k))) _ (passed k tree))

      passed-alone : (shape_ok (shape_of (core k)) ≡ true) × (zeros_ok (core k) ≡ true) × (region_ok (core k) ≡ true) × (eqb (number_of (core k)) k ≡ true) × (eqb (dimension_of (shape_of (core k))) d ≡ true)
      unfolding alone_by_dimension
      passed-alone =
          let a : Bool = shape_ok (shape_of (core k)) in
          let b : Bool = zeros_ok (core k) in
          let c : Bool = region_ok (core k) in
          let e : Bool = eqb (number_of (core k)) k in
          let s : Bool = eqb (dimension_of (shape_of (core k))) d in
          let four = and_fst (a && b && c && e) s passed-parts.0 in
          let three = and_fst (a && b && c) e four in
          let two = and_fst (a && b) c three in
          (and_fst a b two, and_snd a b two, and_snd (a && b) c three, and_snd (a && b && c) e four, and_snd (a && b && c && e) s passed-parts.0)

      passed-fits : Fits d (core k)
      passed-fits = (passed-alone.0, eqb-true _ _ passed-alone.4)

      passed-unused : (f : ℕ) → faces k ≤ f → f < 6 → unused_ok (core k) f ≡ true
      unfolding unused_from
      passed-unused f h six = rw (le-ltb f (faces k) h) at (all_at 6 (unused_from (faces k) (core k)) passed-parts.1 f six)

      passed-face : (f : ℕ) → f < faces k → face_from_above core d K k f ≡ true
      passed-face = all_at (faces k) (face_from_above core d K k) passed-parts.2

    -- a link that doesn't lead up
    passed-link : (k f : ℕ) → k < K → f < faces k → leads_up core k f ≡ false → (neighbour_of (core k) f < K) × (boundary_ok k (core k) f ≡ true) × (link_ok core k f ≡ true)
    unfolding face_from_above leads_up link_ok link_between
    passed-link k f tree face e =
        let n : ℕ = neighbour_of (core k) f in
        let below : n < K = omega tests in
        let both : (boundary_ok k (core k) f && link_by_dimension d k (core k) f (core n)) ≡ true = rw e at (passed-face k tree f face) in
        (below, and_fst (boundary_ok k (core k) f) _ both, sym (link_same d (core k) (core n) (passed-fits k tree) (passed-fits n below) k f face) ∙ and_snd (boundary_ok k (core k) f) _ both)

    not-up : (k f : ℕ) → leads_down core k f ≡ true → leads_up core k f ≡ false
    unfolding leads_up leads_down
    not-up k f e = le-ltb k (neighbour_of (core k) f) (omega tests)

    down-sound : Obeys K faces to at_face (face_sound core K) (leads_down core)
    unfolding face_sound
    down-sound k f tree face e = let s = passed-link k f tree face (not-up k f e) in and_intro (ltb (to k f) K) _ (lt-ltb _ _ s.0) s.2

    -- each link up is the answer to one down
    up-sound : Obeys K faces to at_face (face_sound core K) (leads_up core)
    unfolding links_up links_down
    up-sound = ups_obey K faces to at_face (face_sound core K) six low (leads_up core) (leads_down core) turns_down down-sound same

    up-other : (k f : ℕ) → leads_up core k f ≡ true → boundary_ok k (core k) f ≡ true
    unfolding leads_up
    up-other k f e = boundary_other k (core k) f (λ same. omega tests)

    passed-boundary : (k f : ℕ) → k < K → f < faces k → boundary_ok k (core k) f ≡ true
    passed-boundary k f tree face = either (leads_up core k f) (λ e. up-other k f e) (λ e. (passed-link k f tree face e).1)

    passed-sound : (k f : ℕ) → k < K → f < faces k → face_sound core K k f ≡ true
    unfolding face_sound
    passed-sound k f tree face =
        either (leads_up core k f) (λ e. up-sound k f tree face e)
        (λ e. let s = passed-link k f tree face e in and_intro (ltb (to k f) K) _ (lt-ltb _ _ s.0) s.2)

    passed-tree : (k : ℕ) → k < K → tree_sound core d K k ≡ true
    unfolding tree_sound
    passed-tree k tree =
        let a = passed-alone k tree in
        let form : in_form k (core k) ≡ true = form_intro k (core k) a.0 a.1 a.2 (λ f face. passed-boundary k f tree face) (λ f h six. passed-unused k tree f h six) in
        rw (form, a.3, a.4) (all_intro (faces k) (face_sound core K k) (λ f face. passed-sound k f tree face))

  -- over all trees the check from one end says the same
  pub trees_from_above_lem : trees_from_above core d K ≡ all_below K (tree_sound core d K)
  unfolding trees_from_above
  trees_from_above_lem =
      iff_eq (all_below K (tree_from_above core d K) && eqb (sum_below K (links_up core)) (sum_below K (links_down core))) (all_below K (tree_sound core d K))
      (λ e. all_intro K (tree_sound core d K) (passed-tree (all_at K (tree_from_above core d K) (and_fst (all_below K (tree_from_above core d K)) _ e)) (eqb-true _ _ (and_snd (all_below K (tree_from_above core d K)) _ e))))
      (λ e.
      let sound = all_at K (tree_sound core d K) e in
      and_intro (all_below K (tree_from_above core d K)) _ (all_intro K (tree_from_above core d K) (tree_passes sound)) (eq-eqb _ _ (same-sums sound)))
