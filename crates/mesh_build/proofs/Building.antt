-- A mesh written from links: what it says of each tree, and that it is sound.
use Prim.Native.Nat.{ℕ, zero, suc, ◌+◌, ◌*◌, ◌≤◌, ◌<◌}
use native.Mathlib.Omega.{arith}
use native.Mathlib.Nat.{add-zero, zero-mul}
use mathlib.Core.Path.{◌≡◌, refl, sym, ap, ◌∙◌}
use mathlib.Core.Bool.{Bool, true, false, cond, ◌&&◌}
use mathlib.Core.List.{List, [], ◌∷◌, ◌++◌}
use lib.Dec.{ltb, leb, eqb, lit≤}
use lib.ListN.{length, get_or, drop, replicate, length-append, length-drop}
use lib.Arith.{digits_lt}
use lib.Seq.{take_all, take-append-le, drop-append-le, drop-append-add}
use borrow.Author.Tests.{lt-ltb, le-leb, eq-eqb, ltb-true, leb-true, eqb-true}
use Rattle.encoding.specs.Below.{all_below}
use Rattle.encoding.specs.Numbers.{le_value, le_bytes, le_at}
use Rattle.encoding.specs.Pieces.{piece}
use Rattle.encoding.proofs.Below.{tests, either, below_suc, and_fst, and_snd, and_intro, all_intro}
use Rattle.encoding.proofs.Numbers.{bytes_length, value_bytes}
use Rattle.offsets.specs.Limits.{tree_count_ok}
use Rattle.records.specs.Shape.{shape_ok, dimension_of, face_count, faces_in, corners, corners_of}
use Rattle.records.specs.Record.{core_size, tree_size, unused, number_of, shape_of, neighbour_of, face_of, orientation_of, to_itself, boundary_ok, unused_ok, zeros_ok, region_ok, in_form}
use Rattle.records.specs.Links.{Rows}
use Rattle.records.proofs.Shapes.{count_six, count_faces, faces_six, faces_positive, corners_none}
use Rattle.records.proofs.Forms.{piece_piece, form_intro}
use Rattle.mesh.specs.Link.{orientation_ok, same_corners, answered, link_ok}
use Rattle.mesh.specs.Mesh.{mesh_header, mesh_dimension, mesh_trees, dimension_ok, mesh_core, face_sound, tree_sound, header_sound, mesh_sound}
use Rattle.mesh_build.specs.Build.{NewLink, tree_rows, new_core, new_tree, new_header, built_trees, built_mesh, LinksFit, BuiltSound}
use Rattle.mesh_build.proofs.Records.{core_length, core_number, core_shape, core_zeros, core_region, core_neighbour, core_code, core_face, core_orientation, tree_length, rows_six, row_used, row_unused}

-- ---- the bytes

-- a piece of the first of two lists, and of the second
piece_first : (a b : List ℕ) (j n : ℕ) → j + n ≤ length a → piece (a ++ b) j n ≡ piece a j n
unfolding piece
piece_first a b j n h =
    let l : n ≤ length (drop j a) = simp length-drop (omega arith) in
    rw (drop-append-le j a b (omega arith), take-append-le n (drop j a) b l)

piece_behind : (a b : List ℕ) (m off at n : ℕ) → length a ≡ m → at ≡ m + off → piece (a ++ b) at n ≡ piece b off n
unfolding piece
piece_behind a b m off at n l e = rw (e, ← l, drop-append-add a b off)

piece_whole : (a : List ℕ) (n : ℕ) → length a ≡ n → piece a 0 n ≡ a
unfolding piece
piece_whole a n l = take_all n a (omega arith)

dimension_most : (s : ℕ) → dimension_of s ≤ 3
unfolding dimension_of
dimension_most s = either (leb s 1) (λ e. rw e (lit≤ tt)) (λ e. rw e (either (leb s 5) (λ g. rw g (lit≤ tt)) (λ g. rw g (lit≤ tt))))

pub header_length : (shape K : ℕ) → length (new_header shape K) ≡ mesh_header
unfolding new_header
header_length shape K = rw (length-append, bytes_length 4 (dimension_of shape), bytes_length 4 K)

module _ (shape : ℕ) (link : ℕ → ℕ → NewLink) where
  pub trees_length : (n : ℕ) → length (built_trees shape link n) ≡ tree_size * n
  unfolding built_trees
  trees_length zero = refl
  trees_length (suc n) = rw (length-append, trees_length n, tree_length n shape (tree_rows shape (link n))) (omega arith)

  -- the record of tree k among those below n
  trees-at : (n k : ℕ) → k < n → piece (built_trees shape link n) (tree_size * k) tree_size ≡ new_tree k shape (tree_rows shape (link k))
  unfolding built_trees
  trees-at zero k h = absurd (omega arith)
  trees-at (suc n) k h =
      let l : length (built_trees shape link n) ≡ tree_size * n = trees_length n in
      below_suc k n h
      (λ p. piece_first (built_trees shape link n) (new_tree n shape (tree_rows shape (link n))) (tree_size * k) tree_size (omega arith) ∙ trees-at n k p)
      (λ e. rw e (piece_behind (built_trees shape link n) (new_tree n shape (tree_rows shape (link n))) (tree_size * n) 0 (tree_size * n) tree_size l (omega arith)
      ∙ piece_whole (new_tree n shape (tree_rows shape (link n))) tree_size (tree_length n shape (tree_rows shape (link n)))))

  module _ (K : ℕ) where
    pub built_length : length (built_mesh shape link K) ≡ mesh_header + tree_size * K
    unfolding built_mesh
    built_length = rw (length-append, header_length shape K, trees_length K)

    pub built_dimension : mesh_dimension (built_mesh shape link K) ≡ dimension_of shape
    unfolding built_mesh mesh_dimension new_header le_at
    built_dimension =
        let d : List ℕ = le_bytes 4 (dimension_of shape) in
        let l : length d ≡ 4 = bytes_length 4 (dimension_of shape) in
        let n : length (d ++ le_bytes 4 K) ≡ 8 = rw (length-append, l, bytes_length 4 K) in
        ap le_value (piece_first (d ++ le_bytes 4 K) (built_trees shape link K) 0 4 (omega arith) ∙ (piece_first d (le_bytes 4 K) 0 4 (omega arith) ∙ piece_whole d 4 l)) ∙ value_bytes 4 (dimension_of shape) (omega (arith, dimension_most shape))

    pub built_trees_lem : K < 4294967296 → mesh_trees (built_mesh shape link K) ≡ K
    unfolding built_mesh mesh_trees new_header le_at
    built_trees_lem h =
        let d : List ℕ = le_bytes 4 (dimension_of shape) in
        let l : length d ≡ 4 = bytes_length 4 (dimension_of shape) in
        let m : length (le_bytes 4 K) ≡ 4 = bytes_length 4 K in
        let n : length (d ++ le_bytes 4 K) ≡ 8 = rw (length-append, l, m) in
        ap le_value (piece_first (d ++ le_bytes 4 K) (built_trees shape link K) 4 4 (omega arith) ∙ (piece_behind d (le_bytes 4 K) 4 0 4 4 l refl ∙ piece_whole (le_bytes 4 K) 4 m)) ∙ value_bytes 4 K h

    pub built_core : (k : ℕ) → k < K → mesh_core (built_mesh shape link K) k ≡ new_core k shape (tree_rows shape (link k))
    unfolding built_mesh mesh_core new_tree
    built_core k h =
        let trees : List ℕ = built_trees shape link K in
        let c : List ℕ = new_core k shape (tree_rows shape (link k)) in
        let l : length c ≡ 40 = core_length k shape (tree_rows shape (link k)) in
        piece_behind (new_header shape K) trees mesh_header (tree_size * k) (mesh_header + tree_size * k) core_size (header_length shape K) refl
        ∙ (sym (rw add-zero at (piece_piece trees (tree_size * k) tree_size 0 core_size (omega arith)))
        ∙ (ap (λ (r : List ℕ). piece r 0 core_size) (trees-at K k h)
        ∙ (piece_first c (replicate 24 0) 0 core_size (omega arith) ∙ piece_whole c core_size l)))

-- ---- soundness

cond_four : (b : Bool) {x y : ℕ} → x ≤ 4 → y ≤ 4 → cond b x y ≤ 4
cond_four true h k = h
cond_four false h k = k

corners_most : (s f : ℕ) → corners s f ≤ 4
unfolding corners corners_of
corners_most s f =
    cond_four (ltb f (face_count s))
    (cond_four (leb s 1) (lit≤ tt) (cond_four (eqb s 2) (lit≤ tt) (cond_four (eqb s 3) (lit≤ tt) (cond_four (eqb s 4) (cond_four (leb f 2) (lit≤ tt) (lit≤ tt)) (cond_four (leb f 3) (lit≤ tt) (lit≤ tt))))))
    (lit≤ tt)

shape_dimension : (s : ℕ) → s ≤ 5 → dimension_ok (dimension_of s) ≡ true
unfolding dimension_of dimension_ok
shape_dimension s h = either (leb s 1) (λ e. rw e) (λ e. rw (e, le-leb s 5 h))

trees_most : (K : ℕ) → tree_count_ok K ≡ true → K ≤ 1048576
unfolding tree_count_ok
trees_most K e = leb-true K 1048576 (and_snd (leb 1 K) (leb K 1048576) e)

module _ (shape : ℕ) (link : ℕ → ℕ → NewLink) (K : ℕ) (fit : LinksFit shape link K) where
  few : K ≤ 1048576
  few = trees_most K fit.trees

  module _ (k : ℕ) (tree : k < K) where
    module _ (f : ℕ) (face : f < face_count shape) where
      six_faces : f < 6
      six_faces = omega (arith, count_six shape)

      -- the neighbour's face is one that the shape has
      face_there : (link k f).face < face_count shape
      face_there =
          either (ltb (link k f).face (face_count shape)) (ltb-true _ _)
          (λ e. absurd (omega (tests, corners_none shape (link k f).face (omega tests), fit.turned k f tree face, fit.alike k f tree face)))

      used : get_or (tree_rows shape (link k)) f [] ≡ ((link k f).neighbour ∷ (link k f).face ∷ (link k f).orientation ∷ [])
      used = row_used shape (link k) f six_faces face

    row-cases : (C : List ℕ → Type 0) (f : ℕ) → f < 6
        → (f < face_count shape → C ((link k f).neighbour ∷ (link k f).face ∷ (link k f).orientation ∷ []))
        → (face_count shape ≤ f → C (unused ∷ 0 ∷ 0 ∷ []))
        → C (get_or (tree_rows shape (link k)) f [])
    row-cases C f six there none =
        either (ltb f (face_count shape)) (λ e. let h : f < face_count shape = ltb-true _ _ e in rw (row_used shape (link k) f six h) (there h))
        (λ e. let h : face_count shape ≤ f = omega tests in rw (row_unused shape (link k) f six h) (none h))

    -- a record can hold the rows
    pub built_rows : Rows (tree_rows shape (link k)) (faces_in (dimension_of shape))
    built_rows =
        record {
          six = rows_six shape (link k);
          three = λ f h. row-cases (λ r. length r ≡ 3) f h (λ _. refl) (λ _. refl);
          neighbours = λ f h. row-cases (λ r. get_or r 0 0 < 4294967296) f h (λ p. omega (arith, fit.below k f tree p, few)) (λ _. omega arith);
          faces = λ f h. row-cases (λ r. get_or r 1 0 < faces_in (dimension_of shape)) f h (λ p. omega (arith, face_there f p, count_faces shape)) (λ _. faces_positive (dimension_of shape));
          codes =
              λ f h. row-cases (λ r. get_or r 2 0 * faces_in (dimension_of shape) + get_or r 1 0 < 256) f h
              (λ p.
              let q : (link k f).orientation < 4 = omega (arith, fit.turned k f tree p, corners_most shape f) in
              let r : (link k f).face < faces_in (dimension_of shape) = omega (arith, face_there f p, count_faces shape) in
              omega (arith, digits_lt q r, faces_six (dimension_of shape)))
              (λ _. rw zero-mul (lit≤ tt));
        }

    core_at : mesh_core (built_mesh shape link K) k ≡ new_core k shape (tree_rows shape (link k))
    core_at = built_core shape link K k tree

    -- what the mesh says of the tree
    pub built_number : number_of (mesh_core (built_mesh shape link K) k) ≡ k
    built_number = ap number_of core_at ∙ core_number k shape (tree_rows shape (link k)) (omega (arith, few))

    pub built_shape : shape_of (mesh_core (built_mesh shape link K) k) ≡ shape
    built_shape = ap shape_of core_at ∙ core_shape k shape (tree_rows shape (link k))

    module _ (f : ℕ) (face : f < face_count shape) where
      pub built_neighbour : neighbour_of (mesh_core (built_mesh shape link K) k) f ≡ (link k f).neighbour
      built_neighbour =
          ap (λ r. neighbour_of r f) core_at ∙ (core_neighbour k shape (tree_rows shape (link k)) built_rows f (six_faces f face) ∙ ap (λ (r : List ℕ). get_or r 0 0) (used f face))

      pub built_face : face_of (mesh_core (built_mesh shape link K) k) f ≡ (link k f).face
      built_face =
          ap (λ r. face_of r f) core_at ∙ (core_face k shape (tree_rows shape (link k)) built_rows f (six_faces f face) ∙ ap (λ (r : List ℕ). get_or r 1 0) (used f face))

      pub built_orientation : orientation_of (mesh_core (built_mesh shape link K) k) f ≡ (link k f).orientation
      built_orientation =
          ap (λ r. orientation_of r f) core_at ∙ (core_orientation k shape (tree_rows shape (link k)) built_rows f (six_faces f face) ∙ ap (λ (r : List ℕ). get_or r 2 0) (used f face))

      boundary-ok : boundary_ok k (mesh_core (built_mesh shape link K) k) f ≡ true
      unfolding boundary_ok to_itself
      boundary-ok =
          rw (built_neighbour, built_face, built_orientation)
          (either (eqb (link k f).neighbour k && eqb (link k f).face f)
          (λ e. rw e (eq-eqb _ _ (fit.boundary k f tree face (eqb-true _ _ (and_fst (eqb (link k f).neighbour k) _ e)) (eqb-true _ _ (and_snd (eqb (link k f).neighbour k) _ e)))))
          (λ e. rw e))

    unused-ok : (f : ℕ) → face_count shape ≤ f → f < 6 → unused_ok (mesh_core (built_mesh shape link K) k) f ≡ true
    unfolding unused_ok
    unused-ok f h six =
        let row : get_or (tree_rows shape (link k)) f [] ≡ (unused ∷ 0 ∷ 0 ∷ []) = row_unused shape (link k) f six h in
        rw (core_at, core_neighbour k shape (tree_rows shape (link k)) built_rows f six, core_code k shape (tree_rows shape (link k)) built_rows f six, row, zero-mul) refl

    form-ok : in_form k (mesh_core (built_mesh shape link K) k) ≡ true
    unfolding shape_ok
    form-ok =
        form_intro k (mesh_core (built_mesh shape link K) k)
        (rw built_shape (le-leb shape 5 fit.shape_there))
        (ap zeros_ok core_at ∙ core_zeros k shape (tree_rows shape (link k)))
        (ap region_ok core_at ∙ core_region k shape (tree_rows shape (link k)))
        (λ f h. boundary-ok f (rw built_shape at h))
        (λ f h six. unused-ok f (rw built_shape at h) six)

  link-ok : (k f : ℕ) → k < K → f < face_count shape → link_ok (mesh_core (built_mesh shape link K)) k f ≡ true
  unfolding link_ok orientation_ok same_corners answered
  link-ok k f tree face =
      let n : ℕ = (link k f).neighbour in
      let g : ℕ = (link k f).face in
      let below : n < K = fit.below k f tree face in
      let there : g < face_count shape = face_there k tree f face in
      let back : link n g ≡ record { neighbour = k; face = f; orientation = (link k f).orientation } = fit.answers k f tree face in
      let m : List ℕ = built_mesh shape link K in
      let a : neighbour_of (mesh_core m n) g ≡ k = built_neighbour n below g there ∙ ap (λ l. l.neighbour) back in
      let b : face_of (mesh_core m n) g ≡ f = built_face n below g there ∙ ap (λ l. l.face) back in
      let c : orientation_of (mesh_core m n) g ≡ (link k f).orientation = built_orientation n below g there ∙ ap (λ l. l.orientation) back in
      rw (built_neighbour k tree f face, built_face k tree f face, built_orientation k tree f face, built_shape k tree, built_shape n below, a, b, c)
      (rw (lt-ltb _ _ (fit.turned k f tree face), eq-eqb _ _ (fit.alike k f tree face), eq-eqb k k refl, eq-eqb f f refl, eq-eqb (link k f).orientation (link k f).orientation refl))

  tree_ok : (k : ℕ) → k < K → tree_sound (mesh_core (built_mesh shape link K)) (dimension_of shape) K k ≡ true
  unfolding tree_sound face_sound
  tree_ok k tree =
      let m : List ℕ = built_mesh shape link K in
      let all : all_below (face_count shape) (face_sound (mesh_core m) K k) ≡ true =
      all_intro (face_count shape) (face_sound (mesh_core m) K k)
      (λ f h. and_intro (ltb (neighbour_of (mesh_core m k) f) K) (link_ok (mesh_core m) k f) (rw (built_neighbour k tree f h) (lt-ltb _ _ (fit.below k f tree h))) (link-ok k f tree h)) in
      rw (form-ok k tree, built_number k tree, built_shape k tree, eq-eqb k k refl, eq-eqb (dimension_of shape) (dimension_of shape) refl) all

pub built_sound : BuiltSound
unfolding mesh_sound header_sound
built_sound shape link K fit =
    let d : dimension_ok (dimension_of shape) ≡ true = shape_dimension shape fit.shape_there in
    let all : all_below K (tree_sound (mesh_core (built_mesh shape link K)) (dimension_of shape) K) ≡ true = all_intro K _ (λ k h. tree_ok shape link K fit k h) in
    rw (built_dimension shape link K, built_trees_lem shape link K (omega (arith, few shape link K fit)), built_length shape link K, d, fit.trees, eq-eqb (mesh_header + tree_size * K) (mesh_header + tree_size * K) refl) all
