-- Regions within the limit don't matter to the checks: neither the form nor the rule of a link compares those of two records.
use Prim.Native.Nat.{ℕ, ◌+◌, ◌-◌, ◌*◌, ◌≤◌, ◌<◌}
use native.Mathlib.Omega.{arith}
use mathlib.Core.Path.{◌≡◌, refl, sym, ap, ap₂, fun_ext, ◌∙◌}
use mathlib.Core.Bool.{Bool, true, false, cond, not, ◌&&◌, ◌||◌}
use mathlib.Core.List.{List, ◌++◌, map}
use lib.Dec.{leb, ltb, eqb}
use lib.ListN.{length, get_or, length-append}
use borrow.Author.Tests.{ltb-true, leb-true, leb-false, eqb-true, lt-ltb, le-leb, eq-eqb}
use Rattle.encoding.specs.Below.{all_below, least_below}
use Rattle.encoding.specs.Numbers.{u32_at}
use Rattle.encoding.specs.Pieces.{splice}
use Rattle.encoding.proofs.Below.{either, tests, clash, and_fst, and_snd, all_same, any_none, any_intro, any_false, any_same, least_same, least_lt}
use Rattle.encoding.proofs.Numbers.{bytes_length}
use Rattle.encoding.proofs.Pieces.{piece_at, piece_length}
use Rattle.records.specs.Shape.{face_count, faces_in}
use Rattle.records.specs.Record.{core_size, tree_size, unused, region_limit, number_of, shape_of, neighbour_of, face_of, to_itself, boundary_ok, region_of, region_ok, in_form}
use Rattle.records.specs.Links.{row_of, rows_of, neighbour_bytes, code_bytes, with_rows}
use Rattle.records.proofs.Forms.{at_agree, face_six, SameLinks, same_number, same_shape, same_neighbour, same_code, same_face, same_orientation, region_alone}
use Rattle.records.proofs.Rows.{splice_get}
use Rattle.records.proofs.Shapes.{count_six}
use Rattle.mesh.specs.Link.{orientation_ok, same_corners, answered, link_ok}
use Rattle.mesh.specs.Mesh.{mesh_header, mesh_dimension, mesh_trees, mesh_core, face_sound, tree_sound, header_sound, mesh_sound, mesh_refusal, face_neighbour}
use Rattle.part.specs.Layout.{part_header, tree_place, ghost_place, part_size}
use Rattle.part.specs.Cut.{rename_row, renamed}
use Rattle.part.specs.View.{View, local_in, ghostly_in, held_in, core_in, tree_in_form, ghost_ascends, ghost_in_form, beside_tree, ghost_near, neighbours_ghostly, ghosts_exact, link_rule, links_obey, links_far, links_hold, records_hold}
use Rattle.part.specs.Part.{part_dimension, part_k, part_first, part_count, part_ghost_count, stored_tree, stored_ghost, global_number, global_tree, view_of, part_header_sound, part_sound}
use Rattle.part_check.specs.Calls.{part_refusal}
use Rattle.repartition.specs.Regions.{some_above, region_byte, MeshRegionsDiffer, PartRegionsDiffer, RegionsFree}

-- ---- bytes of no region

not_region : (start size n i : ℕ) → ((t : ℕ) → t < n → start + size * t + 38 ≤ i → i < start + size * t + 40 → ⊥) → region_byte start size n i ≡ false
unfolding region_byte
not_region start size n i never =
    any_none n (λ t. leb (start + size * t + 38) i && ltb i (start + size * t + 40))
    (λ t h.
    let low : Bool = leb (start + size * t + 38) i in
    let high : Bool = ltb i (start + size * t + 40) in
    either (low && high) (λ e. absurd (never t h (leb-true _ _ (and_fst low high e)) (ltb-true _ _ (and_snd low high e)))) (λ e. e))

-- a region that isn't above the limit
region_ok_lem : (count : ℕ) (r : ℕ → List ℕ) → some_above count r ≡ false → (i : ℕ) → i < count → region_ok (r i) ≡ true
unfolding some_above region_ok
region_ok_lem count r e i h = lt-ltb (region_of (r i)) region_limit (leb-false _ _ (any_false count (λ i. leb region_limit (region_of (r i))) e i h))

or_fst : (a b : Bool) → (a || b) ≡ false → a ≡ false
or_fst true b e = e
or_fst false b e = refl

or_snd : (a b : Bool) → (a || b) ≡ false → b ≡ false
or_snd true b e = clash refl e
or_snd false b e = e

-- two records with the same bytes but for the region's
module _ (r s : List ℕ) (bytes : (i : ℕ) → i < 38 → get_or r i 0 ≡ get_or s i 0) where
  links_same : SameLinks r s
  links_same = record { low = λ i h. bytes i (omega arith); high = λ i h l. bytes i l }

  form-same : region_ok r ≡ true → region_ok s ≡ true → (own : ℕ) → in_form own r ≡ in_form own s
  form-same p q = region_alone r s bytes (p ∙ sym q)

-- ---- the rules of a link

module _ (r r' : List ℕ) (a : SameLinks r r') (f : ℕ) (h : f < 6) where
  turned_same : orientation_ok r f ≡ orientation_ok r' f
  unfolding orientation_ok
  turned_same = rw (same_orientation r r' a f h, same_shape r r' a)

  boundary-same : (own : ℕ) → boundary_ok own r f ≡ boundary_ok own r' f
  unfolding boundary_ok to_itself
  boundary-same own = rw (same_neighbour r r' a f h, same_face r r' a f h, same_orientation r r' a f h)

  module _ (s s' : List ℕ) (b : SameLinks s s') where
    corners-same : same_corners r f s ≡ same_corners r' f s'
    unfolding same_corners
    corners-same = rw (same_shape r r' a, same_shape s s' b, same_face r r' a f h)

    answered-same : (back : ℕ) → answered back r f s ≡ answered back r' f s'
    unfolding answered
    answered-same back =
        let g : ℕ = face_of r' f in
        let l : g < 6 = face_six r' f in
        rw (same_face r r' a f h, same_neighbour s s' b g l, same_face s s' b g l, same_orientation s s' b g l, same_orientation r r' a f h)

link_same : (c d : ℕ → List ℕ) (k f : ℕ) → f < 6 → SameLinks (c k) (d k) → SameLinks (c (neighbour_of (d k) f)) (d (neighbour_of (d k) f)) → link_ok c k f ≡ link_ok d k f
unfolding link_ok
link_same c d k f h a b =
    let m : ℕ = neighbour_of (d k) f in
    rw (same_neighbour (c k) (d k) a f h, turned_same (c k) (d k) a f h, corners-same (c k) (d k) a f h (c m) (d m) b, answered-same (c k) (d k) a f h (c m) (d m) b k)

-- ---- whole meshes

module _ (a b : List ℕ) (differ : MeshRegionsDiffer a b) (wa : some_above (mesh_trees a) (mesh_core a) ≡ false) (wb : some_above (mesh_trees b) (mesh_core b) ≡ false) where
  mesh-word : (off : ℕ) → off + 4 ≤ mesh_header → u32_at a off ≡ u32_at b off
  mesh-word off h =
      at_agree 4 a b off (λ i l. differ.same_bytes (off + i) (not_region mesh_header tree_size (mesh_trees a) (off + i) (λ t _ p q. omega arith)))

  mesh-count : mesh_trees a ≡ mesh_trees b
  unfolding mesh_trees
  mesh-count = mesh-word 4 (omega arith)

  mesh-dimension : mesh_dimension a ≡ mesh_dimension b
  unfolding mesh_dimension
  mesh-dimension = mesh-word 0 (omega arith)

  mesh_bytes : (k i : ℕ) → i < 38 → get_or (mesh_core a k) i 0 ≡ get_or (mesh_core b k) i 0
  unfolding mesh_core
  mesh_bytes k i h =
      let at : ℕ = mesh_header + tree_size * k in
      piece_at a at core_size i (omega arith)
      ∙ (differ.same_bytes (at + i) (not_region mesh_header tree_size (mesh_trees a) (at + i) (λ t _ p q. omega arith)) ∙ sym (piece_at b at core_size i (omega arith)))

  abbrev ca : ℕ → List ℕ
  ca = mesh_core a

  abbrev cb : ℕ → List ℕ
  cb = mesh_core b

  mesh-links : (k : ℕ) → SameLinks (ca k) (cb k)
  mesh-links k = links_same (ca k) (cb k) (mesh_bytes k)

  face-same : (K k f : ℕ) → f < 6 → face_sound ca K k f ≡ face_sound cb K k f
  unfolding face_sound
  face-same K k f h = rw (same_neighbour (ca k) (cb k) (mesh-links k) f h, link_same ca cb k f h (mesh-links k) (mesh-links (neighbour_of (cb k) f)))

  tree-same : (d K k : ℕ) → k < mesh_trees a → tree_sound ca d K k ≡ tree_sound cb d K k
  unfolding tree_sound
  tree-same d K k h =
      rw (
        form-same (ca k) (cb k) (mesh_bytes k) (region_ok_lem (mesh_trees a) ca wa k h) (region_ok_lem (mesh_trees b) cb wb k (rw mesh-count at h)) k,
        same_number (ca k) (cb k) (mesh-links k),
        same_shape (ca k) (cb k) (mesh-links k),
        all_same (face_count (shape_of (cb k))) (face_sound ca K k) (face_sound cb K k) (λ f l. face-same K k f (omega (arith, count_six (shape_of (cb k))))),
      )

  mesh-sound-same : mesh_sound a ≡ mesh_sound b
  unfolding mesh_sound header_sound
  mesh-sound-same =
      rw (
        all_same (mesh_trees a) (tree_sound ca (mesh_dimension a) (mesh_trees a)) (tree_sound cb (mesh_dimension a) (mesh_trees a)) (tree-same (mesh_dimension a) (mesh_trees a)),
        mesh-dimension,
        mesh-count,
        differ.same_length,
      )

  mesh-alike : mesh_refusal a ≡ mesh_refusal b
  unfolding mesh_refusal
  mesh-alike = rw mesh-sound-same

-- ---- two views whose records differ in regions alone

module _ (dimension K first n g : ℕ) (sa sb ta tb ga gb : ℕ → List ℕ)
    (forms : (i : ℕ) → i < n → (own : ℕ) → in_form own (sa i) ≡ in_form own (sb i)) (stored : (i : ℕ) → i < n → SameLinks (sa i) (sb i))
    (trees : (i : ℕ) → i < n → SameLinks (ta i) (tb i))
    (ghost-forms : (j : ℕ) → j < g → (own : ℕ) → in_form own (ga j) ≡ in_form own (gb j)) (ghosts : (j : ℕ) → j < g → SameLinks (ga j) (gb j)) where
  abbrev va : View
  va = record { dimension = dimension; K = K; first = first; n = n; g = g; stored = sa; tree = ta; ghost = ga }

  abbrev vb : View
  vb = record { dimension = dimension; K = K; first = first; n = n; g = g; stored = sb; tree = tb; ghost = gb }

  tree_form : (i : ℕ) → i < n → tree_in_form va i ≡ tree_in_form vb i
  unfolding tree_in_form
  tree_form i h = rw (forms i h i, same_number (sa i) (sb i) (stored i h), same_shape (sa i) (sb i) (stored i h))

  ghost-number : (j : ℕ) → j < g → number_of (ga j) ≡ number_of (gb j)
  ghost-number j h = same_number (ga j) (gb j) (ghosts j h)

  ghost_form : (j : ℕ) → j < g → ghost_in_form va j ≡ ghost_in_form vb j
  unfolding ghost_in_form ghost_ascends
  ghost_form j h =
      rw (ghost-number j h, ghost-number (j - 1) (omega arith), ghost-forms j h (number_of (gb j)), same_shape (ga j) (gb j) (ghosts j h))

  -- the face neighbours of a tree
  neighbour-tree : (i k : ℕ) → i < n → face_neighbour ta i k ≡ face_neighbour tb i k
  unfolding face_neighbour
  neighbour-tree i k h =
      rw (same_shape (ta i) (tb i) (trees i h))
      (any_same (face_count (shape_of (tb i))) (λ f. eqb (neighbour_of (ta i) f) k) (λ f. eqb (neighbour_of (tb i) f) k)
      (λ f l. rw (same_neighbour (ta i) (tb i) (trees i h) f (omega (arith, count_six (shape_of (tb i)))))))

  beside_same : (k : ℕ) → beside_tree va k ≡ beside_tree vb k
  unfolding beside_tree
  beside_same k = any_same n (λ i. face_neighbour ta i k) (λ i. face_neighbour tb i k) (λ i h. neighbour-tree i k h)

  near_same : (j : ℕ) → j < g → ghost_near va j ≡ ghost_near vb j
  unfolding ghost_near
  near_same j h = rw (ghost-number j h, beside_same (number_of (gb j)))

  named-same : (k : ℕ) → ghostly_in va k ≡ ghostly_in vb k
  named-same k = any_same g (λ j. eqb (number_of (ga j)) k) (λ j. eqb (number_of (gb j)) k) (λ j h. rw (ghost-number j h))

  held_same : (k : ℕ) → held_in va k ≡ held_in vb k
  held_same k = ap (λ (b : Bool). local_in va k || b) (named-same k)

  ghostly-same : (i : ℕ) → i < n → neighbours_ghostly va i ≡ neighbours_ghostly vb i
  unfolding neighbours_ghostly
  ghostly-same i h =
      rw (same_shape (ta i) (tb i) (trees i h))
      (all_same (face_count (shape_of (tb i))) (λ f. cond (local_in va (neighbour_of (ta i) f)) true (ghostly_in va (neighbour_of (ta i) f))) (λ f. cond (local_in vb (neighbour_of (tb i) f)) true (ghostly_in vb (neighbour_of (tb i) f)))
      (λ f l.
      let m : ℕ = neighbour_of (tb i) f in
      rw (same_neighbour (ta i) (tb i) (trees i h) f (omega (arith, count_six (shape_of (tb i))))) (ap (cond (local_in va m) true) (named-same m))))

  -- the record with number k, where one is held
  core-links : (k : ℕ) → held_in va k ≡ true → SameLinks (core_in va k) (core_in vb k)
  core-links k e =
      either (local_in va k)
      (λ p.
      let lower : first ≤ k = leb-true _ _ (and_fst (leb first k) (ltb k (first + n)) p) in
      let upper : k < first + n = ltb-true _ _ (and_snd (leb first k) (ltb k (first + n)) p) in
      rw p (trees (k - first) (omega arith)))
      (λ p.
      let is : least_below g (λ j. eqb (number_of (ga j)) k) ≡ least_below g (λ j. eqb (number_of (gb j)) k) = least_same g (λ j. eqb (number_of (ga j)) k) (λ j. eqb (number_of (gb j)) k) (λ j h. rw (ghost-number j h)) in
      let some : ghostly_in va k ≡ true = rw p at e in
      rw (p, ← is) (ghosts (least_below g (λ j. eqb (number_of (ga j)) k)) (least_lt g (λ j. eqb (number_of (ga j)) k) some)))

  rule-same : (k f : ℕ) → f < 6 → held_in va k ≡ true → held_in va (neighbour_of (core_in vb k) f) ≡ true → link_rule va k f ≡ link_rule vb k f
  unfolding link_rule
  rule-same k f h e m =
      let c = core-links k e in
      rw (link_same (core_in va) (core_in vb) k f h c (core-links (neighbour_of (core_in vb k) f) m), boundary-same (core_in va k) (core_in vb k) c f h k)

  abbrev obeyed : View → ℕ → ℕ → Bool
  obeyed v k f = cond (held_in v (neighbour_of (core_in v k) f)) (link_rule v k f) true

  obeyed-same : (k : ℕ) → held_in va k ≡ true → (f : ℕ) → f < 6 → obeyed va k f ≡ obeyed vb k f
  obeyed-same k e f h =
      let c = core-links k e in
      let m : ℕ = neighbour_of (core_in vb k) f in
      let is : neighbour_of (core_in va k) f ≡ m = same_neighbour (core_in va k) (core_in vb k) c f h in
      ap (λ (x : ℕ). cond (held_in va x) (link_rule va k f) true) is
      ∙ either (held_in va m)
      (λ p. let q : held_in vb m ≡ true = sym (held_same m) ∙ p in rw (p, q) (rule-same k f h e p))
      (λ p. let q : held_in vb m ≡ false = sym (held_same m) ∙ p in rw (p, q))

  obey-same : (k : ℕ) → held_in va k ≡ true → links_obey va k ≡ links_obey vb k
  unfolding links_obey
  obey-same k e =
      ap (λ (s : ℕ). all_below (face_count s) (obeyed va k)) (same_shape (core_in va k) (core_in vb k) (core-links k e))
      ∙ all_same (face_count (shape_of (core_in vb k))) (obeyed va k) (obeyed vb k) (λ f l. obeyed-same k e f (omega (arith, count_six (shape_of (core_in vb k)))))

  far-same : (j : ℕ) → j < g → links_far va j ≡ links_far vb j
  unfolding links_far
  far-same j h =
      let r = ghosts j h in
      rw (same_shape (ga j) (gb j) r)
      (all_same (face_count (shape_of (gb j)))
      (λ f. cond (held_in va (neighbour_of (ga j) f)) true (ltb (neighbour_of (ga j) f) K && not (local_in va (neighbour_of (ga j) f)) && orientation_ok (ga j) f))
      (λ f. cond (held_in vb (neighbour_of (gb j) f)) true (ltb (neighbour_of (gb j) f) K && not (local_in vb (neighbour_of (gb j) f)) && orientation_ok (gb j) f))
      (λ f l.
      let six : f < 6 = omega (arith, count_six (shape_of (gb j))) in
      let m : ℕ = neighbour_of (gb j) f in
      rw (same_neighbour (ga j) (gb j) r f six, turned_same (ga j) (gb j) r f six) (ap (λ (b : Bool). cond b true (ltb m K && not (local_in va m) && orientation_ok (gb j) f)) (held_same m))))

  tree_held : (i : ℕ) → i < n → held_in va (first + i) ≡ true
  tree_held i h = rw (le-leb first (first + i) (omega arith), lt-ltb (first + i) (first + n) (omega arith))

  ghost_held : (j : ℕ) → j < g → held_in va (number_of (ga j)) ≡ true
  ghost_held j h =
      let some : ghostly_in va (number_of (ga j)) ≡ true = any_intro g (λ m. eqb (number_of (ga m)) (number_of (ga j))) j h (eq-eqb (number_of (ga j)) (number_of (ga j)) refl) in
      either (local_in va (number_of (ga j))) (λ p. rw p) (λ p. rw (p, some))

  pub records_alike : records_hold va ≡ records_hold vb
  unfolding records_hold ghosts_exact links_hold
  records_alike =
      rw (
        all_same n (tree_in_form va) (tree_in_form vb) tree_form,
        all_same g (ghost_in_form va) (ghost_in_form vb) ghost_form,
        all_same g (ghost_near va) (ghost_near vb) near_same,
        all_same n (neighbours_ghostly va) (neighbours_ghostly vb) ghostly-same,
        all_same n (λ i. links_obey va (first + i)) (λ i. links_obey vb (first + i)) (λ i h. obey-same (first + i) (tree_held i h)),
        all_same g (λ j. links_obey va (number_of (ga j))) (λ j. links_obey vb (number_of (gb j))) (λ j h. obey-same (number_of (ga j)) (ghost_held j h) ∙ ap (links_obey vb) (ghost-number j h)),
        all_same g (links_far va) (links_far vb) far-same,
      )

-- ---- a record with its neighbours renamed

rows_length : (rows : List (List ℕ)) (F : ℕ) → length (neighbour_bytes rows 6 ++ code_bytes rows F 6) ≡ 30
unfolding neighbour_bytes code_bytes
rows_length rows F = simp (length-append, bytes_length)

splice_byte : (r s p : List ℕ) (i : ℕ) → 8 + length p ≤ length r → 8 + length p ≤ length s → get_or r i 0 ≡ get_or s i 0 → get_or (splice r 8 p) i 0 ≡ get_or (splice s 8 p) i 0
splice_byte r s p i h l e =
    splice_get r 8 p i h ∙ (ap (cond (leb 8 i && ltb i (8 + length p)) (get_or p (i - 8) 0)) e ∙ sym (splice_get s 8 p i l))

module _ (r s : List ℕ) (same : SameLinks r s) (F : ℕ) where
  row_same : (f : ℕ) → f < 6 → row_of r F f ≡ row_of s F f
  unfolding row_of
  row_same f h = rw (same_neighbour r s same f h, same_code r s same f h)

  rows_same : rows_of r F ≡ rows_of s F
  unfolding rows_of
  rows_same = rw (row_same 0 (omega arith), row_same 1 (omega arith), row_same 2 (omega arith), row_same 3 (omega arith), row_same 4 (omega arith), row_same 5 (omega arith))

  module _ (lr : length r ≡ 40) (ls : length s ≡ 40) (rename : ℕ → ℕ) where
    renamed-byte : (i : ℕ) → get_or r i 0 ≡ get_or s i 0 → get_or (renamed rename F r) i 0 ≡ get_or (renamed rename F s) i 0
    unfolding renamed with_rows
    renamed-byte i e =
        let rows : List (List ℕ) = map (rename_row rename) (rows_of s F) in
        let long = rows_length rows F in
        rw rows_same (splice_byte r s (neighbour_bytes rows 6 ++ code_bytes rows F 6) i (omega arith) (omega arith) e)

    renamed-links : SameLinks (renamed rename F r) (renamed rename F s)
    renamed-links = record { low = λ i h. renamed-byte i (same.low i h); high = λ i h l. renamed-byte i (same.high i h l) }

-- ---- parts

middle : (a b c : Bool) → b ≡ false → (a && b && c) ≡ false
middle true b c e = rw e
middle false b c e = refl

module _ (a b : List ℕ) (differ : PartRegionsDiffer a b)
    (wa : (some_above (part_count a) (stored_tree a) || some_above (part_ghost_count a) (stored_ghost a)) ≡ false)
    (wb : (some_above (part_count b) (stored_tree b) || some_above (part_ghost_count b) (stored_ghost b)) ≡ false) where
  abbrev n : ℕ
  n = part_count a

  abbrev g : ℕ
  g = part_ghost_count a

  -- a byte of no region
  plain : (i : ℕ) → ((t : ℕ) → t < n → part_header + tree_size * t + 38 ≤ i → i < part_header + tree_size * t + 40 → ⊥)
      → ((t : ℕ) → t < g → ghost_place n 0 + core_size * t + 38 ≤ i → i < ghost_place n 0 + core_size * t + 40 → ⊥) → get_or a i 0 ≡ get_or b i 0
  plain i tree ghost = differ.same_bytes i (rw (not_region part_header tree_size n i tree, not_region (ghost_place n 0) core_size g i ghost))

  part-word : (off : ℕ) → off + 4 ≤ part_header → u32_at a off ≡ u32_at b off
  part-word off h = at_agree 4 a b off (λ i l. plain (off + i) (λ t _ p q. omega arith) (λ t _ p q. omega arith))

  count_same : part_count a ≡ part_count b
  unfolding part_count
  count_same = part-word 20 (omega arith)

  ghosts-same : part_ghost_count a ≡ part_ghost_count b
  unfolding part_ghost_count
  ghosts-same = part-word 24 (omega arith)

  dimension_same : part_dimension a ≡ part_dimension b
  unfolding part_dimension
  dimension_same = part-word 0 (omega arith)

  k_same : part_k a ≡ part_k b
  unfolding part_k
  k_same = part-word 4 (omega arith)

  first_same : part_first a ≡ part_first b
  unfolding part_first
  first_same = part-word 16 (omega arith)

  header_same : (table : List ℕ) (rank : ℕ) → part_header_sound a table rank ≡ part_header_sound b table rank
  unfolding part_header_sound
  header_same table rank = rw (dimension_same, k_same, part-word 8 (omega arith), part-word 12 (omega arith), first_same, count_same, part-word 28 (omega arith))

  -- the trees
  tree-bytes : (i : ℕ) → i < n → (k : ℕ) → k < 38 → get_or (stored_tree a i) k 0 ≡ get_or (stored_tree b i) k 0
  unfolding stored_tree
  tree-bytes i h k l =
      piece_at a (tree_place i) core_size k (omega arith)
      ∙ (plain (tree_place i + k) (λ t _ p q. omega arith) (λ t _ p q. omega arith) ∙ sym (piece_at b (tree_place i) core_size k (omega arith)))

  tree-links : (i : ℕ) → i < n → SameLinks (stored_tree a i) (stored_tree b i)
  tree-links i h = links_same (stored_tree a i) (stored_tree b i) (tree-bytes i h)

  tree-forms : (i : ℕ) → i < n → (own : ℕ) → in_form own (stored_tree a i) ≡ in_form own (stored_tree b i)
  tree-forms i h =
      form-same (stored_tree a i) (stored_tree b i) (tree-bytes i h)
      (region_ok_lem n (stored_tree a) (or_fst (some_above n (stored_tree a)) (some_above g (stored_ghost a)) wa) i h)
      (region_ok_lem (part_count b) (stored_tree b) (or_fst (some_above (part_count b) (stored_tree b)) (some_above (part_ghost_count b) (stored_ghost b)) wb) i (rw count_same at h))

  -- the ghosts
  ghost-bytes : (j : ℕ) → j < g → (k : ℕ) → k < 38 → get_or (stored_ghost a j) k 0 ≡ get_or (stored_ghost b j) k 0
  unfolding stored_ghost
  ghost-bytes j h k l =
      rw (← count_same)
      (piece_at a (ghost_place n j) core_size k (omega arith)
      ∙ (plain (ghost_place n j + k) (λ t s p q. omega arith) (λ t _ p q. omega arith) ∙ sym (piece_at b (ghost_place n j) core_size k (omega arith))))

  ghost-links : (j : ℕ) → j < g → SameLinks (stored_ghost a j) (stored_ghost b j)
  ghost-links j h = links_same (stored_ghost a j) (stored_ghost b j) (ghost-bytes j h)

  ghost-forms : (j : ℕ) → j < g → (own : ℕ) → in_form own (stored_ghost a j) ≡ in_form own (stored_ghost b j)
  ghost-forms j h =
      form-same (stored_ghost a j) (stored_ghost b j) (ghost-bytes j h)
      (region_ok_lem g (stored_ghost a) (or_snd (some_above n (stored_tree a)) (some_above g (stored_ghost a)) wa) j h)
      (region_ok_lem (part_ghost_count b) (stored_ghost b) (or_snd (some_above (part_count b) (stored_tree b)) (some_above (part_ghost_count b) (stored_ghost b)) wb) j (rw ghosts-same at h))

  -- the numbers behind local indices
  index_same : (j : ℕ) → global_number a j ≡ global_number b j
  unfolding global_number
  index_same j =
      rw (← count_same, ← ghosts-same)
      (either (eqb j unused) (λ p. rw p)
      (λ p. rw p
      (either (ltb j n) (λ q. rw (q, same_number (stored_tree a j) (stored_tree b j) (tree-links j (ltb-true _ _ q))))
      (λ q. rw q
      (either (ltb j (n + g)) (λ s. rw (s, same_number (stored_ghost a (j - n)) (stored_ghost b (j - n)) (ghost-links (j - n) (omega tests)))) (λ s. rw s))))))

  module _ (long : length a ≡ part_size n g) where
    core-long : (c : List ℕ) → length c ≡ length a → (i : ℕ) → i < n → length (stored_tree c i) ≡ 40
    unfolding stored_tree
    core-long c e i h = piece_length c (tree_place i) core_size (omega arith)

    global-links : (i : ℕ) → i < n → SameLinks (global_tree a i) (global_tree b i)
    unfolding global_tree
    global-links i h =
        rw (← dimension_same, ← fun_ext index_same)
        (renamed-links (stored_tree a i) (stored_tree b i) (tree-links i h) (faces_in (part_dimension a)) (core-long a refl i h) (core-long b (sym differ.same_length) i h) (global_number a))

    records_same : records_hold (view_of a) ≡ records_hold (view_of b)
    records_same =
        rw (← dimension_same, ← k_same, ← first_same, ← count_same, ← ghosts-same)
        (records_alike (part_dimension a) (part_k a) (part_first a) n g (stored_tree a) (stored_tree b) (global_tree a) (global_tree b) (stored_ghost a) (stored_ghost b) tree-forms tree-links global-links ghost-forms ghost-links)

  length-same : eqb (length a) (part_size n g) ≡ eqb (length b) (part_size (part_count b) (part_ghost_count b))
  length-same = rw (count_same, ghosts-same, differ.same_length)

  part-sound-same : (table : List ℕ) (rank : ℕ) → part_sound a table rank ≡ part_sound b table rank
  unfolding part_sound
  part-sound-same table rank =
      either (eqb (length a) (part_size n g))
      (λ p. ap₂ ◌&&◌ (ap₂ ◌&&◌ (header_same table rank) length-same) (records_same (eqb-true _ _ p)))
      (λ p.
      middle (part_header_sound a table rank) (eqb (length a) (part_size n g)) (records_hold (view_of a)) p
      ∙ sym (middle (part_header_sound b table rank) (eqb (length b) (part_size (part_count b) (part_ghost_count b))) (records_hold (view_of b)) (sym length-same ∙ p)))

  part-alike : (table : List ℕ) (rank : ℕ) → part_refusal a table rank ≡ part_refusal b table rank
  unfolding part_refusal
  part-alike table rank = rw (part-sound-same table rank)

pub regions_free : RegionsFree
regions_free = record { mesh = mesh-alike; part = λ a b table rank differ wa wb. part-alike a b differ wa wb table rank }
