-- Laws of sound parts: what whoever reads one may take for granted.
use Prim.Native.Nat.{ℕ, ◌+◌, ◌-◌, ◌≤◌, ◌<◌}
use native.Mathlib.Nat.{zero-add}
use native.Mathlib.Omega.{arith}
use mathlib.Core.Path.{◌≡◌, sym, ap, fun_ext, ◌∙◌}
use mathlib.Core.Bool.{Bool, true, false, not, ◌&&◌, and-false}
use mathlib.Core.List.{List}
use lib.Dec.{leb, ltb, eqb}
use lib.ListN.{length}
use borrow.Author.Tests.{ltb-true, eqb-true, lt-ltb, ne_eqb}
use Rattle.encoding.specs.Below.{any_below}
use Rattle.encoding.specs.Numbers.{u32_at}
use Rattle.encoding.specs.Pieces.{piece, Bytes}
use Rattle.encoding.proofs.Below.{either, tests, clash, and_fst, and_snd, and_intro, iff_eq, any_at, any_intro, any_none}
use Rattle.encoding.proofs.Pieces.{piece_length}
use Rattle.offsets.specs.Table.{ranks, ranks_ok, trees, valid, first_tree, end_tree, tree_count, holds}
use Rattle.offsets.proofs.Tables.{end_trees, count_add}
use Rattle.records.specs.Shape.{dimension_of, face_count, faces_in}
use Rattle.records.specs.Record.{core_size, unused, number_of, shape_of, neighbour_of, face_of, orientation_of, in_form}
use Rattle.records.proofs.Forms.{at_piece}
use Rattle.mesh.specs.Link.{orientation_ok, link_ok}
use Rattle.mesh.specs.Mesh.{dimension_ok, face_neighbour}
use Rattle.mesh.proofs.Soundness.{link_there, link_answered}
use Rattle.part.specs.Layout.{part_header, tree_place, ghost_place, part_size}
use Rattle.part.specs.Cut.{renamed}
use Rattle.part.specs.Means.{beside_rank, is_local, ghost_is, held, held_core, view_sound, part_linked}
use Rattle.part.proofs.Sound.{sound_linked}
use Rattle.part.proofs.Same.{records_same}
use Rattle.part.specs.Part.{part_dimension, part_k, part_first, part_count, part_ghost_count, stored_tree, stored_ghost, global_number, global_tree, part_holds, part_core, part_header_sound, part_sound}
use Rattle.part_theorems.proofs.Renamed.{renamed_length}
use Rattle.part.proofs.Views.{local_at, local_range, core_tree, core_ghost, held_cases, local_held, ghost_at_held, view_ghosts, view_ascends, view_number, view_form, view_shape, view_link, view_neighbour, view_far, view_beside, view_below, held_same, core_same}

-- ---- the header

-- what a sound header says
pub record PartSays (part table : List ℕ) (rank : ℕ) : Type 0 where
  pub dimension : dimension_ok (part_dimension part) ≡ true
  pub all_trees : part_k part ≡ trees table
  pub all_ranks : u32_at part 8 ≡ ranks table
  pub own_rank : u32_at part 12 ≡ rank
  pub first_tree_lem : part_first part ≡ first_tree table rank
  pub tree_count_lem : part_count part ≡ tree_count table rank
  pub last_word : u32_at part 28 ≡ 0

-- a sound header says so
pub part_says : (part table : List ℕ) (rank : ℕ) → part_header_sound part table rank ≡ true → PartSays part table rank
unfolding part_header_sound
part_says part table rank e0 =
    let a : Bool = dimension_ok (part_dimension part) in
    let b : Bool = eqb (part_k part) (trees table) in
    let c : Bool = eqb (u32_at part 8) (ranks table) in
    let d : Bool = eqb (u32_at part 12) rank in
    let e : Bool = eqb (part_first part) (first_tree table rank) in
    let f : Bool = eqb (part_count part) (tree_count table rank) in
    let g : Bool = eqb (u32_at part 28) 0 in
    let t6 = and_fst (a && b && c && d && e && f) g e0 in
    let t5 = and_fst (a && b && c && d && e) f t6 in
    let t4 = and_fst (a && b && c && d) e t5 in
    let t3 = and_fst (a && b && c) d t4 in
    let t2 = and_fst (a && b) c t3 in
    record {
      dimension = and_fst a b t2;
      all_trees = eqb-true _ _ (and_snd a b t2);
      all_ranks = eqb-true _ _ (and_snd (a && b) c t3);
      own_rank = eqb-true _ _ (and_snd (a && b && c) d t4);
      first_tree_lem = eqb-true _ _ (and_snd (a && b && c && d) e t5);
      tree_count_lem = eqb-true _ _ (and_snd (a && b && c && d && e) f t6);
      last_word = eqb-true _ _ (and_snd (a && b && c && d && e && f) g e0);
    }

-- a range by its first number and its length
range_is : (a e k : ℕ) → (leb a k && ltb k (a + (e - a))) ≡ (leb a k && ltb k e)
range_is a e k =
    either (leb a k)
    (λ p. rw p (iff_eq (ltb k (a + (e - a))) (ltb k e) (λ q. lt-ltb k e (omega tests)) (λ q. lt-ltb k (a + (e - a)) (omega tests))))
    (λ p. rw p)

-- ---- the records

module _ (part table : List ℕ) (rank : ℕ) (sound : part_sound part table rank ≡ true) where
  abbrev length_ok : Bool
  length_ok = eqb (length part) (part_size (part_count part) (part_ghost_count part))

  -- the header is as table and rank say
  pub part_header_lem : PartSays part table rank
  unfolding part_sound
  part_header_lem = part_says part table rank (and_fst (part_header_sound part table rank) length_ok (and_fst (part_header_sound part table rank && length_ok) _ sound))

  -- the length is exact
  pub part_length : length part ≡ part_size (part_count part) (part_ghost_count part)
  unfolding part_sound
  part_length = eqb-true _ _ (and_snd (part_header_sound part table rank) length_ok (and_fst (part_header_sound part table rank && length_ok) _ sound))

  -- and the records are sound
  pub part_view : view_sound (part_first part) (part_count part) (part_ghost_count part) (global_tree part) (stored_ghost part) (part_dimension part) (part_k part) ≡ true
  unfolding part_linked
  part_view = and_snd (part_header_sound part table rank && length_ok) _ (sound_linked part table rank sound)

  abbrev inside : ℕ → Bool
  inside = is_local (part_first part) (part_count part) (part_ghost_count part) (global_tree part) (stored_ghost part)

  -- its trees are those of f(rank)
  inside_is : (k : ℕ) → inside k ≡ holds table rank k
  unfolding is_local holds tree_count
  inside_is k =
      rw (part_header_lem.first_tree_lem, part_header_lem.tree_count_lem) (range_is (first_tree table rank) (end_tree table rank) k)

  -- a tree of f(rank) is held
  pub part_tree_lem : (k : ℕ) → holds table rank k ≡ true → part_holds part k ≡ true
  unfolding part_holds held is_local ghost_is
  part_tree_lem k e = local_held (part_first part) (part_count part) (part_ghost_count part) (global_tree part) (stored_ghost part) k (inside_is k ∙ e)

  module _ (k : ℕ) (has : part_holds part k ≡ true) where
    -- each record held has its number
    pub part_number : number_of (part_core part k) ≡ k
    unfolding part_holds part_core held held_core is_local ghost_is
    part_number = view_number _ _ _ _ _ _ _ part_view k has

    -- is in form
    pub part_form : in_form k (part_core part k) ≡ true
    unfolding part_holds part_core held held_core is_local ghost_is
    part_form = view_form _ _ _ _ _ _ _ part_view k has

    -- has a shape of the dimension
    pub part_shape : dimension_of (shape_of (part_core part k)) ≡ part_dimension part
    unfolding part_holds part_core held held_core is_local ghost_is
    part_shape = view_shape _ _ _ _ _ _ _ part_view k has

    module _ (f : ℕ) (face : f < face_count (shape_of (part_core part k))) where
      -- every neighbour of a tree is held
      pub part_held : holds table rank k ≡ true → part_holds part (neighbour_of (part_core part k) f) ≡ true
      unfolding part_holds part_core held held_core is_local ghost_is
      part_held e = view_neighbour _ _ _ _ _ _ _ part_view k has f face (inside_is k ∙ e)

      -- a link between two records held obeys the whole mesh rule
      pub part_link : part_holds part (neighbour_of (part_core part k) f) ≡ true → link_ok (part_core part) k f ≡ true
      unfolding part_holds part_core held held_core is_local ghost_is
      part_link p = view_link _ _ _ _ _ _ _ part_view k has f face p

      -- so it is answered by the neighbour's link back, with the same orientation
      pub part_answered : part_holds part (neighbour_of (part_core part k) f) ≡ true
          → (neighbour_of (part_core part (neighbour_of (part_core part k) f)) (face_of (part_core part k) f) ≡ k)
          × (face_of (part_core part (neighbour_of (part_core part k) f)) (face_of (part_core part k) f) ≡ f)
          × (orientation_of (part_core part (neighbour_of (part_core part k) f)) (face_of (part_core part k) f) ≡ orientation_of (part_core part k) f)
      part_answered p = link_answered (part_core part) k f (part_link p)

      -- at a face that the neighbour's shape has
      pub part_there : part_holds part (neighbour_of (part_core part k) f) ≡ true → face_of (part_core part k) f < face_count (shape_of (part_core part (neighbour_of (part_core part k) f)))
      part_there p = link_there (part_core part) k f (part_link p)

      -- a link to a tree not held has a number below K and an orientation below the corners of the face
      pub part_far : part_holds part (neighbour_of (part_core part k) f) ≡ false → (neighbour_of (part_core part k) f < part_k part) × (orientation_ok (part_core part k) f ≡ true)
      unfolding part_holds part_core held held_core is_local ghost_is
      part_far p = view_far _ _ _ _ _ _ _ part_view k has f face p

  -- the record of tree i
  pub part_core_tree : (i : ℕ) → i < part_count part → part_core part (part_first part + i) ≡ global_tree part i
  unfolding part_core held_core is_local ghost_is
  part_core_tree i h = core_tree (part_first part) (part_count part) (part_ghost_count part) (global_tree part) (stored_ghost part) i h

  -- the record of ghost j
  pub part_core_ghost : (j : ℕ) → j < part_ghost_count part → part_core part (number_of (stored_ghost part j)) ≡ stored_ghost part j
  unfolding part_core held_core is_local ghost_is
  part_core_ghost j h = core_ghost _ _ _ _ _ _ _ part_view j h

  -- it is held
  pub part_ghost_held : (j : ℕ) → j < part_ghost_count part → part_holds part (number_of (stored_ghost part j)) ≡ true
  unfolding part_holds held is_local ghost_is
  part_ghost_held j h = ghost_at_held (part_first part) (part_count part) (part_ghost_count part) (global_tree part) (stored_ghost part) j h

  -- its number is below K
  pub part_ghost_below : (j : ℕ) → j < part_ghost_count part → number_of (stored_ghost part j) < part_k part
  part_ghost_below j h = (view_ghosts _ _ _ _ _ _ _ part_view j h).below

  -- and outside f(rank)
  pub part_outside : (j : ℕ) → j < part_ghost_count part → holds table rank (number_of (stored_ghost part j)) ≡ false
  part_outside j h = sym (inside_is (number_of (stored_ghost part j))) ∙ (view_ghosts _ _ _ _ _ _ _ part_view j h).outside

  -- ghosts ascend
  pub part_ascends : (i j : ℕ) → i < j → j < part_ghost_count part → number_of (stored_ghost part i) < number_of (stored_ghost part j)
  part_ascends i j h l = view_ascends _ _ _ _ _ _ _ part_view i j h l

  tree_long : (i : ℕ) → i < part_count part → length (global_tree part i) ≡ core_size
  unfolding global_tree stored_tree
  tree_long i h = renamed_length (global_number part) (faces_in (part_dimension part)) _ (piece_length part (tree_place i) core_size (omega (arith, part_length)))

  ghost_long : (j : ℕ) → j < part_ghost_count part → length (stored_ghost part j) ≡ core_size
  unfolding stored_ghost
  ghost_long j h = piece_length part (ghost_place (part_count part) j) core_size (omega (arith, part_length))

  -- each record held has 40 bytes
  pub part_core_long : (k : ℕ) → part_holds part k ≡ true → length (part_core part k) ≡ core_size
  unfolding part_holds held is_local ghost_is
  part_core_long k e =
      held_cases (part_first part) (part_count part) (part_ghost_count part) (global_tree part) (stored_ghost part) k e
      (λ i h p. rw (p, part_core_tree i h) (tree_long i h))
      (λ j h p o. rw (← p, part_core_ghost j h) (ghost_long j h))

  -- ---- for a valid table

  module _ (bytes : Bytes table) (ranks_ok_lem : ranks_ok table ≡ true) (valid-ok : valid table ≡ true) (below : rank < ranks table) where
    abbrev K : ℕ
    K = part_k part

    trees_fit : part_first part + part_count part ≤ K
    trees_fit =
        let h = part_header_lem in
        omega (arith, count_add table bytes ranks_ok_lem valid-ok rank below, end_trees table bytes ranks_ok_lem valid-ok rank below)

    -- every record held is below K
    pub part_below : (k : ℕ) → part_holds part k ≡ true → k < part_k part
    unfolding part_holds held is_local ghost_is
    part_below k e = view_below _ _ _ _ _ _ _ part_view trees_fit k e

    -- and so is each of its neighbours
    pub part_neighbour_below : (k : ℕ) → part_holds part k ≡ true → (f : ℕ) → f < face_count (shape_of (part_core part k)) → neighbour_of (part_core part k) f < part_k part
    part_neighbour_below k e f h =
        either (part_holds part (neighbour_of (part_core part k) f)) (part_below (neighbour_of (part_core part k) f)) (λ p. (part_far k e f h p).0)

    abbrev near : ℕ → ℕ → Bool
    near k m = holds table rank m && face_neighbour (part_core part) m k

    abbrev near_tree : ℕ → ℕ → Bool
    near_tree k i = face_neighbour (part_core part) (part_first part + i) k

    -- the trees of f(rank) among the K
    beside-is : (k : ℕ) → any_below (part_count part) (near_tree k) ≡ beside_rank (part_core part) table rank K k
    unfolding beside_rank
    beside-is k =
        iff_eq (any_below (part_count part) (near_tree k)) (any_below K (near k))
        (λ e.
        let a = any_at (part_count part) (near_tree k) e in
        let m : ℕ = part_first part + a.0 in
        let h : holds table rank m ≡ true = sym (inside_is m) ∙ local_at _ _ _ _ _ a.0 a.1 in
        any_intro K (near k) m (omega (arith, trees_fit, a.1)) (and_intro (holds table rank m) (face_neighbour (part_core part) m k) h a.2))
        (λ e.
        let a = any_at K (near k) e in
        let m : ℕ = a.0 in
        let h : inside m ≡ true = inside_is m ∙ and_fst (holds table rank m) (face_neighbour (part_core part) m k) a.2 in
        let r = local_range _ _ _ _ _ m h in
        let s : part_first part + (m - part_first part) ≡ m = omega arith in
        any_intro (part_count part) (near_tree k) (m - part_first part) (omega arith) (rw s (and_snd (holds table rank m) (face_neighbour (part_core part) m k) a.2)))

    -- the ghosts of a tree outside f(rank)
    outside-is : (k : ℕ) → holds table rank k ≡ false → any_below (part_ghost_count part) (λ j. eqb (number_of (stored_ghost part j)) k) ≡ beside_rank (part_core part) table rank K k
    unfolding part_core held_core is_local ghost_is
    outside-is k o = view_beside _ _ _ _ _ _ _ part_view k (inside_is k ∙ o) ∙ beside-is k

    -- the numbers of the ghosts are exactly the trees below K outside f(rank) that a tree of f(rank) has as a face neighbour
    pub sound_ghosts : (k : ℕ) → any_below (part_ghost_count part) (λ j. eqb (number_of (stored_ghost part j)) k) ≡ (ltb k (part_k part) && (not (holds table rank k) && beside_rank (part_core part) table rank (part_k part) k))
    sound_ghosts k =
        let g : ℕ = part_ghost_count part in
        let is : ℕ → Bool = λ j. eqb (number_of (stored_ghost part j)) k in
        let B : Bool = beside_rank (part_core part) table rank K k in
        either (holds table rank k)
        (λ e. rw (e, and-false) (any_none g is (λ j h. ne_eqb (number_of (stored_ghost part j)) k (λ q. clash e (rw q at (part_outside j h))))))
        (λ o.
        rw o
        (either (any_below g is)
        (λ p.
        let a = any_at g is p in
        let q : number_of (stored_ghost part a.0) ≡ k = eqb-true _ _ a.2 in
        rw (lt-ltb k K (rw q at (part_ghost_below a.0 a.1))) (outside-is k o))
        (λ p. let b : B ≡ false = sym (outside-is k o) ∙ p in rw (b, and-false) p)))

-- ---- soundness reads the length, the header and the cores alone

module _ (a b : List ℕ) (same_header : piece a 0 part_header ≡ piece b 0 part_header) where
  word_same : (off : ℕ) → off + 4 ≤ part_header → u32_at a off ≡ u32_at b off
  word_same off h =
      rw zero-add at (sym (at_piece 4 a 0 part_header off h) ∙ ap (λ (p : List ℕ). u32_at p off) same_header ∙ at_piece 4 b 0 part_header off h)

  pub dimension_same : part_dimension a ≡ part_dimension b
  unfolding part_dimension
  dimension_same = word_same 0 (omega arith)

  k_same : part_k a ≡ part_k b
  unfolding part_k
  k_same = word_same 4 (omega arith)

  pub first_same : part_first a ≡ part_first b
  unfolding part_first
  first_same = word_same 16 (omega arith)

  count_same : part_count a ≡ part_count b
  unfolding part_count
  count_same = word_same 20 (omega arith)

  ghosts-same : part_ghost_count a ≡ part_ghost_count b
  unfolding part_ghost_count
  ghosts-same = word_same 24 (omega arith)

  header_same : (table : List ℕ) (rank : ℕ) → part_header_sound a table rank ≡ part_header_sound b table rank
  unfolding part_header_sound
  header_same table rank = rw (dimension_same, k_same, word_same 8 (omega arith), word_same 12 (omega arith), first_same, count_same, word_same 28 (omega arith))

  module _ (same_trees_lem : (i : ℕ) → i < part_count a → stored_tree a i ≡ stored_tree b i) (same_ghosts : (j : ℕ) → j < part_ghost_count a → stored_ghost a j ≡ stored_ghost b j) where
    pub index_same : (j : ℕ) → global_number a j ≡ global_number b j
    unfolding global_number
    index_same j =
        rw (← count_same, ← ghosts-same)
        (either (eqb j unused) (λ p. rw p)
        (λ p. rw p
        (either (ltb j (part_count a)) (λ q. rw (q, same_trees_lem j (ltb-true _ _ q)))
        (λ q. rw q
        (either (ltb j (part_count a + part_ghost_count a)) (λ s. rw (s, same_ghosts (j - part_count a) (omega tests))) (λ s. rw s))))))

    tree-same : (i : ℕ) → i < part_count a → global_tree a i ≡ global_tree b i
    unfolding global_tree
    tree-same i h =
        rw (dimension_same, same_trees_lem i h) (ap (λ (rename : ℕ → ℕ). renamed rename (faces_in (part_dimension b)) (stored_tree b i)) (fun_ext index_same))

    -- two parts of the same length, header and cores are both sound or neither
    pub part_cores : length a ≡ length b → (table : List ℕ) (rank : ℕ) → part_sound a table rank ≡ part_sound b table rank
    unfolding part_sound
    part_cores l table rank =
        rw (
          header_same table rank,
          l,
          records_same (part_dimension a) (part_k a) (part_first a) (part_count a) (part_ghost_count a) (stored_tree a) (stored_tree b) (global_tree a) (global_tree b) (stored_ghost a) (stored_ghost b) same_trees_lem tree-same same_ghosts,
          first_same,
          count_same,
          ghosts-same,
          dimension_same,
          k_same,
        )

    -- and hold the same cores
    pub holds_same : (k : ℕ) → part_holds a k ≡ part_holds b k
    unfolding part_holds held is_local ghost_is
    holds_same k =
        rw (← first_same, ← count_same, ← ghosts-same)
        (held_same (part_first a) (part_count a) (part_ghost_count a) (global_tree a) (global_tree b) (stored_ghost a) (stored_ghost b) tree-same same_ghosts k)

    pub cores_same : (k : ℕ) → part_holds a k ≡ true → part_core a k ≡ part_core b k
    unfolding part_holds part_core held held_core is_local ghost_is
    cores_same k e =
        rw (← first_same, ← count_same, ← ghosts-same)
        (core_same (part_first a) (part_count a) (part_ghost_count a) (global_tree a) (global_tree b) (stored_ghost a) (stored_ghost b) tree-same same_ghosts k e)
