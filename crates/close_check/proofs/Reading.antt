-- Reading the joined part back: its header, trees and ghosts are the area's, so it is sound where the slots are.
use Prim.Native.Nat.{ℕ, ◌+◌, ◌-◌, ◌*◌, ◌≤◌, ◌<◌}
use native.Mathlib.Nat.{add-zero, zero-add, add-sub_cancel_left}
use native.Mathlib.Omega.{arith}
use mathlib.Core.Path.{◌≡◌, refl, sym, ap, ◌∙◌}
use mathlib.Core.Bool.{Bool, true, false, ◌&&◌, ◌||◌}
use mathlib.Core.List.{List, [], ◌∷◌, ◌++◌, map, append-nil}
use lib.Dec.{leb, ltb, eqb}
use lib.ListN.{length, get_or}
use borrow.Author.Tests.{leb-true, ltb-true, eqb-true, lt-ltb, le-ltb, le-leb, eq-eqb, ne_eqb}
use Rattle.encoding.specs.Below.{any_below, least_below}
use Rattle.encoding.specs.Numbers.{le_bytes, u32_at}
use Rattle.encoding.specs.Pieces.{piece, splice, Bytes}
use Rattle.encoding.proofs.Below.{either, tests, clash, and_fst, and_snd, iff_eq, least_lt, least_at, least_le, least_none}
use Rattle.encoding.proofs.Numbers.{at_bound}
use Rattle.encoding.proofs.Pieces.{piece_length, piece_same, bytes_piece, length_splice}
use Rattle.offsets.specs.Limits.{max_trees}
use Rattle.offsets.specs.Table.{ranks, first_tree, holds, ranks_ok, valid}
use Rattle.pattern.specs.Sender.{Tables}
use Rattle.records.specs.Shape.{face_count, faces_in}
use Rattle.records.specs.Record.{core_size, tree_size, unused, number_of, shape_of, neighbour_of}
use Rattle.records.specs.Links.{rows_of, neighbour_bytes, code_bytes, with_rows}
use Rattle.records.proofs.Forms.{piece_piece, neighbour_word, form_unused, unused_neighbour}
use Rattle.records.proofs.Rows.{splice_inside}
use Rattle.records.proofs.Shapes.{count_six, faces_positive}
use Rattle.part.specs.Layout.{part_header, tree_place, ghost_place, part_size, header_bytes}
use Rattle.part.specs.Cut.{renamed, rename_row}
use Rattle.part.specs.Means.{in_range, is_local, ghost_is, held, view_sound, part_linked}
use Rattle.part.specs.Part.{no_tree, part_dimension, part_k, part_first, part_count, part_ghost_count, stored_tree, stored_ghost, global_number, global_tree, part_header_sound, part_sound}
use Rattle.part.proofs.Sound.{part_sound_is}
use Rattle.part.proofs.Records.{links_length, header_length, rows_core}
use Rattle.part_theorems.proofs.Renamed.{renamed_length, renamed_number, renamed_shape, renamed_neighbour, renamed_back}
use Rattle.part_theorems.proofs.SoundParts.{part_view}
use Rattle.part.proofs.Views.{view_trees, view_ghosts, view_same, core_tree, held_cases, tree_link_held}
use Rattle.area.specs.Layout.{slots_place, slots_of}
use Rattle.area.specs.Area.{area_dimension, area_k, area_p, area_rank, area_count, area_ghosts, area_old, area_new, area_first, tree_slot, tree_slot_core, ghost_slot, area_sound}
use Rattle.area.specs.Close.{all_heard, join_index, joined_part}
use Rattle.area.specs.Means.{HeaderHolds}
use Rattle.area.proofs.Soundness.{sound_holds}
use Rattle.area.proofs.Ranges.{range_trees}
use Rattle.area_theorems.proofs.Again.{area_parts, new_ranks_lem, sound_ghosts}
use Rattle.area_theorems.proofs.Joined.{words, word_at_lem, piece_first, piece_behind, slots_length, slots_at}
use Rattle.area_theorems.proofs.Kept.{Ghosts}
use Rattle.area_theorems.proofs.Zones.{few_trees, core_slot}
use Rattle.close_check.specs.Means.{join_sound}
use Rattle.close_check.proofs.AreaSlots.{slot_long, ghost_long, tree_long, joined_length, few_held, range_is, ghost_held, tree_form, tree_number, neighbour_held}

-- ---- a record

-- bytes written into the first n of a list
piece_splice : (r : List ℕ) (j n : ℕ) (X : List ℕ) → j + length X ≤ n → n ≤ length r → piece (splice r j X) 0 n ≡ splice (piece r 0 n) j X
piece_splice r j n X h k =
    let P : List ℕ = splice (piece r 0 n) j X in
    let l : length P ≡ n = length_splice (piece r 0 n) j X (omega (arith, piece_length r 0 n (omega arith))) ∙ piece_length r 0 n (omega arith) in
    let e : splice r 0 P ≡ splice r j X = rw zero-add at (splice_inside r 0 n j X h (omega arith)) in
    ap (λ (s : List ℕ). piece s 0 n) (sym e) ∙ ap (λ (m : ℕ). piece (splice r 0 P) 0 m) (sym l) ∙ piece_same r 0 P (omega arith)

-- the links of a slot's record are those of its core
same_rows : (F : ℕ) (a : List ℕ) (i : ℕ) → rows_of (tree_slot a i) F ≡ rows_of (tree_slot_core a i) F
unfolding tree_slot tree_slot_core
same_rows F a i = rows_core a (slots_place (area_p a) + tree_size * i) F

-- the core of a slot's record with its neighbours renamed is the core with its neighbours renamed
slot_core : (rename : ℕ → ℕ) (F : ℕ) (a : List ℕ) (i : ℕ) → length (tree_slot a i) ≡ tree_size → piece (renamed rename F (tree_slot a i)) 0 core_size ≡ renamed rename F (tree_slot_core a i)
unfolding renamed with_rows
slot_core rename F a i l =
    let rows : List (List ℕ) = map (rename_row rename) (rows_of (tree_slot a i) F) in
    piece_splice (tree_slot a i) 8 core_size (neighbour_bytes rows 6 ++ code_bytes rows F 6) (omega (arith, links_length rows F)) (omega (arith, l)) ∙ rw (← core_slot a i, same_rows F a i)

-- ---- the header

module _ (d K P rank first n g : ℕ) where
  abbrev numbers : List ℕ
  numbers = d ∷ K ∷ P ∷ rank ∷ first ∷ n ∷ g ∷ 0 ∷ []

  -- number i is read back
  header_at : (rest : List ℕ) (i : ℕ) → i < 8 → get_or numbers i 0 < 4294967296 → u32_at (header_bytes d K P rank first n g ++ rest) (4 * i) ≡ get_or numbers i 0
  unfolding words header_bytes
  header_at rest i h b = rw (← append-nil (le_bytes 4 0)) (word_at_lem numbers rest i h b)

or_fst : (x y : Bool) → (x || y) ≡ false → x ≡ false
or_fst true y e = e
or_fst false y e = refl

or_snd : (x y : Bool) → (x || y) ≡ false → y ≡ false
or_snd true y e = clash refl e
or_snd false y e = e

range_bounds : (low end k : ℕ) → in_range low end k ≡ true → (low ≤ k) × (k < end)
unfolding in_range
range_bounds low end k e = (leb-true low k (and_fst (leb low k) (ltb k end) e), ltb-true k end (and_snd (leb low k) (ltb k end) e))

-- for a valid table and a rank of it, a part is sound where its header, its length and its records are
pub part_sound_view : (part table : List ℕ) (rank : ℕ) → Bytes table → ranks_ok table ≡ true → valid table ≡ true → rank < ranks table
    → part_sound part table rank
    ≡ (part_header_sound part table rank && eqb (length part) (part_size (part_count part) (part_ghost_count part))
    && view_sound (part_first part) (part_count part) (part_ghost_count part) (global_tree part) (stored_ghost part) (part_dimension part) (part_k part))
unfolding part_linked
part_sound_view part table rank bytes counted checked below = part_sound_is part table rank bytes (record { counted = counted; checked = checked; below = below })

module _ (a : List ℕ) (b : Bytes a) (sound : area_sound a ≡ true) where
  abbrev part : List ℕ
  part = joined_part a

  abbrev first : ℕ
  first = area_first a

  abbrev n : ℕ
  n = area_count a

  abbrev g : ℕ
  g = area_ghosts a

  abbrev F : ℕ
  F = faces_in (area_dimension a)

  abbrev tree : ℕ → List ℕ
  tree i = renamed (join_index a) (faces_in (area_dimension a)) (tree_slot a i)

  header : HeaderHolds a
  header = sound_holds a sound b

  G : Ghosts (area_k a) (area_new a) (area_rank a) (area_ghosts a) (ghost_slot a)
  G = sound_ghosts a b sound

  few : first + n ≤ max_trees
  few = omega (arith, range_trees a header, few_trees _ _ header.tables)

  word : (i : ℕ) → i < 8 → get_or (numbers (area_dimension a) (area_k a) (area_p a) (area_rank a) first n g) i 0 < 4294967296
      → u32_at part (4 * i) ≡ get_or (numbers (area_dimension a) (area_k a) (area_p a) (area_rank a) first n g) i 0
  unfolding joined_part
  word = header_at (area_dimension a) (area_k a) (area_p a) (area_rank a) first n g (slots_of tree n ++ slots_of (ghost_slot a) g)

  pub read_dimension : part_dimension (joined_part a) ≡ area_dimension a
  unfolding part_dimension area_dimension
  read_dimension = word 0 (omega arith) (at_bound 4 a 4 b)

  pub read_k : part_k (joined_part a) ≡ area_k a
  unfolding part_k area_k
  read_k = word 1 (omega arith) (at_bound 4 a 8 b)

  pub read_ranks_lem : u32_at (joined_part a) 8 ≡ area_p a
  unfolding area_p
  read_ranks_lem = word 2 (omega arith) (at_bound 4 a 12 b)

  pub read_rank : u32_at (joined_part a) 12 ≡ area_rank a
  unfolding area_rank
  read_rank = word 3 (omega arith) (at_bound 4 a 16 b)

  pub read_first : part_first (joined_part a) ≡ area_first a
  unfolding part_first
  read_first = word 4 (omega arith) (omega (arith, few))

  pub read_count : part_count (joined_part a) ≡ area_count a
  unfolding part_count
  read_count = word 5 (omega arith) (omega (arith, few))

  pub read_ghosts : part_ghost_count (joined_part a) ≡ area_ghosts a
  unfolding part_ghost_count area_ghosts
  read_ghosts = word 6 (omega arith) (at_bound 4 a 24 b)

  pub read_last : u32_at (joined_part a) 28 ≡ 0
  read_last = word 7 (omega arith) (omega arith)

  -- the header is as the new table says
  header-sound : part_header_sound part (area_new a) (area_rank a) ≡ true
  unfolding part_header_sound area_first
  header-sound =
      let h = (area_parts a sound).header in
      rw (
        read_dimension,
        read_k,
        read_ranks_lem,
        read_rank,
        read_first,
        read_count,
        read_last,
        h.dimension_ok_lem,
        h.new_trees,
        new_ranks_lem a b sound,
        ← h.is_count,
        eq-eqb (area_k a) (area_k a) refl,
        eq-eqb (area_p a) (area_p a) refl,
        eq-eqb (area_rank a) (area_rank a) refl,
        eq-eqb (first_tree (area_new a) (area_rank a)) (first_tree (area_new a) (area_rank a)) refl,
        eq-eqb (area_count a) (area_count a) refl,
      )

  length-ok : eqb (length part) (part_size (part_count part) (part_ghost_count part)) ≡ true
  length-ok = eq-eqb (length part) (part_size (part_count part) (part_ghost_count part)) (rw (read_count, read_ghosts) (joined_length a sound))

  -- ---- trees and ghosts

  trees_long : length (slots_of tree n) ≡ tree_size * n
  trees_long = slots_length tree tree_size n (tree_long a sound)

  behind : (off m : ℕ) → piece part (part_header + off) m ≡ piece (slots_of tree n ++ slots_of (ghost_slot a) g) off m
  unfolding joined_part
  behind off m =
      piece_behind (header_bytes (area_dimension a) (area_k a) (area_p a) (area_rank a) first n g) (slots_of tree n ++ slots_of (ghost_slot a) g) part_header off (part_header + off) m
      (header_length (area_dimension a) (area_k a) (area_p a) (area_rank a) first n g) refl

  tree-at : (i : ℕ) → i < n → piece part (tree_place i) tree_size ≡ tree i
  tree-at i h =
      behind (tree_size * i) tree_size
      ∙ piece_first (slots_of tree n) (slots_of (ghost_slot a) g) (tree_size * i) tree_size (omega (arith, trees_long))
      ∙ slots_at tree tree_size n (tree_long a sound) i h

  -- tree i as it stands
  pub stored_tree_lem : (i : ℕ) → i < area_count a → stored_tree (joined_part a) i ≡ renamed (join_index a) (faces_in (area_dimension a)) (tree_slot_core a i)
  unfolding stored_tree
  stored_tree_lem i h =
      ap (λ (o : ℕ). piece part o core_size) (sym (add-zero (tree_place i)))
      ∙ sym (piece_piece part (tree_place i) tree_size 0 core_size (omega arith))
      ∙ ap (λ (r : List ℕ). piece r 0 core_size) (tree-at i h)
      ∙ slot_core (join_index a) F a i (slot_long a sound i h)

  -- ghost j is that of the slot
  pub stored_ghost_lem : (j : ℕ) → j < area_ghosts a → stored_ghost (joined_part a) j ≡ ghost_slot a j
  unfolding stored_ghost
  stored_ghost_lem j h =
      ap (λ (m : ℕ). piece part (ghost_place m j) core_size) read_count
      ∙ behind (tree_size * n + core_size * j) core_size
      ∙ piece_behind (slots_of tree n) (slots_of (ghost_slot a) g) (tree_size * n) (core_size * j) (tree_size * n + core_size * j) core_size trees_long refl
      ∙ slots_at (ghost_slot a) core_size g (ghost_long a sound) j h

  core-long : (i : ℕ) → i < n → length (tree_slot_core a i) ≡ core_size
  core-long i h = ap length (core_slot a i) ∙ piece_length (tree_slot a i) 0 core_size (omega (arith, slot_long a sound i h))

  core-bytes : (i : ℕ) → Bytes (tree_slot_core a i)
  unfolding tree_slot_core
  core-bytes i = bytes_piece a (slots_place (area_p a) + tree_size * i) core_size b

  -- ---- local indices and back

  abbrev is : ℕ → ℕ → Bool
  is k j = eqb (number_of (ghost_slot a j)) k

  abbrev has : ℕ → Bool
  has = held (area_first a) (area_count a) (area_ghosts a) (tree_slot_core a) (ghost_slot a)

  -- a number not held is outside the range and no ghost's
  not-held : (k : ℕ) → has k ≡ false → (in_range first (first + n) k ≡ false) × (any_below g (is k) ≡ false)
  unfolding held is_local in_range ghost_is
  not-held k e = (or_fst (leb first k && ltb k (first + n)) (any_below g (is k)) e, or_snd (leb first k && ltb k (first + n)) (any_below g (is k)) e)

  -- an index has 32 bits
  join-word : (k : ℕ) → k < 4294967296 → join_index a k < 4294967296
  unfolding join_index
  join-word k l =
      either (eqb k unused) (λ p. rw p (omega arith))
      (λ p. rw p (either (holds (area_new a) (area_rank a) k) (λ q. rw q (omega arith)) (λ q. rw q (omega (arith, least_le g (is k), few_held a b sound)))))

  -- the trees of the range
  local-holds : (i : ℕ) → i < n → holds (area_new a) (area_rank a) (first_tree (area_new a) (area_rank a) + i) ≡ true
  unfolding area_first in_range
  local-holds i h =
      let k : ℕ = first_tree (area_new a) (area_rank a) + i in
      sym (range_is a b sound k) ∙ rw (le-leb (first_tree (area_new a) (area_rank a)) k (omega arith), lt-ltb k (first_tree (area_new a) (area_rank a) + n) (omega arith))

  index_unused : (k : ℕ) → eqb k unused ≡ true → global_number part (join_index a k) ≡ k
  unfolding join_index global_number
  index_unused k e = rw e (sym (eqb-true k unused e))

  module _ (k : ℕ) (used : eqb k unused ≡ false) where
    join-local : holds (area_new a) (area_rank a) k ≡ true → join_index a k ≡ k - first
    unfolding join_index
    join-local e = rw (used, e)

    join-ghost : holds (area_new a) (area_rank a) k ≡ false → join_index a k ≡ n + least_below g (is k)
    unfolding join_index
    join-ghost e = rw (used, e)

    -- a ghost's index leads to its number
    index_ghost : holds (area_new a) (area_rank a) k ≡ false → any_below g (is k) ≡ true → global_number part (join_index a k) ≡ k
    unfolding global_number
    index_ghost o e =
        let m : ℕ = least_below g (is k) in
        let l : m < g = least_lt g (is k) e in
        let small = few_held a b sound in
        rw (join-ghost o, read_count, read_ghosts, ne_eqb (n + m) unused (λ q. omega arith), le-ltb (n + m) n (omega arith), lt-ltb (n + m) (n + g) (omega arith), add-sub_cancel_left n m, stored_ghost_lem m l)
        (eqb-true (number_of (ghost_slot a m)) k (least_at g (is k) e))

    -- the index of a number not held leads to no tree
    index_none : holds (area_new a) (area_rank a) k ≡ false → any_below g (is k) ≡ false → global_number part (join_index a k) ≡ no_tree
    unfolding global_number
    index_none o e =
        let small = few_held a b sound in
        rw (join-ghost o, least_none g (is k) e, read_count, read_ghosts, ne_eqb (n + g) unused (λ q. omega arith), le-ltb (n + g) n (omega arith), le-ltb (n + g) (n + g) (omega arith))

  -- ---- with all due senders heard

  module _ (heard_all : all_heard a ≡ true) where
    -- a tree's index leads to its number
    index_tree : (k : ℕ) → eqb k unused ≡ false → in_range first (first + n) k ≡ true → global_number part (join_index a k) ≡ k
    unfolding global_number
    index_tree k used e =
        let r = range_bounds first (first + n) k e in
        let i : ℕ = k - first in
        let h : i < n = omega arith in
        let s : first + i ≡ k = omega arith in
        rw (join-local k used (sym (range_is a b sound k) ∙ e), read_count, ne_eqb i unused (λ q. omega (arith, few)), lt-ltb i n h)
        (ap number_of (stored_tree_lem i h) ∙ renamed_number (join_index a) F (tree_slot_core a i) (core-long i h) ∙ tree_number a b sound heard_all i h ∙ s)

    -- every neighbour's index leads back, where each used face of a tree leads to a record held
    module _ (reached : (i : ℕ) → i < n → (f : ℕ) → f < face_count (shape_of (tree_slot_core a i)) → has (neighbour_of (tree_slot_core a i) f) ≡ true) where
      back : (i : ℕ) → i < n → (f : ℕ) → f < 6 → global_number part (join_index a (neighbour_of (tree_slot_core a i) f)) ≡ neighbour_of (tree_slot_core a i) f
      back i h f l =
          let r : List ℕ = tree_slot_core a i in
          let k : ℕ = neighbour_of r f in
          either (eqb k unused) (index_unused k)
          (λ p. either (in_range first (first + n) k) (index_tree k p)
          (λ q. either (ltb f (face_count (shape_of r)))
          (λ s. index_ghost k p (sym (range_is a b sound k) ∙ q) (ghost_held a b sound k (reached i h f (ltb-true f (face_count (shape_of r)) s)) q))
          (λ s. clash (eq-eqb k unused (unused_neighbour r f (form_unused (first + i) r (tree_form a b sound heard_all i h) f (omega tests) l))) p)))

      -- so the part has the trees of the slots
      tree-back : (i : ℕ) → i < n → global_tree part i ≡ tree_slot_core a i
      unfolding global_tree
      tree-back i h =
          rw (read_dimension, stored_tree_lem i h)
          (renamed_back (join_index a) (global_number part) F (tree_slot_core a i) (back i h) (core-bytes i) (core-long i h) (faces_positive (area_dimension a))
          (λ f l. join-word (neighbour_of (tree_slot_core a i) f) (neighbour_word (tree_slot_core a i) f (core-bytes i))))

      view_is : view_sound (part_first part) (part_count part) (part_ghost_count part) (global_tree part) (stored_ghost part) (part_dimension part) (part_k part) ≡ join_sound a
      unfolding join_sound
      view_is =
          rw (read_first, read_count, read_ghosts, read_dimension, read_k)
          (view_same first n g (global_tree part) (tree_slot_core a) (stored_ghost part) (ghost_slot a) tree-back stored_ghost_lem (area_dimension a) (area_k a))

      sound-is : part_sound part (area_new a) (area_rank a) ≡ join_sound a
      sound-is =
          let T : Tables (area_old a) (area_new a) = header.tables in
          let below : area_rank a < ranks (area_new a) = omega (arith, header.rank_below, header.ranks_are, T.same_ranks) in
          rw (part_sound_view part (area_new a) (area_rank a) T.new_bytes T.new_ranks T.new_valid below, header-sound, length-ok) view_is

    -- ---- a sound part

    module _ (part_sound_lem : part_sound part (area_new a) (area_rank a) ≡ true) where
      view : view_sound first n g (global_tree part) (stored_ghost part) (area_dimension a) (area_k a) ≡ true
      view = rw (read_first, read_count, read_ghosts, read_dimension, read_k) at (part_view part (area_new a) (area_rank a) part_sound_lem)

      -- what it holds is below K
      held_below_lem : (m : ℕ) → held first n g (global_tree part) (stored_ghost part) m ≡ true → m < max_trees
      held_below_lem m e =
          held_cases first n g (global_tree part) (stored_ghost part) m e
          (λ i h q. omega (arith, few))
          (λ j h q o. omega (arith, (view_ghosts first n g (global_tree part) (stored_ghost part) (area_dimension a) (area_k a) view j h).below, few_trees _ _ header.tables, header.trees_are))

      module _ (i : ℕ) (h : i < n) (f : ℕ) (face : f < face_count (shape_of (tree_slot_core a i))) where
        abbrev r : List ℕ
        r = tree_slot_core a i

        abbrev stored : List ℕ
        stored = renamed (join_index a) (faces_in (area_dimension a)) (tree_slot_core a i)

        six : f < 6
        six = omega (arith, count_six (shape_of r))

        stored-long : length stored ≡ core_size
        stored-long = renamed_length (join_index a) F r (core-long i h)

        same_shape : shape_of (global_tree part i) ≡ shape_of r
        unfolding global_tree
        same_shape = rw (read_dimension, stored_tree_lem i h) (renamed_shape (global_number part) F stored stored-long ∙ renamed_shape (join_index a) F r (core-long i h))

        stored-neighbour : neighbour_of stored f ≡ join_index a (neighbour_of r f)
        stored-neighbour = renamed_neighbour (join_index a) F r (core-long i h) f six (join-word (neighbour_of r f) (neighbour_word r f (core-bytes i)))

        global_neighbour : global_number part (join_index a (neighbour_of r f)) < 4294967296 → neighbour_of (global_tree part i) f ≡ global_number part (join_index a (neighbour_of r f))
        unfolding global_tree
        global_neighbour w =
            rw (read_dimension, stored_tree_lem i h) (renamed_neighbour (global_number part) F stored stored-long f six (rw stored-neighbour w) ∙ ap (global_number part) stored-neighbour)

        -- the neighbour that it reads is held
        neighbour_below : neighbour_of (global_tree part i) f < max_trees
        neighbour_below =
            let v = view_trees first n g (global_tree part) (stored_ghost part) (area_dimension a) (area_k a) view i h in
            let e = tree_link_held first n g (global_tree part) (stored_ghost part) (first + i) f (v.links f (rw same_shape face)) in
            held_below_lem (neighbour_of (global_tree part i) f) (rw (core_tree first n g (global_tree part) (stored_ghost part) i h) at e)

        -- so the slot's is
        reach : has (neighbour_of r f) ≡ true
        reach =
            let k : ℕ = neighbour_of r f in
            either (has k) (λ e. e)
            (λ e.
            let o = not-held k e in
            either (eqb k unused)
            (λ u.
            let m : global_number part (join_index a k) ≡ unused = index_unused k u ∙ eqb-true k unused u in
            absurd (omega (arith, neighbour_below, global_neighbour (rw m (omega arith)))))
            (λ u.
            let m : global_number part (join_index a k) ≡ no_tree = index_none k u (sym (range_is a b sound k) ∙ o.0) o.1 in
            absurd (omega (arith, neighbour_below, global_neighbour (rw m (omega arith))))))

-- the slots decide check 21: in a sound area with all due senders heard, their records are those of a sound part exactly where the joined part is sound
pub join_sound_part : (a : List ℕ) → Bytes a → area_sound a ≡ true → all_heard a ≡ true → join_sound a ≡ part_sound (joined_part a) (area_new a) (area_rank a)
join_sound_part a b sound full =
    iff_eq (join_sound a) (part_sound (joined_part a) (area_new a) (area_rank a))
    (λ e. sound-is a b sound full (neighbour_held a e) ∙ e)
    (λ e. sym (sound-is a b sound full (reach a b sound full e)) ∙ e)
