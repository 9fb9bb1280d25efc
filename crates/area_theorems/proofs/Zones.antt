-- An area read back: what stands in each of its zones.
use Prim.Native.Nat.{ℕ, ◌+◌, ◌-◌, ◌*◌, ◌/◌, ◌%◌, ◌≤◌, ◌<◌}
use native.Mathlib.Nat.{add-zero, mul-le-mul, mod-lt}
use native.Mathlib.Omega.{arith}
use mathlib.Core.Path.{◌≡◌, refl, sym, ap, ap₂, ◌∙◌}
use mathlib.Core.Bool.{Bool, true}
use mathlib.Core.List.{List, [], ◌∷◌, ◌++◌, append_assoc, append-nil}
use lib.Dec.{eqb}
use lib.ListN.{length, get_or, replicate, length-append, length-replicate}
use lib.Seq.{drop_at}
use Rattle.encoding.specs.Numbers.{le_bytes, le_at, u32_at}
use Rattle.encoding.specs.Pieces.{piece}
use Rattle.encoding.proofs.Below.{tests, either}
use Rattle.encoding.proofs.Numbers.{bytes_length, value_bytes}
use Rattle.offsets.specs.Limits.{max_ranks, max_trees}
use Rattle.offsets.specs.Table.{ranks, trees, first_tree, tree_count}
use Rattle.offsets.proofs.Tables.{size, ranks_high_lem, trees_high, end_trees, count_add}
use Rattle.records.specs.Shape.{faces_in}
use Rattle.records.specs.Record.{core_size, tree_size}
use Rattle.records.proofs.Shapes.{faces_six}
use Rattle.records.proofs.Forms.{piece_piece}
use Rattle.pattern.specs.Sender.{Tables}
use Rattle.mesh.specs.Mesh.{dimension_ok}
use Rattle.area.specs.Layout.{heard_words, ghost_bound, new_place, words_place, slots_place, ghost_slots_place, area_size, area_header_bytes, word_of, words_of, slots_of, area_with}
use Rattle.area.specs.Area.{area_epoch, area_dimension, area_k, area_p, area_rank, area_count, area_ghosts, area_old, area_new, area_first, heard, tree_slot, tree_slot_core, ghost_slot, behind_area}
use Rattle.area_theorems.proofs.Joined.{piece_first, piece_behind, piece_start, piece_replicate, words, word_at_lem, slots_length, slots_at, slots_same}
use Rattle.area_theorems.proofs.Heard.{word_small, word_bit, words_slots, words_same}

-- ---- the limits

-- the ghost slots are fewer than 2 ^ 32
pub bound_small : (d n : ℕ) → n ≤ max_trees → ghost_bound (faces_in d) n < 4294967296
unfolding ghost_bound
bound_small d n h = omega (arith, mul-le-mul (faces_six d) h)

pub dimension_small : (d : ℕ) → dimension_ok d ≡ true → d < 4294967296
unfolding dimension_ok
dimension_small d e =
    either (eqb d 2) (λ a. omega tests)
    (λ a. let b : eqb d 3 ≡ true = rw a at e in omega tests)

-- ---- the header

module _ (epoch dimension K P rank n g : ℕ) where
  -- eight numbers
  pub header_length : length (area_header_bytes epoch dimension K P rank n g) ≡ 32
  unfolding area_header_bytes
  header_length = simp (length-append, bytes_length)

  abbrev numbers : List ℕ
  numbers = epoch ∷ dimension ∷ K ∷ P ∷ rank ∷ n ∷ g ∷ 0 ∷ []

  -- number i is read back
  header_at : (rest : List ℕ) (i : ℕ) → i < 8 → get_or numbers i 0 < 4294967296 → u32_at (area_header_bytes epoch dimension K P rank n g ++ rest) (4 * i) ≡ get_or numbers i 0
  unfolding words area_header_bytes
  header_at rest i h b = rw (← append-nil (le_bytes 4 0)) (word_at_lem numbers rest i h b)

-- ---- any area

-- the core of a tree slot
pub core_slot : (a : List ℕ) (i : ℕ) → tree_slot_core a i ≡ piece (tree_slot a i) 0 core_size
unfolding tree_slot_core tree_slot
core_slot a i =
    let at : ℕ = slots_place (area_p a) + tree_size * i in
    ap (λ (o : ℕ). piece a o core_size) (sym (add-zero at)) ∙ sym (piece_piece a at tree_size 0 core_size (omega arith))

-- ---- the zones

-- what the zones of an area are made of
pub record Zones (epoch dimension : ℕ) (old new : List ℕ) (rank : ℕ) (slot : ℕ → List ℕ) (g : ℕ) (ghosts : List ℕ) : Type 0 where
  pub tables : Tables old new
  pub is_rank : rank < ranks old
  pub is_dimension : dimension_ok dimension ≡ true
  pub small_epoch : epoch < 4294967296
  pub slots_long : (i : ℕ) → i < tree_count new rank → length (slot i) ≡ tree_size
  pub ghosts_long : length ghosts ≡ core_size * g
  pub ghosts_fit : g ≤ ghost_bound (faces_in dimension) (tree_count new rank)

-- what is read from an area with these zones
pub record Reads (a : List ℕ) (epoch dimension : ℕ) (old new : List ℕ) (rank : ℕ) (H : ℕ → Bool) (slot : ℕ → List ℕ) (g : ℕ) (ghosts tail : List ℕ) : Type 0 where
  pub at_length : area_size dimension (ranks old) (tree_count new rank) ≤ length a
  pub at_epoch : area_epoch a ≡ epoch
  pub at_dimension : area_dimension a ≡ dimension
  pub at_k : area_k a ≡ trees old
  pub at_p : area_p a ≡ ranks old
  pub at_rank : area_rank a ≡ rank
  pub at_count : area_count a ≡ tree_count new rank
  pub at_ghosts : area_ghosts a ≡ g
  pub at_last : u32_at a 28 ≡ 0
  pub at_old : area_old a ≡ old
  pub at_new : area_new a ≡ new
  pub at_first : area_first a ≡ first_tree new rank
  pub at_heard : (s : ℕ) → s < 64 * heard_words (ranks old) → heard a s ≡ H s
  pub at_slot : (i : ℕ) → i < tree_count new rank → tree_slot a i ≡ slot i
  pub at_core : (i : ℕ) → i < tree_count new rank → tree_slot_core a i ≡ piece (slot i) 0 core_size
  pub at_ghost : (j : ℕ) → j < g → ghost_slot a j ≡ piece ghosts (core_size * j) core_size
  pub at_empty : (j : ℕ) → g ≤ j → j < ghost_bound (faces_in dimension) (tree_count new rank) → ghost_slot a j ≡ replicate core_size 0
  pub at_behind : behind_area a ≡ tail

-- P and K are within their limits
pub few_ranks : (old new : List ℕ) → Tables old new → ranks old ≤ max_ranks
few_ranks old new T = ranks_high_lem old T.old_bytes T.old_ranks T.old_valid

pub few_trees : (old new : List ℕ) → Tables old new → trees old ≤ max_trees
few_trees old new T = trees_high old T.old_bytes T.old_ranks T.old_valid

-- the new range of a rank
module _ (old new : List ℕ) (rank : ℕ) (T : Tables old new) (r : rank < ranks old) where
  -- it ends at most at K
  pub range_end : first_tree new rank + tree_count new rank ≤ trees old
  range_end =
      let n = T.same_ranks in
      let k = T.same_trees in
      omega (arith, count_add new T.new_bytes T.new_ranks T.new_valid rank (omega arith), end_trees new T.new_bytes T.new_ranks T.new_valid rank (omega arith))

  -- so it is within the limit
  pub few_count : tree_count new rank ≤ max_trees
  few_count = omega (arith, range_end, few_trees old new T)

module _ (epoch dimension : ℕ) (old new : List ℕ) (rank : ℕ) (H : ℕ → Bool) (slot : ℕ → List ℕ) (g : ℕ) (ghosts tail : List ℕ) (Z : Zones epoch dimension old new rank slot g ghosts) where
  abbrev T : Tables old new
  T = Z.tables

  abbrev P : ℕ
  P = ranks old

  abbrev n : ℕ
  n = tree_count new rank

  abbrev bound : ℕ
  bound = ghost_bound (faces_in dimension) (tree_count new rank)

  abbrev area : List ℕ
  area = area_with epoch dimension old new rank H slot g ghosts ++ tail

  abbrev header : List ℕ
  header = area_header_bytes epoch dimension (trees old) (ranks old) rank (tree_count new rank) g

  -- the ghost slots that hold nothing
  abbrev empty : List ℕ
  empty = replicate (core_size * (bound - g)) 0

  -- what stands behind the tree slots, the words and the new table
  abbrev behind_slots : List ℕ
  behind_slots = ghosts ++ (empty ++ tail)

  abbrev behind_words : List ℕ
  behind_words = slots_of slot n ++ behind_slots

  abbrev behind_new : List ℕ
  behind_new = words_of H (heard_words P) ++ behind_words

  zones : area ≡ header ++ (old ++ (new ++ behind_new))
  unfolding area_with
  zones = simp append_assoc

  -- ---- how long they are

  header-long : length header ≡ 32
  header-long = header_length epoch dimension (trees old) P rank n g

  old-long : length old ≡ 8 * (P + 1)
  old-long = size old T.old_bytes T.old_ranks T.old_valid

  new-long : length new ≡ 8 * (P + 1)
  new-long = omega (arith, size new T.new_bytes T.new_ranks T.new_valid, T.same_ranks)

  words_long : length (words_of H (heard_words P)) ≡ 8 * heard_words P
  words_long = rw (words_slots H (heard_words P)) (slots_length (λ w. le_bytes 8 (word_of H w)) 8 (heard_words P) (λ w l. bytes_length 8 (word_of H w)))

  trees_long : length (slots_of slot n) ≡ tree_size * n
  trees_long = slots_length slot tree_size n Z.slots_long

  empty-long : length empty ≡ core_size * (bound - g)
  empty-long = length-replicate (core_size * (bound - g)) 0

  -- the length of the area
  pub area_length : length (area_with epoch dimension old new rank H slot g ghosts) ≡ area_size dimension (ranks old) (tree_count new rank)
  unfolding area_with area_size ghost_slots_place slots_place words_place new_place
  area_length =
      let fit = Z.ghosts_fit in
      rw (length-append, header-long, length-append, old-long, length-append, new-long, length-append, words_long, length-append, trees_long, length-append, empty-long, Z.ghosts_long)
      (omega arith)

  -- ---- the numbers of the header

  number_at_lem : (i : ℕ) → i < 8 → get_or (numbers epoch dimension (trees old) P rank n g) i 0 < 4294967296 → u32_at area (4 * i) ≡ get_or (numbers epoch dimension (trees old) P rank n g) i 0
  number_at_lem i h b = ap (λ (a : List ℕ). u32_at a (4 * i)) zones ∙ header_at epoch dimension (trees old) P rank n g (old ++ (new ++ behind_new)) i h b

  pub read_epoch : area_epoch (area_with epoch dimension old new rank H slot g ghosts ++ tail) ≡ epoch
  unfolding area_epoch
  read_epoch = number_at_lem 0 (omega arith) Z.small_epoch

  pub read_dimension : area_dimension (area_with epoch dimension old new rank H slot g ghosts ++ tail) ≡ dimension
  unfolding area_dimension
  read_dimension = number_at_lem 1 (omega arith) (dimension_small dimension Z.is_dimension)

  pub read_k : area_k (area_with epoch dimension old new rank H slot g ghosts ++ tail) ≡ trees old
  unfolding area_k
  read_k = number_at_lem 2 (omega arith) (omega (arith, few_trees old new T))

  pub read_p : area_p (area_with epoch dimension old new rank H slot g ghosts ++ tail) ≡ ranks old
  unfolding area_p
  read_p = number_at_lem 3 (omega arith) (omega (arith, few_ranks old new T))

  pub read_rank : area_rank (area_with epoch dimension old new rank H slot g ghosts ++ tail) ≡ rank
  unfolding area_rank
  read_rank = number_at_lem 4 (omega arith) (omega (arith, few_ranks old new T, Z.is_rank))

  pub read_count : area_count (area_with epoch dimension old new rank H slot g ghosts ++ tail) ≡ tree_count new rank
  unfolding area_count
  read_count = number_at_lem 5 (omega arith) (omega (arith, few_count old new rank T Z.is_rank))

  pub read_ghosts : area_ghosts (area_with epoch dimension old new rank H slot g ghosts ++ tail) ≡ g
  unfolding area_ghosts
  read_ghosts = number_at_lem 6 (omega arith) (omega (arith, Z.ghosts_fit, bound_small dimension n (few_count old new rank T Z.is_rank)))

  -- the last word
  pub read_last : u32_at (area_with epoch dimension old new rank H slot g ghosts ++ tail) 28 ≡ 0
  read_last = number_at_lem 7 (omega arith) (omega arith)

  -- ---- a piece of the area is one of its zones

  in-old : (off at m : ℕ) → at ≡ 32 + off → piece area at m ≡ piece (old ++ (new ++ behind_new)) off m
  in-old off at m e = ap (λ (a : List ℕ). piece a at m) zones ∙ piece_behind header (old ++ (new ++ behind_new)) 32 off at m header-long e

  in-new : (off at m : ℕ) → at ≡ new_place P + off → piece area at m ≡ piece (new ++ behind_new) off m
  unfolding new_place
  in-new off at m e = in-old (8 * (P + 1) + off) at m (omega arith) ∙ piece_behind old (new ++ behind_new) (8 * (P + 1)) off (8 * (P + 1) + off) m old-long refl

  in_words : (off at m : ℕ) → at ≡ words_place P + off → piece area at m ≡ piece behind_new off m
  unfolding words_place
  in_words off at m e = in-new (8 * (P + 1) + off) at m (omega arith) ∙ piece_behind new behind_new (8 * (P + 1)) off (8 * (P + 1) + off) m new-long refl

  in-slots : (off at m : ℕ) → at ≡ slots_place P + off → piece area at m ≡ piece behind_words off m
  unfolding slots_place
  in-slots off at m e =
      in_words (8 * heard_words P + off) at m (omega arith)
      ∙ piece_behind (words_of H (heard_words P)) behind_words (8 * heard_words P) off (8 * heard_words P + off) m words_long refl

  in_ghosts : (off at m : ℕ) → at ≡ ghost_slots_place P n + off → piece area at m ≡ piece behind_slots off m
  unfolding ghost_slots_place
  in_ghosts off at m e =
      in-slots (tree_size * n + off) at m (omega arith) ∙ piece_behind (slots_of slot n) behind_slots (tree_size * n) off (tree_size * n + off) m trees_long refl

  -- ---- the zones read back

  pub read_old_lem : area_old (area_with epoch dimension old new rank H slot g ghosts ++ tail) ≡ old
  unfolding area_old
  read_old_lem = rw read_p (in-old 0 32 (8 * (P + 1)) refl ∙ piece_start old (new ++ behind_new) (8 * (P + 1)) old-long)

  pub read_new_lem : area_new (area_with epoch dimension old new rank H slot g ghosts ++ tail) ≡ new
  unfolding area_new
  read_new_lem = rw read_p (in-new 0 (new_place P) (8 * (P + 1)) (sym (add-zero (new_place P))) ∙ piece_start new behind_new (8 * (P + 1)) new-long)

  pub read_first : area_first (area_with epoch dimension old new rank H slot g ghosts ++ tail) ≡ first_tree new rank
  unfolding area_first
  read_first = rw (read_new_lem, read_rank)

  word_read : (w : ℕ) → w < heard_words P → piece area (words_place P + 8 * w) 8 ≡ le_bytes 8 (word_of H w)
  word_read w h =
      in_words (8 * w) (words_place P + 8 * w) 8 refl
      ∙ (piece_first (words_of H (heard_words P)) behind_words (8 * w) 8 (omega (arith, words_long))
      ∙ (ap (λ (l : List ℕ). piece l (8 * w) 8) (words_slots H (heard_words P))
      ∙ slots_at (λ v. le_bytes 8 (word_of H v)) 8 (heard_words P) (λ v l. bytes_length 8 (word_of H v)) w h))

  -- whether sender s is heard
  pub read_heard : (s : ℕ) → s < 64 * heard_words (ranks old) → heard (area_with epoch dimension old new rank H slot g ghosts ++ tail) s ≡ H s
  unfolding heard le_at
  read_heard s h =
      let w : ℕ = s / 64 in
      let e : 64 * w + s % 64 ≡ s = omega arith in
      rw (read_p, word_read w (omega arith), value_bytes 8 (word_of H w) (word_small H w))
      (word_bit H w (s % 64) (mod-lt s (omega arith)) ∙ ap H e)

  -- tree slot i, and its core
  pub read_slot : (i : ℕ) → i < tree_count new rank → tree_slot (area_with epoch dimension old new rank H slot g ghosts ++ tail) i ≡ slot i
  unfolding tree_slot
  read_slot i h =
      rw read_p
      (in-slots (tree_size * i) (slots_place P + tree_size * i) tree_size refl
      ∙ (piece_first (slots_of slot n) behind_slots (tree_size * i) tree_size (omega (arith, trees_long)) ∙ slots_at slot tree_size n Z.slots_long i h))

  pub read_core : (i : ℕ) → i < tree_count new rank → tree_slot_core (area_with epoch dimension old new rank H slot g ghosts ++ tail) i ≡ piece (slot i) 0 core_size
  read_core i h = core_slot area i ∙ ap (λ (r : List ℕ). piece r 0 core_size) (read_slot i h)

  ghost_place_lem : (j : ℕ) → ghost_slot area j ≡ piece behind_slots (core_size * j) core_size
  unfolding ghost_slot
  ghost_place_lem j = rw (read_p, read_count) (in_ghosts (core_size * j) (ghost_slots_place P n + core_size * j) core_size refl)

  -- ghost slot j of the ghosts that are held
  pub read_ghost : (j : ℕ) → j < g → ghost_slot (area_with epoch dimension old new rank H slot g ghosts ++ tail) j ≡ piece ghosts (core_size * j) core_size
  read_ghost j h = ghost_place_lem j ∙ piece_first ghosts (empty ++ tail) (core_size * j) core_size (omega (arith, Z.ghosts_long))

  -- and of the others
  pub read_empty : (j : ℕ) → g ≤ j → j < ghost_bound (faces_in dimension) (tree_count new rank)
      → ghost_slot (area_with epoch dimension old new rank H slot g ghosts ++ tail) j ≡ replicate core_size 0
  read_empty j l h =
      ghost_place_lem j
      ∙ (piece_behind ghosts (empty ++ tail) (core_size * g) (core_size * (j - g)) (core_size * j) core_size Z.ghosts_long (omega arith)
      ∙ (piece_first empty tail (core_size * (j - g)) core_size (omega (arith, empty-long))
      ∙ piece_replicate (core_size * (bound - g)) 0 (core_size * (j - g)) core_size (omega arith)))

  -- the bytes behind the area
  pub read_behind : behind_area (area_with epoch dimension old new rank H slot g ghosts ++ tail) ≡ tail
  unfolding behind_area
  read_behind =
      rw (read_dimension, read_p, read_count)
      (drop_at (area_with epoch dimension old new rank H slot g ghosts) tail (area_size dimension P n) area_length)

  -- all of it
  pub area_reads : Reads (area_with epoch dimension old new rank H slot g ghosts ++ tail) epoch dimension old new rank H slot g ghosts tail
  area_reads =
      record {
        at_length = rw (length-append, area_length) (omega arith);
        at_epoch = read_epoch;
        at_dimension = read_dimension;
        at_k = read_k;
        at_p = read_p;
        at_rank = read_rank;
        at_count = read_count;
        at_ghosts = read_ghosts;
        at_last = read_last;
        at_old = read_old_lem;
        at_new = read_new_lem;
        at_first = read_first;
        at_heard = read_heard;
        at_slot = read_slot;
        at_core = read_core;
        at_ghost = read_ghost;
        at_empty = read_empty;
        at_behind = read_behind;
      }

-- ---- what an area depends on

-- the senders that have a bit, and the slots of the rank's trees
pub area_same : (epoch dimension : ℕ) (old new : List ℕ) (rank : ℕ) (H₁ H₂ : ℕ → Bool) (slot₁ slot₂ : ℕ → List ℕ) (g : ℕ) (ghosts : List ℕ)
    → ((s : ℕ) → s < 64 * heard_words (ranks old) → H₁ s ≡ H₂ s) → ((i : ℕ) → i < tree_count new rank → slot₁ i ≡ slot₂ i)
    → area_with epoch dimension old new rank H₁ slot₁ g ghosts ≡ area_with epoch dimension old new rank H₂ slot₂ g ghosts
unfolding area_with
area_same epoch dimension old new rank H₁ H₂ slot₁ slot₂ g ghosts eH eS =
    ap₂
    (λ (ws ts : List ℕ). area_header_bytes epoch dimension (trees old) (ranks old) rank (tree_count new rank) g
    ++ (old ++ (new ++ (ws ++ (ts ++ (ghosts ++ replicate (core_size * (ghost_bound (faces_in dimension) (tree_count new rank) - g)) 0))))))
    (words_same H₁ H₂ (heard_words (ranks old)) eH) (slots_same slot₁ slot₂ (tree_count new rank) eS)
