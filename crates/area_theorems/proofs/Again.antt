-- A sound area, whatever its bytes, is made of its zones again.
use Prim.Native.Nat.{ℕ, zero, suc, ◌+◌, ◌-◌, ◌*◌, ◌/◌, ◌%◌, ◌≤◌, ◌<◌}
use native.Mathlib.Omega.{arith}
use mathlib.Core.Path.{◌≡◌, refl, sym, ap, ◌∙◌}
use mathlib.Core.Bool.{Bool, true, false, not, ◌&&◌}
use mathlib.Core.List.{List, ◌++◌, append_assoc}
use lib.Dec.{leb, ltb, eqb}
use lib.ListN.{length, drop, replicate, take-append-drop}
use lib.Seq.{drop-drop}
use borrow.Author.Tests.{ltb-true, leb-true, eqb-true, not-true, lt-ltb, le-ltb, eq-eqb, ne_eqb}
use Rattle.encoding.specs.Below.{all_below}
use Rattle.encoding.specs.Numbers.{le_bytes, u32_at, u64_at}
use Rattle.encoding.specs.Pieces.{piece, Bytes}
use Rattle.encoding.specs.Words.{all_zero}
use Rattle.encoding.proofs.Below.{and_fst, and_snd, below_suc, all_at}
use Rattle.encoding.proofs.Numbers.{at_bound, at_bytes}
use Rattle.encoding.proofs.Pieces.{piece_length, piece_add, bytes_piece}
use Rattle.encoding.proofs.Words.{zero_replicate}
use Rattle.offsets.specs.Limits.{rank_count_ok}
use Rattle.offsets.specs.Table.{table_length, ranks, ranks_ok, trees, valid, first_tree, tree_count, holds}
use Rattle.records.specs.Shape.{faces_in}
use Rattle.records.specs.Record.{core_size, tree_size, number_of, in_form}
use Rattle.pattern.specs.Sender.{Tables, sender}
use Rattle.pattern.specs.Sets.{gets_from}
use Rattle.mesh.specs.Mesh.{dimension_ok}
use Rattle.message.specs.Layout.{after_last}
use Rattle.bits.specs.Bits.{bit_of}
use Rattle.area.specs.Layout.{area_header, heard_words, ghost_bound, old_place, new_place, words_place, slots_place, ghost_slots_place, area_size, area_header_bytes, word_of, words_of, slots_of, area_with}
use Rattle.area.specs.Area.{area_epoch, area_dimension, area_k, area_p, area_rank, area_count, area_ghosts, area_old, area_new, area_first, heard, tree_slot}
use Rattle.area.specs.Area.{tree_slot_core, ghost_slot, due_heard, area_header_sound, bit_sound, tree_slot_sound, filled_bound, ghost_held_sound, area_bound, ghost_slot_sound, area_sound, behind_area}
use Rattle.area.proofs.Soundness.{filled_fits}
use Rattle.area_theorems.proofs.Joined.{slots_length, slots_at, slots_same, slots_piece, slots_replicate}
use Rattle.area_theorems.proofs.Heard.{word_again, words_slots}
use Rattle.area_theorems.proofs.Zones.{Zones, core_slot}
use Rattle.area_theorems.proofs.Kept.{ghost_at, Ghosts}
use Rattle.area_theorems.proofs.Sound.{Held}

-- ---- what soundness says

-- a header as the tables say
pub record HeaderParts (a : List ℕ) : Type 0 where
  pub dimension_ok_lem : dimension_ok (area_dimension a) ≡ true
  pub ranks_ok_lem : rank_count_ok (area_p a) ≡ true
  pub long : area_size (area_dimension a) (area_p a) (area_count a) ≤ length a
  pub old_valid : valid (area_old a) ≡ true
  pub new_valid : valid (area_new a) ≡ true
  pub old_trees : trees (area_old a) ≡ area_k a
  pub new_trees : trees (area_new a) ≡ area_k a
  pub is_rank : area_rank a < area_p a
  pub is_count : area_count a ≡ tree_count (area_new a) (area_rank a)
  pub is_last : u32_at a 28 ≡ 0

module _ (a : List ℕ) where
  -- the first two tests of the header, the first three, and so on
  abbrev c2 : Bool
  c2 = leb area_header (length a) && dimension_ok (area_dimension a)

  abbrev c3 : Bool
  c3 = c2 && rank_count_ok (area_p a)

  abbrev c4 : Bool
  c4 = c3 && leb (area_size (area_dimension a) (area_p a) (area_count a)) (length a)

  abbrev c5 : Bool
  c5 = c4 && valid (area_old a)

  abbrev c6 : Bool
  c6 = c5 && valid (area_new a)

  abbrev c7 : Bool
  c7 = c6 && eqb (trees (area_old a)) (area_k a)

  abbrev c8 : Bool
  c8 = c7 && eqb (trees (area_new a)) (area_k a)

  abbrev c9 : Bool
  c9 = c8 && ltb (area_rank a) (area_p a)

  abbrev c10 : Bool
  c10 = c9 && eqb (area_count a) (tree_count (area_new a) (area_rank a))

  -- what they say
  pub header_parts : area_header_sound a ≡ true → HeaderParts a
  unfolding area_header_sound
  header_parts e =
      let p10 : c10 ≡ true = and_fst c10 (eqb (u32_at a 28) 0) e in
      let p9 : c9 ≡ true = and_fst c9 (eqb (area_count a) (tree_count (area_new a) (area_rank a))) p10 in
      let p8 : c8 ≡ true = and_fst c8 (ltb (area_rank a) (area_p a)) p9 in
      let p7 : c7 ≡ true = and_fst c7 (eqb (trees (area_new a)) (area_k a)) p8 in
      let p6 : c6 ≡ true = and_fst c6 (eqb (trees (area_old a)) (area_k a)) p7 in
      let p5 : c5 ≡ true = and_fst c5 (valid (area_new a)) p6 in
      let p4 : c4 ≡ true = and_fst c4 (valid (area_old a)) p5 in
      let p3 : c3 ≡ true = and_fst c3 (leb (area_size (area_dimension a) (area_p a) (area_count a)) (length a)) p4 in
      let p2 : c2 ≡ true = and_fst c2 (rank_count_ok (area_p a)) p3 in
      record {
        dimension_ok_lem = and_snd (leb area_header (length a)) (dimension_ok (area_dimension a)) p2;
        ranks_ok_lem = and_snd c2 (rank_count_ok (area_p a)) p3;
        long = leb-true (area_size (area_dimension a) (area_p a) (area_count a)) (length a) (and_snd c3 (leb (area_size (area_dimension a) (area_p a) (area_count a)) (length a)) p4);
        old_valid = and_snd c4 (valid (area_old a)) p5;
        new_valid = and_snd c5 (valid (area_new a)) p6;
        old_trees = eqb-true (trees (area_old a)) (area_k a) (and_snd c6 (eqb (trees (area_old a)) (area_k a)) p7);
        new_trees = eqb-true (trees (area_new a)) (area_k a) (and_snd c7 (eqb (trees (area_new a)) (area_k a)) p8);
        is_rank = ltb-true (area_rank a) (area_p a) (and_snd c8 (ltb (area_rank a) (area_p a)) p9);
        is_count = eqb-true (area_count a) (tree_count (area_new a) (area_rank a)) (and_snd c9 (eqb (area_count a) (tree_count (area_new a) (area_rank a))) p10);
        is_last = eqb-true (u32_at a 28) 0 (and_snd c10 (eqb (u32_at a 28) 0) e);
      }

-- the parts of a sound area
pub record AreaParts (a : List ℕ) : Type 0 where
  pub header : HeaderParts a
  pub bit : (s : ℕ) → s < 64 * heard_words (area_p a) → bit_sound a s ≡ true
  pub tree : (i : ℕ) → i < area_count a → tree_slot_sound a i ≡ true
  pub filled : area_ghosts a ≤ filled_bound a
  pub fit : area_ghosts a ≤ area_bound a
  pub ghost : (j : ℕ) → j < area_bound a → ghost_slot_sound a j ≡ true

module _ (a : List ℕ) where
  -- the first two tests of the area, the first three, and so on
  abbrev d2 : Bool
  d2 = area_header_sound a && all_below (64 * heard_words (area_p a)) (bit_sound a)

  abbrev d3 : Bool
  d3 = d2 && all_below (area_count a) (tree_slot_sound a)

  abbrev d4 : Bool
  d4 = d3 && leb (area_ghosts a) (filled_bound a)

  -- what they say
  pub area_parts : area_sound a ≡ true → AreaParts a
  unfolding area_sound
  area_parts e =
      let p4 : d4 ≡ true = and_fst d4 (all_below (area_bound a) (ghost_slot_sound a)) e in
      let p3 : d3 ≡ true = and_fst d3 (leb (area_ghosts a) (filled_bound a)) p4 in
      let p2 : d2 ≡ true = and_fst d2 (all_below (area_count a) (tree_slot_sound a)) p3 in
      let few : area_ghosts a ≤ filled_bound a = leb-true (area_ghosts a) (filled_bound a) (and_snd d3 (leb (area_ghosts a) (filled_bound a)) p4) in
      record {
        header = header_parts a (and_fst (area_header_sound a) (all_below (64 * heard_words (area_p a)) (bit_sound a)) p2);
        bit = all_at (64 * heard_words (area_p a)) (bit_sound a) (and_snd (area_header_sound a) (all_below (64 * heard_words (area_p a)) (bit_sound a)) p2);
        tree = all_at (area_count a) (tree_slot_sound a) (and_snd d2 (all_below (area_count a) (tree_slot_sound a)) p3);
        filled = few;
        fit = omega (arith, few, filled_fits a);
        ghost = all_at (area_bound a) (ghost_slot_sound a) (and_snd d4 (all_below (area_bound a) (ghost_slot_sound a)) e);
      }

-- ---- its tables and zones

-- steps that rise make all rise
pub rises_all : (n : ℕ) (f : ℕ → ℕ) → ((j : ℕ) → 0 < j → j < n → f (j - 1) < f j) → (i j : ℕ) → i < j → j < n → f i < f j
rises_all n f s i zero l h = absurd (omega arith)
rises_all n f s i (suc j) l h =
    let e : suc j - 1 ≡ j = omega arith in
    let t : f j < f (suc j) = rw e at (s (suc j) (omega arith) h) in
    below_suc i j l (λ a. omega (arith, rises_all n f s i j a (omega arith))) (λ q. rw q t)

-- a piece and what stands behind it
piece_rest : (a p : List ℕ) (off n at : ℕ) → p ≡ piece a off n → at ≡ off + n → p ++ drop at a ≡ drop off a
unfolding piece
piece_rest a p off n at e h = rw (e, h, ← drop-drop n off a) (take-append-drop n (drop off a))

module _ (a : List ℕ) (b : Bytes a) (sound : area_sound a ≡ true) where
  parts : AreaParts a
  parts = area_parts a sound

  abbrev P : ℕ
  P = area_p a

  abbrev n : ℕ
  n = area_count a

  abbrev g : ℕ
  g = area_ghosts a

  abbrev bound : ℕ
  bound = ghost_bound (faces_in (area_dimension a)) n

  -- the zones lie in the area
  ghosts_end : ghost_slots_place P n + core_size * bound ≤ length a
  unfolding area_size
  ghosts_end = parts.header.long

  slots_end : slots_place P + tree_size * n ≤ length a
  unfolding ghost_slots_place
  slots_end = omega (arith, ghosts_end)

  words-end : words_place P + 8 * heard_words P ≤ length a
  unfolding slots_place
  words-end = omega (arith, slots_end)

  tables_end : 32 + (8 * (P + 1) + 8 * (P + 1)) ≤ length a
  unfolding words_place new_place
  tables_end = omega (arith, words-end)

  old-long : length (area_old a) ≡ 8 * (P + 1)
  unfolding area_old
  old-long = piece_length a old_place (8 * (P + 1)) (omega (arith, tables_end))

  new-long : length (area_new a) ≡ 8 * (P + 1)
  unfolding area_new new_place
  new-long = piece_length a (old_place + 8 * (P + 1)) (8 * (P + 1)) (omega (arith, tables_end))

  -- P as the tables' lengths say
  pub old_ranks_lem : ranks (area_old a) ≡ area_p a
  unfolding ranks
  old_ranks_lem = omega (arith, old-long)

  pub new_ranks_lem : ranks (area_new a) ≡ area_p a
  unfolding ranks
  new_ranks_lem = omega (arith, new-long)

  -- the tables of a sound area
  pub sound_tables : Tables (area_old a) (area_new a)
  unfolding area_old area_new ranks_ok
  sound_tables =
      record {
        old_bytes = bytes_piece a old_place (8 * (P + 1)) b;
        new_bytes = bytes_piece a (new_place P) (8 * (P + 1)) b;
        old_ranks = rw (old_ranks_lem, eq-eqb (length (area_old a)) (table_length P) old-long, parts.header.ranks_ok_lem);
        new_ranks = rw (new_ranks_lem, eq-eqb (length (area_new a)) (table_length P) new-long, parts.header.ranks_ok_lem);
        old_valid = parts.header.old_valid;
        new_valid = parts.header.new_valid;
        same_ranks = new_ranks_lem ∙ sym old_ranks_lem;
        same_trees = parts.header.new_trees ∙ sym parts.header.old_trees;
      }

  pub sound_rank : area_rank a < ranks (area_old a)
  sound_rank = rw old_ranks_lem parts.header.is_rank

  slot_long : (i : ℕ) → i < n → length (tree_slot a i) ≡ tree_size
  unfolding tree_slot
  slot_long i h = piece_length a (slots_place P + tree_size * i) tree_size (omega (arith, slots_end))

  ghost_long : (j : ℕ) → j < bound → length (ghost_slot a j) ≡ core_size
  unfolding ghost_slot
  ghost_long j h = piece_length a (ghost_slots_place P n + core_size * j) core_size (omega (arith, ghosts_end))

  fit : g ≤ bound
  unfolding area_bound
  fit = parts.fit

  held-long : length (slots_of (ghost_slot a) g) ≡ core_size * g
  held-long = slots_length (ghost_slot a) core_size g (λ j h. ghost_long j (omega (arith, fit)))

  -- and its zones
  pub sound_zones : Zones (area_epoch a) (area_dimension a) (area_old a) (area_new a) (area_rank a) (tree_slot a) (area_ghosts a) (slots_of (ghost_slot a) (area_ghosts a))
  unfolding area_epoch
  sound_zones =
      record {
        tables = sound_tables;
        is_rank = sound_rank;
        is_dimension = parts.header.dimension_ok_lem;
        small_epoch = at_bound 4 a 0 b;
        slots_long = λ i h. slot_long i (rw (← parts.header.is_count) at h);
        ghosts_long = held-long;
        ghosts_fit = rw (← parts.header.is_count) fit;
      }

  -- ghost slot j among the held ghosts
  held_at : (j : ℕ) → j < g → ghost_at (slots_of (ghost_slot a) g) j ≡ ghost_slot a j
  held_at j h = slots_at (ghost_slot a) core_size g (λ i l. ghost_long i (omega (arith, fit))) j h

  empty-at : (j : ℕ) → g ≤ j → j < bound → ghost_slot a j ≡ replicate core_size 0
  unfolding ghost_slot_sound area_bound
  empty-at j l h =
      let z : all_zero (ghost_slot a j) ≡ true = rw (le-ltb j g l) at (parts.ghost j h) in
      zero_replicate (ghost_slot a j) z ∙ ap (λ (m : ℕ). replicate m 0) (ghost_long j h)

  -- ---- what its zones hold

  bit-parts : (s : ℕ) → s < 64 * heard_words P → heard a s ≡ true → (ltb s P && gets_from (area_old a) (area_new a) (area_rank a) s) ≡ true
  unfolding bit_sound
  bit-parts s h t = rw t at (parts.bit s h)

  abbrev due : ℕ → ℕ
  due i = first_tree (area_new a) (area_rank a) + i

  tree_parts : (i : ℕ) → i < n → heard a (sender (area_old a) (due i) (area_rank a)) ≡ true → (in_form (due i) (tree_slot_core a i) && eqb (number_of (tree_slot_core a i)) (due i)) ≡ true
  unfolding tree_slot_sound due_heard area_first
  tree_parts i h t = rw t at (parts.tree i h)

  tree-none : (i : ℕ) → i < n → heard a (sender (area_old a) (due i) (area_rank a)) ≡ false → all_zero (tree_slot a i) ≡ true
  unfolding tree_slot_sound due_heard area_first
  tree-none i h t = rw t at (parts.tree i h)

  ghost_held : (j : ℕ) → j < g → ghost_held_sound a j ≡ true
  unfolding ghost_slot_sound
  ghost_held j h = rw (lt-ltb j g h) at (parts.ghost j (omega (arith, parts.fit)))

  module _ (j : ℕ) (h : j < area_ghosts a) where
    abbrev k : ℕ
    k = number_of (ghost_slot a j)

    -- the first two tests of a held ghost, and the first three
    abbrev e2 : Bool
    e2 = in_form k (ghost_slot a j) && ltb k (area_k a)

    abbrev e3 : Bool
    e3 = e2 && not (holds (area_new a) (area_rank a) k)

    ghost-e3 : e3 ≡ true
    unfolding ghost_held_sound
    ghost-e3 = and_fst e3 (after_last (ghost_slot a) j) (ghost_held j h)

    ghost_after_lem : after_last (ghost_slot a) j ≡ true
    unfolding ghost_held_sound
    ghost_after_lem = and_snd e3 (after_last (ghost_slot a) j) (ghost_held j h)

    ghost-e2 : e2 ≡ true
    ghost-e2 = and_fst e2 (not (holds (area_new a) (area_rank a) k)) ghost-e3

    ghost-step : 0 < j → number_of (ghost_slot a (j - 1)) < number_of (ghost_slot a j)
    unfolding after_last
    ghost-step l = ltb-true (number_of (ghost_slot a (j - 1))) (number_of (ghost_slot a j)) (rw (ne_eqb j 0 (λ z. omega arith)) at ghost_after_lem)

  -- the ghosts that it holds
  pub sound_ghosts : Ghosts (area_k a) (area_new a) (area_rank a) (area_ghosts a) (ghost_slot a)
  sound_ghosts =
      record {
        long = λ j h. ghost_long j (omega (arith, fit));
        form = λ j h. and_fst (in_form (k j h) (ghost_slot a j)) (ltb (k j h) (area_k a)) (ghost-e2 j h);
        below = λ j h. ltb-true (k j h) (area_k a) (and_snd (in_form (k j h) (ghost_slot a j)) (ltb (k j h) (area_k a)) (ghost-e2 j h));
        outside = λ j h. not-true (holds (area_new a) (area_rank a) (k j h)) (and_snd (e2 j h) (not (holds (area_new a) (area_rank a) (k j h))) (ghost-e3 j h));
        ascends = rises_all g (λ j. number_of (ghost_slot a j)) (λ j l h. ghost-step j h l);
      }

  -- all that it holds
  pub sound_held : Held (area_old a) (area_new a) (area_rank a) (heard a) (tree_slot a) (area_ghosts a) (slots_of (ghost_slot a) (area_ghosts a))
  sound_held =
      let G = sound_ghosts in
      record {
        bit_rank = λ s h t. rw old_ranks_lem (ltb-true s P (and_fst (ltb s P) (gets_from (area_old a) (area_new a) (area_rank a) s) (bit-parts s (rw old_ranks_lem at h) t)));
        bit_due = λ s h t. and_snd (ltb s P) (gets_from (area_old a) (area_new a) (area_rank a) s) (bit-parts s (rw old_ranks_lem at h) t);
        tree_form = λ i h t. rw (← core_slot a i) (and_fst (in_form (due i) (tree_slot_core a i)) (eqb (number_of (tree_slot_core a i)) (due i)) (tree_parts i (rw (← parts.header.is_count) at h) t));
        tree_number = λ i h t. rw (← core_slot a i) (eqb-true (number_of (tree_slot_core a i)) (due i) (and_snd (in_form (due i) (tree_slot_core a i)) (eqb (number_of (tree_slot_core a i)) (due i)) (tree_parts i (rw (← parts.header.is_count) at h) t)));
        tree_zero = λ i h t. tree-none i (rw (← parts.header.is_count) at h) t;
        ghosts_held =
            record {
              long = λ j h. rw (held_at j h) (G.long j h);
              form = λ j h. rw (held_at j h) (G.form j h);
              below = λ j h. rw (held_at j h, parts.header.old_trees) (G.below j h);
              outside = λ j h. rw (held_at j h) (G.outside j h);
              ascends = λ i j l h. rw (held_at i (omega arith), held_at j h) (G.ascends i j l h);
            };
      }

  -- ---- its bytes

  number-again : (off : ℕ) → off + 4 ≤ 32 → le_bytes 4 (u32_at a off) ≡ piece a off 4
  number-again off h = at_bytes 4 a off b (omega (arith, tables_end))

  header-again : area_header_bytes (area_epoch a) (area_dimension a) (area_k a) (area_p a) (area_rank a) (area_count a) (area_ghosts a) ≡ piece a 0 32
  unfolding area_header_bytes area_epoch area_dimension area_k area_p area_rank area_count area_ghosts
  header-again =
      let z : le_bytes 4 0 ≡ piece a 28 4 = rw parts.header.is_last at (number-again 28 (omega arith)) in
      rw (number-again 0 (omega arith), number-again 4 (omega arith), number-again 8 (omega arith), number-again 12 (omega arith), number-again 16 (omega arith), number-again 20 (omega arith), number-again 24 (omega arith), z)
      (sym
      (piece_add a 0 4 28
      ∙ ap (λ (l : List ℕ). piece a 0 4 ++ l)
      (piece_add a 4 4 24
      ∙ ap (λ (l : List ℕ). piece a 4 4 ++ l)
      (piece_add a 8 4 20
      ∙ ap (λ (l : List ℕ). piece a 8 4 ++ l)
      (piece_add a 12 4 16
      ∙ ap (λ (l : List ℕ). piece a 12 4 ++ l)
      (piece_add a 16 4 12
      ∙ ap (λ (l : List ℕ). piece a 16 4 ++ l) (piece_add a 20 4 8 ∙ ap (λ (l : List ℕ). piece a 20 4 ++ l) (piece_add a 24 4 4))))))))

  bit-again : (w c : ℕ) → c < 64 → heard a (64 * w + c) ≡ bit_of (u64_at a (words_place P + 8 * w)) c
  unfolding heard
  bit-again w c l =
      let q : (64 * w + c) / 64 ≡ w = omega arith in
      let m : (64 * w + c) % 64 ≡ c = omega arith in
      rw (q, m)

  word_bytes : (w : ℕ) → w < heard_words P → le_bytes 8 (word_of (heard a) w) ≡ piece a (words_place P + 8 * w) 8
  word_bytes w h =
      ap (le_bytes 8) (word_again (heard a) w (u64_at a (words_place P + 8 * w)) (at_bound 8 a (words_place P + 8 * w) b) (bit-again w))
      ∙ at_bytes 8 a (words_place P + 8 * w) b (omega (arith, words-end))

  words-again : words_of (heard a) (heard_words P) ≡ piece a (words_place P) (8 * heard_words P)
  words-again =
      words_slots (heard a) (heard_words P)
      ∙ (slots_same (λ w. le_bytes 8 (word_of (heard a) w)) (λ w. piece a (words_place P + 8 * w) 8) (heard_words P) word_bytes ∙ slots_piece a (words_place P) 8 (heard_words P))

  slots-again : slots_of (tree_slot a) n ≡ piece a (slots_place P) (tree_size * n)
  unfolding tree_slot
  slots-again = slots_piece a (slots_place P) tree_size n

  held-again : slots_of (ghost_slot a) g ≡ piece a (ghost_slots_place P n) (core_size * g)
  unfolding ghost_slot
  held-again = slots_piece a (ghost_slots_place P n) core_size g

  empty-again : replicate (core_size * (bound - g)) 0 ≡ piece a (ghost_slots_place P n + core_size * g) (core_size * (bound - g))
  unfolding ghost_slot
  empty-again =
      let at : ℕ = ghost_slots_place P n in
      sym (slots_replicate 0 core_size (bound - g))
      ∙ (slots_same (λ j. replicate core_size 0) (λ j. piece a (at + core_size * g + core_size * j) core_size) (bound - g)
      (λ j h. let e : at + core_size * (g + j) ≡ at + core_size * g + core_size * j = omega arith in
      sym (empty-at (g + j) (omega arith) (omega arith)) ∙ ap (λ (o : ℕ). piece a o core_size) e)
      ∙ slots_piece a (at + core_size * g) core_size (bound - g))

  -- where the zones end
  size_is : area_size (area_dimension a) P n ≡ ghost_slots_place P n + core_size * g + core_size * (bound - g)
  unfolding area_size
  size_is = let f = fit in omega arith

  ghosts-from : ghost_slots_place P n ≡ slots_place P + tree_size * n
  unfolding ghost_slots_place
  ghosts-from = refl

  slots-from : slots_place P ≡ words_place P + 8 * heard_words P
  unfolding slots_place
  slots-from = refl

  words-from : words_place P ≡ new_place P + 8 * (P + 1)
  unfolding words_place
  words-from = refl

  new-from : new_place P ≡ 32 + 8 * (P + 1)
  unfolding new_place
  new-from = refl

  -- the zones and the bytes behind them
  whole : piece a 0 32
      ++ (area_old a
      ++ (area_new a
      ++ (piece a (words_place P) (8 * heard_words P)
      ++ (piece a (slots_place P) (tree_size * n)
      ++ (piece a (ghost_slots_place P n) (core_size * g) ++ (piece a (ghost_slots_place P n + core_size * g) (core_size * (bound - g)) ++ behind_area a))))))
      ≡ a
  unfolding behind_area area_old area_new
  whole =
      let at : ℕ = ghost_slots_place P n in
      rw (
        piece_rest a (piece a (at + core_size * g) (core_size * (bound - g))) (at + core_size * g) (core_size * (bound - g)) (area_size (area_dimension a) P n) refl size_is,
        piece_rest a (piece a at (core_size * g)) at (core_size * g) (at + core_size * g) refl refl,
        piece_rest a (piece a (slots_place P) (tree_size * n)) (slots_place P) (tree_size * n) at refl ghosts-from,
        piece_rest a (piece a (words_place P) (8 * heard_words P)) (words_place P) (8 * heard_words P) (slots_place P) refl slots-from,
        piece_rest a (piece a (new_place P) (8 * (P + 1))) (new_place P) (8 * (P + 1)) (words_place P) refl words-from,
        piece_rest a (piece a 32 (8 * (P + 1))) 32 (8 * (P + 1)) (new_place P) refl new-from,
      )
      (piece_rest a (piece a 0 32) 0 32 32 refl refl)

  -- a sound area is made of its zones
  pub area_again : a
      ≡ area_with (area_epoch a) (area_dimension a) (area_old a) (area_new a) (area_rank a) (heard a) (tree_slot a) (area_ghosts a) (slots_of (ghost_slot a) (area_ghosts a))
      ++ behind_area a
  unfolding area_with
  area_again =
      rw (parts.header.old_trees, old_ranks_lem, ← parts.header.is_count, header-again, words-again, slots-again, held-again, empty-again) (simp append_assoc (sym whole))
