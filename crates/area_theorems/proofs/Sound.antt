-- When an area with given zones is sound.
use Prim.Native.Nat.{ℕ, ◌+◌, ◌-◌, ◌*◌, ◌≤◌, ◌<◌}
use native.Mathlib.Omega.{arith}
use mathlib.Core.Path.{◌≡◌, refl, ap}
use mathlib.Core.Bool.{Bool, true, false}
use mathlib.Core.List.{List, [], ◌++◌}
use lib.Dec.{ltb, eqb}
use lib.ListN.{length, replicate, length-replicate, get_or-replicate}
use borrow.Author.Tests.{ltb-true, ltb-false, eqb-false, lt-ltb, le-leb, eq-eqb}
use Rattle.encoding.specs.Below.{all_below, count_below}
use Rattle.encoding.specs.Pieces.{piece}
use Rattle.encoding.specs.Words.{all_zero}
use Rattle.encoding.proofs.Below.{either, clash, and_snd, all_intro, count_same}
use Rattle.encoding.proofs.Words.{zero_intro}
use Rattle.offsets.specs.Limits.{rank_count_ok}
use Rattle.offsets.specs.Table.{table_length, ranks, ranks_ok, trees, first_tree, tree_count}
use Rattle.records.specs.Shape.{faces_in}
use Rattle.records.specs.Record.{core_size, tree_size, number_of, in_form}
use Rattle.pattern.specs.Sender.{Tables, sender}
use Rattle.pattern.specs.Sets.{gets_from}
use Rattle.pattern.proofs.Senders.{sender_lt}
use Rattle.mesh.specs.Mesh.{dimension_ok}
use Rattle.message.specs.Layout.{after_last}
use Rattle.area.specs.Layout.{heard_words, ghost_bound, area_size, ghost_slots_place, slots_place, words_place, new_place, area_with}
use Rattle.area.specs.Area.{ghost_slot, due_heard, area_header_sound, bit_sound, tree_slot_sound, filled_slots, filled_bound, ghost_held_sound, area_bound, ghost_slot_sound, area_sound}
use Rattle.area.specs.Open.{fresh_area}
use Rattle.area_theorems.proofs.Kept.{ghost_at, Ghosts}
use Rattle.area_theorems.proofs.Zones.{Zones, Reads, range_end, few_ranks, area_reads}
use Rattle.area.proofs.Headers.{words_enough_lem}

-- what the zones of a sound area hold: bits of the receive set, the trees of heard senders in form and in their slots, ghosts in form, below K, outside the new range, ascending
pub record Held (old new : List ℕ) (rank : ℕ) (H : ℕ → Bool) (slot : ℕ → List ℕ) (g : ℕ) (ghosts : List ℕ) : Type 0 where
  pub bit_rank : (s : ℕ) → s < 64 * heard_words (ranks old) → H s ≡ true → s < ranks old
  pub bit_due : (s : ℕ) → s < 64 * heard_words (ranks old) → H s ≡ true → gets_from old new rank s ≡ true
  pub tree_form : (i : ℕ) → i < tree_count new rank → H (sender old (first_tree new rank + i) rank) ≡ true → in_form (first_tree new rank + i) (piece (slot i) 0 core_size) ≡ true
  pub tree_number : (i : ℕ) → i < tree_count new rank → H (sender old (first_tree new rank + i) rank) ≡ true → number_of (piece (slot i) 0 core_size) ≡ first_tree new rank + i
  pub tree_zero : (i : ℕ) → i < tree_count new rank → H (sender old (first_tree new rank + i) rank) ≡ false → all_zero (slot i) ≡ true
  pub ghosts_held : Ghosts (trees old) new rank g (ghost_at ghosts)

-- how many trees of the rank's new range are due from senders in H
abbrev pub filled_by : List ℕ → List ℕ → ℕ → (ℕ → Bool) → ℕ
filled_by old new rank H = count_below (tree_count new rank) (λ i. H (sender old (first_tree new rank + i) rank))

-- zeros are all zero
pub zeros_zero : (n : ℕ) → all_zero (replicate n 0) ≡ true
zeros_zero n = zero_intro (replicate n 0) (λ i h. get_or-replicate n i 0 0 (rw (length-replicate {A = ℕ} n 0) at h))

-- the sender of a tree of the new range has a bit
pub sender_bit : (old new : List ℕ) (rank : ℕ) → Tables old new → rank < ranks old → (i : ℕ) → i < tree_count new rank → sender old (first_tree new rank + i) rank < 64 * heard_words (ranks old)
sender_bit old new rank T r i h =
    omega (arith, sender_lt old new T (first_tree new rank + i) rank (omega (arith, range_end old new rank T r)) r, words_enough_lem (ranks old) (few_ranks old new T))

module _ (a : List ℕ) (epoch dimension : ℕ) (old new : List ℕ) (rank : ℕ) (H : ℕ → Bool) (slot : ℕ → List ℕ) (g : ℕ) (ghosts tail : List ℕ)
    (Z : Zones epoch dimension old new rank slot g ghosts) (R : Reads a epoch dimension old new rank H slot g ghosts tail) where
  abbrev T : Tables old new
  T = Z.tables

  abbrev n : ℕ
  n = tree_count new rank

  abbrev bound : ℕ
  bound = ghost_bound (faces_in dimension) (tree_count new rank)

  header_room : 32 ≤ area_size dimension (ranks old) (tree_count new rank)
  unfolding area_size ghost_slots_place slots_place words_place new_place
  header_room = omega arith

  ranks_ok_lem : rank_count_ok (ranks old) ≡ true
  unfolding ranks_ok
  ranks_ok_lem = and_snd (eqb (length old) (table_length (ranks old))) (rank_count_ok (ranks old)) T.old_ranks

  -- the header is as the tables say
  reads-header : area_header_sound a ≡ true
  unfolding area_header_sound
  reads-header =
      rw (R.at_dimension, R.at_p, R.at_count, R.at_old, R.at_new, R.at_k, R.at_rank, R.at_last)
      (rw (le-leb 32 (length a) (omega (arith, R.at_length, header_room)), Z.is_dimension, ranks_ok_lem, le-leb (area_size dimension (ranks old) n) (length a) R.at_length)
      (rw (T.old_valid, T.new_valid, eq-eqb (trees old) (trees old) refl, eq-eqb (trees new) (trees old) T.same_trees, lt-ltb rank (ranks old) Z.is_rank, eq-eqb n n refl)))

  module _ (held : Held old new rank H slot g ghosts) (few : g ≤ ghost_bound (faces_in dimension) (filled_by old new rank H)) where
    reads-bits : all_below (64 * heard_words (ranks old)) (bit_sound a) ≡ true
    unfolding bit_sound
    reads-bits =
        all_intro (64 * heard_words (ranks old)) (bit_sound a)
        (λ s h. rw (R.at_heard s h, R.at_p, R.at_old, R.at_new, R.at_rank)
        (either (H s) (λ t. rw (t, lt-ltb s (ranks old) (held.bit_rank s h t), held.bit_due s h t)) (λ t. rw t)))

    reads-due : (i : ℕ) → i < n → due_heard a i ≡ H (sender old (first_tree new rank + i) rank)
    unfolding due_heard
    reads-due i h = rw (R.at_old, R.at_first, R.at_rank) (R.at_heard (sender old (first_tree new rank + i) rank) (sender_bit old new rank T Z.is_rank i h))

    reads-trees : all_below n (tree_slot_sound a) ≡ true
    unfolding tree_slot_sound
    reads-trees =
        all_intro n (tree_slot_sound a)
        (λ i h. let k : ℕ = first_tree new rank + i in
        rw (reads-due i h, R.at_first, R.at_core i h, R.at_slot i h)
        (either (H (sender old k rank))
        (λ t. rw (t, held.tree_form i h t, eq-eqb (number_of (piece (slot i) 0 core_size)) k (held.tree_number i h t)))
        (λ t. rw (t, held.tree_zero i h t))))

    reads-after : (j : ℕ) → j < g → after_last (ghost_slot a) j ≡ true
    unfolding after_last
    reads-after j h =
        either (eqb j 0) (λ e. rw e)
        (λ e. let z = eqb-false j 0 e in
        rw (e, R.at_ghost (j - 1) (omega arith), R.at_ghost j h) (lt-ltb (number_of (ghost_at ghosts (j - 1))) (number_of (ghost_at ghosts j)) (held.ghosts_held.ascends (j - 1) j (omega arith) h)))

    reads_held : (j : ℕ) → j < g → ghost_held_sound a j ≡ true
    unfolding ghost_held_sound
    reads_held j h =
        rw (reads-after j h, R.at_ghost j h, R.at_k, R.at_new, R.at_rank)
        (rw (held.ghosts_held.form j h, lt-ltb (number_of (ghost_at ghosts j)) (trees old) (held.ghosts_held.below j h), held.ghosts_held.outside j h))

    reads-ghosts : all_below bound (ghost_slot_sound a) ≡ true
    unfolding ghost_slot_sound
    reads-ghosts =
        all_intro bound (ghost_slot_sound a)
        (λ j h. rw R.at_ghosts
        (either (ltb j g) (λ t. rw t (reads_held j (ltb-true j g t)))
        (λ t. rw (t, R.at_empty j (ltb-false j g t) h) (zeros_zero core_size))))

    reads-bound : area_bound a ≡ bound
    unfolding area_bound
    reads-bound = rw (R.at_dimension, R.at_count)

    reads-filled : filled_bound a ≡ ghost_bound (faces_in dimension) (filled_by old new rank H)
    unfolding filled_bound filled_slots
    reads-filled =
        rw (R.at_dimension, R.at_count)
        (ap (ghost_bound (faces_in dimension)) (count_same n (due_heard a) (λ i. H (sender old (first_tree new rank + i) rank)) reads-due))

    -- an area whose zones hold that is sound
    pub reads_sound : area_sound a ≡ true
    unfolding area_sound
    reads_sound =
        rw (reads-header, R.at_p, R.at_count, R.at_ghosts, reads-bound, reads-filled)
        (rw (reads-bits, reads-trees, le-leb g (ghost_bound (faces_in dimension) (filled_by old new rank H)) few, reads-ghosts))

module _ (epoch dimension : ℕ) (old new : List ℕ) (rank : ℕ) (H : ℕ → Bool) (slot : ℕ → List ℕ) (g : ℕ) (ghosts tail : List ℕ) (Z : Zones epoch dimension old new rank slot g ghosts) where
  -- an area with such zones is sound
  pub area_sound_lem : Held old new rank H slot g ghosts → g ≤ ghost_bound (faces_in dimension) (filled_by old new rank H) → area_sound (area_with epoch dimension old new rank H slot g ghosts ++ tail) ≡ true
  area_sound_lem held few =
      reads_sound (area_with epoch dimension old new rank H slot g ghosts ++ tail) epoch dimension old new rank H slot g ghosts tail Z
      (area_reads epoch dimension old new rank H slot g ghosts tail Z) held few

-- ---- the fresh area

module _ (old new : List ℕ) (rank dimension epoch : ℕ) (T : Tables old new) (is_rank : rank < ranks old) (is_dimension : dimension_ok dimension ≡ true) (small_epoch : epoch < 4294967296) where
  -- its zones
  pub fresh_zones : Zones epoch dimension old new rank (λ i. replicate tree_size 0) 0 []
  fresh_zones =
      record {
        tables = T;
        is_rank = is_rank;
        is_dimension = is_dimension;
        small_epoch = small_epoch;
        slots_long = λ i h. length-replicate {A = ℕ} tree_size 0;
        ghosts_long = refl;
        ghosts_fit = omega arith;
      }

  fresh-held : Held old new rank (λ s. false) (λ i. replicate tree_size 0) 0 []
  fresh-held =
      record {
        bit_rank = λ s h t. clash t refl;
        bit_due = λ s h t. clash t refl;
        tree_form = λ i h t. clash t refl;
        tree_number = λ i h t. clash t refl;
        tree_zero = λ i h t. zeros_zero tree_size;
        ghosts_held = record { long = λ j h. absurd (omega arith); form = λ j h. absurd (omega arith); below = λ j h. absurd (omega arith); outside = λ j h. absurd (omega arith); ascends = λ i j l h. absurd (omega arith) };
      }

  -- the fresh area is sound, whatever stands behind it
  pub fresh_sound : (tail : List ℕ) → area_sound (fresh_area old new rank dimension epoch ++ tail) ≡ true
  unfolding fresh_area
  fresh_sound tail = area_sound_lem epoch dimension old new rank (λ s. false) (λ i. replicate tree_size 0) 0 [] tail fresh_zones fresh-held (omega arith)
