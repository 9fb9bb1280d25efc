-- The part that the code writes is the joined part of the definition.
use Prim.Native.Nat.{ℕ, zero, suc, ◌+◌, ◌*◌, ◌≤◌, ◌<◌}
use native.Mathlib.Nat.{zero-add, add-sub_cancel_left}
use native.Mathlib.Omega.{arith}
use mathlib.Core.Path.{◌≡◌, refl, sym, ap, ap₂, ◌∙◌}
use mathlib.Core.Bool.{Bool, true, false}
use mathlib.Core.List.{List, ◌++◌, append_assoc}
use lib.Dec.{ltb, eqb}
use lib.ListN.{length, length-append}
use borrow.Author.Tests.{ltb-true, eqb-true, lt-ltb, le-ltb, eq-eqb}
use Rattle.encoding.specs.Below.{any_below, least_below}
use Rattle.encoding.specs.Header.{eight_bytes}
use Rattle.encoding.specs.Pieces.{piece, splice, Bytes}
use Rattle.encoding.proofs.Below.{either, tests, clash, count_initial, least_lt, least_at}
use Rattle.encoding.proofs.Pieces.{splice_then}
use Rattle.offsets.specs.Limits.{max_trees}
use Rattle.offsets.proofs.Tables.{trees_high}
use Rattle.records.specs.Shape.{face_count, faces_in}
use Rattle.records.specs.Record.{core_size, tree_size, unused, number_of, shape_of, neighbour_of}
use Rattle.records.specs.Links.{row_of, rows_of}
use Rattle.records.proofs.Forms.{at_piece, number_at_lem, form_unused, unused_neighbour}
use Rattle.records.proofs.Shapes.{faces_positive}
use Rattle.part.specs.Layout.{part_header, header_bytes}
use Rattle.part.specs.Cut.{renamed, rename_row}
use Rattle.part.specs.Means.{in_range, number_at, smaller}
use Rattle.positions.specs.Means.{Numbered, Counts, Indexed}
use Rattle.positions.proofs.Positions.{index_smaller}
use Rattle.part_cut.specs.Means.{local_in, RecordsRoom, records_with}
use Rattle.part.proofs.Records.{header_length}
use Rattle.area.specs.Layout.{slots_place, ghost_slots_place, slots_of}
use Rattle.area.specs.Area.{area_dimension, area_k, area_p, area_rank, area_count, area_ghosts, area_old, area_new, area_first, tree_slot, tree_slot_core, ghost_slot, area_sound}
use Rattle.area.specs.Close.{join_index, joined_part}
use Rattle.area.specs.Means.{HeaderHolds}
use Rattle.area.proofs.Headers.{slots_place_is, ghosts_place_is}
use Rattle.area.proofs.Soundness.{sound_holds}
use Rattle.area_theorems.proofs.Again.{area_parts, sound_ghosts}
use Rattle.area_theorems.proofs.Joined.{slots_length, slots_piece}
use Rattle.area_theorems.proofs.Kept.{Ghosts}
use Rattle.close_check.specs.Means.{join_sound, GhostsIndexed}
use Rattle.close_check.proofs.AreaSlots.{slots_long, tree_long, few_held, range_is, ghost_held, tree_view, neighbour_held}
use Rattle.close.specs.Means.{GhostsRoom, JoinRoom}

-- ---- the local indices

-- records whose neighbours get the same names
pub same_names : (a b : ℕ → ℕ) (F : ℕ) (r : List ℕ) → ((f : ℕ) → f < 6 → a (neighbour_of r f) ≡ b (neighbour_of r f)) → renamed a F r ≡ renamed b F r
unfolding renamed rename_row rows_of row_of
same_names a b F r e = rw (e 0 (omega arith), e 1 (omega arith), e 2 (omega arith), e 3 (omega arith), e 4 (omega arith), e 5 (omega arith))

-- the neighbours of a slot's record are those of its core
pub slot_neighbour : (a : List ℕ) (i f : ℕ) → f < 6 → neighbour_of (tree_slot a i) f ≡ neighbour_of (tree_slot_core a i) f
unfolding neighbour_of tree_slot tree_slot_core
slot_neighbour a i f h =
    at_piece 4 a (slots_place (area_p a) + tree_size * i) tree_size (8 + 4 * f) (omega arith) ∙ sym (at_piece 4 a (slots_place (area_p a) + tree_size * i) core_size (8 + 4 * f) (omega arith))

module _ (a : List ℕ) (b : Bytes a) (sound : area_sound a ≡ true) where
  header : HeaderHolds a
  header = sound_holds a sound b

  G : Ghosts (area_k a) (area_new a) (area_rank a) (area_ghosts a) (ghost_slot a)
  G = sound_ghosts a b sound

  abbrev at : ℕ
  at = ghost_slots_place (area_p a) (area_count a)

  number_is : (j : ℕ) → number_at a at j ≡ number_of (ghost_slot a j)
  unfolding number_at ghost_slot
  number_is j = sym (number_at_lem a (at + core_size * j))

  -- the held ghosts ascend, and are trees of the mesh
  pub ghosts_held : Numbered a (ghost_slots_place (area_p a) (area_count a)) (area_ghosts a) (area_k a)
  ghosts_held =
      record {
        ascending = record {
          fits = omega (arith, slots_long a sound, ghosts_place_is (area_p a) (area_count a), (area_parts a sound).fit);
          ascends = λ i j h l. rw (number_is i, number_is j) (G.ascends i j h l);
        };
        low = λ i h. rw (number_is i) (G.below i h);
      }

  pub trees_few : area_k a ≤ max_trees
  trees_few = omega (arith, header.trees_are, trees_high (area_old a) header.tables.old_bytes header.tables.old_ranks header.tables.old_valid)

  abbrev is : ℕ → ℕ → Bool
  is k j = eqb (number_of (ghost_slot a j)) k

  -- the ghosts below a held one are its position
  smaller-is : (k : ℕ) → any_below (area_ghosts a) (is k) ≡ true → smaller a at (area_ghosts a) k ≡ least_below (area_ghosts a) (is k)
  unfolding smaller
  smaller-is k e =
      let m : ℕ = least_below (area_ghosts a) (is k) in
      let l : m < area_ghosts a = least_lt (area_ghosts a) (is k) e in
      let n : number_of (ghost_slot a m) ≡ k = eqb-true (number_of (ghost_slot a m)) k (least_at (area_ghosts a) (is k) e) in
      count_initial (area_ghosts a) (λ j. ltb (number_at a at j) k) m (omega arith)
      (λ i p. rw (number_is i) (lt-ltb (number_of (ghost_slot a i)) k (omega (arith, G.ascends i m p l))))
      (λ i p q. rw (number_is i) (le-ltb (number_of (ghost_slot a i)) k
      (either (ltb m i) (λ s. omega (arith, G.ascends m i (ltb-true m i s) q)) (λ s. let r : i ≡ m = omega tests in omega (arith, ap (λ (j : ℕ). number_of (ghost_slot a j)) r)))))

  module _ {marks behind : List ℕ} (x : GhostsIndexed a marks behind) where
    -- the local index found is the one defined, where a neighbour outside the range is a held ghost
    index_is : (k : ℕ) → (eqb k unused ≡ false → in_range (area_first a) (area_first a + area_count a) k ≡ false → any_below (area_ghosts a) (is k) ≡ true)
        → local_in marks (area_first a) (area_first a + area_count a) k ≡ join_index a k
    unfolding local_in join_index
    index_is k h =
        rw (← range_is a b sound k, add-sub_cancel_left (area_first a) (area_count a))
        (either (eqb k unused) (λ p. rw p)
        (λ p. rw p
        (either (in_range (area_first a) (area_first a + area_count a) k) (λ q. rw q) (λ q. rw (q, index_smaller x k, smaller-is k (h p q))))))

    module _ (joined : join_sound a ≡ true) where
      -- every neighbour of a tree gets its local index
      tree-index : (i : ℕ) → i < area_count a → (f : ℕ) → f < 6
          → local_in marks (area_first a) (area_first a + area_count a) (neighbour_of (tree_slot a i) f) ≡ join_index a (neighbour_of (tree_slot a i) f)
      tree-index i h f l =
          let r : List ℕ = tree_slot_core a i in
          rw (slot_neighbour a i f l)
          (index_is (neighbour_of r f)
          (λ u o. either (ltb f (face_count (shape_of r))) (λ p. ghost_held a b sound (neighbour_of r f) (neighbour_held a joined i h f (ltb-true f (face_count (shape_of r)) p)) o)
          (λ p. clash (eq-eqb (neighbour_of r f) unused (unused_neighbour r f (form_unused (area_first a + i) r (tree_view a joined i h).form f (omega tests) l))) u)))

      slot_is : (i : ℕ) → i < area_count a
          → renamed (local_in marks (area_first a) (area_first a + area_count a)) (faces_in (area_dimension a)) (piece a (slots_place (area_p a) + tree_size * i) tree_size)
          ≡ renamed (join_index a) (faces_in (area_dimension a)) (tree_slot a i)
      unfolding tree_slot
      slot_is i h = same_names (local_in marks (area_first a) (area_first a + area_count a)) (join_index a) (faces_in (area_dimension a)) (tree_slot a i) (tree-index i h)

-- the same with what the code has read
module _ (a : List ℕ) {P n g at : ℕ} (is_p : P ≡ area_p a) (is_n : n ≡ area_count a) (is_g : g ≡ area_ghosts a) (is_at : at ≡ ghost_slots_place P n) where
  place_is : at ≡ ghost_slots_place (area_p a) (area_count a)
  place_is = is_at ∙ ap₂ ghost_slots_place is_p is_n

  pub numbered_read : Bytes a → area_sound a ≡ true → {K : ℕ} → K ≡ area_k a → Numbered a at g K
  numbered_read b s k = rw (place_is, is_g, k) (ghosts_held a b s)

  pub index_read : {marks behind : List ℕ} → Indexed a at g marks behind → GhostsIndexed a marks behind
  index_read x = rw (place_is, is_g) at x

-- renamed records in a row are slots
records_slots : (rename : ℕ → ℕ) (F : ℕ) (bs : List ℕ) (from : ℕ) (slot : ℕ → List ℕ) (n : ℕ) → ((i : ℕ) → i < n → renamed rename F (piece bs (from + tree_size * i) tree_size) ≡ slot i) → records_with rename F bs from n ≡ slots_of slot n
unfolding records_with slots_of
records_slots rename F bs from slot zero h = refl
records_slots rename F bs from slot (suc n) h = ap₂ (λ (x y : List ℕ). x ++ y) (records_slots rename F bs from slot n (λ i l. h i (omega arith))) (h n (omega arith))

-- ---- the three writes

-- what the code reads of an area before it writes
pub record Read (a : List ℕ) (P first n g F from at : ℕ) : Type 0 where
  pub is_p : P ≡ area_p a
  pub is_first : first ≡ area_first a
  pub is_n : n ≡ area_count a
  pub is_g : g ≡ area_ghosts a
  pub is_f : F ≡ faces_in (area_dimension a)
  pub is_from : from ≡ slots_place P
  pub is_at : at ≡ ghost_slots_place P n

module _ (a out : List ℕ) (room : JoinRoom a out) (b : Bytes a) {P first n g F from at : ℕ} (read : Read a P first n g F from at) where
  place-from : from ≡ slots_place (area_p a)
  place-from = read.is_from ∙ ap slots_place read.is_p

  place_at : at ≡ ghost_slots_place (area_p a) (area_count a)
  place_at = place_is a read.is_p read.is_n read.is_g read.is_at

  ghosts_fit : at + core_size * g ≤ length a
  ghosts_fit = omega (arith, place_at, read.is_g, (ghosts_held a b room.is_sound).ascending.fits)

  module _ {marks behind : List ℕ} (x : GhostsIndexed a marks behind) where
    counted-read : Counts marks behind g
    counted-read = rw read.is_g x.counted

    pub trees_room : {o1 : List ℕ} → length o1 ≡ length out → RecordsRoom a o1 from F first n marks behind g
    trees_room l =
        record {
          source = omega (arith, place-from, read.is_n, slots_place_is (area_p a), slots_long a room.is_sound);
          target = omega (arith, read.is_n, room.room);
          faced = rw read.is_f (faces_positive (area_dimension a));
          known = record { counted = counted-read; range = omega arith; small = omega (arith, read.is_first, read.is_n, read.is_g, few_held a b room.is_sound) };
        }

  pub ghosts_room : {o2 : List ℕ} → length o2 ≡ length out → GhostsRoom a o2 at g (part_header + tree_size * n)
  ghosts_room l =
      record {
        source = ghosts_fit;
        target = omega (arith, read.is_n, read.is_g, room.room);
      }

  abbrev trees : List ℕ
  trees = slots_of (λ i. renamed (join_index a) (faces_in (area_dimension a)) (tree_slot a i)) (area_count a)

  ghosts-are : piece a (ghost_slots_place (area_p a) (area_count a)) (core_size * area_ghosts a) ≡ slots_of (ghost_slot a) (area_ghosts a)
  unfolding ghost_slot
  ghosts-are = sym (slots_piece a (ghost_slots_place (area_p a) (area_count a)) core_size (area_ghosts a))

  -- header, trees and ghosts, one behind the other, are the joined part
  pub join_written : {marks behind : List ℕ} → GhostsIndexed a marks behind → {d K rank : ℕ} {o1 o2 o3 : List ℕ} → d ≡ area_dimension a → K ≡ area_k a → rank ≡ area_rank a
      → o1 ≡ splice out 0 (eight_bytes d K P rank first n g 0)
      → o2 ≡ splice o1 part_header (records_with (local_in marks first (first + n)) F a from n)
      → o3 ≡ splice o2 (part_header + tree_size * n) (piece a at (core_size * g))
      → o3 ≡ splice out 0 (joined_part a)
  unfolding joined_part header_bytes
  join_written {marks} x {d} {K} {rank} {o1} {o2} {o3} is-d is-K is_rank e1 e2 e3 =
      let H : List ℕ = header_bytes (area_dimension a) (area_k a) (area_p a) (area_rank a) (area_first a) (area_count a) (area_ghosts a) in
      let ghosts : List ℕ = slots_of (ghost_slot a) (area_ghosts a) in
      let lH : length H ≡ 32 = header_length (area_dimension a) (area_k a) (area_p a) (area_rank a) (area_first a) (area_count a) (area_ghosts a) in
      let lT : length trees ≡ tree_size * area_count a = slots_length (λ i. renamed (join_index a) (faces_in (area_dimension a)) (tree_slot a i)) tree_size (area_count a) (tree_long a room.is_sound) in
      let q1 : o1 ≡ splice out 0 H = rw (is-d, is-K, read.is_p, is_rank, read.is_first, read.is_n, read.is_g) at e1 in
      let r2 : o2 ≡ splice o1 32 (records_with (local_in marks (area_first a) (area_first a + area_count a)) (faces_in (area_dimension a)) a (slots_place (area_p a)) (area_count a)) =
      rw (read.is_first, read.is_n, read.is_f, place-from) at e2 in
      let q2 : o2 ≡ splice o1 32 trees = r2 ∙ ap (splice o1 32) (records_slots _ (faces_in (area_dimension a)) a (slots_place (area_p a)) _ (area_count a) (slot_is a b room.is_sound x room.joined)) in
      let q3 : o3 ≡ splice o2 (32 + tree_size * area_count a) ghosts = (rw (place_at, read.is_n, read.is_g) at e3) ∙ ap (splice o2 (32 + tree_size * area_count a)) ghosts-are in
      let two : o2 ≡ splice out 0 (H ++ trees) = splice_then out 0 32 H trees lH (omega (arith, room.room)) q1 q2 in
      splice_then out 0 (32 + tree_size * area_count a) (H ++ trees) ghosts (rw (length-append, lH, lT)) (omega (arith, room.room)) two (rw zero-add q3) ∙ ap (splice out 0) (append_assoc H trees ghosts)
