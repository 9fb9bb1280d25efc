-- The four writes of an accepted delivery make the area after it.
use Prim.Native.Nat.{ℕ, ◌+◌, ◌-◌, ◌*◌, ◌/◌, ◌%◌, ◌≤◌, ◌<◌}
use native.Mathlib.Nat.{mod-lt}
use native.Mathlib.Omega.{arith}
use mathlib.Core.Path.{◌≡◌, sym, ap, ap₂, fun_ext, ◌∙◌}
use mathlib.Core.Bool.{Bool, true, false, ◌&&◌, ◌||◌, or-false, or_comm}
use mathlib.Core.List.{List, ◌++◌}
use lib.Dec.{leb, ltb, eqb}
use lib.ListN.{length, take, drop, length-take, length-drop}
use borrow.Rule.Slice.PartMut.{put_mid}
use borrow.Author.Tests.{eqb-true, eq-eqb, ne_eqb, lt-leb, le-leb, le-ltb}
use Rattle.encoding.specs.Numbers.{le_bytes, le_put, u64_at, put_u32, put_u64}
use Rattle.encoding.specs.Pieces.{piece, splice, Bytes}
use Rattle.encoding.specs.Refusal.{first_failed}
use Rattle.encoding.proofs.Below.{iff_eq}
use Rattle.encoding.proofs.Numbers.{bytes_length, at_bound}
use Rattle.encoding.proofs.Pieces.{piece_length, piece_above, length_splice}
use Rattle.bits.specs.Bits.{bit_of, with_bit}
use Rattle.bits.proofs.Bits.{bit_with, with_fits}
use Rattle.records.specs.Record.{core_size, tree_size}
use Rattle.records.proofs.Forms.{piece_piece}
use Rattle.offsets.specs.Table.{ranks, tree_count}
use Rattle.pattern.specs.Sender.{Tables, sends, sent_count}
use Rattle.pattern.proofs.Sets.{one_range, sent_in}
use Rattle.message.specs.Layout.{message_sender, message_trees, message_ghosts, message_ghost_place, message_ghost}
use Rattle.area.specs.Layout.{heard_words, words_place, slots_place, ghost_slots_place, word_of, slots_of, area_with}
use Rattle.area.specs.Area.{area_epoch, area_dimension, area_k, area_p, area_rank, area_count, area_ghosts, area_old, area_new, area_first, heard, tree_slot, ghost_slot, area_sound, behind_area}
use Rattle.area.specs.Deliver.{deliver_checks, slot_after, ghosts_after, delivered, deliver_of}
use Rattle.area.specs.Means.{from_first, from_place, core_at}
use Rattle.area.proofs.Copying.{part_written}
use Rattle.area.proofs.Headers.{words_place_is, slots_place_is, ghosts_place_is, words_enough_lem}
use Rattle.area.proofs.Ranges.{range_trees}
use Rattle.area_theorems.proofs.Heard.{word_again, word_same}
use Rattle.area_theorems.proofs.Zones.{Zones}
use Rattle.area_theorems.proofs.Again.{old_ranks_lem, sound_tables, sound_rank, sound_zones, area_again}
use Rattle.area_theorems.proofs.Delivered.{Accepted, accepted_parts, after_length, delivered_zones}
use Rattle.deliver.specs.Means.{merged, Deliverable, Placed}
use Rattle.deliver.proofs.Merged.{merged_after}
use Rattle.deliver.proofs.Splices.{words_write, slots_write, ghosts_write}

module _ (a m : List ℕ) (b : Bytes a) (A : Accepted a m) (F : Deliverable a m) where
  abbrev p : ℕ
  p = message_sender m

  abbrev old : List ℕ
  old = area_old a

  abbrev new : List ℕ
  new = area_new a

  abbrev rank : ℕ
  rank = area_rank a

  -- the senders that are heard after it
  abbrev after : ℕ → Bool
  after s = heard a s || eqb s (message_sender m)

  -- the area with these bits, tree slots and ghosts
  abbrev with : (ℕ → Bool) → (ℕ → List ℕ) → ℕ → List ℕ → List ℕ
  with h slot g ghosts = area_with (area_epoch a) (area_dimension a) (area_old a) (area_new a) (area_rank a) h slot g ghosts ++ behind_area a

  abbrev held : List ℕ
  held = slots_of (ghost_slot a) (area_ghosts a)

  P-is : ranks old ≡ area_p a
  P-is = old_ranks_lem a b A.area_ok

  count_is : tree_count new rank ≡ area_count a
  count_is = sym F.holds.count_is

  -- ---- the bit

  abbrev w : ℕ
  w = message_sender m / 64

  abbrev word_place : ℕ
  word_place = words_place (area_p a) + 8 * (message_sender m / 64)

  abbrev word : ℕ
  word = u64_at a (words_place (area_p a) + 8 * (message_sender m / 64))

  bit-again : (c : ℕ) → c < 64 → heard a (64 * w + c) ≡ bit_of word c
  unfolding heard
  bit-again c l =
      let q : (64 * w + c) / 64 ≡ w = omega arith in
      let r : (64 * w + c) % 64 ≡ c = omega arith in
      rw (q, r)

  same_bit : (c : ℕ) → c < 64 → eqb (64 * w + c) p ≡ eqb c (p % 64)
  same_bit c l =
      iff_eq (eqb (64 * w + c) p) (eqb c (p % 64))
      (λ e. let q = eqb-true (64 * w + c) p e in eq-eqb c (p % 64) (omega arith))
      (λ e. let q = eqb-true c (p % 64) e in eq-eqb (64 * w + c) p (omega arith))

  word_after : word_of after w ≡ with_bit word (p % 64)
  word_after =
      word_again after w (with_bit word (p % 64)) (with_fits word (p % 64) (at_bound 8 a word_place b) (mod-lt p (omega arith)))
      (λ c l. rw (bit_with word (p % 64) c, bit-again c l, same_bit c l) (or_comm (bit_of word c) (eqb c (p % 64))))

  word-stays : (u : ℕ) → (u ≡ w → ⊥) → word_of after u ≡ word_of (heard a) u
  word-stays u n =
      word_same after (heard a) u (λ c l. rw (ne_eqb (64 * u + c) p (λ z. n (omega arith)), or-false (heard a (64 * u + c))))

  word_below : w < heard_words (area_p a)
  word_below = let e = words_enough_lem (area_p a) F.holds.ranks_high in omega (arith, F.sender_below)

  bit-written : {o : List ℕ} → o ≡ put_u64 a word_place (with_bit word (p % 64)) → o ≡ with after (tree_slot a) (area_ghosts a) held
  bit-written e =
      e
      ∙ (ap (λ (l : List ℕ). put_u64 l word_place (with_bit word (p % 64))) (area_again a b A.area_ok)
      ∙ (ap (λ (P : ℕ). put_u64 (with (heard a) (tree_slot a) (area_ghosts a) held) (words_place P + 8 * w) (with_bit word (p % 64))) (sym P-is)
      ∙ words_write (area_epoch a) (area_dimension a) old new rank (heard a) (tree_slot a) (area_ghosts a) held (behind_area a) (sound_zones a b A.area_ok) after w (with_bit word (p % 64)) (rw P-is word_below) word_after word-stays))

  -- ---- the trees

  -- the slot of the first tree that came
  abbrev i : ℕ
  i = from_first a (message_sender m) - area_first a

  abbrev came : List ℕ
  came = piece m 32 (tree_size * message_trees m)

  T : Tables old new
  T = sound_tables a b A.area_ok

  p-below : p < ranks old
  p-below = rw P-is F.sender_below

  rank_below : rank < ranks old
  rank_below = sound_rank a b A.area_ok

  slot-sends : (k : ℕ) → k < area_count a → sends old new p rank (area_first a + k) ≡ (leb (from_first a p) (area_first a + k) && ltb (area_first a + k) (from_first a p + sent_count old new p rank))
  slot-sends k h = one_range old new T p rank p-below rank_below (area_first a + k) (omega (arith, range_trees a F.holds))

  slot-low : (k : ℕ) → k < i → slot_after a m k ≡ tree_slot a k
  unfolding slot_after
  slot-low k h = rw (slot-sends k (omega (arith, F.high, F.low)), lt-leb (from_first a p) (area_first a + k) (omega (arith, F.low)))

  slot-high : (k : ℕ) → i + message_trees m ≤ k → k < tree_count new rank → slot_after a m k ≡ tree_slot a k
  unfolding slot_after
  slot-high k l h =
      let c : k < area_count a = rw count_is at h in
      let x : from_first a p ≤ area_first a + k = omega (arith, F.low) in
      rw (slot-sends k c, le-leb (from_first a p) (area_first a + k) x, le-ltb (area_first a + k) (from_first a p + sent_count old new p rank) (omega (arith, F.low, F.count_is)))

  slot-came : (k : ℕ) → k < message_trees m → slot_after a m (i + k) ≡ piece came (tree_size * k) tree_size
  unfolding slot_after
  slot-came k h =
      let x : area_first a + (i + k) ≡ from_first a p + k = omega (arith, F.low) in
      let y : from_first a p + k - from_first a p ≡ k = omega arith in
      let t : sends old new p rank (from_first a p + k) ≡ true = sent_in old new T p rank p-below rank_below (from_first a p + k) (omega arith) (omega (arith, F.count_is)) in
      rw (x, t, y) (sym (piece_piece m 32 (tree_size * message_trees m) (tree_size * k) tree_size (omega arith)))

  came-long : length came ≡ tree_size * message_trees m
  came-long = piece_length m 32 (tree_size * message_trees m) (omega (arith, F.size))

  came-fit : i + message_trees m ≤ tree_count new rank
  came-fit = rw count_is (omega (arith, F.low, F.high))

  trees-written : {o : List ℕ} → o ≡ splice (with after (tree_slot a) (area_ghosts a) held) (from_place a p) came → o ≡ with after (slot_after a m) (area_ghosts a) held
  unfolding from_place
  trees-written e =
      e
      ∙ (ap (λ (P : ℕ). splice (with after (tree_slot a) (area_ghosts a) held) (slots_place P + tree_size * i) came) (sym P-is)
      ∙ slots_write (area_epoch a) (area_dimension a) old new rank after (tree_slot a) (area_ghosts a) held (behind_area a) (sound_zones a b A.area_ok) (slot_after a m) i (message_trees m) came came-long came-fit slot-low slot-came slot-high)

  -- ---- the ghosts

  abbrev ghosts_place : ℕ
  ghosts_place = ghost_slots_place (area_p a) (area_count a)

  zones-between : Zones (area_epoch a) (area_dimension a) old new rank (slot_after a m) (area_ghosts a) held
  zones-between =
      let Z = sound_zones a b A.area_ok in
      let D = delivered_zones a m b A in
      record {
        tables = Z.tables;
        is_rank = Z.is_rank;
        is_dimension = Z.is_dimension;
        small_epoch = Z.small_epoch;
        slots_long = D.slots_long;
        ghosts_long = Z.ghosts_long;
        ghosts_fit = Z.ghosts_fit;
      }

  abbrev g : ℕ
  g = area_ghosts a + message_ghosts m

  ghosts-written : {o o' : List ℕ} → o ≡ splice (with after (slot_after a m) (area_ghosts a) held) ghosts_place (ghosts_after a m (area_k a)) → o' ≡ put_u32 o 24 g → o' ≡ delivered a m
  unfolding delivered
  ghosts-written e e' =
      e'
      ∙ (ap (λ (l : List ℕ). put_u32 l 24 g) e
      ∙ (ap₂ (λ (P n : ℕ). put_u32 (splice (with after (slot_after a m) (area_ghosts a) held) (ghost_slots_place P n) (ghosts_after a m (area_k a))) 24 g) (sym P-is) (sym count_is)
      ∙ ghosts_write (area_epoch a) (area_dimension a) old new rank after (slot_after a m) (area_ghosts a) held (behind_area a) zones-between g (ghosts_after a m (area_k a)) (after_length a m b A) (omega arith) (delivered_zones a m b A).ghosts_fit))

  -- ---- all four

  -- the held ghosts are as at the start when they are merged
  module _ {o1 o2 : List ℕ} (e1 : o1 ≡ put_u64 a word_place (with_bit word (p % 64))) (e2 : o2 ≡ splice o1 (from_place a p) came) where
    held_same : (j : ℕ) → core_at o2 ghosts_place j ≡ ghost_slot a j
    unfolding core_at ghost_slot le_put from_place
    held_same j =
        let at : ℕ = ghosts_place + core_size * j in
        let B : List ℕ = le_bytes 8 (with_bit word (p % 64)) in
        let lB : length B ≡ 8 = bytes_length 8 (with_bit word (p % 64)) in
        let long = F.holds.long in
        let wp = words_place_is (area_p a) in
        let sp = slots_place_is (area_p a) in
        let gp = ghosts_place_is (area_p a) (area_count a) in
        let few = F.holds.ranks_high in
        let below = F.sender_below in
        let low = F.low in
        let high = F.high in
        let lc = came-long in
        let l1 : length o1 ≡ length a = ap length e1 ∙ length_splice a word_place B (omega arith) in
        ap (λ (l : List ℕ). piece l at core_size) e2
        ∙ (piece_above o1 (from_place a p) came at core_size (omega arith) (omega arith)
        ∙ (ap (λ (l : List ℕ). piece l at core_size) e1 ∙ piece_above a word_place B at core_size (omega arith) (omega arith)))

    came_same : (from : ℕ) → from ≡ 32 + tree_size * message_trees m → (j : ℕ) → core_at m from j ≡ message_ghost m j
    unfolding core_at message_ghost
    came_same from e j =
        let x : from + core_size * j ≡ message_ghost_place (message_trees m) j = omega arith in
        ap (λ (o : ℕ). piece m o core_size) x

    -- the area after it
    pub delivery_written : {from : ℕ} {o3 o4 : List ℕ} → from ≡ 32 + tree_size * message_trees m
        → o3 ≡ splice o2 (ghost_slots_place (area_p a) (area_count a)) (merged (core_at o2 (ghost_slots_place (area_p a) (area_count a))) (core_at m from) (area_ghosts a) (message_ghosts m))
        → o4 ≡ put_u32 o3 24 (area_ghosts a + message_ghosts m) → o4 ≡ delivered a m
    delivery_written {from} {o3} {o4} f e3 e4 =
        let M : merged (core_at o2 ghosts_place) (core_at m from) (area_ghosts a) (message_ghosts m) ≡ ghosts_after a m (area_k a) =
        ap₂ (λ (r s : ℕ → List ℕ). merged r s (area_ghosts a) (message_ghosts m)) (fun_ext held_same) (fun_ext (came_same from f)) ∙ merged_after a m b A in
        let q2 : o2 ≡ with after (slot_after a m) (area_ghosts a) held = trees-written (e2 ∙ ap (λ (l : List ℕ). splice l (from_place a p) came) (bit-written e1)) in
        ghosts-written (e3 ∙ (ap (splice o2 ghosts_place) M ∙ ap (λ (l : List ℕ). splice l ghosts_place (ghosts_after a m (area_k a))) q2)) e4

-- the same, as the code writes them
pub delivery_done : (a m : List ℕ) → Bytes a → first_failed (deliver_checks a m) ≡ 0 → Deliverable a m → {words sender slots trees ghosts held came : ℕ} → Placed a m words sender slots trees ghosts held came → {o1 copied o2 o3 o4 : List ℕ}
    → o1 ≡ put_u64 a (words + 8 * (sender / 64)) (with_bit (u64_at a (words + 8 * (sender / 64))) (sender % 64))
    → copied ≡ take (32 + 64 * trees - 32) (drop 32 m) → o2 ≡ put_mid slots (slots + 64 * trees - slots) o1 copied
    → o3 ≡ splice o2 ghosts (merged (core_at o2 ghosts) (core_at m (32 + 64 * trees)) held came)
    → o4 ≡ put_u32 o3 24 (held + came) → o4 ≡ delivered a m
unfolding piece
delivery_done a m b e F {slots = slots} {trees = trees} P {o1 = o1} e1 c e2 e3 e4 =
    let n : 32 + 64 * trees - 32 ≡ tree_size * message_trees m = omega (arith, P.is_trees) in
    let f : 32 + 64 * trees ≡ 32 + tree_size * message_trees m = omega (arith, P.is_trees) in
    let l : length (take (32 + 64 * trees - 32) (drop 32 m)) ≡ slots + 64 * trees - slots = rw (length-take, length-drop) (omega (arith, P.message_room)) in
    let e2 = e2 ∙ part_written o1 slots (slots + 64 * trees - slots) c l in
    delivery_written a m b (accepted_parts a m e) F (rw (P.is_words, P.is_sender) at e1) (rw (P.is_slots, n) at e2) f (rw (P.is_ghosts, P.is_held, P.is_came) at e3) (rw (P.is_held, P.is_came) at e4)

-- ---- the call

module _ (a m : List ℕ) {r : ℕ} (checked : r ≡ first_failed (deliver_checks a m)) where
  pub deliver_refused : (r ≡ 0 → ⊥) → (r, a) ≡ deliver_of a m
  unfolding deliver_of
  deliver_refused n = rw (← checked, ne_eqb r 0 n)

  pub deliver_accepted : r ≡ 0 → {last : List ℕ} → last ≡ delivered a m → (0, last) ≡ deliver_of a m
  unfolding deliver_of
  deliver_accepted z e = rw (← checked, z, e)

-- into an area that isn't sound
pub deliver_unsound : (a m : List ℕ) {s : Bool} → s ≡ area_sound a → s ≡ false → (10, a) ≡ deliver_of a m
unfolding deliver_of deliver_checks first_failed
deliver_unsound a m e f = rw (← e, f)
