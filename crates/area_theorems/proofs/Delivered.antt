-- An accepted delivery leaves a sound area.
use Prim.Native.Nat.{ℕ, zero, suc, ◌+◌, ◌-◌, ◌*◌, ◌≤◌, ◌<◌}
use native.Mathlib.Nat.{add-zero, mul-add, le_trans, mul-le-mul_left}
use native.Mathlib.Omega.{arith}
use mathlib.Core.Path.{◌≡◌, refl, sym, ap, ap₂, ◌∙◌}
use mathlib.Core.Bool.{Bool, true, false, cond, not, ◌&&◌, ◌||◌, or-false, or-true}
use mathlib.Core.List.{List, [], ◌∷◌, ◌++◌}
use lib.Dec.{ltb, eqb}
use lib.ListN.{length}
use borrow.Author.Tests.{ltb-true, eqb-true, not-true, ne_eqb}
use Rattle.encoding.specs.Below.{all_below, any_below}
use Rattle.encoding.specs.Pieces.{piece, Bytes}
use Rattle.encoding.specs.Refusal.{Check, first_failed}
use Rattle.encoding.specs.Words.{all_zero}
use Rattle.encoding.proofs.Below.{either, clash, and_fst, and_snd, all_at, any_at, count_le}
use Rattle.encoding.proofs.Pieces.{piece_length}
use Rattle.offsets.specs.Table.{ranks, trees, first_tree, tree_count, holds}
use Rattle.offsets.proofs.Tables.{count_add}
use Rattle.records.specs.Shape.{dimension_of, face_count, faces_in}
use Rattle.records.specs.Record.{core_size, tree_size, number_of, shape_of, neighbour_of, in_form}
use Rattle.records.proofs.Forms.{piece_piece}
use Rattle.pattern.specs.Sender.{Tables, sender, sends, sent_first, sent_count}
use Rattle.pattern.specs.Sets.{gets_from}
use Rattle.pattern.proofs.Counting.{range_true}
use Rattle.pattern.proofs.Senders.{holds_in}
use Rattle.pattern.proofs.Sets.{one_range}
use Rattle.mesh.specs.Mesh.{dimension_ok}
use Rattle.message.specs.Layout.{message_tree_place, message_ghost_place, message_size, message_epoch, message_dimension, message_k, message_p, message_sender, message_receiver, message_trees, message_ghosts, message_tree, message_ghost, record_laid, size_laid, after_last, records_laid, in_layout}
use Rattle.area.specs.Layout.{heard_words, ghost_bound}
use Rattle.area.specs.Area.{area_epoch, area_dimension, area_k, area_p, area_rank, area_ghosts, area_old, area_new, area_first, heard, tree_slot, ghost_slot, due_heard, filled_slots, filled_bound, area_bound, area_sound, behind_area}
use Rattle.area.specs.Deliver.{among, one_of, same_run, sender_due, trees_due, beside_trees, ghost_due, ghost_new, deliver_checks, slot_after, ghosts_after, delivered}
use Rattle.area.proofs.Ranges.{due_count}
use Rattle.area_theorems.proofs.Counting.{message_ghosts_fit}
use Rattle.area_theorems.proofs.Kept.{ghost_at, Ghosts, kept_records, count_apart, in_either, of_either, both_length, both_ghosts}
use Rattle.area_theorems.proofs.Zones.{Zones, range_end}
use Rattle.area_theorems.proofs.Sound.{Held, filled_by, area_sound_lem}
use Rattle.area_theorems.proofs.Again.{AreaParts, area_parts, rises_all, old_ranks_lem, sound_tables, sound_rank, sound_zones, sound_ghosts, sound_held}

-- ---- what the layout of a message says

pub record LayoutParts (m : List ℕ) : Type 0 where
  pub size : length m ≡ message_size (message_trees m) (message_ghosts m)
  pub tree_laid : (i : ℕ) → i < message_trees m → record_laid m (message_tree m i) ≡ true
  pub ghost_laid : (j : ℕ) → j < message_ghosts m → record_laid m (message_ghost m j) ≡ true
  pub ghost_after_lem : (j : ℕ) → j < message_ghosts m → after_last (message_ghost m) j ≡ true

module _ (m : List ℕ) where
  laid-parts : (count : ℕ) (r : ℕ → List ℕ) → records_laid m count r ≡ true → (i : ℕ) → i < count → (record_laid m (r i) ≡ true) × (after_last r i ≡ true)
  unfolding records_laid
  laid-parts count r e i h =
      let t = all_at count (λ j. record_laid m (r j) && after_last r j) e i h in
      (and_fst (record_laid m (r i)) (after_last r i) t, and_snd (record_laid m (r i)) (after_last r i) t)

  abbrev trees_laid : Bool
  trees_laid = records_laid m (message_trees m) (message_tree m)

  abbrev ghosts_laid : Bool
  ghosts_laid = records_laid m (message_ghosts m) (message_ghost m)

  pub layout_parts : in_layout m ≡ true → LayoutParts m
  unfolding in_layout size_laid
  layout_parts e =
      let s : size_laid m ≡ true = and_fst (size_laid m) trees_laid (and_fst (size_laid m && trees_laid) ghosts_laid e) in
      let t : trees_laid ≡ true = and_snd (size_laid m) trees_laid (and_fst (size_laid m && trees_laid) ghosts_laid e) in
      let u : ghosts_laid ≡ true = and_snd (size_laid m && trees_laid) ghosts_laid e in
      record {
        size = eqb-true (length m) (message_size (message_trees m) (message_ghosts m)) (and_snd (dimension_ok (message_dimension m)) (eqb (length m) (message_size (message_trees m) (message_ghosts m))) s);
        tree_laid = λ i h. (laid-parts (message_trees m) (message_tree m) t i h).0;
        ghost_laid = λ j h. (laid-parts (message_ghosts m) (message_ghost m) u j h).0;
        ghost_after_lem = λ j h. (laid-parts (message_ghosts m) (message_ghost m) u j h).1;
      }

  -- a record that is laid out so
  laid-form : (r : List ℕ) → record_laid m r ≡ true → in_form (number_of r) r ≡ true
  unfolding record_laid
  laid-form r e =
      and_fst (in_form (number_of r) r) (eqb (dimension_of (shape_of r)) (message_dimension m))
      (and_fst (in_form (number_of r) r && eqb (dimension_of (shape_of r)) (message_dimension m)) (all_below (face_count (shape_of r)) (λ f. ltb (neighbour_of r f) (message_k m))) e)

  laid-neighbour : (r : List ℕ) → record_laid m r ≡ true → (f : ℕ) → f < face_count (shape_of r) → neighbour_of r f < message_k m
  unfolding record_laid
  laid-neighbour r e f h =
      ltb-true (neighbour_of r f) (message_k m)
      (all_at (face_count (shape_of r)) (λ c. ltb (neighbour_of r c) (message_k m))
      (and_snd (in_form (number_of r) r && eqb (dimension_of (shape_of r)) (message_dimension m)) (all_below (face_count (shape_of r)) (λ c. ltb (neighbour_of r c) (message_k m))) e) f h)

-- ---- what an accepted delivery says

pub record Accepted (a m : List ℕ) : Type 0 where
  pub area_ok : area_sound a ≡ true
  pub layout_ok : in_layout m ≡ true
  pub run_ok : same_run a m ≡ true
  pub receiver_ok : message_receiver m ≡ area_rank a
  pub sender_ok : sender_due a m ≡ true
  pub unheard : heard a (message_sender m) ≡ false
  pub trees_ok_lem : trees_due a m ≡ true
  pub ghosts_ok : all_below (message_ghosts m) (ghost_due a m) ≡ true
  pub ghosts_new : all_below (message_ghosts m) (ghost_new a m) ≡ true

-- where no check fails, the first passes and none of the others fails
passed : (c : Check) (cs : List Check) → (c.number ≡ 0 → ⊥) → first_failed (c ∷ cs) ≡ 0 → (c.passes ≡ true) × (first_failed cs ≡ 0)
unfolding first_failed
passed c cs n e = either c.passes (λ t. (t, rw t at e)) (λ t. absurd (n (rw t at e)))

pub accepted_parts : (a m : List ℕ) → first_failed (deliver_checks a m) ≡ 0 → Accepted a m
unfolding deliver_checks
accepted_parts a m e =
    let p10 = passed _ _ (λ z. omega arith) e in
    let p11 = passed _ _ (λ z. omega arith) p10.1 in
    let p12 = passed _ _ (λ z. omega arith) p11.1 in
    let p13 = passed _ _ (λ z. omega arith) p12.1 in
    let p14 = passed _ _ (λ z. omega arith) p13.1 in
    let p15 = passed _ _ (λ z. omega arith) p14.1 in
    let p16 = passed _ _ (λ z. omega arith) p15.1 in
    let p17 = passed _ _ (λ z. omega arith) p16.1 in
    let p18 = passed _ _ (λ z. omega arith) p17.1 in
    record {
      area_ok = p10.0;
      layout_ok = p11.0;
      run_ok = p12.0;
      receiver_ok = eqb-true (message_receiver m) (area_rank a) p13.0;
      sender_ok = p14.0;
      unheard = not-true (heard a (message_sender m)) p15.0;
      trees_ok_lem = p16.0;
      ghosts_ok = p17.0;
      ghosts_new = p18.0;
    }

-- ---- the ghosts after it

-- one more number: its record, where one of the two lists has it
either_step : (f h : Bool) (x y : List ℕ) → cond f x (cond h y []) ≡ cond (f || h) (cond f x y) []
either_step true h x y = refl
either_step false h x y = refl

-- the ghosts after a delivery are the records of the numbers in either list
pub after_kept : (a m : List ℕ) (k : ℕ)
    → ghosts_after a m k
    ≡ kept_records k (in_either (area_ghosts a) (ghost_slot a) (message_ghosts m) (message_ghost m)) (of_either (area_ghosts a) (ghost_slot a) (message_ghosts m) (message_ghost m))
unfolding ghosts_after kept_records
after_kept a m zero = refl
after_kept a m (suc k) =
    ap₂ (λ (x y : List ℕ). x ++ y) (after_kept a m k)
    (either_step (among (area_ghosts a) (ghost_slot a) k) (among (message_ghosts m) (message_ghost m) k) (one_of (area_ghosts a) (ghost_slot a) k) (one_of (message_ghosts m) (message_ghost m) k))

module _ (a m : List ℕ) (b : Bytes a) (A : Accepted a m) where
  abbrev old : List ℕ
  old = area_old a

  abbrev new : List ℕ
  new = area_new a

  abbrev rank : ℕ
  rank = area_rank a

  abbrev p : ℕ
  p = message_sender m

  laid : LayoutParts m
  laid = layout_parts m A.layout_ok

  parts : AreaParts a
  parts = area_parts a A.area_ok

  T : Tables old new
  T = sound_tables a b A.area_ok

  is_rank : rank < ranks old
  is_rank = sound_rank a b A.area_ok

  -- its K is the area's
  same-K : message_k m ≡ area_k a
  unfolding same_run
  same-K =
      let e : Bool = eqb (message_epoch m) (area_epoch a) in
      let d : Bool = eqb (message_dimension m) (area_dimension a) in
      let k : Bool = eqb (message_k m) (area_k a) in
      eqb-true (message_k m) (area_k a) (and_snd (e && d) k (and_fst (e && d && k) (eqb (message_p m) (area_p a)) A.run_ok))

  -- and its dimension
  same-dimension : message_dimension m ≡ area_dimension a
  unfolding same_run
  same-dimension =
      let e : Bool = eqb (message_epoch m) (area_epoch a) in
      let d : Bool = eqb (message_dimension m) (area_dimension a) in
      let k : Bool = eqb (message_k m) (area_k a) in
      eqb-true (message_dimension m) (area_dimension a) (and_snd e d (and_fst (e && d) k (and_fst (e && d && k) (eqb (message_p m) (area_p a)) A.run_ok)))

  -- ---- its ghosts

  ghost-due : (j : ℕ) → j < message_ghosts m → ghost_due a m j ≡ true
  ghost-due = all_at (message_ghosts m) (ghost_due a m) A.ghosts_ok

  ghost_outside : (j : ℕ) → j < message_ghosts m → holds new rank (number_of (message_ghost m j)) ≡ false
  unfolding ghost_due
  ghost_outside j h =
      not-true (holds new rank (number_of (message_ghost m j))) (and_fst (not (holds new rank (number_of (message_ghost m j)))) (beside_trees a m (number_of (message_ghost m j))) (ghost-due j h))

  -- a neighbour of a tree in the message is below K
  beside-below : (k : ℕ) → beside_trees a m k ≡ true → k < area_k a
  unfolding beside_trees
  beside-below k e =
      let i = any_at (message_trees m) (λ i. any_below (face_count (shape_of (message_tree m i))) (λ f. eqb (neighbour_of (message_tree m i) f) k)) e in
      let r : List ℕ = message_tree m i.0 in
      let f = any_at (face_count (shape_of r)) (λ f. eqb (neighbour_of r f) k) i.2 in
      let q : neighbour_of r f.0 ≡ k = eqb-true (neighbour_of r f.0) k f.2 in
      let l : neighbour_of r f.0 < message_k m = laid-neighbour m r (laid.tree_laid i.0 i.1) f.0 f.1 in
      let s : message_k m ≡ area_k a = same-K in
      omega arith

  ghost_below : (j : ℕ) → j < message_ghosts m → number_of (message_ghost m j) < area_k a
  unfolding ghost_due
  ghost_below j h =
      beside-below (number_of (message_ghost m j)) (and_snd (not (holds new rank (number_of (message_ghost m j)))) (beside_trees a m (number_of (message_ghost m j))) (ghost-due j h))

  ghost_long : (j : ℕ) → j < message_ghosts m → length (message_ghost m j) ≡ core_size
  unfolding message_ghost
  ghost_long j h = piece_length m (message_ghost_place (message_trees m) j) core_size (omega (arith, laid.size))

  ghost-step : (j : ℕ) → 0 < j → j < message_ghosts m → number_of (message_ghost m (j - 1)) < number_of (message_ghost m j)
  unfolding after_last
  ghost-step j l h = ltb-true (number_of (message_ghost m (j - 1))) (number_of (message_ghost m j)) (rw (ne_eqb j 0 (λ z. omega arith)) at (laid.ghost_after_lem j h))

  -- the ghosts of the message
  pub delivery_ghosts : Ghosts (area_k a) (area_new a) (area_rank a) (message_ghosts m) (message_ghost m)
  delivery_ghosts =
      record {
        long = ghost_long;
        form = λ j h. laid-form m (message_ghost m j) (laid.ghost_laid j h);
        below = ghost_below;
        outside = ghost_outside;
        ascends = rises_all (message_ghosts m) (λ j. number_of (message_ghost m j)) ghost-step;
      }

  -- none of them is held already
  pub delivery_apart : (j : ℕ) → j < message_ghosts m → among (area_ghosts a) (ghost_slot a) (number_of (message_ghost m j)) ≡ false
  unfolding ghost_new
  delivery_apart j h = not-true (among (area_ghosts a) (ghost_slot a) (number_of (message_ghost m j))) (all_at (message_ghosts m) (ghost_new a m) A.ghosts_new j h)

  -- the ghosts after it
  pub after_length : length (ghosts_after a m (area_k a)) ≡ core_size * (area_ghosts a + message_ghosts m)
  after_length =
      rw (after_kept a m (area_k a))
      (both_length (area_k a) new rank (area_ghosts a) (message_ghosts m) (ghost_slot a) (message_ghost m) (sound_ghosts a b A.area_ok) delivery_ghosts delivery_apart)

  pub after_ghosts : Ghosts (area_k a) (area_new a) (area_rank a) (area_ghosts a + message_ghosts m) (ghost_at (ghosts_after a m (area_k a)))
  after_ghosts =
      rw (after_kept a m (area_k a))
      (both_ghosts (area_k a) new rank (area_ghosts a) (message_ghosts m) (ghost_slot a) (message_ghost m) (sound_ghosts a b A.area_ok) delivery_ghosts delivery_apart)

  -- ---- its trees

  -- the message's sender is in the receive set
  pub sender_rank : message_sender m < ranks (area_old a)
  unfolding sender_due
  sender_rank = rw (old_ranks_lem a b A.area_ok) (ltb-true p (area_p a) (and_fst (ltb p (area_p a)) (gets_from old new rank p) A.sender_ok))

  pub sender_due_lem : gets_from (area_old a) (area_new a) (area_rank a) (message_sender m) ≡ true
  unfolding sender_due
  sender_due_lem = and_snd (ltb p (area_p a)) (gets_from old new rank p) A.sender_ok

  -- its trees are the range due
  abbrev numbers : Bool
  numbers = all_below (message_trees m) (λ i. eqb (number_of (message_tree m i)) (sent_first old new p rank + i))

  pub trees_count : message_trees m ≡ sent_count (area_old a) (area_new a) (message_sender m) (area_rank a)
  unfolding trees_due
  trees_count = eqb-true (message_trees m) (sent_count old new p rank) (and_fst (eqb (message_trees m) (sent_count old new p rank)) numbers A.trees_ok_lem)

  pub trees_number : (i : ℕ) → i < message_trees m → number_of (message_tree m i) ≡ sent_first (area_old a) (area_new a) (message_sender m) (area_rank a) + i
  unfolding trees_due
  trees_number i h =
      eqb-true (number_of (message_tree m i)) (sent_first old new p rank + i)
      (all_at (message_trees m) (λ j. eqb (number_of (message_tree m j)) (sent_first old new p rank + j)) (and_snd (eqb (message_trees m) (sent_count old new p rank)) numbers A.trees_ok_lem) i h)

  module _ (i : ℕ) (h : i < tree_count (area_new a) (area_rank a)) where
    abbrev k : ℕ
    k = first_tree (area_new a) (area_rank a) + i

    abbrev place : ℕ
    place = k - sent_first old new p rank

    due_below : k < trees old
    due_below = omega (arith, range_end old new rank T is_rank)

    due-held : holds new rank k ≡ true
    due-held =
        let n = T.same_ranks in
        let r = is_rank in
        holds_in new rank k (omega arith) (omega (arith, count_add new T.new_bytes T.new_ranks T.new_valid rank (omega arith)))

    due-sends : sends old new p rank k ≡ eqb (sender old k rank) p
    unfolding sends
    due-sends = rw due-held

    -- the slot of a tree that came has the message's record, every other slot stays
    slot-came : eqb (sender old k rank) p ≡ true → slot_after a m i ≡ piece m (message_tree_place place) tree_size
    unfolding slot_after area_first
    slot-came e = rw (due-sends, e)

    slot-stays : eqb (sender old k rank) p ≡ false → slot_after a m i ≡ tree_slot a i
    unfolding slot_after area_first
    slot-stays e = rw (due-sends, e)

    -- where that record stands in the message
    came-range : eqb (sender old k rank) p ≡ true → (sent_first old new p rank ≤ k) × (k < sent_first old new p rank + sent_count old new p rank)
    came-range e =
        range_true (sent_first old new p rank) (sent_first old new p rank + sent_count old new p rank) k
        (sym (one_range old new T p rank sender_rank is_rank k due_below) ∙ (due-sends ∙ e))

    came-place : eqb (sender old k rank) p ≡ true → place < message_trees m
    came-place e = let c = trees_count in omega (arith, came-range e)

    came-core : eqb (sender old k rank) p ≡ true → piece (slot_after a m i) 0 core_size ≡ message_tree m place
    unfolding message_tree
    came-core e =
        rw (slot-came e)
        (piece_piece m (message_tree_place place) tree_size 0 core_size (omega arith) ∙ ap (λ (at : ℕ). piece m at core_size) (add-zero (message_tree_place place)))

    came-number : eqb (sender old k rank) p ≡ true → number_of (message_tree m place) ≡ k
    came-number e = let r = came-range e in trees_number place (came-place e) ∙ omega arith

    -- the slot after it is a record long
    after-long : length (slot_after a m i) ≡ tree_size
    after-long =
        either (eqb (sender old k rank) p)
        (λ e. rw (slot-came e) (piece_length m (message_tree_place place) tree_size (omega (arith, came-place e, laid.size))))
        (λ e. rw (slot-stays e) ((sound_zones a b A.area_ok).slots_long i h))

    -- whether its sender is heard after the delivery
    abbrev heard' : Bool
    heard' = heard a (sender old k rank) || eqb (sender old k rank) p

    old-heard : eqb (sender old k rank) p ≡ false → heard' ≡ heard a (sender old k rank)
    old-heard e = rw (e, or-false)

    after-form : heard' ≡ true → in_form k (piece (slot_after a m i) 0 core_size) ≡ true
    after-form t =
        either (eqb (sender old k rank) p)
        (λ e. rw (came-core e) (rw (came-number e) at (laid-form m (message_tree m place) (laid.tree_laid place (came-place e)))))
        (λ e. rw (slot-stays e) ((sound_held a b A.area_ok).tree_form i h (sym (old-heard e) ∙ t)))

    after-number : heard' ≡ true → number_of (piece (slot_after a m i) 0 core_size) ≡ k
    after-number t =
        either (eqb (sender old k rank) p)
        (λ e. rw (came-core e) (came-number e))
        (λ e. rw (slot-stays e) ((sound_held a b A.area_ok).tree_number i h (sym (old-heard e) ∙ t)))

    after-zero : heard' ≡ false → all_zero (slot_after a m i) ≡ true
    after-zero t =
        either (eqb (sender old k rank) p)
        (λ e. clash (rw (e, or-true)) t)
        (λ e. rw (slot-stays e) ((sound_held a b A.area_ok).tree_zero i h (sym (old-heard e) ∙ t)))

  -- ---- its ghosts have slots

  abbrev from : ℕ → ℕ
  from i = sender old (first_tree new rank + i) rank

  filled-before : filled_slots a ≡ filled_by old new rank (heard a)
  unfolding filled_slots due_heard area_first
  filled-before = rw parts.header.is_count

  -- the slots filled after it: those filled before it, and those of the trees that came
  filled-after : filled_by old new rank (λ s. heard a s || eqb s p) ≡ filled_slots a + message_trees m
  filled-after =
      count_apart (tree_count new rank) (λ i. heard a (from i)) (λ i. eqb (from i) p)
      (λ i h t. ne_eqb (from i) p (λ q. clash t (rw (← q) at A.unheard)))
      ∙ ap₂ (λ (x y : ℕ). x + y) (sym filled-before) (due_count old new T rank p is_rank sender_rank ∙ sym trees_count)

  -- so F ghosts for each filled slot are enough
  delivered-few : area_ghosts a + message_ghosts m ≤ ghost_bound (faces_in (area_dimension a)) (filled_by old new rank (λ s. heard a s || eqb s p))
  unfolding ghost_bound filled_bound
  delivered-few =
      let F : ℕ = faces_in (area_dimension a) in
      let came : message_ghosts m ≤ F * message_trees m = rw same-dimension at (message_ghosts_fit m A.layout_ok a A.ghosts_ok) in
      let e : F * (filled_slots a + message_trees m) ≡ F * filled_slots a + F * message_trees m = mul-add F (filled_slots a) (message_trees m) in
      let had = parts.filled in
      rw (filled-after, e) (omega arith)

  -- and F for each tree
  pub delivered_fit : area_ghosts a + message_ghosts m ≤ area_bound a
  unfolding area_bound ghost_bound
  delivered_fit =
      rw parts.header.is_count
      (le_trans delivered-few (mul-le-mul_left (faces_in (area_dimension a)) (count_le (tree_count new rank) (λ i. heard a (from i) || eqb (from i) p))))

  -- ---- the area after it

  -- its zones
  pub delivered_zones : Zones (area_epoch a) (area_dimension a) (area_old a) (area_new a) (area_rank a) (slot_after a m) (area_ghosts a + message_ghosts m) (ghosts_after a m (area_k a))
  unfolding area_bound
  delivered_zones =
      let Z = sound_zones a b A.area_ok in
      record {
        tables = T;
        is_rank = is_rank;
        is_dimension = Z.is_dimension;
        small_epoch = Z.small_epoch;
        slots_long = after-long;
        ghosts_long = after_length;
        ghosts_fit = rw (← parts.header.is_count) delivered_fit;
      }

  after-bit : (s : ℕ) → s < 64 * heard_words (ranks old) → (heard a s || eqb s p) ≡ true → (s < ranks old) × (gets_from old new rank s ≡ true)
  after-bit s h t =
      let held = sound_held a b A.area_ok in
      either (heard a s)
      (λ e. (held.bit_rank s h e, held.bit_due s h e))
      (λ e. let q : s ≡ p = eqb-true s p (rw e at t) in rw q (sender_rank, sender_due_lem))

  -- what they hold
  pub delivered_held : Held (area_old a) (area_new a) (area_rank a) (λ s. heard a s || eqb s (message_sender m)) (slot_after a m) (area_ghosts a + message_ghosts m) (ghosts_after a m (area_k a))
  delivered_held =
      record {
        bit_rank = λ s h t. (after-bit s h t).0;
        bit_due = λ s h t. (after-bit s h t).1;
        tree_form = after-form;
        tree_number = after-number;
        tree_zero = after-zero;
        ghosts_held = rw parts.header.old_trees after_ghosts;
      }

  delivered-sound : area_sound (delivered a m) ≡ true
  unfolding delivered
  delivered-sound =
      area_sound_lem (area_epoch a) (area_dimension a) old new rank (λ s. heard a s || eqb s p) (slot_after a m) (area_ghosts a + message_ghosts m) (ghosts_after a m (area_k a)) (behind_area a) delivered_zones delivered_held delivered-few

-- an accepted delivery on a sound area leaves a sound area
pub accepted_sound : (a m : List ℕ) → Bytes a → first_failed (deliver_checks a m) ≡ 0 → area_sound (delivered a m) ≡ true
accepted_sound a m b e = delivered-sound a m b (accepted_parts a m e)
