-- The ghosts of a message: due as the set of neighbours says, and not among those held.
use Prim.Native.Nat.{ℕ, zero, suc, ◌+◌, ◌-◌, ◌*◌, ◌≤◌, ◌<◌}
use native.Mathlib.Numerals.{add-one}
use native.Mathlib.Omega.{arith}
use mathlib.Core.Path.{◌≡◌, refl, sym, ap, ◌∙◌}
use mathlib.Core.Bool.{Bool, true, false, not, ◌&&◌, ◌||◌, and-false, or-false, or_assoc, or_comm}
use mathlib.Core.List.{List}
use lib.Dec.{leb, ltb, eqb}
use lib.ListN.{length, replicate, length-replicate}
use borrow.Author.Tests.{lt-ltb, le-ltb, ltb-true, eqb-true, eqb-false, eq-eqb, ne_eqb, leb-true}
use Rattle.encoding.specs.Below.{all_below, any_below}
use Rattle.encoding.specs.Numbers.{u32_at}
use Rattle.encoding.specs.Pieces.{piece}
use Rattle.encoding.proofs.Below.{tests, either, below_suc, iff_eq, and_fst, and_snd, all_at, all_same, any_intro, any_none, any_same, count_initial}
use Rattle.offsets.specs.Limits.{max_trees}
use Rattle.offsets.specs.Table.{holds}
use Rattle.offsets.proofs.OnePass.{ranks_known}
use Rattle.offsets.proofs.Tables.{trees_high}
use Rattle.bits.specs.Bits.{in_set, with_member}
use Rattle.bits.proofs.Bits.{in_none, in_with, with_length}
use Rattle.records.specs.Shape.{face_count}
use Rattle.records.specs.Record.{core_size, number_of, shape_of, neighbour_of, in_form}
use Rattle.records.proofs.Forms.{number_at_lem}
use Rattle.part.specs.Means.{number_at, Ascending, smaller}
use Rattle.message.specs.Layout.{message_tree_place, message_ghost_place, message_k, message_trees, message_ghosts, message_tree, message_ghost, after_last, in_layout}
use Rattle.message.proofs.Layouts.{record_neighbour, tree_laid, tree_fits_lem}
use Rattle.area.specs.Layout.{heard_words, ghost_slots_place}
use Rattle.area.specs.Area.{area_k, area_p, area_rank, area_count, area_ghosts, area_old, area_new, ghost_slot, ghost_held_sound, filled_bound, area_bound, ghost_slot_sound, area_header_sound, bit_sound, tree_slot_sound, area_sound}
use Rattle.area.specs.Deliver.{among, beside_trees, ghost_due, ghost_new}
use Rattle.area.proofs.Headers.{ghosts_place_is}
use Rattle.area.proofs.Soundness.{filled_fits}
use Rattle.deliver_ghosts.specs.Means.{Checkable, across_faces, beside_first, Marked, FacesFit, TreesFit, ghost_beside, Beside, held_at, HeldFit, GhostsFit}

-- ---- a set that grows

eqb_flip : (a b : ℕ) → eqb a b ≡ eqb b a
eqb_flip a b = iff_eq (eqb a b) (eqb b a) (λ h. eq-eqb b a (sym (eqb-true a b h))) (λ h. eq-eqb a b (sym (eqb-true b a h)))

-- nothing is added
pub marked_none : (ws : List ℕ) (f : ℕ → Bool) → ((k : ℕ) → f k ≡ false) → Marked ws f ws
marked_none ws f h = record { same_length = refl; members = λ k. sym (ap (λ (b : Bool). in_set ws k || b) (h k) ∙ or-false (in_set ws k)) }

-- two additions in turn
pub marked_then : {ws₀ ws last : List ℕ} {f g : ℕ → Bool} (h : ℕ → Bool) → Marked ws₀ f ws → Marked ws g last → ((k : ℕ) → h k ≡ (f k || g k)) → Marked ws₀ h last
marked_then {ws₀} {ws} {last} {f} {g} h p q e =
    record {
      same_length = q.same_length ∙ p.same_length;
      members = λ k.
          q.members k ∙ ap (λ (b : Bool). b || g k) (p.members k) ∙ or_assoc (in_set ws₀ k) (f k) (g k) ∙ ap (λ (b : Bool). in_set ws₀ k || b) (sym (e k));
    }

-- one number is added
pub marked_one : {ws last : List ℕ} {v : ℕ} → v < 64 * length ws → last ≡ with_member ws v → Marked ws (eqb v) last
marked_one {ws} {last} {v} h e =
    record {
      same_length = ap length e ∙ with_length ws v;
      members = λ k. ap (λ (x : List ℕ). in_set x k) e ∙ in_with ws v k h ∙ or_comm (eqb k v) (in_set ws k) ∙ ap (λ (b : Bool). in_set ws k || b) (eqb_flip k v);
    }

module _ (r : List ℕ) where
  across-none : (k : ℕ) → across_faces r 0 k ≡ false
  unfolding across_faces any_below
  across-none k = refl

  across-more : (f : ℕ) {v : ℕ} → v ≡ neighbour_of r f → (k : ℕ) → across_faces r (f + 1) k ≡ (across_faces r f k || eqb v k)
  unfolding across_faces any_below
  across-more f e k = rw (add-one, e)

  pub faces_start : (ws : List ℕ) → Marked ws (across_faces r 0) ws
  faces_start ws = marked_none ws (across_faces r 0) across-none

  pub faces_more : (f : ℕ) {v : ℕ} {ws₀ ws last : List ℕ} → Marked ws₀ (across_faces r f) ws → v ≡ neighbour_of r f → neighbour_of r f < 64 * length ws₀ → last ≡ with_member ws v → Marked ws₀ (across_faces r (f + 1)) last
  faces_more f p e l q = marked_then (across_faces r (f + 1)) p (marked_one (omega (arith, p.same_length)) q) (across-more f e)

  pub faces_end : {f n : ℕ} {ws₀ ws : List ℕ} → Marked ws₀ (across_faces r f) ws → f ≤ n → n ≤ f → Marked ws₀ (across_faces r n) ws
  faces_end {f} {n} p l h = let e : n ≡ f = omega arith in rw e p

module _ (m : List ℕ) where
  beside_none : (k : ℕ) → beside_first m 0 k ≡ false
  unfolding beside_first any_below
  beside_none k = refl

  beside_more : (i : ℕ) {at shape faces : ℕ} → at ≡ message_tree_place i → shape ≡ shape_of (piece m at core_size) → faces ≡ face_count shape → (k : ℕ) → beside_first m (i + 1) k ≡ (beside_first m i k || across_faces (piece m at core_size) faces k)
  unfolding beside_first any_below message_tree
  beside_more i e s q k = rw (add-one, q, s, e)

  pub trees_start : (ws : List ℕ) → Marked ws (beside_first m 0) ws
  trees_start ws = marked_none ws (beside_first m 0) beside_none

  pub trees_end : {i n : ℕ} {ws₀ ws : List ℕ} → Marked ws₀ (beside_first m i) ws → n ≡ message_trees m → i ≤ n → n ≤ i → Marked ws₀ (beside_first m (message_trees m)) ws
  trees_end {i} p q l h = let e : message_trees m ≡ i = omega arith in rw e p

  module _ (i : ℕ) {at shape faces : ℕ} (here : at ≡ message_tree_place i) (is-shape : shape ≡ shape_of (piece m at core_size)) (is-faces : faces ≡ face_count shape) where
    pub trees_more : {ws₀ ws last : List ℕ} → Marked ws₀ (beside_first m i) ws → Marked ws (across_faces (piece m at core_size) faces) last → Marked ws₀ (beside_first m (i + 1)) last
    trees_more p q = marked_then (beside_first m (i + 1)) p q (beside_more i here is-shape is-faces)

    pub faces_fit : {ws₀ ws : List ℕ} {n : ℕ} → TreesFit m ws₀ → Marked ws₀ (beside_first m i) ws → n ≡ message_trees m → i < n → faces ≤ 6 → FacesFit m at faces ws
    unfolding message_tree
    faces_fit t p e l s =
        let h : i < message_trees m = omega arith in
        record {
          fits = omega (arith, tree_fits_lem m t.laid i h);
          few = s;
          low = λ f q.
              let u : f < face_count (shape_of (piece m (message_tree_place i) core_size)) = omega (arith, is-faces, ap (λ (x : ℕ). face_count x) (is-shape ∙ ap (λ (x : ℕ). shape_of (piece m x core_size)) here)) in
              rw here (omega (arith, record_neighbour m (piece m (message_tree_place i) core_size) (tree_laid m t.laid i h) f u, t.room, p.same_length));
        }

-- ---- each ghost

-- no number from K on is a neighbour
beside_low : (m : List ℕ) → in_layout m ≡ true → (k : ℕ) → message_k m ≤ k → beside_first m (message_trees m) k ≡ false
unfolding beside_first across_faces
beside_low m laid k h =
    any_none (message_trees m) (λ i. any_below (face_count (shape_of (message_tree m i))) (λ f. eqb (neighbour_of (message_tree m i) f) k))
    (λ i l. any_none (face_count (shape_of (message_tree m i))) (λ f. eqb (neighbour_of (message_tree m i) f) k)
    (λ f q. ne_eqb (neighbour_of (message_tree m i) f) k (λ z. omega (arith, record_neighbour m (message_tree m i) (tree_laid m laid i l) f q))))

module _ {new m ws : List ℕ} {rank : ℕ} (B : Beside new m ws rank) {n : ℕ} (j : ℕ) (is_n : n ≡ message_trees m) {at v : ℕ} (here : at ≡ message_ghost_place n j) (number : v ≡ number_of (piece m at core_size)) where
  number_is : number_of (message_ghost m j) ≡ v
  unfolding message_ghost
  number_is = sym (number ∙ rw (here, is_n))

  pub beside_past : {K : ℕ} → K ≡ message_k m → K ≤ v → false ≡ ghost_beside new rank m j
  unfolding ghost_beside
  beside_past e h = rw (number_is, beside_low m B.laid v (omega arith), and-false)

  pub beside_read : {h b : Bool} → h ≡ holds new rank v → b ≡ in_set ws v → (not h && b) ≡ ghost_beside new rank m j
  unfolding ghost_beside
  beside_read e q = rw (number_is, e, q, B.members v)

module _ {a m : List ℕ} (R : Checkable a m) where
  pub few_trees : message_k m ≤ max_trees
  few_trees =
      let T = R.header.tables in
      omega (arith, R.same_trees, R.header.trees_are, trees_high (area_old a) T.old_bytes T.old_ranks T.old_valid)

  -- n words hold every tree
  pub trees_fit : (n : ℕ) → message_k m ≤ 64 * n → TreesFit m (replicate n 0)
  trees_fit n h = record { laid = R.laid; room = omega (arith, length-replicate {A = ℕ} n 0) }

  module _ {new : List ℕ} {rank : ℕ} (is-new : new ≡ area_new a) (is_rank : rank ≡ area_rank a) where
    -- the neighbours added to the empty set
    pub beside : (n : ℕ) → message_k m ≤ 64 * n → {ws : List ℕ} → Marked (replicate n 0) (beside_first m (message_trees m)) ws → Beside new m ws rank
    beside n h p =
        let H = R.header in
        record {
          laid = R.laid;
          long = rw is-new (omega (arith, is_rank, (ranks_known (area_new a) H.tables.new_ranks).size, H.tables.same_ranks, H.ranks_are, H.rank_below));
          room = omega (arith, p.same_length, length-replicate {A = ℕ} n 0);
          members = λ k. p.members k ∙ ap (λ (b : Bool). b || beside_first m (message_trees m) k) (in_none n k);
        }

    pub due_is : {r : Bool} → r ≡ all_below (message_ghosts m) (ghost_beside new rank m) → r ≡ all_below (message_ghosts m) (ghost_due a m)
    unfolding ghost_beside ghost_due beside_trees beside_first across_faces
    due_is e = e ∙ rw (is-new, is_rank)

-- ---- those held

module _ (a : List ℕ) (at count : ℕ) (known : Ascending a at count) (k : ℕ) where
  -- record i has as many before it as have smaller numbers
  search_is : (i : ℕ) → i < count → number_at a at i ≡ k → smaller a at count k ≡ i
  unfolding smaller
  search_is i h e =
      count_initial count (λ j. ltb (number_at a at j) k) i (omega arith)
      (λ j l. lt-ltb (number_at a at j) k (omega (arith, known.ascends j i l h)))
      (λ j l p. le-ltb (number_at a at j) k
      (either (ltb i j) (λ q. omega (arith, known.ascends i j (ltb-true i j q) p))
      (λ q. let s : i ≡ j = omega tests in omega (arith, ap (number_at a at) s))))

  module _ {p : ℕ} (position : p ≡ smaller a at count k) where
    none_held : ((i : ℕ) → i < count → number_at a at i ≡ k → ⊥) → false ≡ held_at a at count k
    unfolding held_at
    none_held h = sym (any_none count (λ j. eqb (number_at a at j) k) (λ i l. ne_eqb (number_at a at i) k (h i l)))

    pub held_past : count ≤ p → false ≡ held_at a at count k
    held_past h = none_held (λ i l e. omega (arith, search_is i l e))

    pub held_read : p < count → {v : ℕ} → v ≡ u32_at a (at + core_size * p) → eqb v k ≡ held_at a at count k
    unfolding number_at held_at
    held_read h {v} e =
        either (eqb v k)
        (λ t. t ∙ sym (any_intro count (λ j. eqb (number_at a at j) k) p h (rw (← e) t)))
        (λ f. f ∙ none_held (λ i l q. eqb-false v k f (e ∙ ap (number_at a at) (position ∙ search_is i l q) ∙ q)))

-- as a set
module _ (a : List ℕ) (at : ℕ) where
  held_none : (k : ℕ) → held_at a at 0 k ≡ false
  unfolding held_at any_below
  held_none k = refl

  held_more : (i : ℕ) {v : ℕ} → v ≡ u32_at a (at + core_size * i) → (k : ℕ) → held_at a at (i + 1) k ≡ (held_at a at i k || eqb v k)
  unfolding held_at any_below number_at
  held_more i e k = rw (add-one, e)

  pub held_start : (ws : List ℕ) → Marked ws (held_at a at 0) ws
  held_start ws = marked_none ws (held_at a at 0) held_none

  pub held_next : (i : ℕ) {v : ℕ} {ws₀ ws last : List ℕ} → Marked ws₀ (held_at a at i) ws → v ≡ u32_at a (at + core_size * i) → v < 64 * length ws₀ → last ≡ with_member ws v → Marked ws₀ (held_at a at (i + 1)) last
  held_next i p e l q = marked_then (held_at a at (i + 1)) p (marked_one (omega (arith, p.same_length)) q) (held_more i e)

  pub held_end : {i n : ℕ} {ws₀ ws : List ℕ} → Marked ws₀ (held_at a at i) ws → i ≤ n → n ≤ i → Marked ws₀ (held_at a at n) ws
  held_end {i} {n} p l h = let e : n ≡ i = omega arith in rw e p

  pub number_low : {count : ℕ} {ws : List ℕ} → HeldFit a at count ws → (i : ℕ) → i < count → {v : ℕ} → v ≡ u32_at a (at + core_size * i) → v < 64 * length ws
  unfolding number_at
  number_low t i h e = omega (arith, t.low i h)

-- a ghost's number as it is read
pub ghost_number : (m : List ℕ) {n : ℕ} (j : ℕ) → n ≡ message_trees m → {at v : ℕ} → at ≡ message_ghost_place n j → v ≡ number_of (piece m at core_size) → v ≡ number_of (message_ghost m j)
unfolding message_ghost
ghost_number m j e q r = r ∙ rw (q, e)

module _ {a m : List ℕ} (R : Checkable a m) where
  sound_ghosts : (area_ghosts a ≤ area_bound a) × (all_below (area_bound a) (ghost_slot_sound a) ≡ true)
  unfolding area_sound
  sound_ghosts =
      let x : Bool = area_header_sound a && all_below (64 * heard_words (area_p a)) (bit_sound a) && all_below (area_count a) (tree_slot_sound a) in
      let l : Bool = leb (area_ghosts a) (filled_bound a) in
      let s : Bool = all_below (area_bound a) (ghost_slot_sound a) in
      (omega (arith, leb-true (area_ghosts a) (filled_bound a) (and_snd x l (and_fst (x && l) s R.sound)), filled_fits a), and_snd (x && l) s R.sound)

  held-sound : (j : ℕ) → j < area_ghosts a → ghost_held_sound a j ≡ true
  unfolding ghost_slot_sound
  held-sound j l = rw (lt-ltb j (area_ghosts a) l) at (all_at (area_bound a) (ghost_slot_sound a) sound_ghosts.1 j (omega (arith, sound_ghosts.0)))

  held_after : (j : ℕ) → j < area_ghosts a → after_last (ghost_slot a) j ≡ true
  unfolding ghost_held_sound
  held_after j l =
      and_snd (in_form (number_of (ghost_slot a j)) (ghost_slot a j) && ltb (number_of (ghost_slot a j)) (area_k a) && not (holds (area_new a) (area_rank a) (number_of (ghost_slot a j)))) (after_last (ghost_slot a) j) (held-sound j l)

  held_low : (j : ℕ) → j < area_ghosts a → number_of (ghost_slot a j) < area_k a
  unfolding ghost_held_sound
  held_low j l =
      let f : Bool = in_form (number_of (ghost_slot a j)) (ghost_slot a j) in
      let k : Bool = ltb (number_of (ghost_slot a j)) (area_k a) in
      let h : Bool = not (holds (area_new a) (area_rank a) (number_of (ghost_slot a j))) in
      ltb-true _ _ (and_snd f k (and_fst (f && k) h (and_fst (f && k && h) (after_last (ghost_slot a) j) (held-sound j l))))

  held-step : (j : ℕ) → suc j < area_ghosts a → number_of (ghost_slot a j) < number_of (ghost_slot a (suc j))
  unfolding after_last
  held-step j h =
      let e : suc j - 1 ≡ j = omega arith in
      ltb-true _ _ (rw (ne_eqb (suc j) 0 (λ z. omega arith), e) at (held_after (suc j) h))

  -- the ghosts held ascend
  held-ascend : (i j : ℕ) → i < j → j < area_ghosts a → number_of (ghost_slot a i) < number_of (ghost_slot a j)
  held-ascend i zero h l = absurd (omega arith)
  held-ascend i (suc j) h l = below_suc i j h (λ p. omega (arith, held-ascend i j p (omega arith), held-step j l)) (λ e. rw e (held-step j l))

  module _ {P n at g : ℕ} (is_p : P ≡ area_p a) (is_n : n ≡ area_count a) (is_at : at ≡ ghost_slots_place P n) (is_g : g ≡ area_ghosts a) where
    at-is : at ≡ ghost_slots_place (area_p a) (area_count a)
    at-is = is_at ∙ rw (is_p, is_n)

    slot-number : (i : ℕ) → number_at a at i ≡ number_of (ghost_slot a i)
    unfolding number_at ghost_slot
    slot-number i = ap (λ (x : ℕ). u32_at a (x + core_size * i)) at-is ∙ sym (number_at_lem a (ghost_slots_place (area_p a) (area_count a) + core_size * i))

    pub held_ascending : Ascending a at g
    held_ascending =
        record {
          fits = omega (arith, at-is, ghosts_place_is (area_p a) (area_count a), R.header.long, sound_ghosts.0);
          ascends = λ i j h l. rw (slot-number i, slot-number j) (held-ascend i j h (omega arith));
        }

    -- a ghost of the message is new where it is not found
    pub new_is : (j : ℕ) → ghost_new a m j ≡ not (held_at a at g (number_of (message_ghost m j)))
    unfolding ghost_new among held_at
    new_is j =
        let v : ℕ = number_of (message_ghost m j) in
        let t : any_below (area_ghosts a) (λ i. eqb (number_of (ghost_slot a i)) v) ≡ any_below g (λ i. eqb (number_at a at i) v) =
        any_same (area_ghosts a) (λ i. eqb (number_of (ghost_slot a i)) v) (λ i. eqb (number_at a at i) v) (λ i l. ap (λ (x : ℕ). eqb x v) (sym (slot-number i)))
        ∙ ap (λ (x : ℕ). any_below x (λ i. eqb (number_at a at i) v)) (sym is_g) in
        ap not t

    pub new_found : {r : Bool} → r ≡ all_below (message_ghosts m) (λ j. not (held_at a at g (number_of (message_ghost m j)))) → r ≡ all_below (message_ghosts m) (ghost_new a m)
    new_found e = e ∙ all_same (message_ghosts m) (λ j. not (held_at a at g (number_of (message_ghost m j)))) (ghost_new a m) (λ j l. sym (new_is j))

    -- the numbers of those held added to the empty set
    pub held_fit : (w : ℕ) → max_trees ≤ 64 * w → HeldFit a at g (replicate w 0)
    held_fit w h =
        record {
          fits = held_ascending.fits;
          low = λ i l. omega (arith, slot-number i, held_low i (omega arith), R.same_trees, few_trees R, length-replicate {A = ℕ} w 0);
        }

    module _ (w : ℕ) (many : max_trees ≤ 64 * w) {ws : List ℕ} (p : Marked (replicate w 0) (held_at a at g) ws) where
      -- a ghost that is due is a neighbour of a tree, so below K
      pub ghosts_fit : all_below (message_ghosts m) (ghost_due a m) ≡ true → GhostsFit m ws
      unfolding ghost_due beside_trees beside_first across_faces
      ghosts_fit due =
          record {
            laid = R.laid;
            low = λ j l.
                let v : ℕ = number_of (message_ghost m j) in
                either (ltb v (message_k m))
                (λ h. omega (arith, ltb-true v (message_k m) h, few_trees R, p.same_length, length-replicate {A = ℕ} w 0))
                (λ h. let t : beside_first m (message_trees m) v ≡ true = and_snd (not (holds (area_new a) (area_rank a) v)) (beside_first m (message_trees m) v) (all_at (message_ghosts m) (ghost_due a m) due j l) in
                let f : beside_first m (message_trees m) v ≡ false = beside_low m R.laid v (omega tests) in
                let z : ◌≡◌ {A = ℕ} 0 1 = cc in
                omega arith);
          }

      pub new_marked : {r : Bool} → r ≡ all_below (message_ghosts m) (λ j. not (in_set ws (number_of (message_ghost m j)))) → r ≡ all_below (message_ghosts m) (ghost_new a m)
      new_marked e =
          let same : all_below (message_ghosts m) (λ j. not (in_set ws (number_of (message_ghost m j)))) ≡ all_below (message_ghosts m) (λ j. not (held_at a at g (number_of (message_ghost m j)))) =
          all_same (message_ghosts m) (λ j. not (in_set ws (number_of (message_ghost m j)))) (λ j. not (held_at a at g (number_of (message_ghost m j))))
          (λ j l. let v : ℕ = number_of (message_ghost m j) in
          ap not (p.members v ∙ ap (λ (b : Bool). b || held_at a at g v) (in_none w v))) in
          new_found (e ∙ same)
