-- What the functions over an area find is what the definitions say.
use Prim.Native.Nat.{ℕ, zero, suc, ◌+◌, ◌-◌, ◌*◌, ◌≤◌, ◌<◌}
use native.Mathlib.Nat.{add-zero, add-suc}
use native.Mathlib.Omega.{arith}
use mathlib.Core.Path.{◌≡◌, refl, sym, ap, ap₂, ◌∙◌}
use mathlib.Core.Logic.{◌⊎◌, inl, inr, ⊎_elim}
use mathlib.Core.Bool.{Bool, true, false, not, ◌&&◌, and-true, and-false}
use mathlib.Core.List.{List}
use lib.Dec.{leb, ltb, eqb}
use lib.ListN.{length, take, drop}
use borrow.Author.Tests.{ltb-true, lt-leb, lt-ltb, le-ltb, eq-eqb, ne_eqb}
use Rattle.std.specs.Prelude.{Some, None}
use Rattle.std.specs.Bool.{then_some}
use Rattle.encoding.specs.Below.{all_below, sum_below}
use Rattle.encoding.specs.Numbers.{u64_at}
use Rattle.encoding.specs.Pieces.{piece}
use Rattle.encoding.specs.Words.{all_zero}
use Rattle.encoding.proofs.Below.{either, tests, and_fst, and_snd, all_at, all_intro, all_more, all_same, all_fails, all_to, sum_more, sum_same, sum_none}
use Rattle.offsets.specs.Limits.{max_trees}
use Rattle.offsets.specs.Table.{ranks, first_tree, end_tree}
use Rattle.offsets.proofs.Tables.{trees_high}
use Rattle.pattern.specs.Sender.{sent_first, sent_count}
use Rattle.pattern.specs.Sets.{sends_to, gets_from}
use Rattle.pattern.specs.Means.{exchanges_tree, WindowOf}
use Rattle.pattern.proofs.Senders.{sent_count_lem}
use Rattle.pattern.proofs.Sets.{gets_sends, gets_from_lem}
use Rattle.records.specs.Record.{core_size, tree_size, number_of, in_form}
use Rattle.records.specs.Shape.{faces_in}
use Rattle.records.specs.Means.{plain_form}
use Rattle.records.proofs.Forms.{plain_number, plain_form_lem}
use Rattle.message.specs.Layout.{after_last}
use Rattle.area.specs.Layout.{heard_words, ghost_bound, words_place, slots_place, ghost_slots_place}
use Rattle.area.specs.Area.{area_dimension, area_k, area_p, area_rank, area_count, area_ghosts, area_old, area_new, area_first, area_header_sound, heard, bit_sound, tree_slot_sound, filled_slots, filled_bound, ghost_held_sound, area_bound, ghost_slot_sound, area_sound}
use Rattle.area.specs.Means.{HeaderHolds, Tabled, from_first, from_count, from_place, core_at}
use Rattle.area_check.specs.Means.{word_sound, slot_held, range_sound, range_filled, ghost_held_at}
use Rattle.area.proofs.Headers.{ghosts_place_is}
use Rattle.area.proofs.Ranges.{rank_below, range_trees, from_within}
use Rattle.area.proofs.Soundness.{filled_fits}
use Rattle.area.proofs.Tabled.{word_silent}
use Rattle.area_check.proofs.Slots.{rows, ranges_slots, ranges_filled, filled_few_of, ghost_held_is, ghosts_split}

-- ---- the heard senders

module _ {a old new : List ℕ} (t : Tabled a old new) where
  module _ (s : ℕ) {h : Bool} (is-h : h ≡ heard a s) where
    pub bit_silent : h ≡ false → true ≡ bit_sound a s
    unfolding bit_sound
    bit_silent f = rw (← is-h, f)

    module _ (ok : h ≡ true) {P : ℕ} (is_p : P ≡ area_p a) where
      pub bit_past : P ≤ s → false ≡ bit_sound a s
      unfolding bit_sound
      bit_past f = rw (← is-h, ok, le-ltb s (area_p a) (omega arith))

      pub bit_read : s < P → {rank : ℕ} {r : Bool} → rank ≡ area_rank a → r ≡ sends_to old new s rank → r ≡ bit_sound a s
      unfolding bit_sound
      bit_read l e q =
          let g = gets_sends (area_old a) (area_new a) t.header.tables s (area_rank a) (omega (arith, t.header.ranks_are)) (omega (arith, t.header.ranks_are, t.header.rank_below)) in
          q ∙ rw (← is-h, ok, lt-ltb s (area_p a) (omega arith), g, e, t.is_old, t.is_new)

-- the bits of one word
module _ (a : List ℕ) (w : ℕ) where
  pub word_none : {P at v : ℕ} → P ≡ area_p a → at ≡ words_place P → v ≡ u64_at a (at + 8 * w) → v ≡ 0 → true ≡ word_sound a w
  unfolding word_sound bit_sound
  word_none p e r z = sym (all_intro 64 (λ b. bit_sound a (64 * w + b)) (λ b l. rw (word_silent a w b p e r z l)))

  pub word_fail : (b : ℕ) {r : Bool} → b < 64 → r ≡ bit_sound a (64 * w + b) → r ≡ false → false ≡ word_sound a w
  unfolding word_sound
  word_fail b l e f = sym (all_fails 64 (λ c. bit_sound a (64 * w + c)) b l (sym e ∙ f))

  pub word_pass : {b : ℕ} → b ≤ 64 → 64 ≤ b → all_below b (λ c. bit_sound a (64 * w + c)) ≡ true → true ≡ word_sound a w
  unfolding word_sound
  word_pass {b} l m e = sym (all_to 64 (λ c. bit_sound a (64 * w + c)) b l m e)

-- all bits of the words
module _ (a : List ℕ) {P words : ℕ} (is_p : P ≡ area_p a) (is_words : words ≡ heard_words P) where
  words_are : words ≡ heard_words (area_p a)
  words_are = is_words ∙ ap heard_words is_p

  words-bits : all_below (heard_words (area_p a)) (word_sound a) ≡ all_below (64 * heard_words (area_p a)) (bit_sound a)
  unfolding word_sound
  words-bits = sym (rows 64 (heard_words (area_p a)) (bit_sound a))

  pub bits_fail : {w : ℕ} → w < words → word_sound a w ≡ false → false ≡ all_below (64 * heard_words (area_p a)) (bit_sound a)
  bits_fail {w} l f = sym (all_fails (heard_words (area_p a)) (word_sound a) w (omega (arith, words_are)) f) ∙ words-bits

  pub bits_pass : {w : ℕ} → w ≤ words → words ≤ w → all_below w (word_sound a) ≡ true → true ≡ all_below (64 * heard_words (area_p a)) (bit_sound a)
  bits_pass {w} l m e = sym (all_to (heard_words (area_p a)) (word_sound a) w (omega (arith, words_are)) (omega (arith, words_are)) e) ∙ words-bits

-- ---- the tree slots

pub slot_read : (a : List ℕ) (at k : ℕ) {f : Bool} {number : ℕ} → f ≡ in_form k (piece a at core_size) → number ≡ number_of (piece a at core_size) → (f && eqb number k) ≡ slot_held a at k
unfolding slot_held
slot_read a at k e d = rw (e, d)

-- most records are plain
pub slot_plain : (a : List ℕ) (at k : ℕ) {p : Bool} → p ≡ plain_form k (piece a at core_size) → p ≡ true → true ≡ slot_held a at k
unfolding slot_held
slot_plain a at k is t =
    let plain : plain_form k (piece a at core_size) ≡ true = sym is ∙ t in
    rw (plain_form_lem k (piece a at core_size) plain, eq-eqb (number_of (piece a at core_size)) k (plain_number k (piece a at core_size) plain))

-- how many, where a test passes
pub found : {b c : Bool} {m n : ℕ} → (b ≡ c) × (m ≡ n) → then_some b m ≡ then_some c n
found p = ap₂ (λ (b : Bool) (m : ℕ). then_some b m) p.0 p.1

pub found_some : (b : Bool) (m n : ℕ) → Some m ≡ then_some b n → (true ≡ b) × (m ≡ n)
found_some true m n e = (refl, cc)
found_some false m n e = absurd (cc)

pub found_none : (b : Bool) (n : ℕ) → None ≡ then_some b n → false ≡ b
found_none true n e = absurd (cc)
found_none false n e = refl

module _ {a old new : List ℕ} (t : Tabled a old new) {s rank first count : ℕ} (l : s < area_p a) (is_rank : rank ≡ area_rank a)
    (is_first : first ≡ sent_first old new s rank) (is_count : count ≡ sent_count old new s rank) where
  first_is : first ≡ from_first a s
  first_is = is_first ∙ rw (t.is_old, t.is_new, is_rank)

  count_is : count ≡ from_count a s
  count_is = is_count ∙ rw (t.is_old, t.is_new, is_rank)

  pub range_none : count ≡ 0 → (true ≡ range_sound a s) × (0 ≡ range_filled a s)
  unfolding range_sound range_filled
  range_none z = (rw (← count_is, z), either (heard a s) (λ h. rw (h, ← count_is, z)) (λ h. rw h))

  module _ (some : count ≡ 0 → ⊥) {F : ℕ} (is_f : F ≡ first_tree new rank) where
    start_is : F ≡ area_first a
    unfolding area_first
    start_is = is_f ∙ rw (t.is_new, is_rank)

    -- the bounds of the trees due
    pub record Due : Type 0 where
      pub low : F ≤ first
      pub high : first - F + count ≤ area_count a
      pub most : first + count ≤ max_trees

    pub due : Due
    due =
        let w = from_within a t.header s l (λ z. some (count_is ∙ z)) in
        let T = t.header.tables in
        record {
          low = omega (arith, start_is, first_is, w.0);
          high = omega (arith, start_is, first_is, count_is, w.0, w.1);
          most = omega (arith, first_is, count_is, w.1, range_trees a t.header, trees_high (area_old a) T.old_bytes T.old_ranks T.old_valid);
        }

    -- the first tree due has local index i
    module _ (i : ℕ) (is-i : i + F ≡ first) {P base : ℕ} (is_p : P ≡ area_p a) (is_base : base ≡ slots_place P) {h : Bool} (is-h : h ≡ heard a s) where
      place_is : base + tree_size * i ≡ from_place a s
      unfolding from_place
      place_is =
          let e : i ≡ first - F = omega arith in
          ap (λ (x : ℕ). base + tree_size * x) e ∙ rw (is_base, is_p, first_is, start_is)

      counted : eqb (from_count a s) 0 ≡ false
      counted = ne_eqb (from_count a s) 0 (λ z. some (count_is ∙ z))

      pub range_held : h ≡ true → {r : Bool} → r ≡ all_below count (λ j. slot_held a (base + tree_size * i + tree_size * j) (first + j)) → (r ≡ range_sound a s) × (count ≡ range_filled a s)
      unfolding range_sound range_filled
      range_held ok e = (
        e
            ∙ ap (λ (n : ℕ). all_below n (λ j. slot_held a (base + tree_size * i + tree_size * j) (first + j))) count_is
            ∙ ap₂ (λ (x y : ℕ). all_below (from_count a s) (λ j. slot_held a (x + tree_size * j) (y + j))) place_is first_is
            ∙ rw (counted, ← is-h, ok),
        rw (← is-h, ok) count_is,
      )

      pub range_zero : h ≡ false → {r : Bool} → r ≡ all_zero (take (base + tree_size * i + tree_size * count - (base + tree_size * i)) (drop (base + tree_size * i) a)) → (r ≡ range_sound a s) × (0 ≡ range_filled a s)
      unfolding range_sound range_filled piece
      range_zero f e =
          let n : base + tree_size * i + tree_size * count - (base + tree_size * i) ≡ tree_size * count = omega arith in (
            e
                ∙ ap (λ (m : ℕ). all_zero (take m (drop (base + tree_size * i) a))) n
                ∙ ap₂ (λ (x y : ℕ). all_zero (take (tree_size * y) (drop x a))) place_is count_is
                ∙ rw (counted, ← is-h, f),
            rw (← is-h, f),
          )

-- the first s senders
pub record Ranges (a : List ℕ) (P filled s : ℕ) : Type 0 where
  pub some : s ≤ P
  pub sound : all_below s (range_sound a) ≡ true
  pub counted : filled ≡ sum_below s (range_filled a)

module _ (a : List ℕ) where
  pub ranges_step : {P filled s more : ℕ} → Ranges a P filled s → s < P → true ≡ range_sound a s → more ≡ range_filled a s → Ranges a P (filled + more) (s + 1)
  ranges_step {P} {filled} {s} R l e q =
      record {
        some = omega arith;
        sound = all_more s (range_sound a) R.sound (sym e);
        counted = rw (R.counted, q) (sym (sum_more s (range_filled a)));
      }

-- numbers that are 0 from m on add nothing
sum_rest : (m d : ℕ) (g : ℕ → ℕ) → ((i : ℕ) → m ≤ i → i < m + d → g i ≡ 0) → sum_below (m + d) g ≡ sum_below m g
unfolding sum_below
sum_rest m zero g z = rw add-zero
sum_rest m (suc d) g z = rw (add-suc, z (m + d) (omega arith) (omega arith), sum_rest m d g (λ i h l. z i h (omega arith))) (omega arith)

sum_past : (m n : ℕ) (g : ℕ → ℕ) → m ≤ n → ((i : ℕ) → m ≤ i → i < n → g i ≡ 0) → sum_below n g ≡ sum_below m g
sum_past m n g h z =
    let e : n ≡ m + (n - m) = omega arith in
    ap (λ (x : ℕ). sum_below x g) e ∙ sum_rest m (n - m) g (λ i l u. z i l (omega arith))

-- only ranks in a window have trees to send
module _ {a old new : List ℕ} (t : Tabled a old new) {rank first end : ℕ} (is_rank : rank ≡ area_rank a) (w : WindowOf old new rank false first end) where
  abbrev H : HeaderHolds a
  H = t.header

  pub window_within : end ≤ area_p a
  window_within = omega (arith, w.within, ap ranks t.is_old, H.ranks_are)

  -- none outside it is due
  pub not_due : (s : ℕ) → s < area_p a → ((s < first) ⊎ (end ≤ s)) → gets_from (area_old a) (area_new a) (area_rank a) s ≡ false
  unfolding exchanges_tree
  not_due s l h =
      let n : ranks old ≡ area_p a = ap ranks t.is_old ∙ H.ranks_are in
      let e : gets_from old new rank s ≡ false = ⊎_elim (λ b. w.before s b) (λ b. w.after s b (omega arith)) h in
      rw (t.is_old, t.is_new, is_rank) at e

  none_sent : (s : ℕ) → s < area_p a → ((s < first) ⊎ (end ≤ s)) → (true ≡ range_sound a s) × (0 ≡ range_filled a s)
  none_sent s l h =
      let p : s < ranks (area_old a) = omega (arith, H.ranks_are) in
      let c = sent_count_lem (area_old a) (area_new a) H.tables s (area_rank a) p (rank_below a H) in
      let g = sym (gets_from_lem (area_old a) (area_new a) H.tables s (area_rank a) p (rank_below a H)) ∙ not_due s l h in
      let z : from_count a s ≡ 0 = omega (tests, c, g) in
      range_none t l is_rank refl refl (count_is t l is_rank refl refl ∙ z)

  pub ranges_start : Ranges a end 0 first
  ranges_start =
      record {
        some = w.ordered;
        sound = all_intro first (range_sound a) (λ i h. sym (none_sent i (omega (arith, w.ordered, window_within)) (inl h)).0);
        counted = sym (sum_same first (range_filled a) (λ i. 0) (λ i h. sym (none_sent i (omega (arith, w.ordered, window_within)) (inl h)).1) ∙ sum_none first);
      }

  -- no sum of them is above n
  pub ranges_fit_lem : {filled s more : ℕ} → Ranges a end filled s → s < end → more ≡ range_filled a s → filled + more ≤ max_trees
  ranges_fit_lem {filled} {s} {more} R l e =
      let q : filled + more ≡ sum_below (s + 1) (range_filled a) = rw (R.counted, e) (sym (sum_more s (range_filled a))) in
      omega (arith, q, filled_few_of a H (s + 1) (omega (arith, window_within)), H.count_high)

  pub ranges_fail : {s : ℕ} → s < end → false ≡ range_sound a s → false ≡ (all_below (area_count a) (tree_slot_sound a) && leb (area_ghosts a) (filled_bound a))
  ranges_fail {s} l e =
      let t : all_below (area_count a) (tree_slot_sound a) ≡ false = sym (ranges_slots a H) ∙ all_fails (area_p a) (range_sound a) s (omega (arith, window_within)) (sym e) in
      rw t

  pub ranges_read : {filled s : ℕ} → Ranges a end filled s → end ≤ s → {g d b : ℕ} → g ≡ area_ghosts a → d ≡ area_dimension a → b ≡ ghost_bound (faces_in d) filled
      → leb g b ≡ (all_below (area_count a) (tree_slot_sound a) && leb (area_ghosts a) (filled_bound a))
  unfolding filled_bound
  ranges_read {filled} {s} R m e q z =
      let i : s ≡ end = omega (arith, R.some) in
      let all : all_below (area_p a) (range_sound a) ≡ true =
      all_intro (area_p a) (range_sound a) (λ j l. either (ltb j s) (λ p. all_at s (range_sound a) R.sound j (ltb-true j s p)) (λ p. sym (none_sent j l (inr (omega tests))).0)) in
      let t : all_below (area_count a) (tree_slot_sound a) ≡ true = sym (ranges_slots a H) ∙ all in
      let more : sum_below (area_p a) (range_filled a) ≡ sum_below end (range_filled a) =
      sum_past end (area_p a) (range_filled a) window_within (λ j h l. sym (none_sent j l (inr h)).1) in
      let n : filled ≡ filled_slots a = R.counted ∙ ap (λ (x : ℕ). sum_below x (range_filled a)) i ∙ sym more ∙ ranges_filled a H in
      rw (t, z, e, q, n)

-- ---- the ghost slots

module _ (a : List ℕ) (at j : ℕ) where
  pub after_first : j ≡ 0 → true ≡ after_last (core_at a at) j
  unfolding after_last
  after_first z = rw z

  pub after_read : (j ≡ 0 → ⊥) → {x y : ℕ} → x ≡ number_of (piece a (at + core_size * (j - 1)) core_size) → y ≡ number_of (piece a (at + core_size * (j - 1) + core_size) core_size) → ltb x y ≡ after_last (core_at a at) j
  unfolding after_last core_at
  after_read some e d =
      let n : at + core_size * (j - 1) + core_size ≡ at + core_size * j = omega arith in
      rw (ne_eqb j 0 some, e, d, n)

  pub ghost_read : (K first end : ℕ) {f l : Bool} {number : ℕ} → number ≡ number_of (piece a (at + core_size * j) core_size) → f ≡ in_form number (piece a (at + core_size * j) core_size) → l ≡ after_last (core_at a at) j
      → (f && ltb number K && not (leb first number && ltb number end) && l) ≡ ghost_held_at a at K first end j
  unfolding ghost_held_at core_at
  ghost_read K first end e d q = rw (d, q, e)

module _ {a old new : List ℕ} (t : Tabled a old new) {g n dimension bound : ℕ} (is_g : g ≡ area_ghosts a) (is_n : n ≡ area_count a) (is_dimension : dimension ≡ area_dimension a) (is_bound : bound ≡ ghost_bound (faces_in dimension) n) where
  bound-is : bound ≡ area_bound a
  unfolding area_bound
  bound-is = is_bound ∙ rw (is_dimension, is_n)

  module _ (fit : area_ghosts a ≤ area_bound a) {P at : ℕ} (is_p : P ≡ area_p a) (is_at : at ≡ ghost_slots_place P n) where
    -- the held ghosts, and all slots, are in the buffer, and there are slots for the ghosts
    pub ghosts_room : (at + core_size * g ≤ length a) × (at + core_size * bound ≤ length a) × (g ≤ bound)
    ghosts_room =
        let p = ghosts_place_is P n in
        let w : heard_words P ≡ heard_words (area_p a) = ap heard_words is_p in
        (omega (arith, t.header.long, bound-is), omega (arith, t.header.long, bound-is), omega (arith, bound-is))

    module _ {K rank first end : ℕ} {r : Bool} (is-K : K ≡ area_k a) (is_rank : rank ≡ area_rank a) (is_first : first ≡ first_tree new rank) (is_end : end ≡ end_tree new rank) (is-r : r ≡ all_below g (ghost_held_at a at K first end)) where
      held-is : r ≡ all_below (area_ghosts a) (ghost_held_sound a)
      held-is =
          let f1 : first ≡ first_tree (area_new a) (area_rank a) = is_first ∙ rw (t.is_new, is_rank) in
          let e1 : end ≡ end_tree (area_new a) (area_rank a) = is_end ∙ rw (t.is_new, is_rank) in
          let a1 : at ≡ ghost_slots_place (area_p a) (area_count a) = is_at ∙ rw (is_p, is_n) in
          is-r ∙ rw (is_g, a1, is-K, f1, e1) (all_same (area_ghosts a) _ (ghost_held_sound a) (λ j l. ghost_held_is a t.header j))

      all-is : all_below (area_bound a) (ghost_slot_sound a) ≡ (r && all_zero (piece a (at + core_size * g) (core_size * (bound - g))))
      all-is =
          let a1 : at ≡ ghost_slots_place (area_p a) (area_count a) = is_at ∙ rw (is_p, is_n) in
          rw (ghosts_split a t.header fit, held-is, a1, is_g, bound-is)

      pub ghosts_fail : r ≡ false → false ≡ all_below (area_bound a) (ghost_slot_sound a)
      ghosts_fail f = sym (all-is ∙ rw f)

      pub ghosts_read : r ≡ true → {z : Bool} → z ≡ all_zero (take (at + core_size * bound - (at + core_size * g)) (drop (at + core_size * g) a)) → z ≡ all_below (area_bound a) (ghost_slot_sound a)
      unfolding piece
      ghosts_read ok e =
          let n : at + core_size * bound - (at + core_size * g) ≡ core_size * (bound - g) = omega arith in
          e ∙ ap (λ (m : ℕ). all_zero (take m (drop (at + core_size * g) a))) n ∙ sym (all-is ∙ rw ok)

-- ---- the area

pub area_header_fails : (a : List ℕ) → area_header_sound a ≡ false → false ≡ area_sound a
unfolding area_sound
area_header_fails a e = rw e

module _ (a : List ℕ) (ok : area_header_sound a ≡ true) where
  abbrev bits : Bool
  bits = all_below (64 * heard_words (area_p a)) (bit_sound a)

  abbrev slots : Bool
  slots = all_below (area_count a) (tree_slot_sound a)

  abbrev fewer : Bool
  fewer = leb (area_ghosts a) (filled_bound a)

  abbrev ghost_slots : Bool
  ghost_slots = all_below (area_bound a) (ghost_slot_sound a)

  area_is : area_sound a ≡ (bits && slots && fewer && ghost_slots)
  unfolding area_sound
  area_is = rw ok

  -- more ghosts than slots, or not
  module _ {n d c bound : ℕ} (is_n : n ≡ area_ghosts a) (is-d : d ≡ area_dimension a) (is_c : c ≡ area_count a) (is_bound : bound ≡ ghost_bound (faces_in d) c) where
    slots-bound : bound ≡ area_bound a
    unfolding area_bound
    slots-bound = is_bound ∙ rw (is-d, is_c)

    pub area_crowded : bound < n → false ≡ area_sound a
    area_crowded h =
        let f : fewer ≡ false = lt-leb (area_ghosts a) (filled_bound a) (omega (arith, filled_fits a, slots-bound)) in
        sym (area_is ∙ rw (f, and-false (bits && slots)))

    pub area_fits : n ≤ bound → area_ghosts a ≤ area_bound a
    area_fits h = omega (arith, slots-bound)

  module _ {b g : Bool} (is_b : b ≡ bits) (is_g : g ≡ ghost_slots) where
    pub area_fails : (b && g) ≡ false → false ≡ area_sound a
    area_fails f = either b (λ t. let none : ghost_slots ≡ false = sym is_g ∙ (rw t at f) in sym (area_is ∙ rw (none, and-false (bits && slots && fewer)))) (λ n. sym (area_is ∙ rw (← is_b, n)))

    pub area_read : {s : Bool} → (b && g) ≡ true → s ≡ (slots && fewer) → s ≡ area_sound a
    area_read t e =
        let first : bits ≡ true = sym is_b ∙ and_fst b g t in
        let last : ghost_slots ≡ true = sym is_g ∙ and_snd b g t in
        e ∙ sym (area_is ∙ rw (first, last, and-true (slots && fewer)))
