-- Laws of the window of ranks with which a rank may exchange trees.
use Prim.Native.Nat.{ℕ, zero, suc, ◌+◌, ◌-◌, ◌≤◌, ◌<◌}
use native.Mathlib.Omega.{arith}
use mathlib.Core.Path.{◌≡◌, refl, sym, ap, ◌∙◌}
use mathlib.Core.Bool.{Bool, true, false}
use mathlib.Core.List.{List, [], append-nil}
use lib.Dec.{leb, ltb}
use lib.ListN.{length, set, length-set}
use borrow.Author.Tests.{ltb-true, ltb-false, leb-true, le-ltb}
use Rattle.encoding.specs.Below.{count_below, kept_below}
use Rattle.encoding.proofs.Below.{tests, either, count_le, count_none, kept_length}
use Rattle.encoding.proofs.Pieces.{splice_none}
use Rattle.offsets.specs.Limits.{max_ranks}
use Rattle.offsets.specs.Table.{ranks, entry, magnitude, first_tree, end_tree}
use Rattle.offsets.proofs.OnePass.{ranks_known}
use Rattle.offsets.proofs.Tables.{end_next, first_le_end, rises}
use Rattle.pattern.specs.Means.{ValidTable, RankOf, FirstAbove, Meeting, WindowOf, SetWritten, sent_low, sent_high, exchanges_tree, rank_set}
use Rattle.pattern.proofs.Laws.{count_one, count_skip, Writing, write_index, write_more, write_skip, write_done}
use Rattle.pattern.proofs.Senders.{first_near, end_before, sent_old, sent_new}
use Rattle.pattern.proofs.Sets.{sends_to_lem, gets_from_lem}

-- ---- the first above k, by halves

-- the ranks below low - 1 have no tree from k on, and from rank high on |O[p]| is above k
pub record Halving (t : List ℕ) (k low high : ℕ) : Type 0 where
  pub start : 1 ≤ low
  pub order : low ≤ high
  pub bound : high ≤ ranks t
  pub before : (i : ℕ) → suc i < low → end_tree t i ≤ k
  pub after : (i : ℕ) → high ≤ i → i < ranks t → k < magnitude (entry t i)

module _ (t : List ℕ) (k : ℕ) (table : ValidTable t) where
  pub half_start : {P : ℕ} → P ≡ ranks t → 1 ≤ P → Halving t k 1 P
  half_start e l = record { start = omega arith; order = l; bound = omega arith; before = λ i h. absurd (omega arith); after = λ i h m. absurd (omega arith) }

  module _ {low high middle v : ℕ} (so_far : Halving t k low high) (lo : low ≤ middle) (hi : middle < high) (read : v ≡ magnitude (entry t middle)) where
    pub half_above : k < v → Halving t k low middle
    half_above h =
        record {
          start = so_far.start;
          order = lo;
          bound = omega (arith, so_far.bound);
          before = so_far.before;
          after = λ i l m. omega (arith, rises t table.bytes table.ranks_fit table.is_valid middle i l (omega arith));
        }

    pub half_below : v ≤ k → Halving t k (middle + 1) high
    half_below h =
        record {
          start = omega arith;
          order = omega arith;
          bound = so_far.bound;
          before = λ i l. omega (arith, end_before t table.bytes table.ranks_fit table.is_valid i middle (omega arith) (omega (arith, so_far.bound)));
          after = so_far.after;
        }

  pub half_end : {low high : ℕ} → Halving t k low high → high ≤ low → FirstAbove t k low × (low ≤ max_ranks)
  half_end s h = (
    record {
      low = s.start;
      high = omega (arith, s.order, s.bound);
      before = s.before;
      after = λ i l m. s.after i (omega arith) m;
    },
    omega (arith, s.order, s.bound, (ranks_known t table.ranks_fit).high),
  )

-- ---- the window

-- between the first above the rank's first tree and the first above its end
pub meeting_is : (from to : List ℕ) (p : ℕ) → RankOf from to p → (a b x y : ℕ) → a ≡ first_tree from p → b ≡ end_tree from p → FirstAbove to a x → FirstAbove to b y → Meeting to (first_tree from p) (end_tree from p) (x - 1) y
meeting_is from to p f a b x y e g A B =
    let T = f.tables in
    let u = first_le_end from T.old_bytes T.old_ranks T.old_valid p f.rank_below in
    record {
      ordered = either (leb (x - 1) y) (leb-true (x - 1) y)
          (λ c. let l : suc y < x = omega tests in
          absurd (omega (arith, A.before y l, A.high, B.after y (omega arith) (omega (arith, A.high)), end_next to y, rises to T.new_bytes T.new_ranks T.new_valid y (suc y) (omega arith) (omega (arith, A.high)))));
      within = B.high;
      before = λ i l. rw (← e) (A.before i (omega arith));
      after = λ i l m. omega (arith, B.after i l m, first_near to T.new_bytes T.new_ranks T.new_valid i);
    }

-- the receivers of the rank are in the window of its old range
pub window_sending : (old new : List ℕ) (p first end : ℕ) → RankOf old new p → Meeting new (first_tree old p) (end_tree old p) first end → WindowOf old new p true first end
unfolding exchanges_tree
window_sending old new p first end f w =
    let T = f.tables in
    let same = T.same_ranks in
    let none : (i : ℕ) → i < ranks old → sent_high old new p i ≤ sent_low old new p i → exchanges_tree old new p true i ≡ false =
    λ i l h. sends_to_lem old new T p i f.rank_below l ∙ le-ltb (sent_low old new p i) (sent_high old new p i) h in
    record {
      ordered = w.ordered;
      within = omega (arith, w.within);
      before = λ i l. none i (omega (arith, w.ordered, w.within)) (omega (arith, w.before i l, sent_old old new T p i, sent_new old new T p i));
      after = λ i l m. none i m (omega (arith, w.after i l (omega arith), sent_old old new T p i, sent_new old new T p i));
    }

-- its senders in that of its new range
pub window_receiving : (old new : List ℕ) (q first end : ℕ) → RankOf old new q → Meeting old (first_tree new q) (end_tree new q) first end → WindowOf old new q false first end
unfolding exchanges_tree
window_receiving old new q first end f w =
    let T = f.tables in
    let none : (i : ℕ) → i < ranks old → sent_high old new i q ≤ sent_low old new i q → exchanges_tree old new q false i ≡ false =
    λ i l h. gets_from_lem old new T i q l f.rank_below ∙ le-ltb (sent_low old new i q) (sent_high old new i q) h in
    record {
      ordered = w.ordered;
      within = w.within;
      before = λ i l. none i (omega (arith, w.ordered, w.within)) (omega (arith, w.before i l, sent_old old new T i q, sent_new old new T i q));
      after = λ i l m. none i m (omega (arith, w.after i l m, sent_old old new T i q, sent_new old new T i q));
    }

-- ---- the loop over the window

-- none passes from n on
kept_past : (f : ℕ → Bool) (n m : ℕ) → n ≤ m → ((i : ℕ) → n ≤ i → i < m → f i ≡ false) → kept_below m f ≡ kept_below n f
unfolding kept_below
kept_past f n zero h none = let e : n ≡ 0 = omega arith in rw e
kept_past f n (suc m) h none =
    either (leb n m)
    (λ e. rw (none m (leb-true n m e) (omega arith), append-nil) (kept_past f n m (leb-true n m e) (λ i l u. none i l (omega arith))))
    (λ e. let d : n ≡ suc m = omega tests in ap (λ x. kept_below x f) (sym d))

-- the numbers below i that pass f are counted, and written where there is room for all
pub record Listing (f : ℕ → Bool) (end : ℕ) (start out : List ℕ) (n i : ℕ) : Type 0 where
  pub within : i ≤ end
  pub counted : n ≡ count_below i f
  pub long : length out ≡ length start
  pub writing : length (kept_below end f) ≤ length start → Writing f end start out n i

module _ (f : ℕ → Bool) (end : ℕ) (start : List ℕ) where
  module _ {out : List ℕ} {n i : ℕ} (s : Listing f end start out n i) where
    -- no more are counted than there are ranks
    pub list_count : n ≤ i
    list_count = omega (arith, s.counted, count_le i f)

    module _ (h : i < end) where
      -- one that passes, with room for it
      pub list_more : f i ≡ true → n < length out → Listing f end start (set out n i) (n + 1) (i + 1)
      list_more e l =
          record {
            within = omega arith;
            counted = count_one i n f s.counted e;
            long = length-set out n i ∙ s.long;
            writing = λ room. write_more f end start room out n i (s.writing room) h e;
          }

      -- and without
      pub list_past : f i ≡ true → length out ≤ n → Listing f end start out (n + 1) (i + 1)
      list_past e l =
          record {
            within = omega arith;
            counted = count_one i n f s.counted e;
            long = s.long;
            writing = λ room. absurd (omega (arith, write_index f end start room out n i (s.writing room) h e));
          }

      -- one that fails
      pub list_skip : f i ≡ false → Listing f end start out n (i + 1)
      list_skip e =
          record {
            within = omega arith;
            counted = count_skip i n f s.counted e;
            long = s.long;
            writing = λ room. write_skip f end start room out n i (s.writing room) h e;
          }

module _ {old new : List ℕ} {p : ℕ} {sending : Bool} {first end : ℕ} (w : WindowOf old new p sending first end) where
  abbrev passes : ℕ → Bool
  passes = exchanges_tree old new p sending

  -- the set is what passes before the window's end
  window-set : rank_set old new p sending ≡ kept_below end passes
  unfolding rank_set
  window-set = kept_past passes end (ranks old) w.within w.after

  -- and none passes before its first: nothing is written yet
  pub list_start : (start : List ℕ) → Listing passes end start start 0 first
  unfolding kept_below
  list_start start =
      let none : kept_below first passes ≡ [] = kept_past passes 0 first (omega arith) (λ i l h. w.before i h) in
      let zero-counted : 0 ≡ count_below first passes = sym (count_none first passes w.before) in
      record {
        within = w.ordered;
        counted = zero-counted;
        long = refl;
        writing = λ room. record { within = w.ordered; counted = zero-counted; kept = rw none (sym (splice_none start 0)) };
      }

  -- what the loop counted and wrote is the set
  pub list_done : (start out : List ℕ) (n i : ℕ) → end ≤ max_ranks → Listing passes end start out n i → end ≤ i → SetWritten old new p sending start out n
  list_done start out n i b s l =
      let e : i ≡ end = omega (arith, s.within) in
      let d : n ≡ count_below end passes = rw e at s.counted in
      let c : n ≡ length (kept_below end passes) = d ∙ sym (kept_length end passes) in
      record {
        counted = c ∙ sym (ap length window-set);
        few = omega (arith, list_count passes end start s);
        kept = λ room. rw window-set (write_done passes end start (omega arith) out n i (s.writing (omega arith)) l);
      }

-- ---- room for a set

-- a list for P ranks has room for every set
pub room_most : (old new : List ℕ) (p : ℕ) (sending : Bool) {P room : ℕ} → P ≡ ranks old → P ≤ room → false ≡ ltb room (length (rank_set old new p sending))
unfolding rank_set
room_most old new p sending {P} {room} e h =
    let f = exchanges_tree old new p sending in
    sym (le-ltb room (length (kept_below (ranks old) f)) (omega (arith, kept_length (ranks old) f, count_le (ranks old) f)))

module _ {short : Bool} {room n : ℕ} (e : short ≡ ltb room n) where
  -- a list that is too short
  pub room_lacks : short ≡ true → room < n
  room_lacks h = ltb-true room n (sym e ∙ h)

  -- and one that isn't
  pub room_has : short ≡ false → n ≤ room
  room_has h = ltb-false room n (sym e ∙ h)

  pub room_counted : {m : ℕ} → short ≡ false → m ≡ n → m ≤ room
  room_counted h c = rw c (room_has h)
