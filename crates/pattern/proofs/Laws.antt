-- Laws that the proofs of the inner functions cite.
use Prim.Native.Nat.{ℕ, zero, suc, ◌+◌, ◌-◌, ◌≤◌, ◌<◌}
use native.Mathlib.Omega.{arith}
use mathlib.Core.Path.{◌≡◌, refl, sym, ◌∙◌}
use mathlib.Core.Bool.{Bool, true, false, and-false}
use mathlib.Core.List.{List, [], ◌∷◌, append-nil}
use lib.Dec.{leb, ltb, eqb}
use lib.ListN.{length, set}
use borrow.Author.Tests.{ltb-true, ltb-false, leb-true, leb-false, eqb-true, eqb-false, lt-ltb, le-ltb, lt-leb, eq-eqb, ne_eqb}
use Rattle.encoding.specs.Below.{count_below, kept_below}
use Rattle.encoding.specs.Pieces.{Bytes, splice}
use Rattle.encoding.proofs.Below.{tests, either, clash, any_none, least_none, count_le, count_more, count_mono, count_lt, kept_more, kept_length, least_is}
use Rattle.encoding.proofs.Pieces.{splice_none, splice_cons, splice_next, length_splice}
use Rattle.offsets.specs.Limits.{max_ranks, max_trees}
use Rattle.offsets.specs.Table.{table_length, ranks, ranks_ok, first_tree, end_tree, holds}
use Rattle.offsets.proofs.OnePass.{ranks_known}
use Rattle.offsets.proofs.Tables.{trees_high}
use Rattle.pattern.proofs.Senders.{some_holder, sender_is, sent_high_lem, sent_count_lem, sent_first_lem, sent_old, upper_le}
use Rattle.pattern.proofs.Sets.{sends_to_lem}
use Rattle.pattern.specs.Sender.{Tables, distance, sender, sent_first, sent_count}
use Rattle.pattern.specs.Means.{TreeOf, RankOf, PairOf, PairNear, held_below, held_above, has_trees, lower_rank, above_with_trees, upper_rank, sent_low, sent_high}
use Rattle.pattern.specs.Sets.{sends_to}

-- ---- what is read stands in the tables

-- the entry of a rank and the next one stand in the table
pub row_fits : (t : List ℕ) (p : ℕ) → ranks_ok t ≡ true → p < ranks t → table_length (p + 1) ≤ length t
row_fits t p ok h = omega (arith, (ranks_known t ok).size)

-- also in the new table
pub receiver_in_new : (old new : List ℕ) → Tables old new → (q : ℕ) → q < ranks old → table_length (q + 1) ≤ length new
receiver_in_new old new T q h = row_fits new q T.new_ranks (rw T.same_ranks h)

-- of a pair's sender and receiver
module _ {old new : List ℕ} {p q : ℕ} (f : PairOf old new p q) where
  pub sender_row : table_length (p + 1) ≤ length old
  sender_row = row_fits old p f.tables.old_ranks f.sender_below

  pub receiver_new_row : table_length (q + 1) ≤ length new
  receiver_new_row = receiver_in_new old new f.tables q f.receiver_below

  -- their numbers are small
  pub pair_small : (p < max_ranks) × (q < max_ranks)
  pair_small =
      let h = (ranks_known old f.tables.old_ranks).high in
      let l = f.sender_below in
      let r = f.receiver_below in
      (omega arith, omega arith)

  -- the next rank with trees, or P, has an entry
  pub upper_row : {upper : ℕ} → upper ≡ upper_rank old p → table_length upper ≤ length old
  upper_row e = omega (arith, upper_le old p, (ranks_known old f.tables.old_ranks).size)

-- ---- the trees from p to q

module _ (old new : List ℕ) (p q : ℕ) (f : PairOf old new p q) (low high : ℕ) (a : low ≡ sent_low old new p q) (b : high ≡ sent_high old new p q) where
  -- p sends q a tree where low is below high
  pub sends_tested : ltb low high ≡ sends_to old new p q
  sends_tested = rw (a, b) (sym (sends_to_lem old new f.tables p q f.sender_below f.receiver_below))

  -- they are below K
  pub sent_fits : high ≤ max_trees
  sent_fits =
      let T = f.tables in
      omega (arith, sent_high_lem old new T p q f.sender_below f.receiver_below, trees_high old T.old_bytes T.old_ranks T.old_valid)

  counted : sent_count old new p q ≡ high - low
  counted = rw (a, b) (sent_count_lem old new f.tables p q f.sender_below f.receiver_below)

  -- the first and how many, where there are none
  pub sent_none : high ≤ low → (0 ≡ sent_first old new p q) × (0 ≡ sent_count old new p q)
  sent_none h =
      let n : sent_count old new p q ≡ 0 = omega (arith, counted) in
      (sym (sent_first_lem old new f.tables p q f.sender_below f.receiver_below ∙ rw (eq-eqb (sent_count old new p q) 0 n)), sym n)

  -- and where there are some
  pub sent_some : low < high → (low ≡ sent_first old new p q) × (high - low ≡ sent_count old new p q)
  sent_some h =
      let n : sent_count old new p q ≡ 0 → ⊥ = λ z. omega (arith, counted) in
      (sym (sent_first_lem old new f.tables p q f.sender_below f.receiver_below ∙ rw (ne_eqb (sent_count old new p q) 0 n) (sym a)), sym counted)

-- a rank without trees sends none
module _ (old new : List ℕ) (p q : ℕ) (f : PairOf old new p q) (h : has_trees old p ≡ false) where
  nothing : sent_high old new p q ≤ sent_low old new p q
  unfolding has_trees
  nothing = omega (arith, ltb-false (first_tree old p) (end_tree old p) h, sent_old old new f.tables p q)

  pub empty_sends : false ≡ sends_to old new p q
  empty_sends = sym (sends_to_lem old new f.tables p q f.sender_below f.receiver_below ∙ le-ltb (sent_low old new p q) (sent_high old new p q) nothing)

  pub empty_sent : (0 ≡ sent_first old new p q) × (0 ≡ sent_count old new p q)
  empty_sent = sent_none old new p q f (sent_low old new p q) (sent_high old new p q) refl refl nothing

-- ---- the ranks with trees on either side of p

pub lower_le : (t : List ℕ) (p : ℕ) → lower_rank t p ≤ p
unfolding lower_rank
lower_le t zero = omega arith
lower_le t (suc p) = either (has_trees t p) (λ e. rw e (omega arith)) (λ e. rw e (omega (arith, lower_le t p)))

-- one more that has none
pub lower_skip : (t : List ℕ) (m p next : ℕ) → lower_rank t m ≡ lower_rank t p → next + 1 ≡ m → has_trees t next ≡ false → lower_rank t next ≡ lower_rank t p
unfolding lower_rank
lower_skip t m p next e s h = let i : m ≡ suc next = omega arith in (rw (i, h) at e)

pub lower_found : (t : List ℕ) (m p next : ℕ) → lower_rank t m ≡ lower_rank t p → next + 1 ≡ m → has_trees t next ≡ true → next ≡ lower_rank t p
unfolding lower_rank
lower_found t m p next e s h = let i : m ≡ suc next = omega arith in (rw (i, h) at e)

pub lower_none : (t : List ℕ) (m p : ℕ) → lower_rank t m ≡ lower_rank t p → m ≤ 0 → 0 ≡ lower_rank t p
unfolding lower_rank
lower_none t m p e h = let i : m ≡ 0 = omega arith in (rw i at e)

-- no rank above p and below n has trees
pub record Looking (t : List ℕ) (p n : ℕ) : Type 0 where
  pub above : p < n
  pub inside : n ≤ ranks t
  pub none : (i : ℕ) → i < n → above_with_trees t p i ≡ false

module _ (t : List ℕ) (p : ℕ) where
  pub look_start : p < ranks t → Looking t p (p + 1)
  unfolding above_with_trees
  look_start h = record { above = omega arith; inside = omega arith; none = λ i l. rw (le-ltb p i (omega arith)) }

  pub look_more : (P n : ℕ) → P ≡ ranks t → Looking t p n → n < P → has_trees t n ≡ false → Looking t p (n + 1)
  unfolding above_with_trees
  look_more P n e s l h =
      record {
        above = omega (arith, s.above);
        inside = omega arith;
        none = λ i m. either (ltb i n) (λ c. s.none i (ltb-true i n c)) (λ c. let d : i ≡ n = omega tests in rw (d, h, and-false));
      }

  pub look_found : (P n : ℕ) → P ≡ ranks t → Looking t p n → n < P → has_trees t n ≡ true → n ≡ upper_rank t p
  unfolding upper_rank above_with_trees
  look_found P n e s l h = sym (least_is (ranks t) (above_with_trees t p) n (omega arith) (rw (lt-ltb p n s.above, h)) s.none)

  pub look_none : (P n : ℕ) → P ≡ ranks t → Looking t p n → P ≤ n → P ≡ upper_rank t p
  unfolding upper_rank
  look_none P n e s l =
      let f = above_with_trees t p in
      e ∙ sym (least_none (ranks t) f (any_none (ranks t) f (λ i h. s.none i (omega arith))))

-- ---- the walk away from q for a rank that has tree k

-- no rank nearer to q than d has it
pub record Walking (t : List ℕ) (k q d : ℕ) : Type 0 where
  pub inside : d ≤ ranks t
  pub none : (r : ℕ) → r < ranks t → holds t r k ≡ true → d ≤ distance r q

module _ (t : List ℕ) (k q : ℕ) (b : Bytes t) (f : TreeOf t k × (q < ranks t)) where
  pub walk_start : (d : ℕ) → d ≤ 0 → Walking t k q d
  walk_start d z = record { inside = omega arith; none = λ r l h. omega arith }

  module _ (P d : ℕ) (e : P ≡ ranks t) (w : Walking t k q d) (l : d < P) where
    -- the one below has it
    pub walk_below : held_below t k q d ≡ true → (d ≤ q) × (q - d ≡ sender t k q)
    unfolding held_below distance
    walk_below h =
        let c : ltb q d ≡ false = either (ltb q d) (λ x. let z : false ≡ true = rw x at h in clash z refl) (λ x. x) in
        let g : holds t (q - d) k ≡ true = rw c at h in
        let le = ltb-false q d c in (
          le,
          sym (sender_is t k q (q - d) (omega (arith, f.1)) g
              (λ r m x. omega (arith, f.1, w.none r (omega (arith, f.1)) x)) (λ r m u x. omega (arith, w.none r u x))),
        )

    module _ (h : held_below t k q d ≡ false) where
      below_none : d ≤ q → holds t (q - d) k ≡ false
      unfolding held_below
      below_none c = rw (le-ltb q d c) at h

      -- else the one above
      pub walk_above : held_above t k q d ≡ true → (q + d < P) × (q + d ≡ sender t k q)
      unfolding held_above distance
      walk_above g =
          let c : leb (ranks t - q) d ≡ false = either (leb (ranks t - q) d) (λ x. let z : false ≡ true = rw x at g in clash z refl) (λ x. x) in
          let m : holds t (q + d) k ≡ true = rw c at g in
          let u = leb-false (ranks t - q) d c in (
            omega (arith, f.1),
            sym (sender_is t k q (q + d) (omega (arith, f.1)) m
                (λ r s x. let n = w.none r (omega (arith, f.1)) x in
                either (eqb r (q - d))
                (λ y. let i = eqb-true r (q - d) y in
                let z : holds t (q - d) k ≡ true = rw i at x in
                clash z (below_none (omega arith)))
                (λ y. omega (tests, eqb-false r (q - d) y)))
                (λ r s v x. omega arith)),
          )

      -- else neither
      pub walk_more : held_above t k q d ≡ false → Walking t k q (d + 1)
      unfolding held_above distance
      walk_more g =
          record {
            inside = omega arith;
            none = λ r s x. either (leb (d + 1) (distance r q)) (leb-true (d + 1) (distance r q))
                (λ c. let n = w.none r s x in
                either (ltb q r)
                (λ y. let i : r ≡ q + d = omega tests in
                let z : holds t (q + d) k ≡ true = rw i at x in
                clash z (rw (lt-leb (ranks t - q) d (omega tests)) at g))
                (λ y. let i : r ≡ q - d = omega tests in
                let z : holds t (q - d) k ≡ true = rw i at x in
                clash z (below_none (omega tests))));
          }

  -- the walk ends at a holder
  pub walk_ends : (P d : ℕ) → P ≡ ranks t → Walking t k q d → P ≤ d → ⊥
  unfolding distance
  walk_ends P d e w l =
      let s = some_holder t b f.0.ranks_fit f.0.is_valid k f.0.tree_below in
      omega (arith, w.none s.0 s.1 s.3, s.1, f.1)

-- ---- the loops over the ranks

-- each other rank makes a pair with the rank
pub pair_of : {old new : List ℕ} {p : ℕ} (P q : ℕ) → RankOf old new p → P ≡ ranks old → q < P → PairOf old new p q
pair_of P q f e h = record { tables = f.tables; sender_below = f.rank_below; receiver_below = omega arith }

-- with the ranks that have trees on either side of it
pub pair_near : {old new : List ℕ} {p lower upper : ℕ} (end q : ℕ) → RankOf old new p → end ≤ ranks old → q < end → lower ≡ lower_rank old p → upper ≡ upper_rank old p → PairNear old new p q lower upper
pair_near end q f e h l u = record { pair = pair_of _ q f refl (omega arith); is_lower = l; is_upper = u }

-- one turn of the count
pub count_one : (i n : ℕ) (f : ℕ → Bool) → n ≡ count_below i f → f i ≡ true → n + 1 ≡ count_below (i + 1) f
count_one i n f c e = rw (count_more, e, c)

pub count_skip : (i n : ℕ) (f : ℕ → Bool) → n ≡ count_below i f → f i ≡ false → n ≡ count_below (i + 1) f
count_skip i n f c e = rw (count_more, e, c) (omega arith)

-- the numbers below i that pass f are written, n of them
pub record Writing (f : ℕ → Bool) (P : ℕ) (start out : List ℕ) (n i : ℕ) : Type 0 where
  pub within : i ≤ P
  pub counted : n ≡ count_below i f
  pub kept : out ≡ splice start 0 (kept_below i f)

module _ (f : ℕ → Bool) (P : ℕ) (start : List ℕ) (room : length (kept_below P f) ≤ length start) where
  -- what is kept so far has room
  part-fits : (i : ℕ) → i ≤ P → length (kept_below i f) ≤ length start
  part-fits i h = omega (arith, count_mono i P f h, kept_length i f, kept_length P f)

  -- nothing is written yet
  pub write_start : Writing f P start start 0 0
  unfolding count_below kept_below
  write_start = record { within = omega arith; counted = refl; kept = sym (splice_none start 0) }

  -- writing keeps the list's length
  pub write_length : (out : List ℕ) (n i : ℕ) → Writing f P start out n i → length out ≡ length start
  write_length out n i w = rw w.kept (length_splice start 0 (kept_below i f) (omega (arith, part-fits i w.within)))

  -- no more are written than there are ranks
  pub write_count : (out : List ℕ) (n i : ℕ) → Writing f P start out n i → n ≤ P
  write_count out n i w = omega (arith, w.within, w.counted, count_le i f)

  -- there is room for one that passes
  pub write_index : (out : List ℕ) (n i : ℕ) → Writing f P start out n i → i < P → f i ≡ true → n < length out
  write_index out n i w h e = omega (arith, write_length out n i w, w.counted, count_lt i P f h e, kept_length P f)

  -- one that passes is written
  pub write_more : (out : List ℕ) (n i : ℕ) → Writing f P start out n i → i < P → f i ≡ true → Writing f P start (set out n i) (n + 1) (i + 1)
  write_more out n i w h e =
      let l : n ≡ 0 + length (kept_below i f) = omega (arith, w.counted, kept_length i f) in
      let s : set out n i ≡ splice out n (i ∷ []) = sym (splice_cons out n i [] (write_index out n i w h e) ∙ splice_none (set out n i) (suc n)) in
      record {
        within = omega arith;
        counted = count_one i n f w.counted e;
        kept = s ∙ rw (kept_more i f, e, w.kept, l) (splice_next start 0 (kept_below i f) (i ∷ []) (omega (arith, part-fits i w.within)));
      }

  -- one that fails is not
  pub write_skip : (out : List ℕ) (n i : ℕ) → Writing f P start out n i → i < P → f i ≡ false → Writing f P start out n (i + 1)
  write_skip out n i w h e =
      record { within = omega arith; counted = count_skip i n f w.counted e; kept = w.kept ∙ rw (kept_more i f, e, append-nil) }

  -- the loop has come to its bound
  pub write_done : (out : List ℕ) (n i : ℕ) → Writing f P start out n i → P ≤ i → out ≡ splice start 0 (kept_below P f)
  write_done out n i w h = let e : P ≡ i = omega (arith, w.within) in rw e w.kept
