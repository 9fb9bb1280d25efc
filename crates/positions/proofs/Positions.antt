-- Laws of the index of ascending records.
use Prim.Native.Nat.{ℕ, zero, suc, ◌+◌, ◌-◌, ◌*◌, ◌/◌, ◌%◌, ◌^◌, ◌≤◌, ◌<◌}
use native.Mathlib.Numerals.{add-one}
use native.Mathlib.Omega.{arith}
use mathlib.Core.Path.{◌≡◌, refl, sym, ap, ◌∙◌}
use mathlib.Core.Bool.{Bool, true, false, ◌||◌, or_comm, or-false, or_assoc}
use mathlib.Core.List.{List}
use lib.Dec.{eqb, ltb}
use lib.ListN.{length, get_or, set, replicate, length-set, length-replicate, get_or-replicate, get_or-eq_default}
use lib.Seq.{get_or-set_same, get_or-set_other}
use borrow.Author.Tests.{ltb-true, lt-ltb, le-ltb, eqb-true, eqb-false, eq-eqb, ne_eqb}
use Rattle.std.specs.Int.{div_ceil}
use Rattle.encoding.specs.Below.{any_below, count_below}
use Rattle.encoding.specs.Numbers.{u32_at}
use Rattle.encoding.proofs.Below.{either, tests, clash, below_suc, any_at, any_intro, count_more, count_same, count_none, count_le, count_mono, count_initial, least_is, least_none, count_add}
use Rattle.bits.specs.Bits.{bit_of, in_set, with_member}
use Rattle.bits.proofs.Bits.{bit_zero, bit_shift, bit_past, in_none, in_with, with_length}
use Rattle.records.specs.Record.{core_size}
use Rattle.part.specs.Means.{number_at, Ascending, smaller}
use Rattle.part.proofs.Search.{Between, between_end}
use Rattle.positions.specs.Means.{has_number, some_has, position_of, member_position, Markable, Added, Countable, Counted, Counts, Blank, Numbered, Indexed}

-- ---- a set that grows

-- nothing is added
pub added_none : (ws : List ℕ) (f : ℕ → Bool) → ((k : ℕ) → f k ≡ false) → Added ws f ws
added_none ws f h = record { same_length = refl; members = λ k. sym (ap (λ (b : Bool). in_set ws k || b) (h k) ∙ or-false (in_set ws k)) }

-- two additions in turn
pub added_then : {ws₀ ws last : List ℕ} {f g : ℕ → Bool} (h : ℕ → Bool) → Added ws₀ f ws → Added ws g last → ((k : ℕ) → h k ≡ (f k || g k)) → Added ws₀ h last
added_then {ws₀} {ws} {last} {f} {g} h p q e =
    record {
      same_length = q.same_length ∙ p.same_length;
      members = λ k.
          q.members k ∙ ap (λ (b : Bool). b || g k) (p.members k) ∙ or_assoc (in_set ws₀ k) (f k) (g k) ∙ ap (λ (b : Bool). in_set ws₀ k || b) (sym (e k));
    }

eqb_sym : (a b : ℕ) → eqb a b ≡ eqb b a
eqb_sym a b = either (eqb a b) (λ p. rw (p, eqb-true a b p) (sym (eq-eqb b b refl))) (λ p. rw p (sym (ne_eqb b a (λ e. eqb-false a b p (sym e)))))

-- one number is added
pub added_one : {ws last : List ℕ} {v : ℕ} → v < 64 * length ws → last ≡ with_member ws v → Added ws (eqb v) last
added_one {ws} {last} {v} h e =
    record {
      same_length = ap length e ∙ with_length ws v;
      members = λ k. ap (λ (x : List ℕ). in_set x k) e ∙ in_with ws v k h ∙ or_comm (eqb k v) (in_set ws k) ∙ ap (λ (b : Bool). in_set ws k || b) (eqb_sym k v);
    }

-- ---- marking

module _ (bs : List ℕ) (at : ℕ) (ws₀ : List ℕ) where
  pub mark_start : Added ws₀ (some_has bs at 0) ws₀
  unfolding some_has any_below
  mark_start = added_none ws₀ (some_has bs at 0) (λ k. refl)

  some_more : (i k : ℕ) → some_has bs at (i + 1) k ≡ (some_has bs at i k || eqb (number_at bs at i) k)
  unfolding some_has any_below has_number
  some_more i k = rw (add-one i)

  module _ {count i k : ℕ} (fit : Markable bs at count ws₀) (under : i < count) (read : k ≡ u32_at bs (at + core_size * i)) {ws : List ℕ} (so_far : Added ws₀ (some_has bs at i) ws) where
    number_is : k ≡ number_at bs at i
    unfolding number_at
    number_is = read

    pub mark_low : k < 64 * length ws
    mark_low = omega (arith, number_is, fit.low i under, so_far.same_length)

    pub mark_more : {after : List ℕ} → after ≡ with_member ws k → Added ws₀ (some_has bs at (i + 1)) after
    mark_more e = added_then (some_has bs at (i + 1)) so_far (added_one mark_low e) (λ x. some_more i x ∙ ap (λ (n : ℕ). some_has bs at i x || eqb n x) (sym number_is))

  pub mark_end : {count i : ℕ} {ws : List ℕ} → Added ws₀ (some_has bs at i) ws → i ≤ count → count ≤ i → Added ws₀ (some_has bs at count) ws
  mark_end {count} {i} a h l = let e : count ≡ i = omega arith in rw e a

-- ---- counting

module _ (ws : List ℕ) where
  in_word : (i b : ℕ) → b < 64 → in_set ws (64 * i + b) ≡ bit_of (get_or ws i 0) b
  unfolding in_set
  in_word i b h =
      let q : (64 * i + b) / 64 ≡ i = omega arith in
      let r : (64 * i + b) % 64 ≡ b = omega arith in
      rw (q, r)

  -- the members below the next word are those below this one and its bits
  word_more : (i : ℕ) → count_below (64 * (i + 1)) (in_set ws) ≡ count_below (64 * i) (in_set ws) + count_below 64 (bit_of (get_or ws i 0))
  word_more i =
      let e : 64 * (i + 1) ≡ 64 * i + 64 = omega arith in
      rw (e, count_add (64 * i) 64 (in_set ws), count_same 64 (λ b. in_set ws (64 * i + b)) (bit_of (get_or ws i 0)) (in_word i))

  pub counted_start : (words : ℕ) (behind : List ℕ) → Counted ws words behind words behind
  counted_start words behind = record { same_length = refl; counts = λ j h l. absurd (omega arith); others = λ j h. refl }

  -- one word more, from the last to the first
  pub counted_more : (words : ℕ) {behind₀ behind : List ℕ} {i : ℕ} (total : ℕ) → words ≤ length behind₀ → 0 < i → i ≤ words → total + count_below (64 * i) (in_set ws) ≡ count_below (64 * words) (in_set ws)
      → Counted ws words behind₀ i behind → Counted ws words behind₀ (i - 1) (set behind (i - 1) total)
  counted_more words {behind₀} {behind} {i} total room some h t c =
      let e : i - 1 + 1 ≡ i = omega arith in
      record {
        same_length = length-set behind (i - 1) total ∙ c.same_length;
        counts = λ j l u.
            either (eqb j (i - 1))
            (λ p. rw (eqb-true j (i - 1) p, get_or-set_same behind (i - 1) total 0 (omega (arith, c.same_length)), e) t)
            (λ p. rw (get_or-set_other behind (i - 1) j total 0 (eqb-false j (i - 1) p)) (c.counts j (omega (arith, eqb-false j (i - 1) p)) u));
        others = λ j l. get_or-set_other behind (i - 1) j total 0 (λ q. omega arith) ∙ c.others j l;
      }

  pub counted_end : (words : ℕ) {behind₀ behind : List ℕ} {i : ℕ} → Counted ws words behind₀ i behind → i ≤ 0 → Counted ws words behind₀ 0 behind
  counted_end words {i} c h = let e : i ≡ 0 = omega arith in rw e at c

  pub total_end : (words : ℕ) {i : ℕ} (total : ℕ) → total + count_below (64 * i) (in_set ws) ≡ count_below (64 * words) (in_set ws) → i ≤ 0 → total ≡ count_below (64 * words) (in_set ws)
  total_end words {i} total t h = omega (arith, count_le (64 * i) (in_set ws))

  -- the total grows by the bits of the word
  pub word_total : (words : ℕ) {i : ℕ} (total n : ℕ) → 0 < i → total + count_below (64 * i) (in_set ws) ≡ count_below (64 * words) (in_set ws) → n ≡ count_below 64 (bit_of (get_or ws (i - 1) 0))
      → (total + n + count_below (64 * (i - 1)) (in_set ws) ≡ count_below (64 * words) (in_set ws)) × (total + n ≤ 64 * words)
  word_total words {i} total n some t e =
      let d : i - 1 + 1 ≡ i = omega arith in
      let m : count_below (64 * i) (in_set ws) ≡ count_below (64 * (i - 1)) (in_set ws) + count_below 64 (bit_of (get_or ws (i - 1) 0)) = rw d at (word_more (i - 1)) in
      let s : total + n + count_below (64 * (i - 1)) (in_set ws) ≡ count_below (64 * words) (in_set ws) = omega arith in
      (s, omega (arith, count_le (64 * words) (in_set ws)))

  -- an empty word adds none
  pub word_none : (words : ℕ) {i : ℕ} (total : ℕ) → 0 < i → total + count_below (64 * i) (in_set ws) ≡ count_below (64 * words) (in_set ws) → get_or ws (i - 1) 0 ≡ 0
      → total + count_below (64 * (i - 1)) (in_set ws) ≡ count_below (64 * words) (in_set ws)
  word_none words {i} total some t e =
      let z : 0 ≡ count_below 64 (bit_of (get_or ws (i - 1) 0)) = rw e (sym (count_none 64 (bit_of 0) (λ b h. bit_zero b))) in
      omega (arith, (word_total words total 0 some t z).0)

  -- the members below k are those below the end of its word but for those of the word from k on
  word-rest : (k : ℕ) → get_or ws (k / 64) 0 < 2 ^ 64 → count_below (64 * (k / 64 + 1)) (in_set ws) ≡ count_below k (in_set ws) + count_below 64 (bit_of (get_or ws (k / 64) 0 / 2 ^ (k % 64)))
  word-rest k fits =
      let w : ℕ = get_or ws (k / 64) 0 in
      let b : ℕ = k % 64 in
      let e : 64 * (k / 64 + 1) ≡ k + (64 - b) = omega arith in
      let d : 64 ≡ (64 - b) + b = omega arith in
      let past : count_below b (λ i. bit_of (w / 2 ^ b) (64 - b + i)) ≡ 0 =
      count_none b (λ i. bit_of (w / 2 ^ b) (64 - b + i)) (λ i l. bit_shift w b (64 - b + i) ∙ bit_past w 64 (b + (64 - b + i)) fits (omega arith)) in
      let rest : count_below (64 - b) (λ i. in_set ws (k + i)) ≡ count_below (64 - b) (bit_of (w / 2 ^ b)) =
      count_same (64 - b) (λ i. in_set ws (k + i)) (bit_of (w / 2 ^ b))
      (λ i l. let s : k + i ≡ 64 * (k / 64) + (b + i) = omega arith in ap (in_set ws) s ∙ in_word (k / 64) (b + i) (omega arith) ∙ sym (bit_shift w b i)) in
      let whole : count_below 64 (bit_of (w / 2 ^ b)) ≡ count_below (64 - b) (bit_of (w / 2 ^ b)) + count_below b (λ i. bit_of (w / 2 ^ b) (64 - b + i)) =
      ap (λ (n : ℕ). count_below n (bit_of (w / 2 ^ b))) d ∙ count_add (64 - b) b (bit_of (w / 2 ^ b)) in
      ap (λ (n : ℕ). count_below n (in_set ws)) e ∙ count_add k (64 - b) (in_set ws) ∙ omega (arith, past, rest, whole)

-- ---- positions

module _ (bs : List ℕ) (at count : ℕ) (asc : Ascending bs at count) where
  -- records below m have numbers below k, those from m on have not: how that goes on from k to k + 1
  module _ (k m : ℕ) (s : Between bs at count k m m) where
    -- the record with number k is the first of those
    found_first : (i : ℕ) → i < count → number_at bs at i ≡ k → i ≡ m
    found_first i h e =
        either (ltb i m)
        (λ p. absurd (omega (arith, s.below i (ltb-true i m p))))
        (λ p. either (ltb m i)
        (λ q. absurd (omega (arith, asc.ascends m i (ltb-true m i q) h, s.above m (omega arith) (omega tests))))
        (λ q. omega tests))

    between-found : m < count → number_at bs at m ≡ k → Between bs at count (suc k) (m + 1) (m + 1)
    between-found h e =
        record {
          order = omega arith;
          bound = omega arith;
          below = λ i l. below_suc i m (omega arith) (λ q. omega (arith, s.below i q)) (λ q. omega (arith, ap (number_at bs at) q));
          above = λ i l u. omega (arith, asc.ascends m i (omega arith) u);
        }

    between_none : ((i : ℕ) → i < count → number_at bs at i ≡ k → ⊥) → Between bs at count (suc k) m m
    between_none none =
        record {
          order = omega arith;
          bound = s.bound;
          below = λ i l. omega (arith, s.below i l);
          above = λ i l u. either (eqb (number_at bs at i) k) (λ p. absurd (none i u (eqb-true _ _ p))) (λ p. omega (arith, s.above i l u, eqb-false (number_at bs at i) k p));
        }

  has-is : (k i : ℕ) → has_number bs at k i ≡ true → number_at bs at i ≡ k
  unfolding has_number
  has-is k i e = eqb-true _ _ e

  some-has : (k i : ℕ) → i < count → number_at bs at i ≡ k → some_has bs at count k ≡ true
  unfolding some_has has_number
  some-has k i h e = any_intro count (has_number bs at k) i h (eq-eqb _ _ e)

  has_some : (k : ℕ) → some_has bs at count k ≡ true → (i : ℕ) × (i < count) × (has_number bs at k i ≡ true)
  unfolding some_has
  has_some k e = any_at count (has_number bs at k) e

  -- the members below k are the first records, if the set has their numbers and no others
  module _ (ws : List ℕ) (members : (k : ℕ) → in_set ws k ≡ some_has bs at count k) where
    between_more : (k : ℕ) → Between bs at count k (count_below k (in_set ws)) (count_below k (in_set ws)) → Between bs at count (suc k) (count_below (k + 1) (in_set ws)) (count_below (k + 1) (in_set ws))
    between_more k s =
        let m : ℕ = count_below k (in_set ws) in
        either (in_set ws k)
        (λ p.
        let found = has_some k (sym (members k) ∙ p) in
        let at-m : found.0 ≡ m = found_first k m s found.0 found.1 (has-is k found.0 found.2) in
        let e : count_below (k + 1) (in_set ws) ≡ m + 1 = rw p at (count_more k (in_set ws)) in
        rw e (between-found k m s (omega (arith, found.1)) (ap (number_at bs at) (sym at-m) ∙ has-is k found.0 found.2)))
        (λ p.
        let e : count_below (k + 1) (in_set ws) ≡ m + 0 = rw p at (count_more k (in_set ws)) in
        let d : count_below (k + 1) (in_set ws) ≡ m = omega arith in
        rw d (between_none k m s (λ i l q. clash (some-has k i l q) (sym (members k) ∙ p))))

    between-zero : Between bs at count 0 (count_below 0 (in_set ws)) (count_below 0 (in_set ws))
    unfolding count_below
    between-zero = record { order = omega arith; bound = omega arith; below = λ i h. absurd (omega arith); above = λ i h l. omega arith }

    members-between : (k : ℕ) → Between bs at count k (count_below k (in_set ws)) (count_below k (in_set ws))
    members-between zero = between-zero
    members-between (suc k) = rw (add-one k) at (between_more k (members-between k))

    -- the position of a number is the count of members below it
    members-smaller : (k : ℕ) → (count_below k (in_set ws) ≡ smaller bs at count k) × (count_below k (in_set ws) ≤ count)
    members-smaller k = between_end bs at count k asc (members-between k) (omega arith)

  -- where all numbers are below k, all records are before it
  all-smaller : (k : ℕ) → ((i : ℕ) → i < count → number_at bs at i < k) → smaller bs at count k ≡ count
  unfolding smaller
  all-smaller k low = count_initial count (λ i. ltb (number_at bs at i) k) count (omega arith) (λ i h. lt-ltb _ _ (low i h)) (λ i h l. absurd (omega arith))

  -- ---- the record with a number

  module _ (k : ℕ) where
    none_is : some_has bs at count k ≡ false → count ≡ position_of bs at count k
    unfolding some_has position_of
    none_is e = sym (least_none count (has_number bs at k) e)

    found_is : (p : ℕ) → p < count → number_at bs at p ≡ k → p ≡ position_of bs at count k
    unfolding position_of has_number
    found_is p h e = sym (least_is count (has_number bs at k) p h (eq-eqb _ _ e) (λ j l. ne_eqb (number_at bs at j) k (λ q. omega (arith, asc.ascends j p l h))))

    -- it has as many before it as have smaller numbers
    smaller-is : (i : ℕ) → i < count → number_at bs at i ≡ k → smaller bs at count k ≡ i
    unfolding smaller
    smaller-is i h e =
        count_initial count (λ j. ltb (number_at bs at j) k) i (omega arith)
        (λ j l. lt-ltb (number_at bs at j) k (omega (arith, asc.ascends j i l h)))
        (λ j l u. le-ltb (number_at bs at j) k
        (either (ltb i j) (λ q. omega (arith, asc.ascends i j (ltb-true i j q) u)) (λ q. let d : i ≡ j = omega tests in omega (arith, ap (number_at bs at) d))))

-- ---- the index

-- words of 0
pub blank : (n : ℕ) → n ≤ 2 ^ 20 → Blank (replicate n 0) (replicate n 0)
blank n h =
    record {
      same = refl;
      few = rw (length-replicate {A = ℕ} n 0) h;
      none = in_none n;
      zeros = λ i. either (ltb i n) (λ p. get_or-replicate n i 0 0 (ltb-true i n p)) (λ p. get_or-eq_default (replicate n 0) 0 (omega (tests, length-replicate {A = ℕ} n 0)));
    }

module _ {bs : List ℕ} {at count below : ℕ} {ws₀ behind₀ : List ℕ} (n : Numbered bs at count below) (room : below ≤ 64 * length ws₀) (z : Blank ws₀ behind₀) where
  pub make_markable : Markable bs at count ws₀
  make_markable = record { fits = n.ascending.fits; low = λ i h. omega (arith, n.low i h) }

  module _ {ws : List ℕ} (m : Added ws₀ (some_has bs at count) ws) {words : ℕ} (enough : words ≡ div_ceil below 64) where
    pub make_countable : Countable ws words behind₀
    make_countable = record { marked = omega (arith, m.same_length); room = omega (arith, z.same); few = omega (arith, z.few) }

    made-members : (k : ℕ) → in_set ws k ≡ some_has bs at count k
    made-members k = m.members k ∙ ap (λ (b : Bool). b || some_has bs at count k) (z.none k)

    made_all : (k : ℕ) → below ≤ k → count_below k (in_set ws) ≡ count
    made_all k h = (members-smaller bs at count n.ascending ws made-members k).0 ∙ all-smaller bs at count n.ascending k (λ i l. omega (arith, n.low i l))

    pub made : {behind : List ℕ} → Counted ws words behind₀ 0 behind → Indexed bs at count ws behind
    made c =
        record {
          ascending = n.ascending;
          members = made-members;
          counted =
              record {
                same = c.same_length ∙ z.same ∙ sym m.same_length;
                whole = made_all (64 * length ws) (omega (arith, m.same_length));
                counts = λ i h. either (ltb i words)
                    (λ p. c.counts i (omega arith) (ltb-true i words p) ∙ made_all (64 * words) (omega arith))
                    (λ p. omega (arith, c.others i (omega tests), z.zeros i, made_all (64 * (i + 1)) (omega tests)));
              };
        }

module _ {ws behind : List ℕ} {count : ℕ} (x : Counts ws behind count) (k : ℕ) where
  -- those below k, and those from k on in its word and behind it, are all
  pub members_split : k < 64 * length ws → get_or ws (k / 64) 0 < 2 ^ 64 → {rest : ℕ} → rest ≡ count_below 64 (bit_of (get_or ws (k / 64) 0 / 2 ^ (k % 64))) → count_below k (in_set ws) + (get_or behind (k / 64) 0 + rest) ≡ count
  members_split h fits is = omega (arith, x.counts (k / 64) (omega arith), word-rest ws k fits)

-- what isn't in a word is no member
in_past : (ws : List ℕ) (k : ℕ) → length ws ≤ k / 64 → in_set ws k ≡ false
unfolding in_set
in_past ws k h = rw (get_or-eq_default ws 0 h) (bit_zero (k % 64))

pub member_past : (ws : List ℕ) (count k : ℕ) → length ws ≤ k / 64 → (count ≡ member_position ws count k) × (count ≤ count)
unfolding member_position
member_past ws count k h = (rw (in_past ws k h), omega arith)

-- and all members are below it
pub members_all : {ws behind : List ℕ} {count : ℕ} → Counts ws behind count → (k : ℕ) → length ws ≤ k / 64 → (count ≡ count_below k (in_set ws)) × (count ≤ count)
members_all {ws} {behind} {count} x k h =
    let n : ℕ = 64 * length ws in
    let e : k ≡ n + (k - n) = omega arith in
    let past : count_below (k - n) (λ i. in_set ws (n + i)) ≡ 0 = count_none (k - n) (λ i. in_set ws (n + i)) (λ i l. in_past ws (n + i) (omega arith)) in
    let split : count_below k (in_set ws) ≡ count_below n (in_set ws) + count_below (k - n) (λ i. in_set ws (n + i)) = ap (λ (m : ℕ). count_below m (in_set ws)) e ∙ count_add n (k - n) (in_set ws) in
    (omega (arith, past, split, x.whole), omega arith)

pub member_none : (ws : List ℕ) (count k : ℕ) {b : Bool} → b ≡ in_set ws k → b ≡ false → (count ≡ member_position ws count k) × (count ≤ count)
unfolding member_position
member_none ws count k e f = (rw (← e, f), omega arith)

pub member_is : (ws : List ℕ) (count k : ℕ) {b : Bool} {p : ℕ} → b ≡ in_set ws k → b ≡ true → p ≡ count_below k (in_set ws) → p ≡ member_position ws count k
unfolding member_position
member_is ws count k e t q = rw (← e, t, q)

-- below any number are at most all
pub members_few : {ws behind : List ℕ} {count : ℕ} → Counts ws behind count → (k : ℕ) → count_below k (in_set ws) ≤ count
members_few {ws} {behind} {count} x k =
    either (ltb k (64 * length ws))
    (λ p. omega (arith, count_mono k (64 * length ws) (in_set ws) (omega tests), x.whole))
    (λ p. omega (arith, (members_all x k (omega tests)).0))

-- as many members as records are below a number
pub index_smaller : {bs : List ℕ} {at count : ℕ} {ws behind : List ℕ} → Indexed bs at count ws behind → (k : ℕ) → count_below k (in_set ws) ≡ smaller bs at count k
index_smaller {bs} {at} {count} {ws} x k = (members-smaller bs at count x.ascending ws x.members k).0

-- the position among the members is that among the records
pub index_position : {bs : List ℕ} {at count : ℕ} {ws behind : List ℕ} → Indexed bs at count ws behind → (k : ℕ) → member_position ws count k ≡ position_of bs at count k
unfolding member_position
index_position {bs} {at} {count} {ws} x k =
    either (in_set ws k)
    (λ t.
    let found = has_some bs at count x.ascending k (sym (x.members k) ∙ t) in
    let number : number_at bs at found.0 ≡ k = has-is bs at count x.ascending k found.0 found.2 in
    rw t (index_smaller x k ∙ smaller-is bs at count x.ascending k found.0 found.1 number ∙ found_is bs at count x.ascending k found.0 found.1 number))
    (λ f. rw f (none_is bs at count x.ascending k (sym (x.members k) ∙ f)))

-- a record with the number is where it is looked up
pub position_near : {bs : List ℕ} {at count : ℕ} {ws behind : List ℕ} → Indexed bs at count ws behind → {k p number : ℕ} → p < count → number ≡ u32_at bs (at + core_size * p) → number ≡ k → (p ≡ member_position ws count k) × (p ≤ count)
unfolding number_at
position_near {bs} {at} {count} x {k} {p} h e d = (found_is bs at count x.ascending k p h (sym e ∙ d) ∙ sym (index_position x k), omega arith)
