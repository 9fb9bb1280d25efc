-- Laws of the counts: reading them in the list, and each step of the pass over the trees.
use Prim.Native.Nat.{ℕ, zero, suc, ◌+◌, ◌-◌, ◌≤◌, ◌<◌}
use native.Mathlib.Nat.{add-zero}
use native.Mathlib.Numerals.{add-one}
use native.Mathlib.Omega.{arith}
use mathlib.Core.Path.{◌≡◌, refl, sym, ap, ◌∙◌}
use mathlib.Core.Bool.{cond}
use mathlib.Core.List.{List, [], ◌∷◌, ◌++◌}
use lib.Dec.{eqb, ltb}
use Rattle.std.proofs.lemmas.List.{length-take-le, replicate_more}
use lib.ListN.{take, replicate, length, drop, get_or, set, length-set, length-append, get_or-append}
use lib.Seq.{get_or_at, get_or-set_same, get_or-set_other, ext_get_or}
use borrow.Author.Tests.{lt-ltb, le-ltb, le-leb, eq-eqb, ne_eqb}
use Rattle.encoding.specs.Below.{count_below}
use Rattle.encoding.specs.Pieces.{piece, splice}
use Rattle.encoding.proofs.Below.{tests, either, below_suc, count_more, count_le}
use Rattle.encoding.proofs.Pieces.{length_splice}
use Rattle.records.specs.Record.{core_size, region_limit, region_of}
use Rattle.records.proofs.Rows.{splice_get}
use Rattle.part.specs.Layout.{tree_place}
use Rattle.part.specs.Part.{part_count, stored_tree}
use Rattle.regions.specs.Counts.{values_below, region_count, region_counts}
use Rattle.regions.specs.Means.{none, count_to, Countable}

-- ---- values in their order

pub values_length : (n : ℕ) (f : ℕ → ℕ) → length (values_below n f) ≡ n
unfolding values_below
values_length zero f = refl
values_length (suc n) f = length-append (values_below n f) (f n ∷ []) ∙ rw (values_length n f) (add-one n)

pub values_at : (n : ℕ) (f : ℕ → ℕ) (i : ℕ) → i < n → get_or (values_below n f) i 0 ≡ f i
unfolding values_below
values_at zero f i h = absurd (omega arith)
values_at (suc n) f i h =
    below_suc i n h
    (λ l. get_or-append (values_below n f) (f n ∷ []) 0 i (rw (values_length n f) l) ∙ values_at n f i l)
    (λ e. rw e (get_or_at (values_below n f) (f n) [] 0 n (values_length n f)))

-- ---- a list whose first n entries are values

module _ (start : List ℕ) (n : ℕ) (f : ℕ → ℕ) (room : n ≤ length start) where
  values-fit : 0 + length (values_below n f) ≤ length start
  values-fit = omega (arith, values_length n f)

  pub written_length : length (splice start 0 (values_below n f)) ≡ length start
  written_length = length_splice start 0 (values_below n f) values-fit

  pub written_at : (i : ℕ) → get_or (splice start 0 (values_below n f)) i 0 ≡ cond (ltb i n) (f i) (get_or start i 0)
  written_at i =
      let e : 0 + length (values_below n f) ≡ n = omega (arith, values_length n f) in
      let z : i - 0 ≡ i = omega arith in
      splice_get start 0 (values_below n f) i values-fit
      ∙ rw (e, le-leb 0 i (omega arith), z) (either (ltb i n) (λ p. rw p (values_at n f i (omega tests))) (λ p. rw p))

-- below, at or above
three : {C : Type 0} (i n : ℕ) → (i < n → C) → (i ≡ n → C) → (n < i → C) → C
three i n a b c = either (ltb i n) (λ p. a (omega tests)) (λ p. either (ltb n i) (λ q. c (omega tests)) (λ q. b (omega tests)))

-- one more value
pub values_more : (start : List ℕ) (n : ℕ) (f : ℕ → ℕ) → n < length start → set (splice start 0 (values_below n f)) n (f n) ≡ splice start 0 (values_below (n + 1) f)
values_more start n f h =
    let now : List ℕ = splice start 0 (values_below n f) in
    let l = written_length start n f (omega arith) in
    let next = written_at start (n + 1) f (omega arith) in
    ext_get_or 0 _ _ (length-set now n (f n) ∙ (l ∙ sym (written_length start (n + 1) f (omega arith))))
    (λ i _. three i n
    (λ a. get_or-set_other now n i (f n) 0 (λ e. omega arith) ∙ (written_at start n f (omega arith) i ∙ rw (lt-ltb i n a) (sym (next i ∙ rw (lt-ltb i (n + 1) (omega arith))))))
    (λ e. rw e (get_or-set_same now n (f n) 0 (rw l h) ∙ sym (next n ∙ rw (lt-ltb n (n + 1) (omega arith)))))
    (λ c. get_or-set_other now n i (f n) 0 (λ e. omega arith) ∙ (written_at start n f (omega arith) i ∙ rw (le-ltb i n (omega arith)) (sym (next i ∙ rw (le-ltb i (n + 1) (omega arith)))))))

-- another value at one place
pub values_step : (start : List ℕ) (n : ℕ) (f g : ℕ → ℕ) (r : ℕ) → n ≤ length start → r < n → ((i : ℕ) → (i ≡ r → ⊥) → f i ≡ g i)
    → set (splice start 0 (values_below n f)) r (g r) ≡ splice start 0 (values_below n g)
values_step start n f g r room h same =
    let now : List ℕ = splice start 0 (values_below n f) in
    let l = written_length start n f room in
    let next = written_at start n g room in
    let other : (i : ℕ) → (i ≡ r → ⊥) → get_or (set now r (g r)) i 0 ≡ get_or (splice start 0 (values_below n g)) i 0 =
    λ i d. get_or-set_other now r i (g r) 0 d ∙ (written_at start n f room i ∙ (ap (λ (x : ℕ). cond (ltb i n) x (get_or start i 0)) (same i d) ∙ sym (next i))) in
    ext_get_or 0 _ _ (length-set now r (g r) ∙ (l ∙ sym (written_length start n g room)))
    (λ i _. three i r
    (λ a. other i (λ e. omega arith))
    (λ e. rw e (get_or-set_same now r (g r) 0 (rw l (omega arith)) ∙ sym (next r ∙ rw (lt-ltb r n h))))
    (λ c. other i (λ e. omega arith)))

-- the same values
pub values_same : (n : ℕ) (f g : ℕ → ℕ) → ((i : ℕ) → i < n → f i ≡ g i) → values_below n f ≡ values_below n g
unfolding values_below
values_same zero f g h = refl
values_same (suc n) f g h = rw (values_same n f g (λ i l. h i (omega arith)), h n (omega arith))

-- values written over values
pub values_over : (start : List ℕ) (n : ℕ) (f g : ℕ → ℕ) → n ≤ length start → splice (splice start 0 (values_below n f)) 0 (values_below n g) ≡ splice start 0 (values_below n g)
values_over start n f g room =
    let now : List ℕ = splice start 0 (values_below n f) in
    let l = written_length start n f room in
    let fits : n ≤ length now = rw l room in
    ext_get_or 0 _ _ (written_length now n g fits ∙ (l ∙ sym (written_length start n g room)))
    (λ i _. written_at now n g fits i
    ∙ (ap (cond (ltb i n) (g i)) (written_at start n f room i)
    ∙ (either (ltb i n) (λ p. rw p) (λ p. rw p) ∙ sym (written_at start n g room i))))

-- ---- clearing

zeros : (n : ℕ) → replicate n 0 ≡ values_below n none
unfolding values_below none
zeros zero = refl
zeros (suc n) = sym (replicate_more n 0 ∙ rw (add-one n)) ∙ ap (λ (xs : List ℕ). xs ++ (0 ∷ [])) (zeros n)

-- a list whose first n entries are 0
pub cleared : (out : List ℕ) (n : ℕ) {xs : List ℕ} → n ≤ length out → xs ≡ replicate (length (take n out)) 0 → xs ++ drop n out ≡ splice out 0 (values_below n none)
unfolding splice
cleared out n h e =
    let l : 0 + length (values_below n none) ≡ n = omega (arith, values_length n none) in
    rw (e, length-take-le n out h, l, zeros n)

-- ---- counting

pub record Counting (part start out : List ℕ) (i : ℕ) : Type 0 where
  pub within : i ≤ part_count part
  pub counted : out ≡ splice start 0 (values_below region_limit (count_to part i))

-- the list is that of the call, cleared
module _ (part entry start : List ℕ) (ready : Countable part entry) (cleared : start ≡ splice entry 0 (values_below region_limit none)) where
  room : region_limit ≤ length start
  room = omega (arith, ready.room, ap length cleared ∙ written_length entry region_limit none ready.room)

  -- what is written over the cleared list is written over the call's
  over : (f : ℕ → ℕ) → splice start 0 (values_below region_limit f) ≡ splice entry 0 (values_below region_limit f)
  over f = ap (λ (l : List ℕ). splice l 0 (values_below region_limit f)) cleared ∙ values_over entry region_limit none f ready.room

  none_yet : values_below region_limit none ≡ values_below region_limit (count_to part 0)
  unfolding none count_to count_below
  none_yet = values_same region_limit none (count_to part 0) (λ b h. refl)

  pub count_start : Counting part start start 0
  count_start = record { within = omega arith; counted = cleared ∙ (ap (splice entry 0) none_yet ∙ sym (over (count_to part 0))) }

  -- the region read is the tree's
  pub region_is : {r place : ℕ} (i : ℕ) → r ≡ region_of (piece part place core_size) → place ≡ tree_place i → r ≡ region_of (stored_tree part i)
  unfolding stored_tree
  region_is i e p = e ∙ ap (λ (at : ℕ). region_of (piece part at core_size)) p

  count_length : {out : List ℕ} {i : ℕ} → Counting part start out i → length out ≡ length start
  count_length {out} {i} c = ap length c.counted ∙ written_length start region_limit (count_to part i) room

  pub same_long : {out : List ℕ} {i : ℕ} → Counting part start out i → length out ≡ length entry
  same_long c = count_length c ∙ (ap length cleared ∙ written_length entry region_limit none ready.room)

  module _ {out : List ℕ} {i r : ℕ} (c : Counting part start out i) (more : i < part_count part) (is : r ≡ region_of (stored_tree part i)) where
    -- the tree's region has its entry
    pub region_there : r < length out
    region_there = omega (arith, is, ready.regions i more, room, count_length c)

    -- which holds the number of its trees so far
    pub entry_is : get_or out r 0 ≡ count_to part i r
    entry_is =
        ap (λ (l : List ℕ). get_or l r 0) c.counted
        ∙ (written_at start region_limit (count_to part i) room r ∙ rw (lt-ltb r region_limit (omega (arith, is, ready.regions i more))))

    pub entry_most : get_or out r 0 ≤ i
    unfolding count_to
    entry_most = omega (arith, entry_is, count_le i (λ j. eqb (region_of (stored_tree part j)) r))

    -- one tree more
    own-more : count_to part (i + 1) r ≡ count_to part i r + 1
    unfolding count_to
    own-more = count_more i (λ j. eqb (region_of (stored_tree part j)) r) ∙ rw (eq-eqb (region_of (stored_tree part i)) r (sym is))

    other-same : (b : ℕ) → (b ≡ r → ⊥) → count_to part i b ≡ count_to part (i + 1) b
    unfolding count_to
    other-same b d =
        sym (count_more i (λ j. eqb (region_of (stored_tree part j)) b) ∙ rw (ne_eqb (region_of (stored_tree part i)) b (λ e. d (sym e ∙ sym is)), add-zero))

    pub count_next : {v : ℕ} → v ≡ get_or out r 0 + 1 → Counting part start (set out r v) (i + 1)
    count_next {v} e =
        let w : v ≡ count_to part (i + 1) r = e ∙ (ap (λ (x : ℕ). x + 1) entry_is ∙ sym own-more) in
        record {
          within = omega arith;
          counted =
              ap (λ (l : List ℕ). set l r v) c.counted
              ∙ (ap (set (splice start 0 (values_below region_limit (count_to part i))) r) w
              ∙ values_step start region_limit (count_to part i) (count_to part (i + 1)) r room (omega (arith, is, ready.regions i more)) other-same);
        }

  pub count_done : {out : List ℕ} {i n : ℕ} → Counting part start out i → n ≡ part_count part → n ≤ i → out ≡ splice entry 0 (region_counts part)
  unfolding region_counts region_count count_to
  count_done {out} {i} {n} c m h =
      let e : i ≡ part_count part = omega (arith, c.within) in
      c.counted ∙ (ap (λ (k : ℕ). splice start 0 (values_below region_limit (count_to part k))) e ∙ over (count_to part (part_count part)))
