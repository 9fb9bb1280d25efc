-- Laws of partitions and their tables.
use Prim.Native.Nat.{ℕ, zero, suc, ◌+◌, ◌-◌, ◌*◌, ◌/◌, ◌^◌, ◌≤◌, ◌<◌}
use native.Mathlib.Nat.{le_refl}
use native.Mathlib.Numerals.{add-one}
use native.Mathlib.Omega.{arith}
use mathlib.Core.Path.{◌≡◌, refl, sym, ◌∙◌}
use mathlib.Core.Bool.{Bool, true, false, cond, ◌&&◌, ◌||◌, and-true, and-false, and_comm}
use mathlib.Core.List.{List, [], ◌∷◌, ◌++◌, append_assoc, append-nil}
use lib.Dec.{leb, ltb, eqb}
use lib.ListN.{length, take, drop, length-append}
use lib.Seq.{take_at, drop_at, take-add, take_all}
use borrow.Author.Tests.{ltb-true, ltb-false, eqb-true, eqb-false, leb-true, leb-false, lt-ltb, le-ltb, le-leb, lt-leb, eq-eqb}
use Rattle.encoding.specs.Pieces.{Bytes, piece, splice}
use Rattle.encoding.specs.Numbers.{le_value, le_bytes, le_at, put_u64}
use Rattle.encoding.proofs.Below.{tests, either, and_fst, and_snd, and_intro, iff_eq, below_suc, all_at, all_intro, all_more, all_fails, all_same, any_at, any_intro}
use Rattle.encoding.proofs.Pieces.{piece_length, bytes_piece}
use Rattle.encoding.proofs.Numbers.{bytes_length, value_bytes, bytes_value, put_next}
use Rattle.offsets.specs.Limits.{max_trees, rank_count_ok, tree_count_ok}
use Rattle.offsets.specs.Table.{table_length, ranks, ranks_ok, entry, negative, magnitude, trees, first_tree, end_tree, tree_count, holds, entries_within, counts_ok, valid}
use Rattle.offsets_write.specs.Partition.{non_empty, on_rank, last_tree, covers_all, covers_only, ascending, valid_partition, end_below, ranges_fit, entry_of, entries_below, table_of, IsTable}
use Rattle.offsets_write.specs.Sharing.{nearest_lower, shares_with_lower}
use Rattle.offsets_write.specs.Calls.{each, partition_ok}
use Rattle.offsets_write.specs.Means.{range_fits, next_end, next_entry, ranks_follow, ranges_fit_linear}
use Rattle.offsets.proofs.Tables.{ranks_within, trees_within, never_falls, small_plain, plain_magnitude, plain_of, shared_of, end_next, size, entry_bits, zero_first, plain_first, shared_first, first_lt_end, count_add, last_end}

-- one of two that pass
or_elim : {C : Type 0} (a b : Bool) → (a || b) ≡ true → (a ≡ true → C) → (b ≡ true → C) → C
or_elim true b e l r = l refl
or_elim false b e l r = r e

-- a range that has trees fits where it begins at the end or one before
pub fits_bounds : (e f c : ℕ) → range_fits e f c ≡ true → 0 < c → (f ≤ e) × (e ≤ f + 1)
unfolding range_fits
fits_bounds e f c t h = or_elim (eqb c 0 || eqb f e) (eqb (f + 1) e) t (λ l. or_elim (eqb c 0) (eqb f e) l (λ a. omega tests) (λ a. omega tests)) (λ r. omega tests)

pub bounds_fit : (e f c : ℕ) → (0 < c → (f ≤ e) × (e ≤ f + 1)) → range_fits e f c ≡ true
unfolding range_fits
bounds_fit e f c h =
    either (eqb c 0) (λ a. rw a)
    (λ a. either (eqb f e) (λ b. rw (a, b)) (λ b. let k = h (omega (tests, eqb-false c 0 a)) in rw (a, b) (eq-eqb (f + 1) e (omega (tests, eqb-false f e b)))))

-- ---- ends

module _ (first count : ℕ → ℕ) where
  abbrev has : ℕ → Bool
  has = non_empty first count

  abbrev end : ℕ → ℕ
  end = end_below first count

  -- a rank that has trees, and one that has none
  pub some_count : (p : ℕ) → has p ≡ true → 0 < count p
  unfolding non_empty
  some_count p e = ltb-true 0 (count p) e

  pub none_count : (p : ℕ) → has p ≡ false → count p ≡ 0
  unfolding non_empty
  none_count p e = omega (tests, e)

  pub count_some : (p : ℕ) → 0 < count p → has p ≡ true
  unfolding non_empty
  count_some p h = lt-ltb 0 (count p) h

  -- the end after a rank that has trees, and after one that has none
  pub end_zero : end 0 ≡ 0
  unfolding end_below
  end_zero = refl

  pub end_some : (p : ℕ) → has p ≡ true → end (suc p) ≡ first p + count p
  unfolding end_below
  end_some p e = rw e

  pub end_none : (p : ℕ) → has p ≡ false → end (suc p) ≡ end p
  unfolding end_below
  end_none p e = rw e

  -- where there are trees below q, the nearest rank below that has trees ends there
  pub end_last : (q : ℕ) → 0 < end q → (p : ℕ) × (p < q) × (has p ≡ true) × (end q ≡ first p + count p) × ((r : ℕ) → r < q → p < r → has r ≡ false)
  end_last zero h = absurd (omega (arith, end_zero))
  end_last (suc q) h =
      either (has q)
      (λ e. (q, le_refl (suc q), e, end_some q e, λ r a b. absurd (omega arith)))
      (λ e. let l = end_last q (rw (end_none q e) at h) in
      (l.0, omega (arith, l.1), l.2, end_none q e ∙ l.3, λ r a b. below_suc r q a (λ k. l.4 r k b) (λ i. rw i e)))

  -- and the other way round
  pub end_from : (p q : ℕ) → p < q → has p ≡ true → ((r : ℕ) → r < q → p < r → has r ≡ false) → end q ≡ first p + count p
  end_from p zero l s h = absurd (omega arith)
  end_from p (suc q) l s h =
      below_suc p q l
      (λ k. end_none q (h q (le_refl (suc q)) k) ∙ end_from p q k s (λ r a. h r (omega arith)))
      (λ e. rw (← e) (end_some p s))

  -- ---- the linear test

  module _ (P : ℕ) (fit : ranks_follow first count P ≡ true) where
    -- each rank begins at the end of those below, or one tree before
    pub follow : (p : ℕ) → p < P → has p ≡ true → (first p ≤ end p) × (end p ≤ first p + 1)
    unfolding ranks_follow
    follow p h s = fits_bounds (end p) (first p) (count p) (all_at P _ fit p h) (some_count p s)

    -- the ends never fall
    pub end_rises : (p q : ℕ) → p ≤ q → q ≤ P → end p ≤ end q
    end_rises =
        never_falls P end
        (λ p h. either (has p)
        (λ s. omega (arith, follow p h s, some_count p s, end_some p s))
        (λ s. omega (arith, end_none p s)))

    -- a tree below the end is on some rank
    reached : (k q : ℕ) → q ≤ P → k < end q → (p : ℕ) × (p < q) × (first p ≤ k) × (k < first p + count p)
    reached k zero h l = absurd (omega (arith, end_zero))
    reached k (suc q) h l =
        either (ltb k (end q))
        (λ e. let r = reached k q (omega arith) (ltb-true k (end q) e) in (r.0, omega (arith, r.1), r.2, r.3))
        (λ e. either (has q)
        (λ s. (q, le_refl (suc q), omega (tests, follow q h s), omega (arith, end_some q s)))
        (λ s. absurd (omega (tests, end_none q s))))

    follow-covers : covers_all first count P (end P) ≡ true
    unfolding covers_all on_rank
    follow-covers =
        all_intro (end P) _
        (λ k h. let r = reached k P (le_refl P) h in
        any_intro P _ r.0 r.1 (and_intro _ _ (le-leb (first r.0) k r.2) (lt-ltb k (first r.0 + count r.0) r.3)))

    follow-only : covers_only first count P (end P) ≡ true
    unfolding covers_only last_tree
    follow-only =
        all_intro P _
        (λ p h. either (has p)
        (λ s. rw s (lt-ltb (first p + count p - 1) (end P) (omega (arith, some_count p s, end_some p s, end_rises (suc p) P h (le_refl P)))))
        (λ s. rw s))

    follow-ascends : ascending first count P ≡ true
    unfolding ascending last_tree
    follow-ascends =
        all_intro P _
        (λ q h. all_intro q _
        (λ p l. either (has p)
        (λ s. either (has q)
        (λ u. rw (s, u) (le-leb (first p + count p - 1) (first q) (omega (arith, some_count p s, end_some p s, end_rises (suc p) q l (omega arith), follow q h u))))
        (λ u. rw (s, u)))
        (λ s. rw s)))

  module _ (P K : ℕ) (v : valid_partition first count P K ≡ true) where
    -- each tree is on some rank
    covered : (k : ℕ) → k < K → (p : ℕ) × (p < P) × (first p ≤ k) × (k < first p + count p)
    unfolding valid_partition covers_all on_rank
    covered k h =
        let a = any_at P (λ p. on_rank first count p k) (all_at K _ (and_fst (covers_all first count P K) _ (and_fst _ _ v)) k h) in
        (a.0, a.1, leb-true (first a.0) k (and_fst _ _ a.2), ltb-true k (first a.0 + count a.0) (and_snd (leb (first a.0) k) _ a.2))

    -- no rank has others
    only : (p : ℕ) → p < P → has p ≡ true → first p + count p ≤ K
    unfolding valid_partition covers_only last_tree
    only p h s =
        let o = all_at P _ (and_snd (covers_all first count P K) (covers_only first count P K) (and_fst _ _ v)) p h in
        omega (arith, ltb-true (first p + count p - 1) K (rw s at o), some_count p s)

    -- of two ranks the higher begins with the last tree of the lower, or above it
    ascends : (p q : ℕ) → p < q → q < P → has p ≡ true → has q ≡ true → first p + count p ≤ first q + 1
    unfolding valid_partition ascending last_tree
    ascends p q l h s u =
        let o = all_at q _ (all_at P _ (and_snd (covers_all first count P K && covers_only first count P K) (ascending first count P) v) q h) p l in
        omega (arith, leb-true (first p + count p - 1) (first q) (rw (s, u) at o))

    -- the trees on the ranks below q end there
    ends : (p q : ℕ) → p < q → q ≤ P → has p ≡ true → first p + count p ≤ end q
    ends p zero l h s = absurd (omega arith)
    ends p (suc q) l h s =
        below_suc p q l
        (λ k. either (has q)
        (λ u. omega (arith, ascends p q k h s u, some_count q u, end_some q u))
        (λ u. omega (arith, ends p q k (omega arith) s, end_none q u)))
        (λ e. let u : has q ≡ true = rw e at s in rw (e, end_some q u) (le_refl (first q + count q)))

    -- K is one past the last tree
    pub trees_are : K ≡ end P
    trees_are =
        either (ltb K (end P))
        (λ a. let l = end_last P (omega tests) in absurd (omega (tests, only l.0 l.1 l.2, l.3)))
        (λ a. either (ltb (end P) K)
        (λ b. let r = covered (end P) (ltb-true (end P) K b) in
        absurd (omega (arith, r.3, r.2, ends r.0 P r.1 (le_refl P) (count_some r.0 (omega (arith, r.2, r.3))))))
        (λ b. omega tests))

    -- a rank begins no lower than with the last tree below it
    begins-high : (q : ℕ) → q < P → has q ≡ true → end q ≤ first q + 1
    begins-high q h u =
        either (ltb 0 (end q))
        (λ a. let l = end_last q (ltb-true 0 (end q) a) in omega (arith, l.3, ascends l.0 q l.1 h l.2 u))
        (λ a. omega tests)

    -- and leaves no gap
    begins-low : (q : ℕ) → q < P → has q ≡ true → first q ≤ end q
    begins-low q h u =
        either (ltb (end q) (first q))
        (λ a.
        let r = covered (end q) (omega (tests, only q h u)) in
        let s = count_some r.0 (omega (arith, r.2, r.3)) in
        absurd (either (ltb r.0 q)
        (λ b. omega (arith, r.3, ends r.0 q (ltb-true r.0 q b) (omega arith) s))
        (λ b. either (ltb q r.0)
        (λ d. omega (tests, r.2, ascends q r.0 (ltb-true q r.0 d) r.1 u s, some_count q u))
        (λ d. let e : r.0 ≡ q = omega tests in omega (tests, rw e at r.2)))))
        (λ a. ltb-false (end q) (first q) a)

    valid-follow : ranks_follow first count P ≡ true
    unfolding ranks_follow
    valid-follow =
        all_intro P _
        (λ p h. bounds_fit (end p) (first p) (count p) (λ c. (begins-low p h (count_some p c), begins-high p h (count_some p c))))

  -- a partition is valid exactly when each rank follows those below it, for the number of trees where they end
  pub valid_linear : (P K : ℕ) → valid_partition first count P K ≡ (ranks_follow first count P && eqb K (end P))
  unfolding valid_partition
  valid_linear P K =
      iff_eq (valid_partition first count P K) (ranks_follow first count P && eqb K (end P))
      (λ v. and_intro _ _ (valid-follow P K v) (eq-eqb K (end P) (trees_are P K v)))
      (λ f. let g = and_fst (ranks_follow first count P) _ f in
      rw (eqb-true K (end P) (and_snd (ranks_follow first count P) _ f)) (and_intro _ _ (and_intro _ _ (follow-covers P g) (follow-only P g)) (follow-ascends P g)))

  -- one pass over the ranks decides whether they fit a table
  pub fit_linear : (P : ℕ) → ranges_fit first count P ≡ ranges_fit_linear first count P
  unfolding ranges_fit ranges_fit_linear
  fit_linear P = rw (valid_linear P (end P), eq-eqb (end P) (end P) refl, and-true, and_comm (tree_count_ok (end P)))

-- ---- entries

-- the table depends on the counts, and on the first trees of ranks that have trees
module _ (f c g d : ℕ → ℕ) where
  abbrev pub Agree : ℕ → Type 0
  Agree P = (p : ℕ) → p < P → (c p ≡ d p) × (0 < c p → f p ≡ g p)

  same-has : (p : ℕ) → c p ≡ d p → non_empty f c p ≡ non_empty g d p
  unfolding non_empty
  same-has p e = rw e

  pub same_end : (P : ℕ) → Agree P → end_below f c P ≡ end_below g d P
  unfolding end_below
  same_end zero h = refl
  same_end (suc P) h =
      let e = h P (le_refl (suc P)) in
      let i = same_end P (λ p l. h p (omega arith)) in
      either (non_empty f c P)
      (λ s. rw (← same-has P e.0, s, e.1 (some_count f c P s), e.0))
      (λ s. rw (← same-has P e.0, s) i)

  same-entry : (p : ℕ) → Agree (suc p) → entry_of f c p ≡ entry_of g d p
  unfolding entry_of
  same-entry p h =
      let e = h p (le_refl (suc p)) in
      let i = same_end p (λ q l. h q (omega arith)) in
      either (non_empty f c p)
      (λ s. rw (← same-has p e.0, s, i, e.1 (some_count f c p s)))
      (λ s. rw (← same-has p e.0, s) i)

  same_entries : (P : ℕ) → Agree P → entries_below f c P ≡ entries_below g d P
  unfolding entries_below
  same_entries zero h = refl
  same_entries (suc P) h = rw (same_entries P (λ p l. h p (omega arith)), same-entry P h)

  pub same_ranges : (P : ℕ) → Agree P → table_of f c P ≡ table_of g d P
  unfolding table_of
  same_ranges P h = rw (same_entries P h, same_end P h)

  -- and so does whether the partition is valid
  same-fits : (p : ℕ) → Agree (suc p) → range_fits (end_below f c p) (f p) (c p) ≡ range_fits (end_below g d p) (g p) (d p)
  unfolding range_fits
  same-fits p h =
      let e = h p (le_refl (suc p)) in
      let i = same_end p (λ q l. h q (omega arith)) in
      either (ltb 0 (c p))
      (λ s. rw (i, e.1 (ltb-true 0 (c p) s), e.0))
      (λ s. let z : d p ≡ 0 = omega (tests, e.0) in rw (e.0, z))

  pub same_partition : (P K : ℕ) → Agree P → valid_partition f c P K ≡ valid_partition g d P K
  unfolding ranks_follow
  same_partition P K h =
      let a = all_same P (λ p. range_fits (end_below f c p) (f p) (c p)) (λ p. range_fits (end_below g d p) (g p) (d p)) (λ p l. same-fits p (λ q k. h q (omega arith))) in
      rw (valid_linear f c P K, valid_linear g d P K, a, same_end P h)

-- ---- bytes of entries

bytes_append : (a b : List ℕ) → Bytes a → Bytes b → Bytes (a ++ b)
bytes_append [] b h k i = k i
bytes_append (x ∷ a) b h k zero = h zero
bytes_append (x ∷ a) b h k (suc i) = bytes_append a b (λ j. h (suc j)) k i

bytes_of : (w v : ℕ) → Bytes (le_bytes w v)
unfolding le_bytes
bytes_of zero v i = omega arith
bytes_of (suc w) v zero = omega arith
bytes_of (suc w) v (suc i) = bytes_of w (v / 256) i

-- a number that stands behind other bytes is read back
at_append : (w v off : ℕ) (a r : List ℕ) → length a ≡ off → v < 256 ^ w → le_at w (a ++ (le_bytes w v ++ r)) off ≡ v
unfolding le_at piece
at_append w v off a r l h = rw (drop_at a (le_bytes w v ++ r) off l, take_at (le_bytes w v) r w (bytes_length w v)) (value_bytes w v h)

-- what stands at a place is the bytes of the number there
bytes_at : (w off : ℕ) (t : List ℕ) → Bytes t → off + w ≤ length t → le_bytes w (le_at w t off) ≡ take w (drop off t)
unfolding le_at piece
bytes_at w off t b h =
    let l : length (take w (drop off t)) ≡ w = piece_length t off w h in
    let e : le_bytes (length (take w (drop off t))) (le_value (take w (drop off t))) ≡ take w (drop off t) = bytes_value (take w (drop off t)) (bytes_piece t off w b) in
    rw l at e

module _ (first count : ℕ → ℕ) where
  pub entries_length : (p : ℕ) → length (entries_below first count p) ≡ 8 * p
  unfolding entries_below
  entries_length zero = refl
  entries_length (suc p) = rw (length-append, entries_length p, bytes_length) (omega arith)

  pub table_length_lem : (P : ℕ) → length (table_of first count P) ≡ table_length P
  unfolding table_of
  table_length_lem P = rw (length-append, entries_length P, bytes_length) (omega arith)

  -- one more entry is written, then the last
  pub entries_put : (bs : List ℕ) (p : ℕ) → 8 * p ≤ length bs → put_u64 (splice bs 0 (entries_below first count p)) (8 * p) (entry_of first count p) ≡ splice bs 0 (entries_below first count (p + 1))
  unfolding entries_below
  entries_put bs p h = rw (add-one p) (put_next 8 (entry_of first count p) (8 * p) bs (entries_below first count p) (entries_length p) h)

  pub table_put : (bs : List ℕ) (P : ℕ) → 8 * P ≤ length bs → put_u64 (splice bs 0 (entries_below first count P)) (8 * P) (end_below first count P) ≡ splice bs 0 (table_of first count P)
  unfolding table_of
  table_put bs P h = put_next 8 (end_below first count P) (8 * P) bs (entries_below first count P) (entries_length P) h

  entries_bytes : (p : ℕ) → Bytes (entries_below first count p)
  unfolding entries_below
  entries_bytes zero = λ i. omega arith
  entries_bytes (suc p) = bytes_append (entries_below first count p) (le_bytes 8 (entry_of first count p)) (entries_bytes p) (bytes_of 8 (entry_of first count p))

  pub table_bytes_lem : (P : ℕ) → Bytes (table_of first count P)
  unfolding table_of
  table_bytes_lem P = bytes_append (entries_below first count P) (le_bytes 8 (end_below first count P)) (entries_bytes P) (bytes_of 8 (end_below first count P))

  pub table_ranks : (P : ℕ) → ranks (table_of first count P) ≡ P
  unfolding ranks
  table_ranks P = rw (table_length_lem P) (omega arith)

  -- the entries of the table are those written
  entries_at : (q p : ℕ) (r : List ℕ) → p < q → entry_of first count p < 2 ^ 64 → le_at 8 (entries_below first count q ++ r) (8 * p) ≡ entry_of first count p
  unfolding entries_below
  entries_at zero p r h k = absurd (omega arith)
  entries_at (suc q) p r h k =
      rw append_assoc
      (below_suc p q h
      (λ l. entries_at q p (le_bytes 8 (entry_of first count q) ++ r) l k)
      (λ e. rw e (at_append 8 (entry_of first count q) (8 * q) (entries_below first count q) r (entries_length q) (rw e at k))))

  entry_at : (P p : ℕ) → p < P → entry_of first count p < 2 ^ 64 → entry (table_of first count P) p ≡ entry_of first count p
  unfolding entry table_of
  entry_at P p h k = entries_at P p (le_bytes 8 (end_below first count P)) h k

  entry-last : (P : ℕ) → end_below first count P < 2 ^ 64 → entry (table_of first count P) P ≡ end_below first count P
  unfolding entry table_of
  entry-last P k = rw (← append-nil (le_bytes 8 (end_below first count P))) (at_append 8 (end_below first count P) (8 * P) (entries_below first count P) [] (entries_length P) k)

  -- a list of bytes whose entries are those of the table is the table
  entries-of : (t : List ℕ) → Bytes t → (q : ℕ) → 8 * q ≤ length t → ((p : ℕ) → p < q → entry t p ≡ entry_of first count p) → take (8 * q) t ≡ entries_below first count q
  unfolding entries_below entry
  entries-of t b zero h e = refl
  entries-of t b (suc q) h e =
      let n : 8 * suc q ≡ 8 * q + 8 = omega arith in
      rw (n, take-add (8 * q) 8 t, entries-of t b q (omega arith) (λ p l. e p (omega arith)), ← e q (le_refl (suc q)), bytes_at 8 (8 * q) t b (omega arith))

  table-from : (t : List ℕ) → Bytes t → (P : ℕ) → length t ≡ table_length P → ((p : ℕ) → p < P → entry t p ≡ entry_of first count p) → entry t P ≡ end_below first count P
      → table_of first count P ≡ t
  unfolding table_of entry
  table-from t b P l e k =
      rw (← entries-of t b P (omega arith) e, ← k, bytes_at 8 (8 * P) t b (omega arith), ← take-add (8 * P) 8 t) (take_all (8 * P + 8) t (omega arith))

-- ---- reading a valid table

-- 64 bits are their sign and their magnitude
signed : (v : ℕ) → v < 2 ^ 64 → v ≡ cond (negative v) (2 ^ 64 - magnitude v) (magnitude v)
unfolding magnitude
signed v h = either (negative v) (λ e. rw e (omega arith)) (λ e. rw e)

module _ (t : List ℕ) (b : Bytes t) (ok : ranks_ok t ≡ true) (v : valid t ≡ true) where
  abbrev table_end : ℕ → ℕ
  table_end = end_below (first_tree t) (tree_count t)

  -- |O[p]| is one past the last tree on the ranks below p
  pub magnitude_end : (p : ℕ) → p ≤ ranks t → magnitude (entry t p) ≡ table_end p
  magnitude_end zero h = rw (zero_first t b ok v, end_zero (first_tree t) (tree_count t)) (plain_magnitude 0 (small_plain 0 (omega arith)))
  magnitude_end (suc p) h =
      let a = count_add t b ok v p h in
      let i = magnitude_end p (omega arith) in
      rw (← end_next t p)
      (either (non_empty (first_tree t) (tree_count t) p)
      (λ s. omega (arith, end_some (first_tree t) (tree_count t) p s))
      (λ s. let c = none_count (first_tree t) (tree_count t) p s in
      let e = end_none (first_tree t) (tree_count t) p s in
      either (negative (entry t p))
      (λ n. absurd (omega (arith, first_lt_end t b ok v p h n)))
      (λ n. omega (arith, plain_first t b ok v p n))))

  -- O[p] is negative where p has trees and the first is on a lower rank too
  negative-is : (p : ℕ) → p < ranks t → negative (entry t p) ≡ (non_empty (first_tree t) (tree_count t) p && ltb (first_tree t p) (table_end p))
  negative-is p h =
      let m = magnitude_end p (omega arith) in
      either (negative (entry t p))
      (λ n. n
      ∙ sym (and_intro _ _ (count_some (first_tree t) (tree_count t) p (omega (arith, first_lt_end t b ok v p h n, count_add t b ok v p h)))
      (lt-ltb (first_tree t p) (table_end p) (omega (arith, shared_first t b ok v p n)))))
      (λ n. rw (n, le-ltb (first_tree t p) (table_end p) (omega (arith, plain_first t b ok v p n)), and-false))

  entry_is : (p : ℕ) → p < ranks t → entry t p ≡ entry_of (first_tree t) (tree_count t) p
  unfolding entry_of
  entry_is p h = rw (← negative-is p h, ← magnitude_end p (omega arith)) (signed (entry t p) (entry_bits t b ok v p))

  -- K is one past the last tree
  pub trees_end : trees t ≡ table_end (ranks t)
  trees_end = sym (last_end t b ok v) ∙ magnitude_end (ranks t) (le_refl (ranks t))

  -- writing what a valid table says gives its bytes
  pub table_again : table_of (first_tree t) (tree_count t) (ranks t) ≡ t
  unfolding trees
  table_again = table-from (first_tree t) (tree_count t) t b (ranks t) (size t b ok v) entry_is trees_end

  -- where p has trees, the first is the end below it or the tree before
  table-begins : (p : ℕ) → p < ranks t → (first_tree t p ≤ table_end p) × (table_end p ≤ first_tree t p + 1)
  table-begins p h =
      let m = magnitude_end p (omega arith) in
      either (negative (entry t p)) (λ n. omega (arith, shared_first t b ok v p n)) (λ n. omega (arith, plain_first t b ok v p n))

  table-follow : ranks_follow (first_tree t) (tree_count t) (ranks t) ≡ true
  unfolding ranks_follow
  table-follow = all_intro (ranks t) _ (λ p h. bounds_fit (table_end p) (first_tree t p) (tree_count t p) (λ c. table-begins p h))

  -- the ranges of a valid table are a valid partition
  pub table_partition : valid_partition (first_tree t) (tree_count t) (ranks t) (trees t) ≡ true
  table_partition = rw (valid_linear (first_tree t) (tree_count t) (ranks t) (trees t), table-follow, eq-eqb (trees t) (table_end (ranks t)) trees_end)

  abbrev has_trees_lem : ℕ → Bool
  has_trees_lem = non_empty (first_tree t) (tree_count t)

  shared-to : (p : ℕ) → p < ranks t → (has_trees_lem p && ltb (first_tree t p) (table_end p)) ≡ true → shares_with_lower t p ≡ true
  unfolding shares_with_lower nearest_lower last_tree
  shared-to p h e =
      let f : first_tree t p < table_end p = ltb-true (first_tree t p) (table_end p) (and_snd (has_trees_lem p) _ e) in
      let l = end_last (first_tree t) (tree_count t) p (omega arith) in
      let q : ℕ = l.0 in
      let between : (r : ℕ) → r < p → (leb r q || eqb (tree_count t r) 0) ≡ true =
      λ r a. either (leb r q) (λ z. rw z) (λ z. rw z (eq-eqb (tree_count t r) 0 (none_count (first_tree t) (tree_count t) r (l.4 r a (leb-false r q z))))) in
      and_intro _ _ (and_fst (has_trees_lem p) _ e)
      (any_intro p _ q l.1
      (and_intro _ _ (and_intro _ _ l.2 (all_intro p _ between)) (eq-eqb (first_tree t q + tree_count t q - 1) (first_tree t p) (omega (arith, l.3, table-begins p h)))))

  shared-from : (p : ℕ) → shares_with_lower t p ≡ true → (has_trees_lem p && ltb (first_tree t p) (table_end p)) ≡ true
  unfolding shares_with_lower nearest_lower last_tree
  shared-from p e =
      let a = any_at p (λ q. nearest_lower t p q && eqb (last_tree (first_tree t) (tree_count t) q) (first_tree t p)) (and_snd (has_trees_lem p) _ e) in
      let q : ℕ = a.0 in
      let s : has_trees_lem q ≡ true = and_fst _ _ (and_fst _ _ a.2) in
      let n = all_at p (λ r. leb r q || eqb (tree_count t r) 0) (and_snd (has_trees_lem q) _ (and_fst (nearest_lower t p q) _ a.2)) in
      let m : first_tree t q + tree_count t q - 1 ≡ first_tree t p = eqb-true _ _ (and_snd (nearest_lower t p q) _ a.2) in
      let between : (r : ℕ) → r < p → q < r → has_trees_lem r ≡ false =
      λ r k l. either (has_trees_lem r) (λ u. absurd (omega (tests, some_count (first_tree t) (tree_count t) r u, rw (lt-leb r q l) at (n r k)))) (λ u. u) in
      and_intro _ _ (and_fst (has_trees_lem p) _ e)
      (lt-ltb (first_tree t p) (table_end p) (omega (arith, some_count (first_tree t) (tree_count t) q s, end_from (first_tree t) (tree_count t) q p a.1 s between)))

  -- a negative entry means that the first tree is shared with the nearest lower rank that has trees
  pub shared_means : (p : ℕ) → p < ranks t → negative (entry t p) ≡ shares_with_lower t p
  shared_means p h = negative-is p h ∙ iff_eq (has_trees_lem p && ltb (first_tree t p) (table_end p)) (shares_with_lower t p) (shared-to p h) (shared-from p)

-- ---- writing a table

-- a number and a sign, as 64 bits
coded : (s : Bool) (e : ℕ) → e ≤ max_trees → (s ≡ true → 0 < e) → (cond s (2 ^ 64 - e) e < 2 ^ 64) × (negative (cond s (2 ^ 64 - e) e) ≡ s) × (magnitude (cond s (2 ^ 64 - e) e) ≡ e)
unfolding magnitude negative
coded true e h k = let l = k refl in let n = le-leb (2 ^ 63) (2 ^ 64 - e) (omega arith) in (omega arith, n, rw n (omega arith))
coded false e h k = (omega arith, small_plain e h, plain_magnitude e (small_plain e h))

-- the length of a table says how many ranks it has
ranks_of : (t : List ℕ) (P : ℕ) → length t ≡ table_length P → ranks t ≡ P
unfolding ranks
ranks_of t P e = rw e (omega arith)

module _ (first count : ℕ → ℕ) (P K : ℕ) (ro : rank_count_ok P ≡ true) (ko : tree_count_ok K ≡ true) (v : valid_partition first count P K ≡ true) where
  abbrev T : List ℕ
  T = table_of first count P

  abbrev shared : ℕ → Bool
  shared p = has first count p && ltb (first p) (end first count p)

  end-small : (p : ℕ) → p ≤ P → end first count p ≤ K
  end-small p h = omega (arith, end_rises first count P (valid-follow first count P K v) p P h (le_refl P), trees_are first count P K v)

  written : (p : ℕ) → p < P → (entry_of first count p < 2 ^ 64) × (negative (entry_of first count p) ≡ shared p) × (magnitude (entry_of first count p) ≡ end first count p)
  unfolding entry_of
  written p h = coded (shared p) (end first count p) (omega (arith, end-small p (omega arith), trees_within K ko)) (λ s. omega (arith, ltb-true (first p) (end first count p) (and_snd (has first count p) _ s)))

  trees_read : entry T P ≡ K
  trees_read = entry-last first count P (omega (arith, trees_within K ko, trees_are first count P K v)) ∙ sym (trees_are first count P K v)

  entry_read : (p : ℕ) → p < P → entry T p ≡ entry_of first count p
  entry_read p h = entry_at first count P p h (written p h).0

  magnitude-read : (p : ℕ) → p ≤ P → magnitude (entry T p) ≡ end first count p
  magnitude-read p h =
      below_suc p P (omega arith)
      (λ l. rw (entry_read p l) (written p l).2)
      (λ e. rw (e, trees_read) (plain_magnitude K (small_plain K (trees_within K ko).1) ∙ trees_are first count P K v))

  negative-read : (p : ℕ) → p < P → negative (entry T p) ≡ shared p
  negative-read p h = rw (entry_read p h) (written p h).1

  end_read : (p : ℕ) → p < P → end_tree T p ≡ end first count (suc p)
  end_read p h = end_next T p ∙ magnitude-read (suc p) h

  first_plain : (p : ℕ) → p < P → shared p ≡ false → first_tree T p ≡ end first count p
  unfolding first_tree
  first_plain p h e = plain_of (entry T p) (negative-read p h ∙ e) ∙ magnitude-read p (omega arith)

  first-shared : (p : ℕ) → p < P → shared p ≡ true → first_tree T p + 1 ≡ end first count p
  unfolding first_tree
  first-shared p h e = shared_of (entry T p) (rw (entry_read p h) (written p h).0) (negative-read p h ∙ e) ∙ magnitude-read p (omega arith)

  first_read : (p : ℕ) → p < P → has first count p ≡ true → first_tree T p ≡ first p
  first_read p h s =
      let f = follow first count P (valid-follow first count P K v) p h s in
      either (ltb (first p) (end first count p))
      (λ e. omega (tests, first-shared p h (and_intro _ _ s e)))
      (λ e. omega (tests, first_plain p h (rw (s, e))))

  count_read : (p : ℕ) → p < P → tree_count T p ≡ count p
  unfolding tree_count
  count_read p h =
      rw (end_read p h)
      (either (has first count p)
      (λ s. rw (end_some first count p s, first_read p h s) (omega arith))
      (λ s. rw (end_none first count p s, first_plain p h (rw s)) (omega (arith, none_count first count p s))))

  count-valid : (p : ℕ) → p < P → cond (negative (entry T p)) (ltb (first_tree T p) (end_tree T p)) (leb (first_tree T p) (end_tree T p)) ≡ true
  count-valid p h =
      rw (negative-read p h, end_read p h)
      (either (shared p)
      (λ e. let s = and_fst (has first count p) _ e in rw (e, first_read p h s, end_some first count p s) (lt-ltb (first p) (first p + count p) (omega (arith, some_count first count p s))))
      (λ e. rw (e, first_plain p h e) (le-leb (end first count p) (end first count (suc p)) (end_rises first count P (valid-follow first count P K v) p (suc p) (omega arith) h))))

  zero-read : entry T 0 ≡ 0
  unfolding entry_of
  zero-read = entry_read 0 (ranks_within P ro).0 ∙ rw (end_zero first count, le-ltb (first 0) 0 (omega arith), and-false)

  table_valid : valid T ≡ true
  unfolding valid entries_within counts_ok trees
  table_valid =
      rw (table_ranks first count P, trees_read, zero-read)
      (and_intro _ _ (and_intro _ _ ko (all_intro (P + 1) _ (λ p h. le-leb (magnitude (entry T p)) K (rw (magnitude-read p (omega arith)) (end-small p (omega arith))))))
      (all_intro P _ count-valid))

  -- the table of a partition gives the partition back
  pub table_of_lem : IsTable first count P K T
  unfolding trees
  table_of_lem =
      record {
        bytes = table_bytes_lem first count P;
        size = table_length_lem first count P;
        is_valid = table_valid;
        trees_are = rw (table_ranks first count P) trees_read;
        counts = count_read;
        firsts = λ p h c. first_read p h (count_some first count p c);
      }

-- no number is from a up to b where b isn't above a
span_none : (a b k : ℕ) → b ≤ a → (leb a k && ltb k b) ≡ false
span_none a b k h = either (leb a k) (λ e. rw (e, le-ltb k b (omega tests))) (λ e. rw e)

module _ (first count : ℕ → ℕ) (P : ℕ) (ro : rank_count_ok P ≡ true) where
  module _ (K : ℕ) (t : List ℕ) (i : IsTable first count P K t) where
    ranks_are : ranks t ≡ P
    ranks_are = ranks_of t P i.size

    ranks_ok_lem : ranks_ok t ≡ true
    unfolding ranks_ok
    ranks_ok_lem = rw (ranks_are, i.size, eq-eqb (table_length P) (table_length P) refl) ro

    ranges-agree : (p : ℕ) → p < P → (tree_count t p ≡ count p) × (0 < tree_count t p → first_tree t p ≡ first p)
    ranges-agree p h = (i.counts p h, λ c. i.firsts p h (rw (i.counts p h) at c))

    -- no other list of bytes is a table of the partition
    pub table_unique : t ≡ table_of first count P
    table_unique = sym (table_again t i.bytes ranks_ok_lem i.is_valid) ∙ rw ranks_are (same_ranges (first_tree t) (tree_count t) first count P ranges-agree)

    -- only a valid partition has a table
    pub table_fits : valid_partition first count P K ≡ true
    table_fits =
        rw (← same_partition (first_tree t) (tree_count t) first count P K ranges-agree, ← i.trees_are, ← ranks_are)
        (table_partition t i.bytes ranks_ok_lem i.is_valid)

    -- the table's ranks hold the trees that the partition puts on them
    pub table_holds : (p k : ℕ) → p < P → holds t p k ≡ on_rank first count p k
    unfolding holds on_rank
    table_holds p k h =
        let c : first_tree t p + count p ≡ end_tree t p = rw (i.counts p h) at (count_add t i.bytes ranks_ok_lem i.is_valid p (rw ranks_are h)) in
        either (ltb 0 (count p))
        (λ e. rw (← c, i.firsts p h (omega tests)))
        (λ e. span_none (first_tree t p) (end_tree t p) k (omega tests) ∙ sym (span_none (first p) (first p + count p) k (omega tests)))

  -- a valid partition has one table
  pub one_table : (K : ℕ) → tree_count_ok K ≡ true → valid_partition first count P K ≡ true
      → (t : List ℕ) × IsTable first count P K t × ((u : List ℕ) → IsTable first count P K u → u ≡ t)
  one_table K ko v = (table_of first count P, table_of_lem first count P K ro ko v, table_unique K)

-- ---- the loops of the code: e is the end that they carry

module _ (first count : ℕ → ℕ) where
  -- to the next rank
  pub end_turn : (p e n : ℕ) → e ≡ end_below first count p → n ≡ next_end e (first p) (count p) → n ≡ end_below first count (p + 1)
  unfolding end_below non_empty next_end
  end_turn p e n i h = rw (add-one, h, i)

  pub follow_turn : (p e : ℕ) (b : Bool) → e ≡ end_below first count p → b ≡ range_fits e (first p) (count p) → b ≡ true → ranks_follow first count p ≡ true
      → ranks_follow first count (p + 1) ≡ true
  unfolding ranks_follow
  follow_turn p e b i h t f = all_more p _ f (rw (← i, ← h) t)

  -- a rank that doesn't follow
  pub follow_stop : (P p e : ℕ) (b : Bool) → p < P → e ≡ end_below first count p → b ≡ range_fits e (first p) (count p) → b ≡ false → false ≡ ranges_fit first count P
  unfolding ranges_fit_linear ranks_follow
  follow_stop P p e b l i h t = rw (fit_linear first count P, all_fails P (λ p. range_fits (end_below first count p) (first p) (count p)) p l (rw (← i, ← h) t))

  -- all ranks follow
  pub follow_done : (P p e : ℕ) (b : Bool) → p ≤ P → P ≤ p → e ≡ end_below first count p → ranks_follow first count p ≡ true → b ≡ tree_count_ok e → b ≡ ranges_fit first count P
  unfolding ranges_fit_linear
  follow_done P p e b l k i f h = let q : P ≡ p = omega arith in rw (fit_linear first count P, q, f, h, i)

  -- one more entry, then the last
  module _ (bs out new : List ℕ) where
    pub write_turn : (p e v : ℕ) → e ≡ end_below first count p → v ≡ next_entry e (first p) (count p) → out ≡ splice bs 0 (entries_below first count p) → new ≡ put_u64 out (8 * p) v
        → 8 * p ≤ length bs → new ≡ splice bs 0 (entries_below first count (p + 1))
    unfolding entry_of non_empty next_entry
    write_turn p e v i h o n l = rw (n, o, h, i) (entries_put first count bs p l)

    pub write_done : (P p e : ℕ) → p ≤ P → P ≤ p → e ≡ end_below first count p → out ≡ splice bs 0 (entries_below first count p) → new ≡ put_u64 out (8 * P) e
        → 8 * P ≤ length bs → new ≡ splice bs 0 (table_of first count P)
    write_done P p e l k i o n h =
        let q : p ≡ P = omega arith in
        rw (n, o, i, q) (table_put first count bs P h)

-- the lists of a partition that passes have an element for each rank
pub lists_sized : (P : ℕ) (first count : List ℕ) → partition_ok P first count ≡ true → (length first ≡ P) × (length count ≡ P)
unfolding partition_ok
lists_sized P first count h =
    let r : (eqb (length count) P && ranges_fit (each first) (each count) P) ≡ true = and_snd (eqb (length first) P) _ h in
    (eqb-true (length first) P (and_fst _ _ h), eqb-true (length count) P (and_fst _ _ r))
