-- A table with more or fewer ranks: every rank of both has the same trees, each rank of only one has none, and the way back gives the same bytes.
use Prim.Native.Nat.{ℕ, zero, suc, ◌+◌, ◌-◌, ◌*◌, ◌^◌, ◌≤◌, ◌<◌}
use native.Mathlib.Nat.{le_refl}
use native.Mathlib.Omega.{arith}
use mathlib.Core.Path.{◌≡◌, refl, sym, ap, ◌∙◌}
use mathlib.Core.Bool.{true, false, ◌&&◌, ◌||◌}
use mathlib.Core.List.{List, [], ◌++◌}
use lib.Dec.{leb, ltb, eqb}
use lib.ListN.{length, drop, length-drop}
use lib.Seq.{take_all, take-append-le, drop-append-le, drop_at}
use borrow.Author.Tests.{lt-ltb, ltb-true, leb-true, eqb-true, le-ltb, le-leb, eq-eqb}
use Rattle.encoding.specs.Below.{all_below}
use Rattle.encoding.specs.Numbers.{le_bytes, le_at, u64_at}
use Rattle.encoding.specs.Pieces.{piece, Bytes}
use Rattle.encoding.specs.Refusal.{first_failed}
use Rattle.encoding.proofs.Below.{tests, either, and_fst, and_snd, and_intro, below_suc, all_at, all_intro}
use Rattle.encoding.proofs.Numbers.{bytes_length, value_bytes, at_bound, at_bytes}
use Rattle.encoding.proofs.Pieces.{piece_add}
use Rattle.offsets.specs.Limits.{rank_count_ok, tree_count_ok, max_trees}
use Rattle.offsets.specs.Table.{table_length, ranks, ranks_ok, entry, trees, negative, magnitude, first_of, first_tree, end_tree, tree_count, valid}
use Rattle.offsets.specs.Means.{entry_ok, entry_ok_at, valid_one_pass}
use Rattle.offsets.proofs.OnePass.{valid_one_pass_lem}
use Rattle.offsets.proofs.Tables.{small_plain, plain_magnitude, plain_of, end_next, size, ranks_low, ranks_high_lem, trees_high, first_lt_end, count_add, plain_first}
use Rattle.restart.specs.Restart.{padded_entry, padded_entries, padded_table, in_or_empty, left_out_empty}
use Rattle.restart.specs.Calls.{pad_checks}
use Rattle.restart.specs.Theorems.{Padded, PadsTables, PadsUp}
use Rattle.restart.proofs.Checks.{PadKnown, pad_known}
use Rattle.restart.proofs.Writing.{entries_length, padded_length}

-- ---- numbers of two lists

at_before : (a b : List ℕ) (off : ℕ) → off + 8 ≤ length a → u64_at (a ++ b) off ≡ u64_at a off
unfolding le_at piece
at_before a b off h =
    let l : 8 ≤ length (drop off a) = simp length-drop (omega arith) in
    rw (drop-append-le off a b (omega arith), take-append-le 8 (drop off a) b l)

at_after : (a : List ℕ) (v off : ℕ) → length a ≡ off → v < 2 ^ 64 → u64_at (a ++ le_bytes 8 v) off ≡ v
unfolding le_at piece
at_after a v off l h = rw (drop_at a (le_bytes 8 v) off l, take_all 8 (le_bytes 8 v) (omega (arith, bytes_length 8 v))) (value_bytes 8 v h)

-- what stays at every step is the same at the end
stays : (f : ℕ → ℕ) (d p : ℕ) → ((i : ℕ) → p ≤ i → i < p + d → f i ≡ f (suc i)) → f p ≡ f (p + d)
stays f zero p h = ap f (omega arith)
stays f (suc d) p h =
    let e : suc p + d ≡ p + suc d = omega arith in
    h p (le_refl p) (omega arith) ∙ stays f d (suc p) (λ i a b. h i (omega arith) (omega arith)) ∙ ap f e

-- ---- entries

module _ (t : List ℕ) (bytes : Bytes t) where
  entry-small : (p : ℕ) → entry t p < 2 ^ 64
  unfolding entry
  entry-small p = at_bound 8 t (8 * p) bytes

  own-bytes : (p : ℕ) → 8 * p + 8 ≤ length t → le_bytes 8 (entry t p) ≡ piece t (8 * p) 8
  unfolding entry
  own-bytes p h = at_bytes 8 t (8 * p) bytes h

  padded-small : (p : ℕ) → padded_entry t p < 2 ^ 64
  unfolding padded_entry trees
  padded-small p = either (leb p (ranks t)) (λ e. rw e (entry-small p)) (λ e. rw e (entry-small (ranks t)))

  at-entries : (m p : ℕ) → p < m → u64_at (padded_entries t m) (8 * p) ≡ padded_entry t p
  unfolding padded_entries
  at-entries zero p h = absurd (omega arith)
  at-entries (suc m) p h =
      below_suc p m h
      (λ l. at_before (padded_entries t m) (le_bytes 8 (padded_entry t m)) (8 * p) (omega (arith, entries_length t m)) ∙ at-entries m p l)
      (λ e. rw e (at_after (padded_entries t m) (padded_entry t m) (8 * m) (entries_length t m) (padded-small m)))

  -- an entry of the table of n ranks
  padded-entry : (n p : ℕ) → p ≤ n → entry (padded_table t n) p ≡ padded_entry t p
  unfolding entry padded_table
  padded-entry n p h = at-entries (n + 1) p (omega arith)

own_entry : (t : List ℕ) (p : ℕ) → p ≤ ranks t → padded_entry t p ≡ entry t p
unfolding padded_entry
own_entry t p h = rw (le-leb p (ranks t) h)

added_entry : (t : List ℕ) (p : ℕ) → ranks t ≤ p → padded_entry t p ≡ trees t
unfolding padded_entry trees
added_entry t p h =
    either (leb p (ranks t))
    (λ e. let q : p ≡ ranks t = omega tests in rw e (ap (entry t) q))
    (λ e. rw e)

-- the ranks of a table, by its length
ranks_of : (t : List ℕ) (n : ℕ) → length t ≡ table_length n → ranks t ≡ n
unfolding ranks
ranks_of t n h = omega arith

piece_none : (t : List ℕ) → piece t 0 0 ≡ []
unfolding piece
piece_none t = refl

whole : (t : List ℕ) (m : ℕ) → length t ≡ m → piece t 0 m ≡ t
unfolding piece
whole t m h = take_all m t (omega arith)

-- K is no negative number
plain_k : (K : ℕ) → K ≤ max_trees → entry_ok K K K ≡ true
unfolding entry_ok
plain_k K h =
    let z : negative K ≡ false = small_plain K h in
    rw (z, plain_of K z, plain_magnitude K z, le-leb K K (le_refl K))

-- ---- the table of n ranks

module _ (t : List ℕ) (n : ℕ) (bytes : Bytes t) (known : PadKnown t n) where
  ok : ranks_ok t ≡ true
  ok = known.is_table.counted

  v : valid t ≡ true
  v = known.is_table.checked

  abbrev s : List ℕ
  s = padded_table t n

  -- a rank that is left out begins where it ends, and so does the next one
  out-count : (p : ℕ) → n ≤ p → p < ranks t → tree_count t p ≡ 0
  unfolding left_out_empty in_or_empty
  out-count p h l =
      let a : (ltb p n || eqb (tree_count t p) 0) ≡ true = all_at (ranks t) (in_or_empty t n) known.left_empty p l in
      eqb-true (tree_count t p) 0 (rw (le-ltb p n h) at a)

  out-plain : (p : ℕ) → n ≤ p → p < ranks t → negative (entry t p) ≡ false
  out-plain p h l =
      either (negative (entry t p))
      (λ e. absurd (omega (arith, first_lt_end t bytes ok v p l e, count_add t bytes ok v p l, out-count p h l)))
      (λ e. e)

  out_step : (p : ℕ) → n ≤ p → p < ranks t → magnitude (entry t p) ≡ magnitude (entry t (suc p))
  out_step p h l =
      omega (arith, plain_first t bytes ok v p (out-plain p h l), count_add t bytes ok v p l, out-count p h l, end_next t p)

  plain-last : magnitude (entry t (ranks t)) ≡ trees t
  unfolding trees
  plain-last = plain_magnitude (entry t (ranks t)) (small_plain (entry t (ranks t)) (trees_high t bytes ok v))

  -- its entry is K
  out-entry : (p : ℕ) → n ≤ p → p ≤ ranks t → entry t p ≡ trees t
  unfolding trees
  out-entry p h l =
      either (ltb p (ranks t))
      (λ e. let q : p < ranks t = ltb-true p (ranks t) e in
      let d : p + (ranks t - p) ≡ ranks t = omega arith in
      let m : magnitude (entry t p) ≡ magnitude (entry t (p + (ranks t - p))) = stays (λ i. magnitude (entry t i)) (ranks t - p) p (λ i a b. out_step i (omega arith) (omega arith)) in
      sym (plain_magnitude (entry t p) (out-plain p h q)) ∙ m ∙ ap (λ (i : ℕ). magnitude (entry t i)) d ∙ plain-last)
      (λ e. let q : p ≡ ranks t = omega tests in ap (entry t) q)

  many : ranks s ≡ n
  many = ranks_of s n (padded_length t n)

  counted : ranks_ok s ≡ true
  unfolding ranks_ok
  counted = rw (many, eq-eqb (length s) (table_length n) (padded_length t n), known.ranks_fit)

  -- K stays
  last_read : trees s ≡ entry s n
  unfolding trees
  last_read = ap (entry s) many

  last_entry : padded_entry t n ≡ trees t
  last_entry =
      either (leb n (ranks t))
      (λ e. own_entry t n (leb-true n (ranks t) e) ∙ out-entry n (le_refl n) (leb-true n (ranks t) e))
      (λ e. added_entry t n (omega tests))

  same_k : trees s ≡ trees t
  same_k = last_read ∙ padded-entry t bytes n n (le_refl n) ∙ last_entry

  -- an entry that both have, and one that is added
  both_entry : (p : ℕ) → p ≤ ranks t → p ≤ n → entry s p ≡ entry t p
  both_entry p h l = padded-entry t bytes n p l ∙ own_entry t p h

  new-entry : (p : ℕ) → ranks t ≤ p → p ≤ n → entry s p ≡ trees t
  new-entry p h l = padded-entry t bytes n p l ∙ added_entry t p h

  -- each entry passes
  one-pass : valid_one_pass t ≡ true
  one-pass = sym (valid_one_pass_lem t) ∙ v

  own-ok : (p : ℕ) → p < ranks t → entry_ok (trees t) (entry t p) (entry t (p + 1)) ≡ true
  unfolding valid_one_pass entry_ok_at
  own-ok p h = all_at (ranks t) (entry_ok_at t (trees t)) (and_snd (eqb (entry t 0) 0 && tree_count_ok (trees t)) (all_below (ranks t) (entry_ok_at t (trees t))) one-pass) p h

  entry-ok : (p : ℕ) → p < n → entry_ok_at s (trees s) p ≡ true
  unfolding entry_ok_at
  entry-ok p h =
      either (ltb p (ranks t))
      (λ e. let l : p < ranks t = ltb-true p (ranks t) e in
      rw (same_k, both_entry p (omega arith) (omega arith), both_entry (p + 1) (omega arith) (omega arith)) (own-ok p l))
      (λ e. let l : ranks t ≤ p = omega tests in
      rw (same_k, new-entry p l (omega arith), new-entry (p + 1) (omega arith) (omega arith)) (plain_k (trees t) (trees_high t bytes ok v)))

  checked : valid s ≡ true
  unfolding valid_one_pass
  checked =
      let two : (eqb (entry t 0) 0 && tree_count_ok (trees t)) ≡ true = and_fst (eqb (entry t 0) 0 && tree_count_ok (trees t)) (all_below (ranks t) (entry_ok_at t (trees t))) one-pass in
      valid_one_pass_lem s
      ∙ and_intro (eqb (entry s 0) 0 && tree_count_ok (trees s)) (all_below (ranks s) (entry_ok_at s (trees s)))
      (rw (both_entry 0 (omega arith) (omega arith), same_k) two)
      (rw many (all_intro n (entry_ok_at s (trees s)) entry-ok))

  -- f(p) of a rank of both, and of one that is added
  firsts : (p : ℕ) → p < ranks t → p < n → first_tree s p ≡ first_tree t p
  unfolding first_tree
  firsts p h l = ap first_of (both_entry p (omega arith) (omega arith))

  ends : (p : ℕ) → p < ranks t → p < n → end_tree s p ≡ end_tree t p
  unfolding end_tree
  ends p h l = ap magnitude (both_entry (p + 1) (omega arith) (omega arith))

  new-first : (p : ℕ) → ranks t ≤ p → p < n → first_tree s p ≡ trees t
  unfolding first_tree
  new-first p h l =
      let z : negative (trees t) ≡ false = small_plain (trees t) (trees_high t bytes ok v) in
      ap first_of (new-entry p h (omega arith)) ∙ plain_of (trees t) z ∙ plain_magnitude (trees t) z

  new-end : (p : ℕ) → ranks t ≤ p → p < n → end_tree s p ≡ trees t
  unfolding end_tree
  new-end p h l =
      let z : negative (trees t) ≡ false = small_plain (trees t) (trees_high t bytes ok v) in
      ap magnitude (new-entry (p + 1) (omega arith) (omega arith)) ∙ plain_magnitude (trees t) z

  new-count : (p : ℕ) → ranks t ≤ p → p < n → tree_count s p ≡ 0
  unfolding tree_count
  new-count p h l = omega (arith, new-first p h l, new-end p h l)

  -- the way back is accepted
  back-empty : left_out_empty s (ranks t) ≡ true
  unfolding left_out_empty in_or_empty
  back-empty =
      rw many
      (all_intro n (in_or_empty s (ranks t))
      (λ p h. either (ltb p (ranks t))
      (λ e. rw e)
      (λ e. rw (e, new-count p (omega tests) h))))

  ranks_fit_lem : rank_count_ok (ranks t) ≡ true
  unfolding rank_count_ok
  ranks_fit_lem = and_intro (leb 1 (ranks t)) (leb (ranks t) 16384) (le-leb 1 (ranks t) (ranks_low t bytes ok v)) (le-leb (ranks t) 16384 (ranks_high_lem t bytes ok v))

  accepted : first_failed (pad_checks s (ranks t)) ≡ 0
  unfolding pad_checks first_failed
  accepted = rw (counted, ranks_fit_lem, checked, back-empty)

  -- and gives the same bytes
  back-entry : (p : ℕ) → p ≤ ranks t → padded_entry s p ≡ entry t p
  back-entry p h =
      either (leb p n)
      (λ e. own_entry s p (omega (tests, many)) ∙ both_entry p h (leb-true p n e))
      (λ e. added_entry s p (omega (tests, many)) ∙ same_k ∙ sym (out-entry p (omega tests) h))

  back-entries : (m : ℕ) → m ≤ ranks t + 1 → padded_entries s m ≡ piece t 0 (8 * m)
  unfolding padded_entries
  back-entries zero h = sym (piece_none t)
  back-entries (suc m) h =
      let e : 8 * suc m ≡ 8 * m + 8 = omega arith in
      let z : 0 + 8 * m ≡ 8 * m = omega arith in
      let b : le_bytes 8 (padded_entry s m) ≡ piece t (8 * m) 8 = ap (le_bytes 8) (back-entry m (omega arith)) ∙ own-bytes t bytes m (omega (arith, size t bytes ok v)) in
      rw (back-entries m (omega arith), b, e) (sym (rw z at (piece_add t 0 (8 * m) 8)))

  back : padded_table s (ranks t) ≡ t
  unfolding padded_table
  back = back-entries (ranks t + 1) (le_refl (ranks t + 1)) ∙ whole t (8 * (ranks t + 1)) (size t bytes ok v)

  padded : Padded t n
  padded =
      record {
        counted = counted;
        checked = checked;
        many = many;
        same_k = same_k;
        firsts = firsts;
        ends = ends;
        new_firsts = new-first;
        new_counts = new-count;
        accepted = accepted;
        back = back;
      }

pub pads_tables : PadsTables
pads_tables table n bytes e = padded table n bytes (pad_known table n e)

pub pads_up : PadsUp
unfolding pad_checks first_failed left_out_empty in_or_empty
pads_up table n a b c h =
    let none : all_below (ranks table) (in_or_empty table n) ≡ true = all_intro (ranks table) (in_or_empty table n) (λ p l. rw (lt-ltb p n (omega arith))) in
    rw (a, b, c, none)
