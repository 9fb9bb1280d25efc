-- Laws of the send set and the receive set.
use Prim.Native.Nat.{ℕ, ◌+◌, ◌-◌, ◌*◌, ◌≤◌, ◌<◌}
use native.Mathlib.Nat.{le_refl}
use native.Mathlib.Omega.{arith}
use mathlib.Core.Path.{◌≡◌, sym, ◌∙◌}
use mathlib.Core.Bool.{Bool, true, false, ◌&&◌, ◌||◌, or-true}
use mathlib.Core.List.{List}
use lib.Dec.{leb, ltb, eqb}
use lib.ListN.{length, get_or}
use borrow.Author.Tests.{ltb-true, eqb-true, eqb-false, lt-ltb, eq-eqb, ne_eqb}
use Rattle.encoding.specs.Below.{any_below, count_below, sum_below, kept_below, member}
use Rattle.encoding.proofs.Below.{tests, either, and_fst, and_snd, and_intro, iff_eq, any_intro, any_at, count_lt, kept_member, kept_length, kept_at, kept_found, kept_ascends}
use Rattle.offsets.specs.Table.{ranks, trees, first_tree, end_tree, tree_count, holds}
use Rattle.offsets.proofs.Tables.{count_add, end_trees}
use Rattle.pattern.specs.Sender.{Tables, sender, sends, sent_first, sent_count}
use Rattle.pattern.specs.Sets.{sends_to, send_set, gets_from, receive_set, smallest, largest, Ends}
use Rattle.pattern.specs.Means.{sent_low, sent_high}
use Rattle.pattern.proofs.Counting.{range_true, range_in, range_out, any_span, count_one, pairs_three}
use Rattle.pattern.proofs.Senders.{holds_true, holds_in, first_near, end_before, sender_lt, sender_holds, sends_true, sends_in, sends_range, sent_high_lem, sent_count_lem, sent_first_lem, sent_old, sent_new, sent_start}

-- ---- the two lists

module _ (old new : List ℕ) where
  -- the send set of p has the ranks below P to which p sends a tree
  pub send_member : (p q : ℕ) → member q (send_set old new p) ≡ (ltb q (ranks old) && sends_to old new p q)
  unfolding send_set
  send_member p q = kept_member (ranks old) (sends_to old new p) q

  -- the receive set of q has the ranks below P from which it gets a tree
  pub receive_member : (q p : ℕ) → member p (receive_set old new q) ≡ (ltb p (ranks old) && gets_from old new q p)
  unfolding receive_set
  receive_member q p = kept_member (ranks old) (gets_from old new q) p

  -- as many as pass
  pub send_length : (p : ℕ) → length (send_set old new p) ≡ count_below (ranks old) (sends_to old new p)
  unfolding send_set
  send_length p = kept_length (ranks old) (sends_to old new p)

  pub receive_length : (q : ℕ) → length (receive_set old new q) ≡ count_below (ranks old) (gets_from old new q)
  unfolding receive_set
  receive_length q = kept_length (ranks old) (gets_from old new q)

  -- both ascend strictly
  pub send_ascends : (p i j d : ℕ) → i < j → j < length (send_set old new p) → get_or (send_set old new p) i d < get_or (send_set old new p) j d
  unfolding send_set
  send_ascends p i j d h l = kept_ascends (ranks old) (sends_to old new p) i j d h (rw (send_length p) at l)

  pub receive_ascends : (q i j d : ℕ) → i < j → j < length (receive_set old new q) → get_or (receive_set old new q) i d < get_or (receive_set old new q) j d
  unfolding receive_set
  receive_ascends q i j d h l = kept_ascends (ranks old) (gets_from old new q) i j d h (rw (receive_length q) at l)

-- ---- their ends

module _ (n : ℕ) (f : ℕ → Bool) where
  abbrev kept : List ℕ
  kept = kept_below n f

  -- what stands at a place is in the list
  at-member : (i : ℕ) → i < length kept → member (get_or kept i 0) kept ≡ true
  at-member i h =
      let a = kept_found n f i 0 (rw (kept_length n f) at h) in
      rw (kept_member n f (get_or kept i 0), lt-ltb (get_or kept i 0) n a.0, a.1)

  -- what is in the list stands at a place
  member-at : (k : ℕ) → member k kept ≡ true → (i : ℕ) × (i < length kept) × (get_or kept i 0 ≡ k)
  member-at k e =
      let m : (ltb k n && f k) ≡ true = rw (kept_member n f k) at e in
      let l = ltb-true k n (and_fst (ltb k n) (f k) m) in
      let t = and_snd (ltb k n) (f k) m in
      (count_below k f, rw (kept_length n f) (count_lt k n f l t), kept_at n f k l t 0)

  in_order : (i j : ℕ) → i ≤ j → j < length kept → get_or kept i 0 ≤ get_or kept j 0
  in_order i j h l =
      either (ltb i j)
      (λ e. omega (arith, kept_ascends n f i j 0 (ltb-true i j e) (rw (kept_length n f) at l)))
      (λ e. let d : i ≡ j = omega tests in rw d (le_refl (get_or kept j 0)))

  kept-ends : Ends kept
  unfolding smallest largest
  kept-ends =
      record {
        of_none = λ e. (rw e, rw e);
        least = λ k e. let a = member-at k e in
            let z : eqb (length kept) 0 ≡ false = ne_eqb (length kept) 0 (λ i. omega (arith, a.1)) in
            (get_or kept 0 0, rw z, at-member 0 (omega (arith, a.1)), rw (← a.2) (in_order 0 a.0 (omega arith) a.1));
        greatest = λ k e. let a = member-at k e in
            let z : eqb (length kept) 0 ≡ false = ne_eqb (length kept) 0 (λ i. omega (arith, a.1)) in
            (get_or kept (length kept - 1) 0, rw z, at-member (length kept - 1) (omega (arith, a.1)), rw (← a.2) (in_order a.0 (length kept - 1) (omega (arith, a.1)) (omega (arith, a.1))));
      }

module _ (old new : List ℕ) where
  -- smallest and largest are the least and the greatest of either set
  pub send_ends : (p : ℕ) → Ends (send_set old new p)
  unfolding send_set
  send_ends p = kept-ends (ranks old) (sends_to old new p)

  pub receive_ends : (q : ℕ) → Ends (receive_set old new q)
  unfolding receive_set
  receive_ends q = kept-ends (ranks old) (gets_from old new q)

-- ---- who is in them

module _ (old new : List ℕ) (T : Tables old new) where
  -- the trees of a rank's new range are below K
  pub new_below : (q k : ℕ) → q < ranks old → holds new q k ≡ true → k < trees old
  new_below q k r e =
      let n = T.same_ranks in
      let m = T.same_trees in
      let h = holds_true new q k e in
      omega (arith, end_trees new T.new_bytes T.new_ranks T.new_valid q (omega arith))

  module _ (p q : ℕ) (l : p < ranks old) (r : q < ranks old) where
    -- p sends q a tree where the range from sent_low to sent_high has one
    pub sends_to_lem : sends_to old new p q ≡ ltb (sent_low old new p q) (sent_high old new p q)
    unfolding sends_to sends
    sends_to_lem = any_span (trees old) (sends old new p q) (sent_low old new p q) (sent_high old new p q) (sent_high_lem old new T p q l r) (λ k h. sends_range old new T p q k l r h)

    -- q gets a tree from p where p sends it one
    pub gets_sends : gets_from old new q p ≡ sends_to old new p q
    unfolding gets_from sends_to
    gets_sends =
        let f : ℕ → Bool = λ k. holds new q k && eqb (sender old k q) p in
        let g : ℕ → Bool = λ i. eqb (sender old (first_tree new q + i) q) p in
        let n = T.same_ranks in
        let c : first_tree new q + tree_count new q ≡ end_tree new q = count_add new T.new_bytes T.new_ranks T.new_valid q (omega arith) in
        iff_eq (any_below (tree_count new q) g) (any_below (trees old) f)
        (λ e. let a = any_at (tree_count new q) g e in
        let k = first_tree new q + a.0 in
        let h : holds new q k ≡ true = holds_in new q k (omega arith) (omega arith) in
        any_intro (trees old) f k (new_below q k r h) (and_intro (holds new q k) (g a.0) h a.2))
        (λ e. let a = any_at (trees old) f e in
        let k = a.0 in
        let h = holds_true new q k (and_fst (holds new q k) (eqb (sender old k q) p) a.2) in
        let i : first_tree new q + (k - first_tree new q) ≡ k = omega arith in
        any_intro (tree_count new q) g (k - first_tree new q) (omega arith) (rw i (and_snd (holds new q k) (eqb (sender old k q) p) a.2)))

    pub gets_from_lem : gets_from old new q p ≡ ltb (sent_low old new p q) (sent_high old new p q)
    gets_from_lem = gets_sends ∙ sends_to_lem

    -- q is in the send set of p exactly where p is in the receive set of q
    pub symmetric : member q (send_set old new p) ≡ member p (receive_set old new q)
    symmetric = rw (send_member old new p q, receive_member old new q p, lt-ltb p (ranks old) l, lt-ltb q (ranks old) r, gets_sends)

    -- the trees from p to q are those from sent_first, sent_count of them
    pub one_range : (k : ℕ) → k < trees old → sends old new p q k ≡ (leb (sent_first old new p q) k && ltb k (sent_first old new p q + sent_count old new p q))
    one_range k h =
        let c = sent_count_lem old new T p q l r in
        let f = sent_first_lem old new T p q l r in
        sends_range old new T p q k l r h
        ∙ either (eqb (sent_count old new p q) 0)
        (λ e. let z = eqb-true (sent_count old new p q) 0 e in
        range_out (sent_low old new p q) (sent_high old new p q) k (λ m. omega arith)
        ∙ sym (range_out (sent_first old new p q) (sent_first old new p q + sent_count old new p q) k (λ m. omega arith)))
        (λ e. let z = eqb-false (sent_count old new p q) 0 e in
        let g : sent_first old new p q ≡ sent_low old new p q = rw e at f in
        let u : sent_first old new p q + sent_count old new p q ≡ sent_high old new p q = omega arith in
        rw (u, g))

    -- they are trees
    pub sent_below : sent_first old new p q + sent_count old new p q ≤ trees old
    sent_below =
        let c = sent_count_lem old new T p q l r in
        let f = sent_first_lem old new T p q l r in
        let h = sent_high_lem old new T p q l r in
        either (eqb (sent_count old new p q) 0)
        (λ e. let z = eqb-true (sent_count old new p q) 0 e in let g : sent_first old new p q ≡ 0 = rw e at f in omega arith)
        (λ e. let z = eqb-false (sent_count old new p q) 0 e in let g : sent_first old new p q ≡ sent_low old new p q = rw e at f in omega arith)

    -- a tree in that range is one that p sends q
    pub sent_in : (k : ℕ) → sent_first old new p q ≤ k → k < sent_first old new p q + sent_count old new p q → sends old new p q k ≡ true
    sent_in k m h = one_range k (omega (arith, sent_below)) ∙ range_in (sent_first old new p q) (sent_first old new p q + sent_count old new p q) k m h

  -- each tree of the new range of q has one sender, a holder under the old table
  pub one_sender : (q k : ℕ) → q < ranks old → holds new q k ≡ true
      → (p : ℕ) × (p < ranks old) × (sends old new p q k ≡ true) × (holds old p k ≡ true) × ((r : ℕ) → sends old new r q k ≡ true → r ≡ p)
  one_sender q k l e =
      let h = new_below q k l e in
      (sender old k q, sender_lt old new T k q h l, sends_in old new T q k e, sender_holds old new T k q h l, (λ r s. sym (sends_true old new T r q k s).1))

  -- no tree comes to q from two ranks
  pub received_disjoint : (p r q k : ℕ) → p < ranks old → r < ranks old → q < ranks old
      → sent_first old new p q ≤ k → k < sent_first old new p q + sent_count old new p q
      → sent_first old new r q ≤ k → k < sent_first old new r q + sent_count old new r q → p ≡ r
  received_disjoint p r q k lp lr lq a b c d = sym (sends_true old new T p q k (sent_in p q lp lq k a b)).1 ∙ (sends_true old new T r q k (sent_in r q lr lq k c d)).1

  -- each tree of the new range of q is in the range from a rank of its receive set
  pub received_covers : (q k : ℕ) → q < ranks old → holds new q k ≡ true
      → (p : ℕ) × (member p (receive_set old new q) ≡ true) × (sent_first old new p q ≤ k) × (k < sent_first old new p q + sent_count old new p q)
  unfolding sends_to sends
  received_covers q k l e =
      let h = new_below q k l e in
      let s = one_sender q k l e in
      let p = s.0 in
      let n : p < ranks old = s.1 in
      let i = range_true (sent_first old new p q) (sent_first old new p q + sent_count old new p q) k (sym (one_range p q n l k h) ∙ s.2) in
      let m : member q (send_set old new p) ≡ true = rw (send_member old new p q, lt-ltb q (ranks old) l) (any_intro (trees old) (sends old new p q) k h s.2) in
      (p, sym (symmetric p q n l) ∙ m, i.0, i.1)

  -- and no other tree is
  pub received_only : (p q k : ℕ) → p < ranks old → q < ranks old → sent_first old new p q ≤ k → k < sent_first old new p q + sent_count old new p q → holds new q k ≡ true
  received_only p q k lp lq a b = (sends_true old new T p q k (sent_in p q lp lq k a b)).0

  -- ---- the number of messages

  -- p sends q its first new tree
  starts_with : ℕ → ℕ → Bool
  starts_with p q = eqb (sender old (first_tree new q) q) p

  -- the new trees of q go on over tree k
  goesOver : ℕ → ℕ → Bool
  goesOver k q = ltb (first_tree new q) k && ltb k (end_tree new q)

  why : (p q : ℕ) → p < ranks old → q < ranks old → sends_to old new p q ≡ true → (goesOver (first_tree old p) q || (starts_with p q || goesOver (first_tree old p + 1) q)) ≡ true
  unfolding starts_with goesOver
  why p q l r e =
      let low = sent_low old new p q in
      let high = sent_high old new p q in
      let m = ltb-true low high (sym (sends_to_lem p q l r) ∙ e) in
      let n = sent_new old new T p q in
      let o = sent_old old new T p q in
      let f = first_tree new q in
      either (ltb f low)
      (λ c. either (eqb low (first_tree old p))
      (λ d. let i = eqb-true low (first_tree old p) d in rw (lt-ltb f (first_tree old p) (omega tests), lt-ltb (first_tree old p) (end_tree new q) (omega arith)))
      (λ d. let i : low ≡ first_tree old p + 1 = omega (tests, eqb-false low (first_tree old p) d, sent_start old new T p q) in
      rw (lt-ltb f (first_tree old p + 1) (omega tests), lt-ltb (first_tree old p + 1) (end_tree new q) (omega arith), or-true, or-true)))
      (λ c. let h : f < trees old = omega (tests, sent_high_lem old new T p q l r) in
      let s : sends old new p q f ≡ true = sends_range old new T p q f l r h ∙ range_in low high f (omega tests) (omega tests) in
      rw (eq-eqb (sender old f q) p (sends_true old new T p q f s).1, or-true))

  once-starts : (q : ℕ) → count_below (ranks old) (λ p. starts_with p q) ≤ 1
  unfolding starts_with
  once-starts q = count_one (ranks old) (λ p. starts_with p q) (λ i j l m x y. omega tests)

  once-over : (k : ℕ) → count_below (ranks old) (goesOver k) ≤ 1
  unfolding goesOver
  once-over k =
      count_one (ranks old) (goesOver k)
      (λ i j l m x y. let n = T.same_ranks in
      omega (
        tests,
        and_snd (ltb (first_tree new i) k) (ltb k (end_tree new i)) x,
        and_fst (ltb (first_tree new j) k) (ltb k (end_tree new j)) y,
        end_before new T.new_bytes T.new_ranks T.new_valid i j l (omega arith),
        first_near new T.new_bytes T.new_ranks T.new_valid j,
      ))

  -- there are at most 3 P messages, those of a rank to itself included
  pub move_bound : sum_below (ranks old) (λ p. count_below (ranks old) (λ q. sends_to old new p q)) ≤ 3 * ranks old
  move_bound =
      pairs_three (ranks old) (sends_to old new) (λ p. goesOver (first_tree old p)) starts_with (λ p. goesOver (first_tree old p + 1))
      (λ p q l r e. why p q l r e) (λ p l. once-over (first_tree old p)) (λ q l. once-starts q) (λ p l. once-over (first_tree old p + 1))
