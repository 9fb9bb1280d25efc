-- Which moves the output lists, and which trees each moves.
use Prim.Native.Nat.{ℕ, zero, suc, ◌+◌, ◌-◌, ◌≤◌, ◌<◌}
use native.Mathlib.Nat.{le_refl}
use native.Mathlib.Omega.{arith}
use mathlib.Core.Path.{◌≡◌, refl, sym, ap, ◌∙◌}
use mathlib.Core.Bool.{Bool, true, false, cond, ◌&&◌, ◌||◌, and-false, or_assoc, or-false}
use mathlib.Core.List.{List, [], ◌∷◌, ◌++◌, append_assoc, append-nil}
use lib.Dec.{leb, ltb, eqb}
use lib.ListN.{length, get_or, length-append, get_or-append}
use lib.Seq.{get_or-append-add}
use borrow.Author.Tests.{lt-ltb, le-ltb, le-leb, eq-eqb, ltb-true, eqb-true, eqb-false}
use Rattle.encoding.specs.Below.{count_below, sum_below, kept_below, member}
use Rattle.encoding.proofs.Below.{tests, either, iff_eq, any_at, count_lt}
use Rattle.offsets.specs.Table.{ranks, trees}
use Rattle.pattern.specs.Sender.{Tables, sends, sent_first, sent_count}
use Rattle.pattern.specs.Sets.{sends_to, send_set}
use Rattle.pattern.proofs.Sets.{send_member, send_length, send_ascends, one_range}
use Rattle.plan_read.specs.Text.{ranks_word}
use Rattle.plan_write.specs.Moves.{trees_word, messages_word, line_text, move_text, moves_from, moves_text, move_count, moves_output}
use Rattle.plan_write.specs.Pairs.{listed, earlier, pairs_of, move_pairs, move_lines}
use Rattle.plan_write.specs.Promises.{PlanMoves}

-- ---- the moves: exactly the pairs of a sender and a receiver with a tree to move, each once, by sender and then receiver

pairs_append : (p : ℕ) (a b : List ℕ) → pairs_of p (a ++ b) ≡ pairs_of p a ++ pairs_of p b
unfolding pairs_of
pairs_append p [] b = refl
pairs_append p (q ∷ a) b = rw (pairs_append p a b)

pairs_length : (p : ℕ) (qs : List ℕ) → length (pairs_of p qs) ≡ length qs
unfolding pairs_of
pairs_length p [] = refl
pairs_length p (q ∷ qs) = rw (pairs_length p qs)

pairs_at : (p : ℕ) (qs : List ℕ) (i : ℕ) (d : ℕ × ℕ) → i < length qs → get_or (pairs_of p qs) i d ≡ (p, get_or qs i 0)
unfolding pairs_of
pairs_at p [] i d h = absurd (omega arith)
pairs_at p (q ∷ qs) zero d h = refl
pairs_at p (q ∷ qs) (suc i) d h = pairs_at p qs i d (omega arith)

listed_append : (p q : ℕ) (a b : List (ℕ × ℕ)) → listed p q (a ++ b) ≡ (listed p q a || listed p q b)
unfolding listed
listed_append p q [] b = refl
listed_append p q (m ∷ a) b = rw (listed_append p q a b, or_assoc)

listed_pairs : (p q n : ℕ) (qs : List ℕ) → listed p q (pairs_of n qs) ≡ (eqb p n && member q qs)
unfolding listed pairs_of member
listed_pairs p q n [] = rw and-false
listed_pairs p q n (r ∷ qs) = rw (listed_pairs p q n qs) (either (eqb p n) (λ t. rw t) (λ f. rw f))

module _ (old new : List ℕ) where
  lines-append : (a b : List (ℕ × ℕ)) → move_lines old new (a ++ b) ≡ move_lines old new a ++ move_lines old new b
  unfolding move_lines
  lines-append [] b = refl
  lines-append (m ∷ a) b = rw (lines-append a b, append_assoc)

  lines-one : (p q : ℕ) (b : Bool) → move_lines old new (pairs_of p (cond b (q ∷ []) [])) ≡ cond b (move_text old new p q) []
  unfolding move_lines pairs_of
  lines-one p q true = rw append-nil
  lines-one p q false = refl

  lines_from : (p n : ℕ) → move_lines old new (pairs_of p (kept_below n (sends_to old new p))) ≡ moves_from old new p n
  unfolding kept_below moves_from pairs_of move_lines
  lines_from p zero = refl
  lines_from p (suc n) = rw (pairs_append, lines-append, lines_from p n, lines-one p n (sends_to old new p n))

  -- the text of the moves is the lines of these pairs
  pub moves_listed : (n : ℕ) → moves_text old new n ≡ move_lines old new (move_pairs old new n)
  unfolding moves_text move_pairs move_lines send_set
  moves_listed zero = refl
  moves_listed (suc n) = rw (lines-append, moves_listed n, lines_from n (ranks old))

  pairs-count : (n : ℕ) → length (move_pairs old new n) ≡ sum_below n (λ p. count_below (ranks old) (sends_to old new p))
  unfolding move_pairs sum_below
  pairs-count zero = refl
  pairs-count (suc n) = rw (length-append, pairs-count n, pairs_length, send_length old new n)

  -- `messages` counts them
  pub moves_counted : move_count old new ≡ length (move_pairs old new (ranks old))
  unfolding move_count
  moves_counted = sym (pairs-count (ranks old))

  -- the whole output
  pub output_listed : moves_output old new
      ≡ line_text ranks_word (ranks old)
      ++ (line_text trees_word (trees old) ++ (move_lines old new (move_pairs old new (ranks old)) ++ line_text messages_word (length (move_pairs old new (ranks old)))))
  unfolding moves_output
  output_listed = rw (← moves_listed (ranks old), ← moves_counted)

  -- a pair is listed exactly where both are ranks and the first sends the second a tree
  pub pairs_exact : (n p q : ℕ) → listed p q (move_pairs old new n) ≡ (ltb p n && (ltb q (ranks old) && sends_to old new p q))
  unfolding move_pairs listed
  pairs_exact zero p q = rw (le-ltb p 0 (omega arith))
  pairs_exact (suc n) p q =
      rw (listed_append, pairs_exact n p q, listed_pairs, send_member old new n q)
      (either (eqb p n)
      (λ t. let e = eqb-true p n t in rw (e, le-ltb n n (omega arith), lt-ltb n (suc n) (omega arith), eq-eqb n n refl))
      (λ f. let e = eqb-false p n f in
      let g : ltb p (suc n) ≡ ltb p n = iff_eq (ltb p (suc n)) (ltb p n) (λ h. lt-ltb p n (either (ltb p n) (ltb-true p n) (λ k. absurd (e (omega tests))))) (λ h. lt-ltb p (suc n) (omega tests)) in
      rw (f, g, or-false)))

  module _ (n i : ℕ) (d : ℕ × ℕ) where
    front_at : i < length (move_pairs old new n) → get_or (move_pairs old new (suc n)) i d ≡ get_or (move_pairs old new n) i d
    unfolding move_pairs
    front_at h = get_or-append (move_pairs old new n) (pairs_of n (send_set old new n)) d i h

    back_at : length (move_pairs old new n) ≤ i → i < length (move_pairs old new (suc n))
        → (i - length (move_pairs old new n) < length (send_set old new n)) × (get_or (move_pairs old new (suc n)) i d ≡ (n, get_or (send_set old new n) (i - length (move_pairs old new n)) 0))
    unfolding move_pairs
    back_at h l =
        let a = move_pairs old new n in
        let s = send_set old new n in
        let e : length a + (i - length a) ≡ i = omega arith in
        let k : i - length a < length s = omega (arith, length-append a (pairs_of n s), pairs_length n s) in
        let g : get_or (a ++ pairs_of n s) (length a + (i - length a)) d ≡ get_or (pairs_of n s) (i - length a) d = get_or-append-add a (pairs_of n s) (i - length a) d in
        (k, (rw e at g) ∙ pairs_at n s (i - length a) d k)

  no_pairs : (i : ℕ) → i < length (move_pairs old new 0) → ⊥
  unfolding move_pairs
  no_pairs i h = omega arith

  pairs_below : (n i : ℕ) (d : ℕ × ℕ) → i < length (move_pairs old new n) → (get_or (move_pairs old new n) i d).0 < n
  pairs_below zero i d h = absurd (no_pairs i h)
  pairs_below (suc n) i d h =
      either (ltb i (length (move_pairs old new n)))
      (λ t. rw (front_at n i d (ltb-true i (length (move_pairs old new n)) t)) (omega (arith, pairs_below n i d (ltb-true i (length (move_pairs old new n)) t))))
      (λ f. rw (back_at n i d (omega tests) h).1 (le_refl (suc n)))

  -- each pair comes before those behind it
  pub pairs_ascend : (n i j : ℕ) (d : ℕ × ℕ) → i < j → j < length (move_pairs old new n) → earlier (get_or (move_pairs old new n) i d) (get_or (move_pairs old new n) j d) ≡ true
  unfolding earlier
  pairs_ascend zero i j d h l = absurd (no_pairs j l)
  pairs_ascend (suc n) i j d h l =
      let N = length (move_pairs old new n) in
      either (ltb j N)
      (λ t. rw (front_at n i d (omega tests), front_at n j d (omega tests)) (pairs_ascend n i j d h (omega tests)))
      (λ f. let b = back_at n j d (omega tests) l in
      either (ltb i N)
      (λ t. rw (front_at n i d (omega tests), b.1, lt-ltb _ n (pairs_below n i d (omega tests))))
      (λ g. let a = back_at n i d (omega tests) (omega arith) in
      rw (a.1, b.1, le-ltb n n (le_refl n), eq-eqb n n refl) (lt-ltb _ _ (send_ascends old new n (i - N) (j - N) 0 (omega tests) b.0))))

-- ---- the trees of a move: exactly those from the first to the last of its line

module _ (old new : List ℕ) (T : Tables old new) (p q : ℕ) (l : p < ranks old) (r : q < ranks old) (s : sends_to old new p q ≡ true) where
  some-sent : 0 < sent_count old new p q
  unfolding sends_to sent_count sends
  some-sent =
      let a = any_at (trees old) (sends old new p q) s in
      omega (arith, count_lt a.0 (trees old) (sends old new p q) a.1 a.2)

  -- p sends q a tree exactly where it stands between the two
  pub move_trees : (k : ℕ) → k < trees old → sends old new p q k ≡ (leb (sent_first old new p q) k && leb k (sent_first old new p q + sent_count old new p q - 1))
  move_trees k h =
      let n = some-sent in
      let f = sent_first old new p q in
      let c = sent_count old new p q in
      one_range old new T p q l r k h
      ∙ ap (λ b. leb f k && b) (iff_eq (ltb k (f + c)) (leb k (f + c - 1)) (λ t. le-leb k (f + c - 1) (omega tests)) (λ t. lt-ltb k (f + c) (omega tests)))

-- the moves printed are these
pub moves_printed : PlanMoves
moves_printed old new T =
    record {
      lines = output_listed old new;
      exact = pairs_exact old new (ranks old);
      ascend = pairs_ascend old new (ranks old);
      moved = move_trees old new T;
    }
