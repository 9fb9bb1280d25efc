-- What the counts of a list are: counts that the table from leaf counts takes, and of each tree its own.
use Prim.Native.Nat.{ℕ, zero, suc, ◌+◌, ◌≤◌, ◌<◌}
use native.Mathlib.Nat.{zero-add}
use native.Mathlib.Omega.{arith}
use mathlib.Core.Path.{◌≡◌, refl, sym, ap, ◌∙◌}
use mathlib.Core.Bool.{Bool, true, false, cond, ◌&&◌}
use mathlib.Core.List.{List, [], ◌∷◌}
use lib.Dec.{leb, eqb}
use lib.ListN.{length, get_or, take, drop, get_or-append}
use lib.Seq.{get_or_at}
use borrow.Author.Tests.{le-leb, leb-true, eqb-true}
use Rattle.encoding.specs.Answer.{written, count_answer}
use Rattle.encoding.specs.Below.{all_below}
use Rattle.encoding.specs.Pieces.{splice}
use Rattle.encoding.specs.Refusal.{first_failed}
use Rattle.encoding.proofs.Below.{either, below_suc, and_snd, and_intro, all_at, all_intro}
use Rattle.encoding.proofs.Pieces.{splice_take}
use Rattle.leaf_shares.specs.Leaves.{max_leaves, leaves_ok}
use Rattle.offsets.specs.Limits.{tree_count_ok}
use Rattle.refinement.specs.Refinement.{refinable}
use Rattle.refinement.specs.Reading.{string_ok}
use Rattle.refinement.specs.Calls.{tree_leaves, count_refusal, leaves_answer, count_leaves}
use Rattle.refinement.proofs.Totals.{accepted_leaf}
use Rattle.refinement_list.specs.Calls.{list_below, string_start, string_of, trees_ok, shapes_ok, strings_ok, count_of, counts_fit, count_list, counts_refusal, leaf_counts}
use Rattle.refinement_list.specs.Promises.{EachAsAlone}
use Rattle.refinement_list.proofs.Lists.{below_length}

below_at : (n : ℕ) (g : ℕ → ℕ) (k : ℕ) → k < n → get_or (list_below n g) k 0 ≡ g k
unfolding list_below
below_at zero g k h = absurd (omega arith)
below_at (suc n) g k h =
    below_suc k n h (λ l. get_or-append (list_below n g) (g n ∷ []) 0 k (omega (arith, below_length n g)) ∙ below_at n g k l)
    (λ e. get_or_at (list_below n g) (g n) [] 0 k (below_length n g ∙ sym e) ∙ ap g (sym e))

-- the checks that hold where nothing is refused
passed : {C : Type 0} (a b c d e : Bool) → ◌≡◌ {A = ℕ} (cond a (cond b (cond c (cond d (cond e 0 22) 25) 23) 24) 6) 0 → (a ≡ true → b ≡ true → c ≡ true → d ≡ true → C) → C
passed false b c d e h f = absurd (omega arith)
passed true false c d e h f = absurd (omega arith)
passed true true false d e h f = absurd (omega arith)
passed true true true false e h f = absurd (omega arith)
passed true true true true e h f = f refl refl refl refl

room : (a b c d : Bool) (m n : ℕ) → ◌≡◌ {A = ℕ} (cond a (cond b (cond c (cond d (cond (leb m n) 0 22) 25) 23) 24) 6) 0 → m ≤ n
room false b c d m n h = absurd (omega arith)
room true false c d m n h = absurd (omega arith)
room true true false d m n h = absurd (omega arith)
room true true true false m n h = absurd (omega arith)
room true true true true m n h = either (leb m n) (leb-true m n) (λ t. let z : ◌≡◌ {A = ℕ} 22 0 = rw t at h in absurd (omega arith))

table_counts : (shapes lengths bits : List ℕ) → trees_ok shapes lengths ≡ true → strings_ok shapes lengths bits ≡ true → counts_fit shapes lengths bits ≡ true → leaves_ok (count_list shapes lengths bits) ≡ true
unfolding leaves_ok count_list trees_ok strings_ok counts_fit count_of
table_counts shapes lengths bits a c d =
    let l : length (list_below (length shapes) (count_of shapes lengths bits)) ≡ length shapes = below_length (length shapes) (count_of shapes lengths bits) in
    rw l
    (and_intro (tree_count_ok (length shapes))
    (all_below (length shapes) (λ k. leb 1 (get_or (list_below (length shapes) (count_of shapes lengths bits)) k 0) && leb (get_or (list_below (length shapes) (count_of shapes lengths bits)) k 0) max_leaves))
    (and_snd (eqb (length lengths) (length shapes)) (tree_count_ok (length shapes)) a)
    (all_intro (length shapes) (λ k. leb 1 (get_or (list_below (length shapes) (count_of shapes lengths bits)) k 0) && leb (get_or (list_below (length shapes) (count_of shapes lengths bits)) k 0) max_leaves)
    (λ k h.
    let x : get_or (list_below (length shapes) (count_of shapes lengths bits)) k 0 ≡ count_of shapes lengths bits k = below_at (length shapes) (count_of shapes lengths bits) k h in
    let s : string_ok (get_or shapes k 0) (string_of lengths bits k) ≡ true =
    all_at (length shapes) (λ j. string_ok (get_or shapes j 0) (string_of lengths bits j))
    (and_snd (eqb (string_start lengths (length shapes)) (length bits)) (all_below (length shapes) (λ j. string_ok (get_or shapes j 0) (string_of lengths bits j))) c) k h in
    rw x
    (and_intro (leb 1 (count_of shapes lengths bits k)) (leb (count_of shapes lengths bits k) max_leaves) (le-leb 1 (count_of shapes lengths bits k) (accepted_leaf (get_or shapes k 0) (string_of lengths bits k) s))
    (all_at (length shapes) (λ j. leb (count_of shapes lengths bits j) max_leaves) d k h)))))

-- the counts are counts that the table from leaf counts takes
pub counts_taken : (shapes lengths bits out : List ℕ) → counts_refusal shapes lengths bits out ≡ 0 → leaves_ok (count_list shapes lengths bits) ≡ true
unfolding counts_refusal first_failed
counts_taken shapes lengths bits out e =
    passed (trees_ok shapes lengths) (shapes_ok shapes) (strings_ok shapes lengths bits) (counts_fit shapes lengths bits) (leb (length shapes) (length out)) e
    (λ a b c d. table_counts shapes lengths bits a c d)

pub count_length : (shapes lengths bits : List ℕ) → length (count_list shapes lengths bits) ≡ length shapes
unfolding count_list
count_length shapes lengths bits = below_length (length shapes) (count_of shapes lengths bits)

-- where the call accepts
module _ (shapes lengths bits out : List ℕ) (e : (leaf_counts shapes lengths bits out).0.refusal ≡ 0) where
  pub list_passed : counts_refusal shapes lengths bits out ≡ 0
  unfolding leaf_counts count_answer
  list_passed = either (eqb (counts_refusal shapes lengths bits out) 0) (eqb-true (counts_refusal shapes lengths bits out) 0) (λ t. rw t at e)

  list-answer : leaf_counts shapes lengths bits out ≡ (record { refusal = 0; count = length shapes }, splice out 0 (count_list shapes lengths bits))
  unfolding leaf_counts count_answer written
  list-answer = rw list_passed

  list_room : length shapes ≤ length out
  unfolding counts_refusal first_failed
  list_room = room (trees_ok shapes lengths) (shapes_ok shapes) (strings_ok shapes lengths bits) (counts_fit shapes lengths bits) (length shapes) (length out) list_passed

  -- the list begins with a count for each tree
  pub counts_written : take (leaf_counts shapes lengths bits out).0.count (leaf_counts shapes lengths bits out).1 ≡ count_list shapes lengths bits
  counts_written =
      let l : length (count_list shapes lengths bits) ≡ length shapes = count_length shapes lengths bits in
      rw list-answer (rw (zero-add, l) at (splice_take out 0 (count_list shapes lengths bits) (omega (arith, list_room))))

  count_at : (k : ℕ) → k < length shapes → get_or (leaf_counts shapes lengths bits out).1 k 0 ≡ get_or (count_list shapes lengths bits) k 0
  unfolding splice
  count_at k h = rw list-answer (get_or-append (count_list shapes lengths bits) (drop (0 + length (count_list shapes lengths bits)) out) 0 k (omega (arith, count_length shapes lengths bits)))

alone : (shape : ℕ) (s : List ℕ) → refinable shape ≡ true → string_ok shape s ≡ true → leb (tree_leaves shape s) max_leaves ≡ true → ((count_leaves shape s).refusal ≡ 0) × (tree_leaves shape s ≡ (count_leaves shape s).leaves)
unfolding count_leaves count_refusal leaves_answer first_failed tree_leaves
alone shape s a b c = (rw (a, b, c), rw (a, b, c))

each_alone : (shapes lengths bits out : List ℕ) → counts_refusal shapes lengths bits out ≡ 0 → (k : ℕ) → k < length shapes
    → ((count_leaves (get_or shapes k 0) (string_of lengths bits k)).refusal ≡ 0) × (get_or (count_list shapes lengths bits) k 0 ≡ (count_leaves (get_or shapes k 0) (string_of lengths bits k)).leaves)
unfolding counts_refusal first_failed shapes_ok strings_ok counts_fit count_list count_of
each_alone shapes lengths bits out e k h =
    passed (trees_ok shapes lengths) (shapes_ok shapes) (strings_ok shapes lengths bits) (counts_fit shapes lengths bits) (leb (length shapes) (length out)) e
    (λ a b c d.
    let r : ((count_leaves (get_or shapes k 0) (string_of lengths bits k)).refusal ≡ 0) × (tree_leaves (get_or shapes k 0) (string_of lengths bits k) ≡ (count_leaves (get_or shapes k 0) (string_of lengths bits k)).leaves) =
    alone (get_or shapes k 0) (string_of lengths bits k) (all_at (length shapes) (λ j. refinable (get_or shapes j 0)) b k h)
    (all_at (length shapes) (λ j. string_ok (get_or shapes j 0) (string_of lengths bits j))
    (and_snd (eqb (string_start lengths (length shapes)) (length bits)) (all_below (length shapes) (λ j. string_ok (get_or shapes j 0) (string_of lengths bits j))) c) k h)
    (all_at (length shapes) (λ j. leb (count_of shapes lengths bits j) max_leaves) d k h) in
    (r.0, below_at (length shapes) (count_of shapes lengths bits) k h ∙ r.1))

-- in a list each tree has the count that it has by itself
pub each_as_alone : EachAsAlone
each_as_alone shapes lengths bits out e k h =
    let a = each_alone shapes lengths bits out (list_passed shapes lengths bits out e) k h in
    (a.0, count_at shapes lengths bits out e k h ∙ a.1)
