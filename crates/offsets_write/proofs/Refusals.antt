-- Ranges are refused exactly where they have no table.
use Prim.Native.Nat.{ℕ}
use native.Mathlib.Omega.{arith}
use mathlib.Core.Path.{◌≡◌, refl}
use mathlib.Core.Bool.{Bool, true, false, cond}
use mathlib.Core.List.{List, []}
use lib.Dec.{leb, eqb}
use lib.ListN.{length}
use borrow.Author.Tests.{eq-eqb}
use Rattle.encoding.specs.Answer.{length_answer, written, write_answer}
use Rattle.encoding.specs.Refusal.{first_failed}
use Rattle.encoding.proofs.Below.{either, and_fst, and_snd, and_intro}
use Rattle.offsets.specs.Limits.{rank_count_ok, tree_count_ok}
use Rattle.offsets.specs.Table.{table_length, trees, entry, valid, entries_within, counts_ok}
use Rattle.offsets_write.specs.Partition.{valid_partition, end_below, ranges_fit, table_of}
use Rattle.offsets_write.specs.Calls.{each, partition_ok, write_refusal, write_table}
use Rattle.offsets_write.specs.Promises.{TableOfLists, NoTable, SixMeans, TableWritten}
use Rattle.offsets_write.proofs.Partitions.{trees_are, table_of_lem, table_unique, table_fits, lists_sized}

-- the number of trees of a valid table is within its limits
tree_count_lem : (t : List ℕ) → valid t ≡ true → tree_count_ok (trees t) ≡ true
unfolding valid
tree_count_lem t v = and_snd (eqb (entry t 0) 0) (tree_count_ok (trees t)) (and_fst _ (entries_within t) (and_fst _ (counts_ok t) v))

module _ (P : ℕ) (first count : List ℕ) (ro : rank_count_ok P ≡ true) where
  -- lists that pass have a table
  passes-has : partition_ok P first count ≡ true → TableOfLists P first count (table_of (each first) (each count) P)
  unfolding partition_ok ranges_fit
  passes-has ok =
      let sized = lists_sized P first count ok in
      let fit = and_snd (eqb (length count) P) _ (and_snd (eqb (length first) P) _ ok) in
      let K : ℕ = end_below (each first) (each count) P in
      record {
        first_many = sized.0;
        count_many = sized.1;
        tree_number = K;
        is_table = table_of_lem (each first) (each count) P K ro (and_fst (tree_count_ok K) _ fit) (and_snd (tree_count_ok K) _ fit);
      }

  module _ (t : List ℕ) (i : TableOfLists P first count t) where
    -- lists that have a table pass
    has-passes : partition_ok P first count ≡ true
    unfolding partition_ok ranges_fit
    has-passes =
        let v : valid_partition (each first) (each count) P i.tree_number ≡ true = table_fits (each first) (each count) P ro i.tree_number t i.is_table in
        let k : tree_count_ok i.tree_number ≡ true = rw i.is_table.trees_are at (tree_count_lem t i.is_table.is_valid) in
        rw (i.first_many, i.count_many, eq-eqb P P refl, ← trees_are (each first) (each count) P i.tree_number v) (and_intro _ _ k v)

    has-written : (out : List ℕ) → write_table P first count out ≡ write_answer (cond (leb (table_length P) (length out)) 0 22) t out
    unfolding write_table write_refusal first_failed
    has-written out = rw (ro, has-passes, ← table_unique (each first) (each count) P ro i.tree_number t i.is_table)

  module _ (out : List ℕ) where
    none-refused : NoTable P first count → write_table P first count out ≡ write_answer 6 [] out
    unfolding write_table write_refusal first_failed write_answer length_answer written
    none-refused n =
        either (partition_ok P first count)
        (λ ok. absurd (n _ (passes-has ok)))
        (λ bad. rw (ro, bad))

    -- 0 or 22, and no 6
    fits-not-six : (b : Bool) (t : List ℕ) → (write_answer (cond b 0 22) t out).0.refusal ≡ 6 → ⊥
    unfolding write_answer length_answer
    fits-not-six true t e = omega arith
    fits-not-six false t e = omega arith

    six-none : (write_table P first count out).0.refusal ≡ 6 → NoTable P first count
    six-none e t i = fits-not-six (leb (table_length P) (length out)) t (rw (has-written t i out) at e)

-- refusal 6 exactly where the lists have other lengths or no table exists
pub six_means : SixMeans
six_means P first count out ro = (six-none P first count ro out, none-refused P first count ro out)

pub table_written : TableWritten
table_written P first count t out ro i = has-written P first count ro t i out
