-- The table of any ascending cuts, and the one that the call for leaf counts writes.
use Prim.Native.Nat.{ℕ, ◌+◌, ◌≤◌, ◌<◌}
use native.Mathlib.Omega.{arith}
use mathlib.Core.Path.{◌≡◌, refl, sym, ◌∙◌}
use mathlib.Core.Bool.{true, false, ◌&&◌, and-false}
use mathlib.Core.List.{List}
use lib.Dec.{leb, ltb}
use lib.ListN.{length}
use borrow.Author.Tests.{eq-eqb, le-leb, le-ltb, lt-leb, ltb-true, ltb-false}
use Rattle.encoding.specs.Answer.{write_answer}
use Rattle.encoding.specs.Refusal.{first_failed}
use Rattle.encoding.proofs.Below.{either, and_fst, any_none}
use Rattle.offsets.specs.Limits.{rank_count_ok, tree_count_ok}
use Rattle.offsets.specs.Table.{table_length, ranks, ranks_ok, trees, end_tree, holds}
use Rattle.offsets.specs.Calls.{table_refusal}
use Rattle.offsets.proofs.Tables.{end_trees}
use Rattle.offsets_write.specs.Partition.{table_of, IsTable}
use Rattle.offsets_write.proofs.Partitions.{table_of_lem, table_holds}
use Rattle.leaf_shares.specs.Leaves.{leaves_ok, leaf_start, leaf_total, leaf_holds, leaf_first, leaf_count, equal_shares, leaf_table}
use Rattle.leaf_shares.proofs.LeafCounts.{start_total, start_mono, Cuts, shares_cuts, leaf_partition, leaf_on_rank}
use Rattle.leaves.specs.Calls.{leaves_refusal, table_from_leaves}
use Rattle.leaves.specs.Promises.{HoldsLeaves, LeafTables}

-- ---- a table of a partition

module _ (first count : ℕ → ℕ) (P K : ℕ) (t : List ℕ) (i : IsTable first count P K t) where
  -- its bytes say how many ranks it has
  pub ranks_counted : ranks t ≡ P
  unfolding ranks
  ranks_counted = rw i.size (omega arith)

  module _ (ro : rank_count_ok P ≡ true) where
    pub ranks_fit_lem : ranks_ok t ≡ true
    unfolding ranks_ok
    ranks_fit_lem = rw (ranks_counted, i.size, eq-eqb (table_length P) (table_length P) refl) ro

    -- the check call accepts it
    table-accepted : table_refusal t ≡ 0
    unfolding table_refusal first_failed
    table-accepted = rw (ranks_fit_lem, i.is_valid)

    -- no rank holds a tree from K on
    past_none : (p k : ℕ) → p < P → K ≤ k → holds t p k ≡ false
    unfolding holds
    past_none p k h l =
        let e : end_tree t p ≤ trees t = end_trees t i.bytes ranks_fit_lem i.is_valid p (rw ranks_counted h) in
        rw (le-ltb k (end_tree t p) (omega (arith, i.trees_are)), and-false)

-- ---- the table of cuts

-- no leaf is in a tree past the last
past_leaf : (ls : List ℕ) (bound : ℕ → ℕ) (p k : ℕ) → length ls ≤ k → leaf_holds ls bound p k ≡ false
unfolding leaf_holds
past_leaf ls bound p k h =
    any_none (leaf_total ls) (λ l. (leb (leaf_start ls k) l && ltb l (leaf_start ls (k + 1))) && (leb (bound p) l && ltb l (bound (p + 1))))
    (λ l b. rw (lt-leb (leaf_start ls k) l (omega (arith, start_mono ls (length ls) k h, start_total ls))))

module _ (ls : List ℕ) (P : ℕ) (bound : ℕ → ℕ) (ro : rank_count_ok P ≡ true) (cuts : Cuts ls P bound) where
  -- it is the table of the partition by leaves
  pub cuts_is : IsTable (leaf_first ls bound) (leaf_count ls bound) P (length ls) (table_of (leaf_first ls bound) (leaf_count ls bound) P)
  unfolding leaves_ok
  cuts_is =
      table_of_lem (leaf_first ls bound) (leaf_count ls bound) P (length ls) ro (and_fst (tree_count_ok (length ls)) _ cuts.ok)
      (leaf_partition ls cuts.ok P bound cuts.from cuts.to cuts.mono)

  cuts-hold : (p k : ℕ) → p < P → holds (table_of (leaf_first ls bound) (leaf_count ls bound) P) p k ≡ leaf_holds ls bound p k
  cuts-hold p k h =
      either (ltb k (length ls))
      (λ e. table_holds (leaf_first ls bound) (leaf_count ls bound) P ro (length ls) (table_of (leaf_first ls bound) (leaf_count ls bound) P) cuts_is p k h
      ∙ leaf_on_rank ls cuts.ok P bound cuts.from cuts.to cuts.mono p k h (ltb-true k (length ls) e))
      (λ e. let l = ltb-false k (length ls) e in
      past_none (leaf_first ls bound) (leaf_count ls bound) P (length ls) (table_of (leaf_first ls bound) (leaf_count ls bound) P) cuts_is ro p k h l ∙ sym (past_leaf ls bound p k l))

  -- the table of any ascending bounds gives each rank the trees with a leaf of it
  pub cuts_table : HoldsLeaves P ls bound (table_of (leaf_first ls bound) (leaf_count ls bound) P)
  cuts_table =
      record {
        bytes = cuts_is.bytes;
        accepted = table-accepted (leaf_first ls bound) (leaf_count ls bound) P (length ls) (table_of (leaf_first ls bound) (leaf_count ls bound) P) cuts_is ro;
        ranks_are = ranks_counted (leaf_first ls bound) (leaf_count ls bound) P (length ls) (table_of (leaf_first ls bound) (leaf_count ls bound) P) cuts_is;
        trees_are = cuts_is.trees_are;
        held = cuts-hold;
      }

-- ---- from leaf counts

leaves_written : (P : ℕ) (ls : List ℕ) → rank_count_ok P ≡ true → leaves_ok ls ≡ true → (out : List ℕ) → table_length P ≤ length out
    → table_from_leaves P ls out ≡ write_answer 0 (leaf_table P ls) out
unfolding table_from_leaves leaves_refusal first_failed
leaves_written P ls ro ok out room = rw (ro, ok, le-leb (table_length P) (length out) room)

leaves_held : (P : ℕ) (ls : List ℕ) → rank_count_ok P ≡ true → leaves_ok ls ≡ true → HoldsLeaves P ls (equal_shares P ls) (leaf_table P ls)
unfolding leaf_table
leaves_held P ls ro ok = cuts_table ls P (equal_shares P ls) ro (shares_cuts P ls ro ok)

pub leaf_tables : LeafTables
leaf_tables P ls ro ok = (leaves_written P ls ro ok, leaves_held P ls ro ok)
