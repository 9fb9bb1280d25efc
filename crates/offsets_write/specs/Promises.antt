-- When ranges are refused, as sentences over tables: one named proposition each.
use Rattle.std.specs.Prelude.{ℕ, ◌≡◌, true, cond, List, [], leb, length}
use Rattle.encoding.specs.Answer.{write_answer}
use Rattle.offsets.specs.Limits.{rank_count_ok}
use Rattle.offsets.specs.Table.{table_length}
use Rattle.offsets_write.specs.Partition.{IsTable}
use Rattle.offsets_write.specs.Calls.{each, write_table}

-- two lists have an element for each of P ranks, and t is a table of the partition that they give
pub record TableOfLists (P : ℕ) (first count t : List ℕ) : Type 0 where
  pub first_many : length first ≡ P
  pub count_many : length count ≡ P
  pub tree_number : ℕ
  pub is_table : IsTable (each first) (each count) P tree_number t

-- there is none: the lists have other lengths, or no table is one of their partition
abbrev pub NoTable : ℕ → List ℕ → List ℕ → Type 0
NoTable P first count = (t : List ℕ) → TableOfLists P first count t → ⊥

-- for P within its limits, ranges are refused with 6 exactly where there is none
abbrev pub SixMeans : Type 0
SixMeans =
    (P : ℕ) (first count out : List ℕ) → rank_count_ok P ≡ true
    → ((write_table P first count out).0.refusal ≡ 6 → NoTable P first count) × (NoTable P first count → write_table P first count out ≡ write_answer 6 [] out)

-- where there is one, it is what the call writes, if it fits (22)
abbrev pub TableWritten : Type 0
TableWritten =
    (P : ℕ) (first count t out : List ℕ) → rank_count_ok P ≡ true → TableOfLists P first count t
    → write_table P first count out ≡ write_answer (cond (leb (table_length P) (length out)) 0 22) t out
