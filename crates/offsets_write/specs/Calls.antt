-- What each public call answers, refusals included, and what it leaves in the lent buffer.
use Rattle.std.specs.Prelude.{ℕ, Bool, ◌&&◌, List, [], ◌∷◌, leb, eqb, length, get_or}
use Rattle.encoding.specs.Refusal.{check, first_failed}
use Rattle.encoding.specs.Answer.{length_answer, write_answer}
use Rattle.encoding.specs.declared.answer.Length.{Length}
use Rattle.offsets.specs.Limits.{rank_count_ok}
use Rattle.offsets.specs.Table.{table_length}
use Rattle.offsets_write.specs.Partition.{ranges_fit, table_of}

-- how long the table of P ranks is
unfoldable pub table_length_answer : ℕ → Length
table_length_answer P = length_answer (first_failed (check (rank_count_ok P) 2 ∷ [])) (table_length P)

-- an entry for each of the P ranks
abbrev pub each : List ℕ → ℕ → ℕ
each xs p = get_or xs p 0

-- a first tree and a count for each of P ranks, and ranges that fit a table
unfoldable pub partition_ok : ℕ → List ℕ → List ℕ → Bool
partition_ok P first count = eqb (length first) P && (eqb (length count) P && ranges_fit (each first) (each count) P)

-- write the table of a partition
unfoldable pub write_refusal : ℕ → List ℕ → List ℕ → List ℕ → ℕ
write_refusal P first count out =
    first_failed
    (check (rank_count_ok P) 2
    ∷ check (partition_ok P first count) 6
    ∷ check (leb (table_length P) (length out)) 22
    ∷ [])

unfoldable pub write_table : ℕ → List ℕ → List ℕ → List ℕ → Length × List ℕ
write_table P first count out = write_answer (write_refusal P first count out) (table_of (each first) (each count) P) out
