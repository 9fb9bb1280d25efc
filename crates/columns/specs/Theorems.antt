-- What document 02 promises of column files, over what the two calls answer and write.
use Rattle.std.specs.Prelude.{ℕ, ◌≤◌, ◌≡◌, List, length, take}
use Rattle.encoding.specs.Answer.{write_answer}
use Rattle.encoding.specs.Refusal.{first_failed}
use Rattle.encoding.specs.declared.answer.Length.{Length}
use Rattle.part.specs.Checks.{rank_checks}
use Rattle.part_check.specs.Calls.{part_refusal}
use Rattle.columns.specs.Calls.{part_to_columns, columns_to_part}

-- what a call wrote: as many bytes of its buffer as it says
abbrev pub wrote : Length × List ℕ → List ℕ
wrote answer = take answer.0.length answer.1

-- a sound part: through buffers long enough it becomes a file as long, and of that file the inverse gives back its bytes
pub record BackFrom (part table : List ℕ) (rank : ℕ) (out other : List ℕ) : Type 0 where
  pub there : (part_to_columns part table rank out).0 ≡ record { refusal = 0; length = length part }
  pub back : columns_to_part (wrote (part_to_columns part table rank out)) table rank other ≡ write_answer 0 part other

abbrev pub PartsComeBack : Type 0
PartsComeBack =
    (part table : List ℕ) (rank : ℕ) → part_refusal part table rank ≡ 0 → (out other : List ℕ) → length part ≤ length out → length part ≤ length other
    → BackFrom part table rank out other

-- a column file that is accepted: it becomes a part as long, which is sound, and of that part the forward step gives back the file
pub record ForthFrom (file table : List ℕ) (rank : ℕ) (out other : List ℕ) : Type 0 where
  pub there : (columns_to_part file table rank out).0 ≡ record { refusal = 0; length = length file }
  pub sound : part_refusal (wrote (columns_to_part file table rank out)) table rank ≡ 0
  pub forth : part_to_columns (wrote (columns_to_part file table rank out)) table rank other ≡ write_answer 0 file other

abbrev pub FilesComeBack : Type 0
FilesComeBack =
    (file table : List ℕ) (rank : ℕ) (out : List ℕ) → (columns_to_part file table rank out).0.refusal ≡ 0 → (other : List ℕ) → length file ≤ length other
    → ForthFrom file table rank out other

-- two parts that are accepted, of any tables and ranks, into any buffers: the files written are equal exactly when the parts are
pub record EqualBoth (a b : List ℕ) (of_a of_b : Length × List ℕ) : Type 0 where
  pub parts : wrote of_a ≡ wrote of_b → a ≡ b
  pub files : a ≡ b → wrote of_a ≡ wrote of_b

abbrev pub EqualFiles : Type 0
EqualFiles =
    (a b s t : List ℕ) (p q : ℕ) (out other : List ℕ) → (part_to_columns a s p out).0.refusal ≡ 0 → (part_to_columns b t q other).0.refusal ≡ 0
    → EqualBoth a b (part_to_columns a s p out) (part_to_columns b t q other)

-- the file is that of a sound part: what the forward step writes of it into any buffer long enough
abbrev pub FileOfSound : List ℕ → List ℕ → ℕ → Type 0
FileOfSound file table rank =
    (part : List ℕ) × (part_refusal part table rank ≡ 0) × ((room : List ℕ) → length part ≤ length room → wrote (part_to_columns part table rank room) ≡ file)

-- 33 exactly where it isn't, for a valid table and a rank of it, whatever the buffer
pub record RefusedWhere (file table : List ℕ) (rank : ℕ) (out : List ℕ) : Type 0 where
  pub no_file : (columns_to_part file table rank out).0.refusal ≡ 33 → FileOfSound file table rank → ⊥
  pub a_file : ((columns_to_part file table rank out).0.refusal ≡ 33 → ⊥) → FileOfSound file table rank

abbrev pub AcceptedExactly : Type 0
AcceptedExactly = (file table : List ℕ) (rank : ℕ) (out : List ℕ) → first_failed (rank_checks table rank) ≡ 0 → RefusedWhere file table rank out
