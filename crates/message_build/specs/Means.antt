-- Means, no part of what is promised: what inner functions require, and values that mirror their code.
use Rattle.std.specs.Prelude.{ℕ, zero, suc, ◌+◌, ◌*◌, ◌≤◌, ◌<◌, ◌≡◌, true, List, [], ◌∷◌, ◌++◌, leb, length}
use Rattle.encoding.specs.Answer.{write_answer}
use Rattle.encoding.specs.Below.{count_below}
use Rattle.encoding.specs.Pieces.{piece}
use Rattle.encoding.specs.Refusal.{check, first_failed}
use Rattle.encoding.specs.declared.answer.Length.{Length}
use Rattle.bits.specs.Bits.{in_set}
use Rattle.offsets.specs.Limits.{max_trees}
use Rattle.records.specs.Shape.{faces_in}
use Rattle.records.specs.Record.{core_size, tree_size}
use Rattle.records.specs.Links.{rows_of, with_rows}
use Rattle.part.specs.Layout.{ghost_place, part_size}
use Rattle.part.specs.Part.{part_dimension, part_first, part_count, part_ghost_count, global_number, part_holds, part_core}
use Rattle.part.specs.Means.{Ascending, number_at, rows_with}
use Rattle.message.specs.Build.{part_message}
use Rattle.message.specs.Layout.{message_header, message_size}
use Rattle.message_ghosts.specs.Means.{SendingRange, Marks}

-- what stands in the header of a part, and its length
pub record Opened (part : List ℕ) (count ghosts : ℕ) : Type 0 where
  pub is_count : count ≡ part_count part
  pub is_ghosts : ghosts ≡ part_ghost_count part
  pub long : length part ≡ part_size count ghosts

-- and what is known of a sound part besides: the trees begin with the first, the ghosts ascend
pub record Searchable (part : List ℕ) (count ghosts faces first : ℕ) : Type 0 where
  pub opened : Opened part count ghosts
  pub faced : 0 < faces
  pub is_faces : faces ≡ faces_in (part_dimension part)
  pub is_first : first ≡ part_first part
  pub small : first + count ≤ max_trees
  pub ascending : Ascending part (ghost_place count 0) ghosts

-- ---- records

-- a record of a part, of size bytes, and room for it
pub record RecordRoom (part out : List ℕ) (count ghosts faces size from to : ℕ) : Type 0 where
  pub opened : Opened part count ghosts
  pub faced : 0 < faces
  pub source : from + size ≤ length part
  pub target : to + size ≤ length out

-- the record r with the links of the part's record at byte `from`, as global numbers
unfoldable pub global_links : List ℕ → ℕ → ℕ → List ℕ → List ℕ
global_links part F from r = with_rows (rows_with (global_number part) (rows_of (piece part from core_size) F)) F r

-- ---- trees

-- n records from r low on
unfoldable pub records_from : (ℕ → List ℕ) → ℕ → ℕ → List ℕ
records_from r low zero = []
records_from r low (suc n) = records_from r low n ++ r (low + n)

-- n trees of the part from low on, and room for them
pub record TreesRoom (part out : List ℕ) (count ghosts faces first low n : ℕ) : Type 0 where
  pub known : Searchable part count ghosts faces first
  pub inside : (k : ℕ) → low ≤ k → k < low + n → (first ≤ k) × (k < first + count)
  pub within : low + n ≤ max_trees
  pub room : message_header + tree_size * n ≤ length out

-- ---- ghosts

-- of count core records from byte `at`, the first `from` have smaller numbers
pub record Past (bs : List ℕ) (at count from number : ℕ) : Type 0 where
  pub within : from ≤ count
  pub below : (i : ℕ) → i < from → number_at bs at i < number

-- a record that the part holds, and room for its core
pub record GhostRoom (part out : List ℕ) (count ghosts faces first k to : ℕ) : Type 0 where
  pub known : Searchable part count ghosts faces first
  pub has : part_holds part k ≡ true
  pub target : to + core_size ≤ length out

-- the members of a set are records that the part holds
pub record Members (part marks : List ℕ) : Type 0 where
  pub words : length marks ≤ 16384
  pub has : (k : ℕ) → in_set marks k ≡ true → part_holds part k ≡ true
  pub long : (k : ℕ) → in_set marks k ≡ true → length (part_core part k) ≡ core_size

-- and there is room for their cores
pub record GhostsRoom (part marks out : List ℕ) (count ghosts faces first at : ℕ) : Type 0 where
  pub known : Searchable part count ghosts faces first
  pub members : Members part marks
  pub room : at + core_size * count_below (64 * length marks) (in_set marks) ≤ length out

-- ---- the message

-- n trees of the part from low on, a set of records that it holds, and room for both
pub record RecordsRoom (part marks out : List ℕ) (low n : ℕ) : Type 0 where
  pub known : Searchable part (part_count part) (part_ghost_count part) (faces_in (part_dimension part)) (part_first part)
  pub inside : (k : ℕ) → low ≤ k → k < low + n → (part_first part ≤ k) × (k < part_first part + part_count part)
  pub within : low + n ≤ max_trees
  pub members : Members part marks
  pub room : message_size n (count_below (64 * length marks) (in_set marks)) ≤ length out

-- the ghosts that go with a message of n trees, marked and counted, and its length
pub record Going (part old new : List ℕ) (p q n g : ℕ) (marks : List ℕ) : Type 0 where
  pub marked : Marks part old new p q marks
  pub counted : g ≡ count_below (64 * length marks) (in_set marks)
  pub long : (epoch : ℕ) → message_size n g ≡ length (part_message part old new p q epoch)
  pub small : message_size n g ≤ message_size max_trees max_trees

-- what a message is built from: the range sent, the ghosts that go with it, and room for it
pub record MessageRoom (part old new : List ℕ) (p q low n g epoch : ℕ) (marks out : List ℕ) : Type 0 where
  pub range : SendingRange part old new p q low n
  pub ghosts : Marks part old new p q marks
  pub counted : g ≡ count_below (64 * length marks) (in_set marks)
  pub room : length (part_message part old new p q epoch) ≤ length out

-- the message written, if there is room for it
unfoldable pub built_range : List ℕ → List ℕ → Length × List ℕ
built_range m out = write_answer (first_failed (check (leb (length m) (length out)) 22 ∷ [])) m out
