-- Document 02, C-24: what the calls show of tree data. A buffer's length counts as known to all.
use Rattle.std.specs.Prelude.{ℕ, ◌+◌, ◌*◌, ◌≤◌, ◌<◌, ◌≡◌, Bool, true, false, not, ◌&&◌, List, leb, ltb, length, get_or, take}
use Rattle.encoding.specs.Below.{any_below, sum_below}
use Rattle.encoding.specs.Pieces.{piece, Bytes}
use Rattle.offsets.specs.Table.{ranks, holds}
use Rattle.pattern.specs.Sender.{sends}
use Rattle.pattern.specs.Sets.{sends_to}
use Rattle.records.specs.Record.{core_size, tree_size}
use Rattle.mesh.specs.Mesh.{mesh_header, mesh_trees}
use Rattle.part.specs.Layout.{part_header}
use Rattle.part.specs.Part.{part_first, part_count}
use Rattle.part_check.specs.Calls.{part_refusal}
use Rattle.part_fault.specs.Calls.{part_fault_of}
use Rattle.headers.specs.Calls.{part_header_of}
use Rattle.part_neighbour.specs.Calls.{neighbour_answer}
use Rattle.regions.specs.Calls.{region_counts_of}
use Rattle.columns.specs.Calls.{part_to_columns}
use Rattle.message.specs.Build.{part_message}
use Rattle.message.specs.Calls.{message_length_of, build_message_of}
use Rattle.build_all.specs.Calls.{build_all_length_of, build_all_of}
use Rattle.repartition.specs.Run.{Run, Setting}
use Rattle.repartition.specs.Lists.{Call, AllBuilt, opened, answers_of}
use Rattle.repartition.specs.Demand.{size, bytes_after, close_after}

-- ---- bytes that may differ

-- where the tree data begins in a tree record: behind the core
abbrev pub data_place : ℕ
data_place = core_size

-- byte i is tree data of record t of the tree records that begin at byte start
unfoldable pub data_at : ℕ → ℕ → ℕ → Bool
data_at start t i = leb (start + tree_size * t + data_place) i && ltb i (start + tree_size * t + tree_size)

-- byte i is data of one of the n trees from tree first on, their records from byte start on, that passes a test
unfoldable pub data_of : ℕ → ℕ → ℕ → (ℕ → Bool) → ℕ → Bool
data_of start first n test i = any_below n (λ t. test (first + t) && data_at start t i)

-- two buffers of one length that agree on every byte but those at hidden places
pub record SameBut (hidden : ℕ → Bool) (a b : List ℕ) : Type 0 where
  pub same_length : length a ≡ length b
  pub same_bytes : (i : ℕ) → hidden i ≡ false → get_or a i 0 ≡ get_or b i 0

-- two parts, and two whole meshes, that differ only in the data of trees that pass a test
abbrev pub PartsDiffer : (ℕ → Bool) → List ℕ → List ℕ → Type 0
PartsDiffer test a b = SameBut (data_of part_header (part_first a) (part_count a) test) a b

abbrev pub MeshesDiffer : (ℕ → Bool) → List ℕ → List ℕ → Type 0
MeshesDiffer test a b = SameBut (data_of mesh_header 0 (mesh_trees a) test) a b

-- ---- parts

-- p doesn't send tree k to q
unfoldable pub unsent : List ℕ → List ℕ → ℕ → ℕ → ℕ → Bool
unsent old new p q k = not (sends old new p q k)

-- where the message to q begins in what build_all writes: after those to the ranks below q, each as long as message_length answers, 0 where there is none
unfoldable pub place_to : List ℕ → List ℕ → List ℕ → ℕ → ℕ → ℕ
place_to part old new p q = sum_below q (λ r. (message_length_of part old new p r).length)

-- the bytes for q in a buffer that build_all wrote
unfoldable pub piece_to : List ℕ → List ℕ → List ℕ → ℕ → ℕ → List ℕ → List ℕ
piece_to part old new p q out = piece out (place_to part old new p q) (message_length_of part old new p q).length

-- where build_all accepts and p sends q a tree, these are the message to q, which build_message writes
abbrev pub PieceIsMessage : Type 0
PieceIsMessage =
    (part old new : List ℕ) (p q epoch : ℕ) (out : List ℕ) → (build_all_of part old new p epoch out).0.refusal ≡ 0 → q < ranks old → sends_to old new p q ≡ true
    → piece_to part old new p q (build_all_of part old new p epoch out).1 ≡ part_message part old new p q epoch

-- what is the same for two parts that differ in tree data alone, whichever trees' it is: what every call that takes a part, but the probe call, answers, refusal and other fields. (What build_message, build_all and part_to_columns write has tree data in it by intent.)
pub record SameAnswers (a b : List ℕ) : Type 0 where
  pub check_part : (table : List ℕ) (rank : ℕ) → part_refusal a table rank ≡ part_refusal b table rank
  pub part_fault : (table : List ℕ) (rank : ℕ) → part_fault_of a table rank ≡ part_fault_of b table rank
  pub part_header_lem : (table : List ℕ) (rank : ℕ) → part_header_of a table rank ≡ part_header_of b table rank
  pub neighbour_of_lem : (table : List ℕ) (rank i f : ℕ) → neighbour_answer a table rank i f ≡ neighbour_answer b table rank i f
  pub region_counts_lem : (table : List ℕ) (rank : ℕ) (out : List ℕ) → region_counts_of a table rank out ≡ region_counts_of b table rank out
  pub part_to_columns_lem : (table : List ℕ) (rank : ℕ) (out : List ℕ) → (part_to_columns a table rank out).0 ≡ (part_to_columns b table rank out).0
  pub message_length : (old new : List ℕ) (p q : ℕ) → Bytes old → Bytes new → message_length_of a old new p q ≡ message_length_of b old new p q
  pub build_message : (old new : List ℕ) (p q epoch : ℕ) (out : List ℕ) → Bytes old → Bytes new
      → (build_message_of a old new p q epoch out).0 ≡ (build_message_of b old new p q epoch out).0
  pub build_all_length : (old new : List ℕ) (p : ℕ) → Bytes old → Bytes new → build_all_length_of a old new p ≡ build_all_length_of b old new p
  pub build_all : (old new : List ℕ) (p epoch : ℕ) (out : List ℕ) → Bytes old → Bytes new → (build_all_of a old new p epoch out).0 ≡ (build_all_of b old new p epoch out).0

abbrev pub DataUnread : Type 0
DataUnread = (a b : List ℕ) → PartsDiffer (λ k. true) a b → SameAnswers a b

-- what is the same for two parts that differ only in the data of trees that p doesn't send to q
pub record SameForRank (a b old new : List ℕ) (p q : ℕ) : Type 0 where
  -- the message to q with its length, or the refusal and the buffer as it was
  pub build_message : (epoch : ℕ) (out : List ℕ) → build_message_of a old new p q epoch out ≡ build_message_of b old new p q epoch out
  -- the bytes for q in what build_all writes, at the same place
  pub place : place_to a old new p q ≡ place_to b old new p q
  pub piece_for_q : (epoch : ℕ) (out : List ℕ) → piece_to a old new p q (build_all_of a old new p epoch out).1 ≡ piece_to b old new p q (build_all_of b old new p epoch out).1
  -- every length and every refusal, in these and in all other calls
  pub answers : SameAnswers a b

-- whatever the tables, ranks, epoch and buffer. Both may be any bytes: what isn't sound for the old table and p is refused alike
abbrev pub UnsentHidden : Type 0
UnsentHidden = (a b old new : List ℕ) (p q : ℕ) → Bytes old → Bytes new → PartsDiffer (unsent old new p q) a b → SameForRank a b old new p q

-- ---- areas

-- the same run with another mesh
abbrev pub with_mesh : Run → List ℕ → Run
with_mesh run mesh = record { mesh = mesh; old = run.old; new = run.new; rank = run.rank; epoch = run.epoch }

-- tree k is outside the rank's new range
unfoldable pub outside_new : Run → ℕ → Bool
outside_new run k = not (holds run.new run.rank k)

-- what is the same in two runs after a list of calls, each on a buffer of its own: the list's deliveries name senders and receivers, and bring what each sender builds from its part of the run's mesh
pub record SameAfter (run other : Run) (b c : List ℕ) (cs : List Call) : Type 0 where
  -- the answer of the open call
  pub same_open : (opened run b).0 ≡ (opened other c).0
  -- the area, in every byte
  pub same_area : take (size run) (bytes_after run b cs) ≡ take (size run) (bytes_after other c cs)
  -- and the whole buffer, where it began the same
  pub same_buffer : bytes_after run b cs ≡ bytes_after other b cs
  -- every answer on the way, with the buffers of the closes
  pub same_answers : answers_of run (opened run b).1 cs ≡ answers_of other (opened other c).1 cs
  -- the part that closing gives, or its refusal
  pub same_part : (out : List ℕ) → close_after run b cs out ≡ close_after other c cs out

-- Two sound meshes that differ only in the data of trees outside the rank's new range: after every list of calls as in demand 3 all this is the same. Messages to other ranks may differ; they get 13 in both.
abbrev pub OutsideHidden : Type 0
OutsideHidden =
    (run : Run) (mesh : List ℕ) → Setting run → Setting (with_mesh run mesh) → MeshesDiffer (outside_new run) run.mesh mesh
    → (b c : List ℕ) → size run ≤ length b → size run ≤ length c → (cs : List Call) → AllBuilt run cs → SameAfter run (with_mesh run mesh) b c cs
