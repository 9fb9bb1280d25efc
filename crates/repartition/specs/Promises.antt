-- Demand 2: it follows the published rule. One named proposition for each sentence, over the values in the calls' contracts.
use Rattle.std.specs.Prelude.{ℕ, ◌+◌, ◌≤◌, ◌<◌, ◌≡◌, Bool, true, false, cond, ◌&&◌, ◌||◌, leb, ltb, length, get_or, drop}
use mathlib.Core.List.{List, [], ◌++◌, flatten}
use Rattle.encoding.specs.Answer.{write_answer}
use Rattle.encoding.specs.Below.{member}
use Rattle.encoding.specs.Pieces.{piece, Bytes}
use Rattle.offsets.specs.Limits.{rank_count_ok, tree_count_ok}
use Rattle.offsets.specs.Table.{table_length, ranks, trees, entry, negative, first_tree, tree_count, holds}
use Rattle.offsets_write.specs.Partition.{valid_partition, IsTable}
use Rattle.offsets_write.specs.Sharing.{shares_with_lower}
use Rattle.offsets.specs.Calls.{table_refusal, table_range}
use Rattle.offsets_write.specs.Calls.{each, write_table}
use Rattle.leaves.specs.Promises.{LeafTables}
use Rattle.pattern.specs.declared.Ranks.{Ranks}
use Rattle.std.specs.Prelude.{Some, None, Ok, Err, Result}
use Rattle.encoding.specs.declared.refusal.Refusal.{Refusal}
use Rattle.encoding.specs.Refusals.{refusal_number}
use Rattle.pattern.specs.Sender.{Tables, sender_to, sender_number, sends, sent_first, sent_count}
use Rattle.pattern.specs.Sets.{sends_to, send_set, receive_set, smallest, largest, Ends}
use Rattle.pattern.specs.Calls.{sender_of, trees_sent, send_set_of, receive_set_of}
use Rattle.offsets_write.specs.Promises.{SixMeans, TableWritten}
use Rattle.plan_write.specs.Promises.{PlanMoves}
use Rattle.plan_text.specs.Promises.{PlanTexts}
use Rattle.records.specs.Record.{tree_size, number_of, shape_of}
use Rattle.mesh.specs.Mesh.{mesh_dimension, mesh_trees, mesh_core, mesh_record, mesh_refusal}
use Rattle.part.specs.Ghosts.{is_ghost}
use Rattle.part.specs.Cut.{cut_part}
use Rattle.part.specs.Part.{part_holds, part_core}
use Rattle.part_neighbour.specs.Neighbour.{link_kind, link_across, mesh_link, flat_answer}
use Rattle.part_cut.specs.Calls.{cut_part_of}
use Rattle.part_check.specs.Calls.{part_refusal}
use Rattle.part_neighbour.specs.Calls.{neighbour_answer}
use Rattle.message.specs.Layout.{message_header, message_tree_place, message_epoch, message_dimension, message_k, message_p, message_sender, message_receiver, message_trees, message_ghosts, message_tree, message_ghost, in_layout}
use Rattle.message.specs.Rule.{sends_ghost}
use Rattle.message.specs.Build.{part_record, part_message}
use Rattle.message.specs.Calls.{build_message_of}
use Rattle.message.specs.Reading.{record_count}
use Rattle.message_reader.specs.Handing.{begin_of, begun_seen, next_of, handed, remains, reader_after, tree_records, ghost_records, down}
use Rattle.message_reader.specs.declared.Begun.{Begun}
use Rattle.message_reader.specs.declared.Reader.{Reader}
use Rattle.repartition.specs.Run.{Run, Setting}
use Rattle.repartition.specs.Lists.{tree_in, ghost_with, Built, message_of}

-- ---- a valid partition becomes its one offset table and back

-- t is the one table of a partition; the write call writes it, and reading t gives the partition
pub record BecomesTable (P K : ℕ) (first count t : List ℕ) : Type 0 where
  pub is_table : IsTable (each first) (each count) P K t
  pub no_other : (u : List ℕ) → IsTable (each first) (each count) P K u → u ≡ t
  pub writes : (out : List ℕ) → table_length P ≤ length out → write_table P first count out ≡ write_answer 0 t out
  pub reads_count : (p : ℕ) → p < P → (table_range t p).count ≡ each count p
  pub reads_first : (p : ℕ) → p < P → 0 < each count p → (table_range t p).first ≡ each first p

-- each valid partition of K trees on P ranks, given by a first tree and a count per rank, becomes its one table
abbrev pub OneTable : Type 0
OneTable =
    (P K : ℕ) (first count : List ℕ) → rank_count_ok P ≡ true → tree_count_ok K ≡ true → length first ≡ P → length count ≡ P
    → valid_partition (each first) (each count) P K ≡ true → (t : List ℕ) × BecomesTable P K first count t

-- only a valid partition has a table
abbrev pub OnlyValid : Type 0
OnlyValid =
    (P K : ℕ) (first count : ℕ → ℕ) → rank_count_ok P ≡ true → (t : List ℕ) → IsTable first count P K t → valid_partition first count P K ≡ true

-- and back: where the check call accepts a table, writing the ranges that are read from it gives its bytes
abbrev pub TableAgain : Type 0
TableAgain =
    (t : List ℕ) → Bytes t → table_refusal t ≡ 0 → (first count : List ℕ) → length first ≡ ranks t → length count ≡ ranks t
    → ((p : ℕ) → p < ranks t → (each first p ≡ (table_range t p).first) × (each count p ≡ (table_range t p).count))
    → (out : List ℕ) → length t ≤ length out → write_table (ranks t) first count out ≡ write_answer 0 t out

-- the first of a rank with count 0 isn't read: for two lists of firsts that agree wherever the count is above 0, the call answers and writes the same, refusals included
abbrev pub FirstUnread : Type 0
FirstUnread =
    (P : ℕ) (first other count out : List ℕ) → length first ≡ length other → ((p : ℕ) → p < P → 0 < each count p → each first p ≡ each other p)
    → write_table P first count out ≡ write_table P other count out

-- a negative entry means that the first tree is shared with the nearest lower non-empty rank
abbrev pub SharedFirst : Type 0
SharedFirst = (t : List ℕ) → Bytes t → table_refusal t ≡ 0 → (p : ℕ) → p < ranks t → negative (entry t p) ≡ shares_with_lower t p

-- ---- who sends

-- q is in the send set of p exactly when p is in the receive set of q
abbrev pub Symmetric : Type 0
Symmetric =
    (old new : List ℕ) → Tables old new → (p q : ℕ) → p < ranks old → q < ranks old → member q (send_set old new p) ≡ member p (receive_set old new q)

-- each tree of f'(q) has exactly one sender, an old holder of it
abbrev pub OneSender : Type 0
OneSender =
    (old new : List ℕ) → Tables old new → (q k : ℕ) → q < ranks old → holds new q k ≡ true
    → (p : ℕ) × (p < ranks old) × (sends old new p q k ≡ true) × (holds old p k ≡ true) × ((r : ℕ) → sends old new r q k ≡ true → r ≡ p)

-- tree k is in the range from p to q that the call trees_sent gives
abbrev pub in_sent_range : List ℕ → List ℕ → ℕ → ℕ → ℕ → Bool
in_sent_range old new p q k = leb (sent_first old new p q) k && ltb k (sent_first old new p q + sent_count old new p q)

-- the trees from p to q form that one range
abbrev pub OneRange : Type 0
OneRange =
    (old new : List ℕ) → Tables old new → (p q : ℕ) → p < ranks old → q < ranks old → (k : ℕ) → k < trees old
    → sends old new p q k ≡ in_sent_range old new p q k

-- the ranges that q receives are disjoint and cover f'(q)
pub record RangesReceived (old new : List ℕ) (q : ℕ) : Type 0 where
  pub disjoint : (p r k : ℕ) → p < ranks old → r < ranks old → in_sent_range old new p q k ≡ true → in_sent_range old new r q k ≡ true → p ≡ r
  pub covers : (k : ℕ) → holds new q k ≡ true → (p : ℕ) × (member p (receive_set old new q) ≡ true) × (in_sent_range old new p q k ≡ true)
  pub no_more : (p k : ℕ) → p < ranks old → in_sent_range old new p q k ≡ true → holds new q k ≡ true

abbrev pub Received : Type 0
Received = (old new : List ℕ) → Tables old new → (q : ℕ) → q < ranks old → RangesReceived old new q

-- the send set and the receive set ascend
abbrev pub Ascends : List ℕ → Type 0
Ascends set = (i j : ℕ) → i < j → j < length set → get_or set i 0 < get_or set j 0

abbrev pub SetsAscend : Type 0
SetsAscend = (old new : List ℕ) (rank : ℕ) → Ascends (send_set old new rank) × Ascends (receive_set old new rank)

-- smallest and largest are a set's least and greatest, −1 and −2 for an empty one
abbrev pub SetsEnd : Type 0
SetsEnd = (old new : List ℕ) (rank : ℕ) → Ends (send_set old new rank) × Ends (receive_set old new rank)

-- what a call answers that lists a set: how many are in it, the smallest and the largest, and the list, which begins with the set
abbrev pub listed : List ℕ → List ℕ → Ranks × List ℕ
listed set out = (record { refusal = 0; count = length set; smallest = smallest set; largest = largest set }, set ++ drop (length set) out)

-- for a rank below P and a list that is long enough, the two calls accept and answer the send set and the receive set
abbrev pub SetsAnswered : Type 0
SetsAnswered =
    (old new : List ℕ) → Tables old new → (rank : ℕ) → rank < ranks old → (out : List ℕ)
    → (length (send_set old new rank) ≤ length out → send_set_of old new rank out ≡ listed (send_set old new rank) out)
    × (length (receive_set old new rank) ≤ length out → receive_set_of old new rank out ≡ listed (receive_set old new rank) out)

-- for two ranks below P, trees_sent accepts and answers the first of the trees from p to q and how many there are
abbrev pub RangesAnswered : Type 0
RangesAnswered =
    (old new : List ℕ) → Tables old new → (p q : ℕ) → p < ranks old → q < ranks old
    → trees_sent old new p q ≡ record { refusal = 0; first = sent_first old new p q; count = sent_count old new p q }

-- what the call answers for tree k and rank q: it accepts, with the sender's number;
-- that is p exactly where p sends k to q, and −1 exactly where k isn't in f'(q)
pub record SenderAnswered (old new : List ℕ) (k q : ℕ) : Type 0 where
  pub answer : sender_of old new k q ≡ record { refusal = 0; sender = sender_number (sender_to old new k q) }
  pub if_sends : (p : ℕ) → sends old new p q k ≡ true → (sender_of old new k q).sender ≡ sender_number (Some p)
  pub only_sends : (p : ℕ) → (sender_of old new k q).sender ≡ sender_number (Some p) → sends old new p q k ≡ true
  pub if_outside : holds new q k ≡ false → (sender_of old new k q).sender ≡ sender_number None
  pub only_outside : (sender_of old new k q).sender ≡ sender_number None → holds new q k ≡ false

-- for a tree below K and a rank below P
abbrev pub SendersAnswered : Type 0
SendersAnswered = (old new : List ℕ) → Tables old new → (k q : ℕ) → k < trees old → q < ranks old → SenderAnswered old new k q

-- ---- parts

-- part is what a rank of a table holds of a mesh
pub record PartOf (mesh table : List ℕ) (rank : ℕ) (part : List ℕ) : Type 0 where
  -- the cut call writes it, and the check call accepts it
  pub writes : (out : List ℕ) → length part ≤ length out → cut_part_of mesh table rank out ≡ write_answer 0 part out
  pub sound : part_refusal part table rank ≡ 0
  -- it holds the trees of f(p) and its ghosts, and no other
  pub held : (k : ℕ) → k < mesh_trees mesh → part_holds part k ≡ (holds table rank k || is_ghost (mesh_core mesh) table rank k)
  pub held_below_lem : (k : ℕ) → part_holds part k ≡ true → k < mesh_trees mesh
  -- each with the mesh's core, and each tree with the mesh's data
  pub cores : (k : ℕ) → part_holds part k ≡ true → part_core part k ≡ mesh_core mesh k
  pub records : (k : ℕ) → holds table rank k ≡ true → part_record part k ≡ mesh_record mesh k
  -- for a local index and a face, the neighbour call answers with the mesh's link
  pub links : (i f : ℕ) → i < tree_count table rank → f < 6
      → neighbour_answer part table rank i f ≡ record { refusal = 0; shape = shape_of (mesh_core mesh (first_tree table rank + i)); link = mesh_link mesh table rank i f }
  -- as numbers: the number of the link's case, and its values
  pub link_numbers : (i f : ℕ) → i < tree_count table rank → f < 6
      → flat_answer (neighbour_answer part table rank i f)
      ≡ record {
        refusal = 0;
        shape = shape_of (mesh_core mesh (first_tree table rank + i));
        kind = link_kind (mesh_link mesh table rank i f);
        index = (link_across (mesh_link mesh table rank i f)).index.0;
        face = (link_across (mesh_link mesh table rank i f)).face;
        orientation = (link_across (mesh_link mesh table rank i f)).orientation;
      }

abbrev pub CutParts : Type 0
CutParts =
    (mesh table : List ℕ) (rank : ℕ) → Bytes mesh → Bytes table → table_refusal table ≡ 0 → rank < ranks table → mesh_refusal mesh ≡ 0
    → mesh_trees mesh ≡ trees table → PartOf mesh table rank (cut_part mesh table rank)

-- ---- the trees and ghosts in each message are those that the rule names

-- m is the message that the rule names for p and q
pub record FollowsRule (run : Run) (p q : ℕ) (m : List ℕ) : Type 0 where
  pub in_layout_lem : in_layout m ≡ true
  pub epoch_is : message_epoch m ≡ run.epoch
  pub dimension_is : message_dimension m ≡ mesh_dimension run.mesh
  pub trees_all : message_k m ≡ trees run.old
  pub ranks_all : message_p m ≡ ranks run.old
  pub sender_is : message_sender m ≡ p
  pub receiver_is : message_receiver m ≡ q
  -- the trees are those that p sends q, the ghosts those that it sends by the rule
  pub trees_in : (k : ℕ) → tree_in k m ≡ sends run.old run.new p q k
  pub ghosts_in : (k : ℕ) → ghost_with k m ≡ (ltb k (mesh_trees run.mesh) && sends_ghost (mesh_core run.mesh) run.old run.new p q k)
  -- trees with their data, ghosts without
  pub tree_records_lem : (i : ℕ) → i < message_trees m → piece m (message_tree_place i) tree_size ≡ mesh_record run.mesh (number_of (message_tree m i))
  pub ghost_records_lem : (j : ℕ) → j < message_ghosts m → message_ghost m j ≡ mesh_core run.mesh (number_of (message_ghost m j))

-- what p builds for q from its part of a sound mesh: 9 exactly where p sends q no tree, 22 where the buffer is too short, else the message that the rule names
abbrev pub Messages : Type 0
Messages =
    (run : Run) → Setting run → (p q : ℕ) → p < ranks run.old → q < ranks run.old
    → ((out : List ℕ) → build_message_of (cut_part run.mesh run.old p) run.old run.new p q run.epoch out
    ≡ write_answer (cond (sends_to run.old run.new p q) (cond (leb (length (message_of run p q)) (length out)) 0 22) 9) (message_of run p q) out)
    × (sends_to run.old run.new p q ≡ true → FollowsRule run p q (message_of run p q))

-- what p builds from any part that the check call accepts is in layout
abbrev pub BuiltInLayout : Type 0
BuiltInLayout =
    (part old new : List ℕ) (p q epoch : ℕ) → Tables old new → p < ranks old → q < ranks old → part_refusal part old p ≡ 0
    → in_layout (part_message part old new p q epoch) ≡ true

-- reading a message in layout to its end, by the next call on the reader that each one before it left
pub record ReadToEnd (m : List ℕ) (b : Begun) : Type 0 where
  -- hands out its records in order, trees with their data before ghosts
  pub records : handed (record_count m) b.reader ≡ tree_records m ++ ghost_records m
  -- which are every byte behind the header, once
  pub bytes : flatten (handed (record_count m) b.reader) ≡ drop message_header m
  -- what remains falls by one each time, to none
  pub remain : remains (record_count m) b.reader ≡ down (record_count m)
  -- and behind the last come an empty piece and 0, however often it is asked
  pub end : next_of (reader_after (record_count m) b.reader) ≡ ([], (0, reader_after (record_count m) b.reader))

-- what the begin call gives: in layout how many records there are and a reader over them; out of layout 11 and no reader; and a reader over no byte hands out nothing
abbrev pub ReadsMessages : Type 0
ReadsMessages =
    ((m : List ℕ) (r : Result Begun Refusal) → begun_seen r ≡ begin_of m
    → (in_layout m ≡ true → (b : Begun) × (r ≡ Ok b) × (b.records ≡ message_trees m + message_ghosts m) × ReadToEnd m b)
    × (in_layout m ≡ false → (e : Refusal) × (r ≡ Err e) × (refusal_number e ≡ 11)))
    × ((r : Reader) → r.message.now ≡ [] → r.at ≡ 0 → next_of r ≡ ([], (0, r)))

-- each tree of f'(q), and each ghost of q under f', is in exactly one message to q
abbrev pub TreeOneMessage : Type 0
TreeOneMessage =
    (run : Run) → Setting run → (q k : ℕ) → q < ranks run.old → holds run.new q k ≡ true
    → (p : ℕ) × Built run p q × (tree_in k (message_of run p q) ≡ true) × ((r : ℕ) → Built run r q → tree_in k (message_of run r q) ≡ true → r ≡ p)

abbrev pub GhostOneMessage : Type 0
GhostOneMessage =
    (run : Run) → Setting run → (q k : ℕ) → q < ranks run.old → k < mesh_trees run.mesh → is_ghost (mesh_core run.mesh) run.new q k ≡ true
    → (p : ℕ) × Built run p q × (ghost_with k (message_of run p q) ≡ true) × ((r : ℕ) → Built run r q → ghost_with k (message_of run r q) ≡ true → r ≡ p)

-- demand 2 in one piece
pub record Demand2 : Type 0 where
  pub one_table : OneTable
  pub only_valid : OnlyValid
  pub table_again : TableAgain
  pub first_unread : FirstUnread
  -- refusal 6 of ranges exactly where there is no table, and the table where there is one
  pub six_means : SixMeans
  pub table_written : TableWritten
  pub shared_first : SharedFirst
  -- from leaf counts: each rank holds the trees of its leaves
  pub leaf_tables : LeafTables
  pub symmetric : Symmetric
  pub one_sender : OneSender
  pub one_range : OneRange
  pub received : Received
  pub sets_ascend : SetsAscend
  pub sets_end : SetsEnd
  pub sets_answered : SetsAnswered
  pub ranges_answered : RangesAnswered
  pub senders_answered : SendersAnswered
  -- the program: what it answers to every text, and which moves it prints
  pub plan_texts : PlanTexts
  pub plan_moves : PlanMoves
  pub cut_parts : CutParts
  pub messages : Messages
  pub built_in_layout : BuiltInLayout
  pub reads_messages : ReadsMessages
  pub tree_one_message : TreeOneMessage
  pub ghost_one_message : GhostOneMessage
