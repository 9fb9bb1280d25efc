-- Of demand 1: what a refused call leaves and answers, what three refusals mean, and that a close writes none but sound parts.
use Rattle.std.specs.Prelude.{ℕ, ◌<◌, ◌≡◌, true, false, List, [], get_or, take, pos}
use Rattle.encoding.specs.declared.answer.Length.{Length}
use Rattle.offsets.specs.declared.Range.{Range}
use Rattle.offsets.specs.Calls.{table_range}
use Rattle.offsets_write.specs.Calls.{table_length_answer, write_table}
use Rattle.leaves.specs.Calls.{table_from_leaves, table_from_weights, table_from_blocks}
use Rattle.plan_text.specs.Plan.{plan_answer, plan_output_answer}
use Rattle.refinement.specs.Calls.{count_leaves}
use Rattle.refinement_list.specs.Calls.{leaf_counts}
use Rattle.ele_mesh.specs.Calls.{triangle_length, import_triangle}
use Rattle.regions.specs.Calls.{region_counts_of}
use Rattle.probes.specs.declared.Probe.{Probe}
use Rattle.probes.specs.Calls.{trees_near}
use Rattle.columns.specs.Calls.{part_to_columns, columns_to_part}
use Rattle.restart.specs.Calls.{pad_table, empty_part_of, relabel_part}
use Rattle.brick.specs.Calls.{brick_length_of, write_brick_of}
use Rattle.faults.specs.declared.answer.Fault.{Fault}
use Rattle.faults.specs.Calls.{mesh_fault_of}
use Rattle.table_fault.specs.Calls.{table_fault_of}
use Rattle.part_fault.specs.Calls.{part_fault_of}
use Rattle.headers.specs.declared.answer.WrongField.{WrongField}
use Rattle.headers.specs.Calls.{part_header_of, mesh_header_of}
use Rattle.pattern.specs.declared.Ranks.{Ranks}
use Rattle.pattern.specs.Sets.{sends_to}
use Rattle.build_all.specs.Calls.{build_all_length_of, build_all_of}
use Rattle.deliver_all.specs.Messages.{messages_in, area_after_each}
use Rattle.deliver_all.specs.Calls.{deliver_all_of}
use Rattle.pattern.specs.Calls.{sender_of, trees_sent, send_set_of, receive_set_of}
use Rattle.part.specs.Part.{part_sound}
use Rattle.part_cut.specs.Calls.{part_length_of, cut_part_of}
use Rattle.part_neighbour.specs.declared.link.NeighbourAnswer.{NeighbourAnswer}
use Rattle.part_neighbour.specs.Neighbour.{flat_answer}
use Rattle.part_neighbour.specs.Calls.{neighbour_answer}
use Rattle.message.specs.Layout.{message_sender}
use Rattle.message.specs.Calls.{reading_of, message_length_of, build_message_of}
use Rattle.message_reader.specs.Handing.{begin_of}
use Rattle.area.specs.Area.{area_rank, area_new, heard}
use Rattle.area_open.specs.Calls.{area_length_of, open_area_of, progress_of}
use Rattle.area.specs.Deliver.{deliver_of}
use Rattle.area.specs.Close.{all_heard, joined_part, close_length_of, close_of}

-- what is refused leaves the lent buffer as it was, and the other field is 0
abbrev pub Unchanged : Length × List ℕ → List ℕ → Type 0
Unchanged answer out = (answer.0.refusal ≡ 0 → ⊥) → (answer.0.length ≡ 0) × (answer.1 ≡ out)

-- the same of a call for a set
abbrev pub SetUnchanged : Ranks × List ℕ → List ℕ → Type 0
SetUnchanged answer out = (answer.0.refusal ≡ 0 → ⊥) → (answer.0.count ≡ 0) × (answer.0.smallest ≡ pos 0) × (answer.0.largest ≡ pos 0) × (answer.1 ≡ out)

-- the calls that write
pub record RefusedUnchanged : Type 0 where
  pub write_table_lem : (P : ℕ) (first count out : List ℕ) → Unchanged (write_table P first count out) out
  pub table_from_leaves_lem : (P : ℕ) (ls out : List ℕ) → Unchanged (table_from_leaves P ls out) out
  pub table_from_weights_lem : (ws ls out : List ℕ) → Unchanged (table_from_weights ws ls out) out
  pub table_from_blocks_lem : (P : ℕ) (ls sums out : List ℕ) → Unchanged (table_from_blocks P ls sums out) out
  pub plan : (text out : List ℕ) → Unchanged (plan_answer text out) out
  pub plan_output : (text out : List ℕ) → Unchanged (plan_output_answer text out) out
  pub write_brick : (a b c p q r : ℕ) (out : List ℕ) → Unchanged (write_brick_of a b c p q r out) out
  pub cut_part : (mesh table : List ℕ) (rank : ℕ) (out : List ℕ) → Unchanged (cut_part_of mesh table rank out) out
  pub build_message : (part old new : List ℕ) (p q epoch : ℕ) (out : List ℕ) → Unchanged (build_message_of part old new p q epoch out) out
  pub open_area : (old new : List ℕ) (rank dimension epoch : ℕ) (out : List ℕ) → Unchanged (open_area_of old new rank dimension epoch out) out
  pub close_area : (area out : List ℕ) → Unchanged (close_of area out) out
  pub deliver : (area m : List ℕ) → ((deliver_of area m).0 ≡ 0 → ⊥) → (deliver_of area m).1 ≡ area
  pub build_all : (part old new : List ℕ) (p epoch : ℕ) (out : List ℕ) → ((build_all_of part old new p epoch out).0.refusal ≡ 0 → ⊥)
      → ((build_all_of part old new p epoch out).0.count ≡ 0) × ((build_all_of part old new p epoch out).0.length ≡ 0) × ((build_all_of part old new p epoch out).1 ≡ out)
  pub deliver_all : (area bs answers : List ℕ) → ((deliver_all_of area bs answers).0.refusal ≡ 0 → ⊥)
      → ((deliver_all_of area bs answers).0.count ≡ 0) × ((deliver_all_of area bs answers).1.0 ≡ area) × ((deliver_all_of area bs answers).1.1 ≡ answers)
  pub send_set : (old new : List ℕ) (p : ℕ) (out : List ℕ) → SetUnchanged (send_set_of old new p out) out
  pub receive_set : (old new : List ℕ) (q : ℕ) (out : List ℕ) → SetUnchanged (receive_set_of old new q out) out
  pub leaf_counts_lem : (shapes lengths bits out : List ℕ) → ((leaf_counts shapes lengths bits out).0.refusal ≡ 0 → ⊥) → ((leaf_counts shapes lengths bits out).0.count ≡ 0) × ((leaf_counts shapes lengths bits out).1 ≡ out)
  pub import_triangle_lem : (text out : List ℕ) → Unchanged (import_triangle text out) out
  pub region_counts_lem : (part table : List ℕ) (rank : ℕ) (out : List ℕ) → ((region_counts_of part table rank out).0 ≡ 0 → ⊥) → (region_counts_of part table rank out).1 ≡ out
  pub trees_near_lem : (part table : List ℕ) (rank : ℕ) (probe : Probe) (out : List ℕ) → ((trees_near part table rank probe out).0.refusal ≡ 0 → ⊥) → ((trees_near part table rank probe out).0.count ≡ 0) × ((trees_near part table rank probe out).1 ≡ out)
  pub part_to_columns_lem : (part table : List ℕ) (rank : ℕ) (out : List ℕ) → Unchanged (part_to_columns part table rank out) out
  pub columns_to_part_lem : (file table : List ℕ) (rank : ℕ) (out : List ℕ) → Unchanged (columns_to_part file table rank out) out
  pub pad_table_lem : (table : List ℕ) (n : ℕ) (out : List ℕ) → Unchanged (pad_table table n out) out
  pub empty_part : (table : List ℕ) (rank dimension : ℕ) (out : List ℕ) → Unchanged (empty_part_of table rank dimension out) out
  pub relabel_part_lem : (part table : List ℕ) (rank : ℕ) (other : List ℕ) (q : ℕ) (out : List ℕ) → Unchanged (relabel_part part table rank other q out) out

-- what is refused has zeros in its other fields: a length, a range, a fault, a wrong field of a header, what stands across a face
abbrev pub LengthZero : Length → Type 0
LengthZero a = (a.refusal ≡ 0 → ⊥) → a.length ≡ 0

abbrev pub RangeZero : Range → Type 0
RangeZero a = (a.refusal ≡ 0 → ⊥) → (a.first ≡ 0) × (a.count ≡ 0)

abbrev pub FaultZero : Fault → Type 0
FaultZero a = (a.refusal ≡ 0 → ⊥) → (a.fault ≡ 0) × (a.kind ≡ 0) × (a.at ≡ 0) × (a.face ≡ 0)

abbrev pub WrongFieldZero : WrongField → Type 0
WrongFieldZero a = (a.refusal ≡ 0 → ⊥) → (a.field ≡ 0) × (a.due ≡ 0) × (a.found ≡ 0)

abbrev pub NeighbourZero : NeighbourAnswer → Type 0
NeighbourZero a = (a.refusal ≡ 0 → ⊥) → (a.shape ≡ 0) × (a.kind ≡ 0) × (a.index ≡ 0) × (a.face ≡ 0) × (a.orientation ≡ 0)

-- the calls that write nothing and answer more than a refusal
pub record RefusedZero : Type 0 where
  pub table_range_lem : (table : List ℕ) (p : ℕ) → RangeZero (table_range table p)
  pub table_length_lem : (P : ℕ) → LengthZero (table_length_answer P)
  pub sender_of_lem : (old new : List ℕ) (k q : ℕ) → ((sender_of old new k q).refusal ≡ 0 → ⊥) → (sender_of old new k q).sender ≡ pos 0
  pub trees_sent_lem : (old new : List ℕ) (p q : ℕ) → RangeZero (trees_sent old new p q)
  pub brick_length : (a b c : ℕ) → LengthZero (brick_length_of a b c)
  pub part_length : (mesh table : List ℕ) (rank : ℕ) → LengthZero (part_length_of mesh table rank)
  pub table_fault : (table : List ℕ) → FaultZero (table_fault_of table)
  -- this call refuses nothing
  pub mesh_fault : (mesh : List ℕ) → (mesh_fault_of mesh).refusal ≡ 0
  pub part_fault : (part table : List ℕ) (rank : ℕ) → FaultZero (part_fault_of part table rank)
  pub part_header_lem : (part table : List ℕ) (rank : ℕ) → WrongFieldZero (part_header_of part table rank)
  -- nor does this one
  pub mesh_header : (mesh : List ℕ) → (mesh_header_of mesh).refusal ≡ 0
  pub neighbour_of_lem : (part table : List ℕ) (rank i f : ℕ) → NeighbourZero (flat_answer (neighbour_answer part table rank i f))
  pub begin_reading : (m : List ℕ) → LengthZero (reading_of m)
  -- the reader then stands over no byte, at place 0
  pub begin : (m : List ℕ) → ((begin_of m).0.refusal ≡ 0 → ⊥) → ((begin_of m).0.length ≡ 0) × ((begin_of m).1.0 ≡ []) × ((begin_of m).1.1 ≡ 0)
  pub message_length : (part old new : List ℕ) (p q : ℕ) → LengthZero (message_length_of part old new p q)
  pub build_all_length : (part old new : List ℕ) (p : ℕ) → ((build_all_length_of part old new p).refusal ≡ 0 → ⊥)
      → ((build_all_length_of part old new p).count ≡ 0) × ((build_all_length_of part old new p).length ≡ 0)
  pub area_length : (old new : List ℕ) (rank dimension : ℕ) → LengthZero (area_length_of old new rank dimension)
  pub progress_of_lem : (area : List ℕ) → ((progress_of area).refusal ≡ 0 → ⊥) → ((progress_of area).heard ≡ 0) × ((progress_of area).due ≡ 0)
  pub part_of_area_length : (area : List ℕ) → LengthZero (close_length_of area)
  pub count_leaves_lem : (shape : ℕ) (bits : List ℕ) → ((count_leaves shape bits).refusal ≡ 0 → ⊥)
      → ((count_leaves shape bits).upright ≡ 0) × ((count_leaves shape bits).inverted ≡ 0) × ((count_leaves shape bits).leaves ≡ 0)
  pub triangle_length_lem : (text : List ℕ) → LengthZero (triangle_length text)

-- "nothing for you", "already heard" and "not all heard" hold only where the tables and bits say so
pub record RefusalsMean : Type 0 where
  pub nothing_for_you : (part old new : List ℕ) (p q epoch : ℕ) (out : List ℕ) → (build_message_of part old new p q epoch out).0.refusal ≡ 9 → sends_to old new p q ≡ false
  pub nothing_to_measure : (part old new : List ℕ) (p q : ℕ) → (message_length_of part old new p q).refusal ≡ 9 → sends_to old new p q ≡ false
  pub already_heard : (area m : List ℕ) → (deliver_of area m).0 ≡ 15 → heard area (message_sender m) ≡ true
  -- of the list that deliver_all writes: entry i is about message i and the area as the messages before it left it
  pub already_heard_listed : (area bs answers : List ℕ) (i : ℕ) → i < (deliver_all_of area bs answers).0.count → get_or (deliver_all_of area bs answers).1.1 i 0 ≡ 15
      → heard (area_after_each area (take i (messages_in bs))) (message_sender (get_or (messages_in bs) i [])) ≡ true
  pub not_all_heard : (area out : List ℕ) → (close_of area out).0.refusal ≡ 20 → all_heard area ≡ false
  pub not_all_heard_to_measure : (area : List ℕ) → (close_length_of area).refusal ≡ 20 → all_heard area ≡ false

-- what an accepted close writes is a part that is sound for the area's new table and its rank; 21 says that the part to write isn't
pub record ClosesSound : Type 0 where
  pub accepted : (area out : List ℕ) → (close_of area out).0.refusal ≡ 0 → part_sound (take (close_of area out).0.length (close_of area out).1) (area_new area) (area_rank area) ≡ true
  pub declined : (area out : List ℕ) → (close_of area out).0.refusal ≡ 21 → part_sound (joined_part area) (area_new area) (area_rank area) ≡ false
