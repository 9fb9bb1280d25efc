-- How long an object is: what a length call answers, and what the call that writes the object then answers.
use Rattle.std.specs.Prelude.{ℕ, ◌≤◌, ◌<◌, ◌≡◌, Bool, true, ◌&&◌, List, length}
use Rattle.encoding.specs.declared.answer.Length.{Length}
use Rattle.encoding.specs.Answer.{length_refused}
use Rattle.offsets.specs.Table.{ranks_ok, valid}
use Rattle.offsets_write.specs.Calls.{table_length_answer, partition_ok, write_table}
use Rattle.leaf_shares.specs.Leaves.{leaves_ok}
use Rattle.leaves.specs.Weighted.{weights_ok}
use Rattle.leaves.specs.Blocks.{sums_ok}
use Rattle.leaves.specs.Calls.{table_from_leaves, table_from_weights, table_from_blocks}
use Rattle.brick.specs.Calls.{brick_length_of, write_brick_of}
use Rattle.ele_mesh.specs.Calls.{triangle_length, import_triangle}
use Rattle.part_cut.specs.Calls.{part_length_of, cut_part_of}
use Rattle.restart.specs.Restart.{left_out_empty}
use Rattle.restart.specs.Calls.{pad_table}
use Rattle.message.specs.Calls.{message_length_of, build_message_of}
use Rattle.build_all.specs.declared.Messages.{Messages}
use Rattle.build_all.specs.Calls.{build_all_length_of, build_all_of}
use Rattle.area_open.specs.Calls.{area_length_of, open_area_of}
use Rattle.area.specs.Close.{close_length_of, close_of}

-- the answer of a length call, and that of the call that writes the object into a lent buffer, for every buffer; a refusal and a length are read from either answer
pub record Tells {A : Type 0} (refusal size : A → ℕ) (short asked : A) (answer : List ℕ → A) : Type 0 where
  -- where the length call accepts, so does the other in every buffer of that length or more, and its answer is the same
  pub accepted : refusal asked ≡ 0 → (out : List ℕ) → size asked ≤ length out → answer out ≡ asked
  -- in a shorter buffer it gets 22
  pub too_short : refusal asked ≡ 0 → (out : List ℕ) → length out < size asked → answer out ≡ short
  -- where the length call refuses, the other does with the same number, whatever the buffer
  pub refused : (refusal asked ≡ 0 → ⊥) → (out : List ℕ) → answer out ≡ asked

-- of two calls whose answers have a length
abbrev pub LengthTells : Length → (List ℕ → Length × List ℕ) → Type 0
LengthTells asked write = Tells (λ (a : Length). a.refusal) (λ (a : Length). a.length) (length_refused 22) asked (λ out. (write out).0)

-- and of two whose answers have a count besides
abbrev pub MessagesTell : Messages → (List ℕ → Messages × List ℕ) → Type 0
MessagesTell asked write = Tells (λ (a : Messages). a.refusal) (λ (a : Messages). a.length) (record { refusal = 22; count = 0; length = 0 }) asked (λ out. (write out).0)

-- of the length of a table, which P alone decides, and a call that asks for something else between 2 and 22: where that passes, both are so; where P is refused, it is by both, whether that passes or not
pub record TableTells (P : ℕ) (passes : Bool) (write : List ℕ → Length × List ℕ) : Type 0 where
  pub tells : passes ≡ true → LengthTells (table_length_answer P) write
  pub no_table : ((table_length_answer P).refusal ≡ 0 → ⊥) → (out : List ℕ) → (write out).0 ≡ table_length_answer P

-- every length call with the calls that write what it measures, whatever else these take
pub record LengthsAgree : Type 0 where
  pub message : (part old new : List ℕ) (p q epoch : ℕ) → LengthTells (message_length_of part old new p q) (build_message_of part old new p q epoch)
  pub all_messages_lem : (part old new : List ℕ) (p epoch : ℕ) → MessagesTell (build_all_length_of part old new p) (build_all_of part old new p epoch)
  pub area : (old new : List ℕ) (rank dimension epoch : ℕ) → LengthTells (area_length_of old new rank dimension) (open_area_of old new rank dimension epoch)
  pub part_of_area : (area : List ℕ) → LengthTells (close_length_of area) (close_of area)
  pub part : (mesh table : List ℕ) (rank : ℕ) → LengthTells (part_length_of mesh table rank) (cut_part_of mesh table rank)
  pub triangle_mesh_lem : (text : List ℕ) → LengthTells (triangle_length text) (import_triangle text)
  pub brick : (a b c p q r : ℕ) → LengthTells (brick_length_of a b c) (write_brick_of a b c p q r)
  pub table : (P : ℕ) (first count : List ℕ) → TableTells P (partition_ok P first count) (write_table P first count)
  pub table_by_leaves : (P : ℕ) (ls : List ℕ) → TableTells P (leaves_ok ls) (table_from_leaves P ls)
  pub table_by_blocks : (P : ℕ) (ls sums : List ℕ) → TableTells P (leaves_ok ls && sums_ok ls sums) (table_from_blocks P ls sums)
  pub table_by_weights : (ws ls : List ℕ) → TableTells (length ws) (weights_ok ws && leaves_ok ls) (table_from_weights ws ls)
  pub table_padded : (t : List ℕ) (P : ℕ) → TableTells P (ranks_ok t && (valid t && left_out_empty t P)) (pad_table t P)
