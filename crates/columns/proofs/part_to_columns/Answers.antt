use Rattle.std.proofs.lemmas.Result.{err_from_is_err_and}
use Rattle.encoding.proofs.Refusals.{number_positive}
use mathlib.Core.Path.{refl}
use native.Mathlib.Omega.{arith}
use Rattle.columns.proofs.Answers.{call_rank, call_unsound, call_short, call_done, part_room, columns_long}
use Rattle.columns.specs.Calls.{part_to_columns, to_columns_refusal}
use Rattle.part.proofs.Checks.{rank_known}
use Rattle.columns.proofs.part_to_columns.Goals as goal

pub returns-in_err-check_rank : goal.returns-in_err-check_rank
unfolding part_to_columns to_columns_refusal
returns-in_err-check_rank c =
    let p = err_from_is_err_and c.from_residual.result c.from_residual.ensures.1 in
    rw (p.1, p.2) (call_rank _ _ c.in_err-check_rank.ensures _ _ _ _ _ (number_positive _) refl)

pub part_sound-requires : goal.part_sound-requires
part_sound-requires c = rank_known _ _ c.in_ok-check_rank.ensures refl

pub returns-then-not-part_sound : goal.returns-then-not-part_sound
unfolding part_to_columns to_columns_refusal
returns-then-not-part_sound c =
    let part_sound_call = c.part_sound in
    let if2 = c.if-not-part_sound in
    call_unsound _ _ c.in_ok-check_rank.ensures _ _ _ _ _ refl part_sound_call.ensures (if2.true) (λ e. omega arith) refl

pub returns-then-out-part : goal.returns-then-out-part
unfolding part_to_columns to_columns_refusal
returns-then-out-part c =
    let part_sound_call = c.part_sound in
    let if2 = c.if-not-part_sound in
    let if3 = c.if-out-part in
    call_short _ _ c.in_ok-check_rank.ensures _ _ _ _ _ refl part_sound_call.ensures (if2.false) if3.true refl

pub write_columns-requires : goal.write_columns-requires
write_columns-requires c = part_room _ _ _ _ c.part_sound.ensures (c.if-not-part_sound.false) c.if-out-part.false

pub returns : goal.returns
unfolding part_to_columns to_columns_refusal
returns c =
    let part_sound_call = c.part_sound in
    let if2 = c.if-not-part_sound in
    let if3 = c.if-out-part in
    let write-columns = c.write_columns in
    call_done _ _ c.in_ok-check_rank.ensures _ _ _ _ _ refl part_sound_call.ensures (if2.false) if3.false (columns_long _ _ _ part_sound_call.ensures (if2.false)) write-columns.ensures
