use Rattle.std.proofs.lemmas.Result.{err_from_is_err_and}
use Rattle.encoding.proofs.Refusals.{number_positive}
use mathlib.Core.Path.{refl}
use native.Mathlib.Omega.{arith}
use Rattle.columns.proofs.Answers.{call_rank, call_unsound, call_short, call_done, file_room, part_long}
use Rattle.columns.specs.Calls.{columns_to_part, to_part_refusal}
use Rattle.part.proofs.Checks.{rank_known}
use Rattle.columns.proofs.columns_to_part.Goals as goal

pub returns-in_err-check_rank : goal.returns-in_err-check_rank
unfolding columns_to_part to_part_refusal
returns-in_err-check_rank c =
    let p = err_from_is_err_and c.from_residual.result c.from_residual.ensures.1 in
    rw (p.1, p.2) (call_rank _ _ c.in_err-check_rank.ensures _ _ _ _ _ (number_positive _) refl)

pub columns_sound-requires : goal.columns_sound-requires
columns_sound-requires c = rank_known _ _ c.in_ok-check_rank.ensures refl

pub returns-then-not-columns_sound : goal.returns-then-not-columns_sound
unfolding columns_to_part to_part_refusal
returns-then-not-columns_sound c =
    let columns-sound = c.columns_sound in
    let if2 = c.if-not-columns_sound in
    call_unsound _ _ c.in_ok-check_rank.ensures _ _ _ _ _ refl columns-sound.ensures (if2.true) (λ e. omega arith) refl

pub returns-then-out-columns : goal.returns-then-out-columns
unfolding columns_to_part to_part_refusal
returns-then-out-columns c =
    let columns-sound = c.columns_sound in
    let if2 = c.if-not-columns_sound in
    let if3 = c.if-out-columns in
    call_short _ _ c.in_ok-check_rank.ensures _ _ _ _ _ refl columns-sound.ensures (if2.false) if3.true refl

pub write_part-requires : goal.write_part-requires
write_part-requires c = file_room _ _ _ _ c.columns_sound.ensures (c.if-not-columns_sound.false) c.if-out-columns.false

pub returns : goal.returns
unfolding columns_to_part to_part_refusal
returns c =
    let columns-sound = c.columns_sound in
    let if2 = c.if-not-columns_sound in
    let if3 = c.if-out-columns in
    let write-part = c.write_part in
    call_done _ _ c.in_ok-check_rank.ensures _ _ _ _ _ refl columns-sound.ensures (if2.false) if3.false (part_long _ _ _ columns-sound.ensures (if2.false)) write-part.ensures
