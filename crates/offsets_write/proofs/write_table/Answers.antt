use Rattle.std.proofs.lemmas.Result.{err_from_is_err_and}
use Rattle.offsets_write.proofs.Partitions.{lists_sized, table_length_lem}
use Rattle.offsets_write.proofs.RoomChecks.{ranks_pass, ranks_fail, room_pass, room_fail}
use Rattle.offsets_write.specs.Calls.{write_table, write_refusal, each}
use Rattle.encoding.specs.Answer.{write_answer, length_answer, written}
use Rattle.encoding.specs.Refusal.{first_failed}
use borrow.Author.Tests.{leb-true}
use mathlib.Core.Path.{◌∙◌, sym}
use Rattle.offsets_write.proofs.write_table.Goals as goal

pub returns-in_err-check_ranks : goal.returns-in_err-check_ranks
unfolding write_table write_refusal first_failed write_answer length_answer written
returns-in_err-check_ranks c =
    let p = err_from_is_err_and c.from_residual.result c.from_residual.ensures.1 in
    let f = ranks_fail _ _ c.in_err-check_ranks.ensures in
    rw (p.1, p.2, f.1) (simp f.0)

pub returns-then-not-partition_ok : goal.returns-then-not-partition_ok
unfolding write_table write_refusal first_failed write_answer length_answer written
returns-then-not-partition_ok c = simp (ranks_pass _ c.in_ok-check_ranks.ensures, sym c.partition_ok.ensures ∙ c.if-not-partition_ok.true)

pub check_room-requires : goal.check_room-requires
check_room-requires c = ranks_pass _ c.in_ok-check_ranks.ensures

pub returns-in_err-n : goal.returns-in_err-n
unfolding write_table write_refusal first_failed write_answer length_answer written
returns-in_err-n c =
    let p = err_from_is_err_and c.from_residual-in_err-n.result c.from_residual-in_err-n.ensures.1 in
    let f = room_fail _ _ _ c.in_err-n.ensures.0 in
    rw (p.1, p.2, f.1) (simp (ranks_pass _ c.in_ok-check_ranks.ensures, sym c.partition_ok.ensures ∙ c.if-not-partition_ok.false, f.0))

pub write-requires : goal.write-requires
write-requires c =
    let l = lists_sized _ _ _ (sym c.partition_ok.ensures ∙ c.if-not-partition_ok.false) in
    (l.1 ∙ sym l.0, rw l.0 (leb-true _ _ (room_pass _ _ c.in_ok-n.ensures.0)))

pub returns : goal.returns
unfolding write_table write_refusal first_failed write_answer length_answer written
returns c =
    let args = c.args in
    let l = lists_sized _ _ _ (sym c.partition_ok.ensures ∙ c.if-not-partition_ok.false) in
    simp (
      ranks_pass _ c.in_ok-check_ranks.ensures,
      sym c.partition_ok.ensures ∙ c.if-not-partition_ok.false,
      room_pass _ _ c.in_ok-n.ensures.0,
      c.in_ok-n.ensures.1,
      c.write.ensures,
      l.0,
      table_length_lem (each args.first.now) (each args.count.now) args.ranks,
    )
