use Rattle.std.proofs.lemmas.Result.{err_from_is_err_and}
use Rattle.offsets_write.proofs.RoomChecks.{ranks_pass, ranks_fail}
use Rattle.offsets_write.specs.Calls.{table_length_answer}
use Rattle.encoding.specs.Answer.{length_answer}
use Rattle.encoding.specs.Refusal.{first_failed}
use Rattle.offsets_write.proofs.table_length.Goals as goal

pub returns-in_err-check_ranks : goal.returns-in_err-check_ranks
unfolding table_length_answer first_failed length_answer
returns-in_err-check_ranks c =
    let p = err_from_is_err_and c.from_residual.result c.from_residual.ensures.1 in
    let f = ranks_fail _ _ c.in_err-check_ranks.ensures in
    rw (p.1, p.2, f.1) (simp f.0)

pub length-requires : goal.length-requires
length-requires c = ranks_pass _ c.in_ok-check_ranks.ensures

pub returns : goal.returns
unfolding table_length_answer first_failed length_answer
returns c = simp (ranks_pass _ c.in_ok-check_ranks.ensures, c.length.ensures)
