use Rattle.std.proofs.lemmas.Result.{err_from_is_err_and}
use Rattle.message_reader.proofs.Handed.{begun_is, begun_fails}
use Rattle.message_reader.proofs.begin.Goals as goal

pub returns-in_err-records : goal.returns-in_err-records
returns-in_err-records c =
    let p = err_from_is_err_and c.from_residual.result c.from_residual.ensures.1 in
    rw (p.1, p.2) (begun_fails c.args.message.now _ c.in_err-records.ensures)

pub returns : goal.returns
returns c = begun_is c.args.message.now _ c.in_ok-records.ensures
