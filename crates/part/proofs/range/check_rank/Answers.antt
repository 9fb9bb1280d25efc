use borrow.Author.Tests.{lt-ltb, le-ltb}
use Rattle.encoding.proofs.Refusals.{refused_first}
use Rattle.encoding.specs.Refusal.{first_failed}
use Rattle.offsets.proofs.Checked.{table_known}
use Rattle.offsets.specs.Calls.{table_refusal}
use Rattle.part.specs.Checks.{rank_checks}
use Rattle.std.proofs.lemmas.Result.{err_from_is_err_and}
use Rattle.part.proofs.range.check_rank.Goals as goal

pub returns-in_err-check_table : goal.returns-in_err-check_table
unfolding table_refusal rank_checks
returns-in_err-check_table c =
    let p = err_from_is_err_and c.from_residual.result c.from_residual.ensures.1 in
    rw (p.1, p.2) (refused_first _ _ _ c.in_err-check_table.ensures)

pub ranks-ranks-requires : goal.ranks-ranks-requires
ranks-ranks-requires c = (table_known c.args.table.now c.in_ok-check_table.ensures).0

pub returns-then-ranks-rank : goal.returns-then-ranks-rank
unfolding rank_checks first_failed
returns-then-ranks-rank c =
    let k = table_known c.args.table.now c.in_ok-check_table.ensures in
    simp (k.0, k.1, ← c.ranks-ranks.ensures.0, le-ltb c.args.rank c.ranks-ranks.result c.if-ranks-rank.true)

pub returns : goal.returns
unfolding rank_checks first_failed
returns c =
    let k = table_known c.args.table.now c.in_ok-check_table.ensures in
    simp (k.0, k.1, ← c.ranks-ranks.ensures.0, lt-ltb c.args.rank c.ranks-ranks.result c.if-ranks-rank.false)
