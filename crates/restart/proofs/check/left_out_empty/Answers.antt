use native.Mathlib.Omega.{arith}
use Rattle.restart.proofs.Ranges.{rank_of}
use Rattle.restart.proofs.Checks.{out_start, out_more, out_stop, out_done}
use Rattle.restart.proofs.check.left_out_empty.Goals as goal

pub ranks-p-requires : goal.ranks-p-requires
ranks-p-requires c = c.requires.counted

pub loop-rank-init : goal.loop-rank-init
loop-rank-init c = out_start _ _ _ (omega arith)

pub is_empty-requires : goal.is_empty-requires
is_empty-requires c = rank_of c.requires c.ranks-p.ensures.0 c.loop-rank-test.true

pub returns-then-not-is_empty : goal.returns-then-not-is_empty
returns-then-not-is_empty c =
    let ranks = c.ranks-p in
    let loop-test = c.loop-rank-test in
    let is-empty = c.is_empty in
    out_stop _ _ ranks.ensures.0 (omega arith) loop-test.true is-empty.ensures c.if-not-is_empty.true

pub loop-rank-preserved : goal.loop-rank-preserved
loop-rank-preserved c = out_more _ _ _ c.loop-rank.invariant c.is_empty.ensures c.if-not-is_empty.false

pub returns : goal.returns
returns c = out_done _ _ c.ranks-p.ensures.0 (omega arith) c.loop-rank.invariant
