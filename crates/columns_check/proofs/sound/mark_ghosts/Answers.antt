use native.Mathlib.Omega.{arith}
use Rattle.positions.proofs.Positions.{mark_start, mark_low, mark_more, mark_end}
use Rattle.columns_check.proofs.Held.{row_read_lem, rows_markable}
use Rattle.columns_check.proofs.sound.mark_ghosts.Goals as goal

pub loop-j-init : goal.loop-j-init
loop-j-init c = mark_start _ _ _

pub add_member-requires : goal.add_member-requires
add_member-requires c =
    let pre = c.requires in
    let loop = c.loop-j in
    let loop-test = c.loop-j-test in
    mark_low _ _ _ (rows_markable _ _ _ _ _ pre.0 pre.1) loop-test.true (row_read_lem _ _ _ _ loop-test.true c.word-k.ensures) loop.invariant

pub loop-j-preserved : goal.loop-j-preserved
loop-j-preserved c =
    let pre = c.requires in
    let loop = c.loop-j in
    let loop-test = c.loop-j-test in
    let word = c.word-k in
    mark_more _ _ _ (rows_markable _ _ _ _ _ pre.0 pre.1) loop-test.true (row_read_lem _ _ _ _ loop-test.true word.ensures) loop.invariant c.add_member.ensures

pub returns : goal.returns
returns c = mark_end _ _ _ c.loop-j.invariant c.loop-j.auto.j-end (omega arith)
