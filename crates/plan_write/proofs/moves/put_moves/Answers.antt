use Rattle.plan_write.proofs.Writing.{put_none, text_fits, text_turn}
use Rattle.plan_write.specs.Moves.{moves_text}
use Rattle.offsets.specs.Table.{ranks}
use native.Mathlib.Omega.{arith}
use mathlib.Core.Path.{◌≡◌, refl}
use borrow.Author.Rules.{rules}
use Rattle.plan_write.proofs.moves.put_moves.Goals as goal

pub ranks-n-requires : goal.ranks-n-requires
ranks-n-requires c = c.requires.tables.old_ranks

pub loop-p-init : goal.loop-p-init
unfolding moves_text
loop-p-init c = (put_none _ _, refl)

pub put_from-next-requires : goal.put_from-next-requires
put_from-next-requires c =
    let pre = c.requires in
    let loop = c.loop-p in
    text_fits pre loop.p (omega arith) loop.invariant.0

pub loop-p-preserved : goal.loop-p-preserved
loop-p-preserved c =
    let pre = c.requires in
    let loop = c.loop-p in
    let put-from = c.put_from-next in
    (text_turn pre loop.p (omega arith) loop.invariant.0 put-from.ensures, search rules)

pub returns : goal.returns
returns c =
    let loop = c.loop-p in
    let args = c.args in
    let e : loop.p ≡ ranks args.old.now = omega arith in rw (← e) loop.invariant.0
