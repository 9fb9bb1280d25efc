use Rattle.plan_write.proofs.Writing.{put_none, from_fits, from_turn}
use Rattle.plan_write.specs.Moves.{moves_from}
use Rattle.offsets.specs.Table.{ranks}
use native.Mathlib.Omega.{arith}
use mathlib.Core.Path.{◌≡◌, refl}
use borrow.Author.Rules.{rules}
use Rattle.plan_write.proofs.moves.put_from.Goals as goal

pub ranks-n-requires : goal.ranks-n-requires
ranks-n-requires c = c.requires.rank.tables.old_ranks

pub loop-q-init : goal.loop-q-init
unfolding moves_from
loop-q-init c = (put_none _ _, refl)

pub put_pair-next-requires : goal.put_pair-next-requires
put_pair-next-requires c =
    let pre = c.requires in
    let loop = c.loop-q in
    from_fits pre loop.q (omega arith) loop.invariant.0

pub loop-q-preserved : goal.loop-q-preserved
loop-q-preserved c =
    let pre = c.requires in
    let loop = c.loop-q in
    let put-pair = c.put_pair-next in
    (from_turn pre loop.q (omega arith) loop.invariant.0 put-pair.ensures, search rules)

pub returns : goal.returns
returns c =
    let loop = c.loop-q in
    let args = c.args in
    let e : loop.q ≡ ranks args.old.now = omega arith in rw (← e) loop.invariant.0
