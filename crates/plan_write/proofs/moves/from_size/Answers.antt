use Rattle.plan_write.proofs.Writing.{from_length, from_most}
use Rattle.plan_write.specs.Moves.{moves_from}
use Rattle.pattern.specs.Sets.{sends_to}
use Rattle.offsets.specs.Table.{ranks}
use Rattle.encoding.proofs.Below.{count_more, count_le}
use Rattle.encoding.specs.Below.{count_below}
use native.Mathlib.Omega.{arith}
use mathlib.Core.Path.{◌≡◌, refl}
use Prim.Native.Nat.{◌+◌}
use Rattle.plan_write.proofs.moves.from_size.Goals as goal

pub ranks-n-requires : goal.ranks-n-requires
ranks-n-requires c = c.requires.tables.old_ranks

pub loop-q-init : goal.loop-q-init
unfolding moves_from count_below
loop-q-init c = (refl, refl)

pub pair_size-s-requires : goal.pair_size-s-requires
pair_size-s-requires c =
    let pre = c.requires in
    record { tables = pre.tables; sender_below = pre.rank_below; receiver_below = omega arith }

pub overflow_add-bytes : goal.overflow_add-bytes
overflow_add-bytes c =
    let args = c.args in
    let loop = c.loop-q in
    let old = args.old.now in let new = args.new.now in let p = args.p in let q = loop.q in omega (arith, from_length old new p q, from_most old new p (q + 1), count_le (q + 1) (sends_to old new p))

pub overflow_add-moves : goal.overflow_add-moves
overflow_add-moves c =
    let args = c.args in
    let loop = c.loop-q in
    let f = sends_to args.old.now args.new.now args.p in let q = loop.q in omega (arith, count_more q f, count_le (q + 1) f)

pub loop-q-preserved : goal.loop-q-preserved
loop-q-preserved c =
    let args = c.args in
    let loop = c.loop-q in
    let old = args.old.now in let new = args.new.now in let p = args.p in let q = loop.q in (omega (arith, from_length old new p q), omega (arith, count_more q (sends_to old new p)))

pub returns : goal.returns
returns c = let e : c.loop-q.q ≡ ranks c.args.old.now = omega arith in rw (← e) c.loop-q.invariant
