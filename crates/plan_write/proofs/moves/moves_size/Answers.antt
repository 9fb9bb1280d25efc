use Rattle.plan_write.proofs.Writing.{text_length, text_most, moves_most}
use Rattle.plan_write.specs.Moves.{moves_text, move_count}
use Rattle.pattern.specs.Sets.{sends_to}
use Rattle.offsets.specs.Table.{ranks}
use Rattle.encoding.proofs.Below.{sum_more}
use Rattle.encoding.specs.Below.{count_below, sum_below}
use native.Mathlib.Omega.{arith}
use mathlib.Core.Path.{◌≡◌, refl}
use Prim.Native.Nat.{◌+◌}
use Rattle.plan_write.proofs.moves.moves_size.Goals as goal

pub ranks-n-requires : goal.ranks-n-requires
ranks-n-requires c = c.requires.agree.old_ranks

pub loop-p-init : goal.loop-p-init
unfolding moves_text sum_below
loop-p-init c = (refl, refl)

pub from_size-s-requires : goal.from_size-s-requires
from_size-s-requires c = record { tables = c.requires.agree; rank_below = omega arith }

pub overflow_add-bytes : goal.overflow_add-bytes
overflow_add-bytes c =
    let args = c.args in
    let pre = c.requires in
    let loop = c.loop-p in
    let old = args.old.now in let new = args.new.now in let p = loop.p in omega (arith, text_length old new p, text_most old new (p + 1), moves_most old new (p + 1) (omega (arith, pre.few)) pre.few)

pub overflow_add-moves : goal.overflow_add-moves
overflow_add-moves c =
    let args = c.args in
    let pre = c.requires in
    let loop = c.loop-p in
    let old = args.old.now in let new = args.new.now in let p = loop.p in omega (arith, sum_more p (λ i. count_below (ranks old) (sends_to old new i)), moves_most old new (p + 1) (omega (arith, pre.few)) pre.few)

pub loop-p-preserved : goal.loop-p-preserved
loop-p-preserved c =
    let args = c.args in
    let loop = c.loop-p in
    let old = args.old.now in let new = args.new.now in let p = loop.p in (omega (arith, text_length old new p), omega (arith, sum_more p (λ i. count_below (ranks old) (sends_to old new i))))

pub returns : goal.returns
unfolding move_count
returns c = let e : c.loop-p.p ≡ ranks c.args.old.now = omega arith in rw e at c.loop-p.invariant
