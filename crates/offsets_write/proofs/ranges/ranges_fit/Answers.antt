use Rattle.std.proofs.lemmas.Slice.Zip.{zip_turn, zip_end}
use Rattle.std.proofs.lemmas.List.{length_push}
use Rattle.offsets_write.proofs.Partitions.{end_turn, follow_turn, follow_stop, follow_done}
use Rattle.offsets_write.specs.Means.{ranks_follow}
use Rattle.offsets_write.specs.Partition.{end_below}
use Rattle.encoding.specs.Below.{all_below}
use mathlib.Core.Path.{refl}
use native.Mathlib.Omega.{arith}
use Rattle.offsets_write.proofs.ranges.ranges_fit.Goals as goal

pub loop-f-init : goal.loop-f-init
unfolding end_below ranks_follow all_below
loop-f-init c = (refl, refl)

pub returns-then-not-range_fits : goal.returns-then-not-range_fits
returns-then-not-range_fits c =
    let t = zip_turn c.args.first.now c.args.count.now c.loop-f.yielded _ _ c.next.new.self _ (cc) (cc) c.loop-f.yielded_by _ c.in-Some.is c.next.ensures.steps in
    follow_stop _ _ _ _ _ _ t.0 c.loop-f.invariant.0 (rw (t.2 0, t.3 0) at c.range_fits.ensures) c.if-not-range_fits.true

pub loop-f-preserved : goal.loop-f-preserved
loop-f-preserved c =
    let i = c.loop-f.invariant in
    let t = zip_turn c.args.first.now c.args.count.now c.loop-f.yielded _ _ c.next.new.self _ (cc) (cc) c.loop-f.yielded_by _ c.in-Some.is c.next.ensures.steps in
    let n = length_push c.loop-f.yielded (c.in-Some.field-0-0, c.in-Some.field-0-1) in
    rw n (end_turn _ _ _ _ _ i.0 (rw (t.2 0, t.3 0) at c.next_end-end.ensures), follow_turn _ _ _ _ _ i.0 (rw (t.2 0, t.3 0) at c.range_fits.ensures) c.if-not-range_fits.false i.1)

pub returns : goal.returns
returns c =
    let i = c.loop-f.invariant in
    let e = zip_end c.args.first.now c.args.count.now c.loop-f.yielded _ _ c.next.new.self _ (cc) (cc) c.loop-f.yielded_by c.in-None.is c.next.ensures.steps in
    follow_done _ _ _ _ _ _ (omega (arith, e, c.requires)) (omega (arith, e, c.requires)) i.0 i.1 c.tree_count_ok.ensures
