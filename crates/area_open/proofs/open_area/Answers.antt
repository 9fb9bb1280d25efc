use Rattle.std.proofs.lemmas.Result.{err_from_is_err_and}
use mathlib.Core.Path.{refl}
use Rattle.encoding.proofs.Refusals.{number_positive}
use Rattle.area_open.proofs.Opening.{openable, rank_in, open_refused, open_short, area_room, open_done}
use Rattle.area_open.proofs.open_area.Goals as goal

pub returns-in_err-check_opening : goal.returns-in_err-check_opening
returns-in_err-check_opening c =
    let p = err_from_is_err_and c.from_residual.result c.from_residual.ensures.1 in
    rw (p.1, p.2) (open_refused _ _ _ _ c.in_err-check_opening.ensures _ _ (number_positive _))

pub ranks-ranks-requires : goal.ranks-ranks-requires
ranks-ranks-requires c = (openable _ _ _ _ c.in_ok-check_opening.ensures (λ i. (c.shared_slice_known-1.given i).fits) (λ i. (c.shared_slice_known-2-1.given i).fits) refl).tables.old_ranks

pub tree_count-count-requires : goal.tree_count-count-requires
tree_count-count-requires c = let o = openable _ _ _ _ c.in_ok-check_opening.ensures (λ i. (c.shared_slice_known-1.given i).fits) (λ i. (c.shared_slice_known-2-1.given i).fits) refl in rank_in o.tables o.rank_below

pub returns-then-out-n : goal.returns-then-out-n
returns-then-out-n c = open_short _ _ _ _ c.in_ok-check_opening.ensures refl c.ranks-ranks.ensures.0 c.tree_count-count.ensures.0 c.area_size-n.ensures _ _ c.if-out-n.true

pub write_fresh-requires : goal.write_fresh-requires
write_fresh-requires c =
    area_room _ _ _ _ c.in_ok-check_opening.ensures refl c.ranks-ranks.ensures.0 c.tree_count-count.ensures.0 c.area_size-n.ensures c.args.epoch _ (λ i. (c.shared_slice_known-1.given i).fits) (λ i. (c.shared_slice_known-2-1.given i).fits) c.if-out-n.false

pub returns : goal.returns
returns c =
    open_done _ _ _ _ c.in_ok-check_opening.ensures refl c.ranks-ranks.ensures.0 c.tree_count-count.ensures.0 c.area_size-n.ensures _ _ (λ i. (c.shared_slice_known-1.given i).fits) (λ i. (c.shared_slice_known-2-1.given i).fits) c.if-out-n.false c.write_fresh.ensures
