use Prim.Native.Nat.{◌≤◌}
use lib.ListN.{length}
use mathlib.Core.Path.{refl}
use Rattle.std.proofs.lemmas.Result.{err_from_is_err_and}
use Rattle.encoding.proofs.Refusals.{number_positive}
use Rattle.pattern.proofs.Windows.{room_lacks, room_counted}
use Rattle.pattern.proofs.Answers.{old_ranks_lem, rank_of, set_fails, rank_past, no_room, set_found, set_small, list_fits, back_small}
use borrow.Author.Rules.{rules}
use Rattle.pattern.proofs.set.rank_set.Goals as goal

pub returns-in_err-check_tables : goal.returns-in_err-check_tables
returns-in_err-check_tables c =
    let p = err_from_is_err_and c.from_residual.result c.from_residual.ensures.1 in
    rw (p.1, p.2) (set_fails _ _ _ c.in_err-check_tables.ensures _ _ _ (number_positive _), record {})

pub ranks-requires : goal.ranks-requires
ranks-requires c =
    let tables = c.in_ok-check_tables in
    let shared-slice-known = c.shared_slice_known-1 in
    let shared-slice-known2 = c.shared_slice_known-2-1 in
    old_ranks_lem _ _ _ tables.ensures (λ i. (shared-slice-known.given i).fits) (λ i. (shared-slice-known2.given i).fits) refl

pub returns-then-ranks-p : goal.returns-then-ranks-p
returns-then-ranks-p c =
    let args = c.args in
    let tables = c.in_ok-check_tables in
    let ranks = c.ranks in
    let if2 = c.if-ranks-p in
    (rank_past _ _ _ tables.ensures _ _ _ refl _ ranks.ensures.0 if2.true, record {})

pub too_short-requires : goal.too_short-requires
too_short-requires c =
    let tables = c.in_ok-check_tables in
    let shared-slice-known = c.shared_slice_known-1 in
    let shared-slice-known2 = c.shared_slice_known-2-1 in
    let ranks = c.ranks in
    rank_of _ _ _ tables.ensures (λ i. (shared-slice-known.given i).fits) (λ i. (shared-slice-known2.given i).fits) refl _ _ ranks.ensures.0 c.if-ranks-p.false

pub returns-then-too_short : goal.returns-then-too_short
returns-then-too_short c =
    let args = c.args in
    let tables = c.in_ok-check_tables in
    let ranks = c.ranks in
    let if2 = c.if-ranks-p in
    let too_short = c.too_short in
    let if3 = c.if-too_short in
    (no_room _ _ _ tables.ensures _ _ _ refl _ ranks.ensures.0 _ refl if2.false (room_lacks too_short.ensures if3.true), record {})

pub set_write-count-requires : goal.set_write-count-requires
set_write-count-requires c =
    let tables = c.in_ok-check_tables in
    let shared-slice-known = c.shared_slice_known-1 in
    let shared-slice-known2 = c.shared_slice_known-2-1 in
    let ranks = c.ranks in
    let if2 = c.if-ranks-p in
    rank_of _ _ _ tables.ensures (λ i. (shared-slice-known.given i).fits) (λ i. (shared-slice-known2.given i).fits) refl _ _ ranks.ensures.0 if2.false

pub returns : goal.returns
returns c =
    let tables = c.in_ok-check_tables in
    let shared-slice-known = c.shared_slice_known-1 in
    let shared-slice-known2 = c.shared_slice_known-2-1 in
    let ranks = c.ranks in
    let if2 = c.if-ranks-p in
    let set-write = c.set_write-count in
    let few = room_counted c.too_short.ensures c.if-too_short.false set-write.ensures.counted in
    let kept = set-write.ensures.kept few in
    let known = old_ranks_lem _ _ _ tables.ensures (λ i. (shared-slice-known.given i).fits) (λ i. (shared-slice-known2.given i).fits) refl in (
      set_found _ _ _ tables.ensures _ _ _ refl _ ranks.ensures.0 _ set-write.ensures.counted if2.false few _ _ kept refl,
      (
        list_fits _ _ set-write.ensures.counted _ _ few kept,
        back_small _ _ set-write.ensures.counted _ _ few kept (set_small _ _ _ _ known),
      ),
    )
