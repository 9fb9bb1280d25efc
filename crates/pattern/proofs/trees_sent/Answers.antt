use Rattle.pattern.proofs.Laws.{pair_of}
use mathlib.Core.Path.{refl}
use Rattle.std.proofs.lemmas.Result.{err_from_is_err_and}
use Rattle.encoding.proofs.Refusals.{number_positive}
use Rattle.pattern.proofs.Answers.{old_ranks_lem, rank_of, sent_fails, from_past, to_past, sent_found}
use Rattle.pattern.proofs.trees_sent.Goals as goal

pub returns-in_err-check_tables : goal.returns-in_err-check_tables
returns-in_err-check_tables c =
    let p = err_from_is_err_and c.from_residual.result c.from_residual.ensures.1 in
    rw (p.1, p.2) (sent_fails _ _ _ c.in_err-check_tables.ensures _ _ (number_positive _))

pub ranks-ranks-requires : goal.ranks-ranks-requires
ranks-ranks-requires c =
    let tables = c.in_ok-check_tables in
    let shared-slice-known = c.shared_slice_known-1 in
    let shared-slice-known2 = c.shared_slice_known-2-1 in
    old_ranks_lem _ _ _ tables.ensures (λ i. (shared-slice-known.given i).fits) (λ i. (shared-slice-known2.given i).fits) refl

pub returns-then-ranks-p : goal.returns-then-ranks-p
returns-then-ranks-p c =
    let tables = c.in_ok-check_tables in
    let ranks = c.ranks-ranks in
    let if2 = c.if-ranks-p in
    from_past _ _ _ tables.ensures _ _ refl _ ranks.ensures.0 if2.true

pub returns-then-ranks-q : goal.returns-then-ranks-q
returns-then-ranks-q c =
    let tables = c.in_ok-check_tables in
    let ranks = c.ranks-ranks in
    let if3 = c.if-ranks-q in
    to_past _ _ _ tables.ensures _ _ refl _ ranks.ensures.0 if3.true

pub sent-requires : goal.sent-requires
sent-requires c =
    let tables = c.in_ok-check_tables in
    let shared-slice-known = c.shared_slice_known-1 in
    let shared-slice-known2 = c.shared_slice_known-2-1 in
    let ranks = c.ranks-ranks in
    let if2 = c.if-ranks-p in
    pair_of _ _ (rank_of _ _ _ tables.ensures (λ i. (shared-slice-known.given i).fits) (λ i. (shared-slice-known2.given i).fits) refl _ _ ranks.ensures.0 if2.false) ranks.ensures.0 c.if-ranks-q.false

pub returns : goal.returns
returns c =
    let tables = c.in_ok-check_tables in
    let ranks = c.ranks-ranks in
    let if2 = c.if-ranks-p in
    let if3 = c.if-ranks-q in
    sent_found _ _ _ tables.ensures _ _ refl _ ranks.ensures.0 if2.false if3.false _ _ c.sent.ensures.0 c.sent.ensures.1
