use mathlib.Core.Path.{refl}
use Rattle.std.proofs.lemmas.Result.{err_from_is_err_and}
use Rattle.encoding.proofs.Refusals.{number_positive}
use Rattle.pattern.proofs.Answers.{old_ranks_lem, tree_to_lem, sender_fails, tree_past, receiver_past, sender_found}
use Rattle.pattern.proofs.sender_of.Goals as goal

pub returns-in_err-check_tables : goal.returns-in_err-check_tables
returns-in_err-check_tables c =
    let p = err_from_is_err_and c.from_residual.result c.from_residual.ensures.1 in
    rw (p.1, p.2) (sender_fails _ _ _ c.in_err-check_tables.ensures _ _ (number_positive _), record {})

pub trees-requires : goal.trees-requires
trees-requires c =
    let tables = c.in_ok-check_tables in
    let shared-slice-known = c.shared_slice_known-1 in
    let shared-slice-known2 = c.shared_slice_known-2-1 in
    old_ranks_lem _ _ _ tables.ensures (λ i. (shared-slice-known.given i).fits) (λ i. (shared-slice-known2.given i).fits) refl

pub returns-then-trees-k : goal.returns-then-trees-k
returns-then-trees-k c =
    let tables = c.in_ok-check_tables in
    let trees = c.trees in
    let if2 = c.if-trees-k in
    (tree_past _ _ _ tables.ensures _ _ refl _ trees.ensures if2.true, record {})

pub ranks-requires : goal.ranks-requires
ranks-requires c =
    let tables = c.in_ok-check_tables in
    let shared-slice-known = c.shared_slice_known-1 in
    let shared-slice-known2 = c.shared_slice_known-2-1 in
    old_ranks_lem _ _ _ tables.ensures (λ i. (shared-slice-known.given i).fits) (λ i. (shared-slice-known2.given i).fits) refl

pub returns-then-ranks-q : goal.returns-then-ranks-q
returns-then-ranks-q c =
    let tables = c.in_ok-check_tables in
    let trees = c.trees in
    let ranks = c.ranks in
    let if3 = c.if-ranks-q in
    (receiver_past _ _ _ tables.ensures _ _ refl _ trees.ensures _ ranks.ensures.0 if3.true, record {})

pub sender_to-requires : goal.sender_to-requires
sender_to-requires c =
    let tables = c.in_ok-check_tables in
    let shared-slice-known = c.shared_slice_known-1 in
    let shared-slice-known2 = c.shared_slice_known-2-1 in
    let trees = c.trees in
    let if2 = c.if-trees-k in
    let ranks = c.ranks in
    tree_to_lem _ _ _ tables.ensures (λ i. (shared-slice-known.given i).fits) (λ i. (shared-slice-known2.given i).fits) refl _ _ _ _ trees.ensures if2.false ranks.ensures.0 c.if-ranks-q.false

pub returns : goal.returns
returns c =
    let tables = c.in_ok-check_tables in
    let trees = c.trees in
    let ranks = c.ranks in
    let if2 = c.if-trees-k in
    let if3 = c.if-ranks-q in
    let sender-to = c.sender_to in
    (sender_found _ _ _ tables.ensures _ _ refl _ trees.ensures _ ranks.ensures.0 if2.false if3.false _ _ sender-to.ensures.0 refl, sender-to.ensures.1)
