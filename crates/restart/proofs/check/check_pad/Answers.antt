use mathlib.Core.Path.{◌∙◌, sym}
use Rattle.restart.specs.Calls.{pad_checks}
use Rattle.encoding.specs.Refusal.{first_failed}
use Rattle.restart.proofs.Checks.{both}
use Rattle.restart.proofs.check.check_pad.Goals as goal

pub returns-then-not-ranks_ok-rank_count_ok : goal.returns-then-not-ranks_ok-rank_count_ok
unfolding pad_checks first_failed
returns-then-not-ranks_ok-rank_count_ok c =
    let ranks_ok_call = c.ranks_ok in
    let rank-count-ok = c.rank_count_ok in
    simp (← ranks_ok_call.ensures, ← rank-count-ok.ensures, c.if-not-ranks_ok-rank_count_ok.true)

pub valid-requires : goal.valid-requires
valid-requires c = (both c.ranks_ok.ensures c.rank_count_ok.ensures (c.if-not-ranks_ok-rank_count_ok.false)).0

pub returns-then-not-valid : goal.returns-then-not-valid
unfolding pad_checks first_failed
returns-then-not-valid c =
    let ranks_ok_call = c.ranks_ok in
    let rank-count-ok = c.rank_count_ok in
    let if1 = c.if-not-ranks_ok-rank_count_ok in
    let valid = c.valid in
    simp (← ranks_ok_call.ensures, ← rank-count-ok.ensures, if1.false, ← valid.ensures, c.if-not-valid.true)

pub left_out_empty-requires : goal.left_out_empty-requires
left_out_empty-requires c =
    let ranks_ok_call = c.ranks_ok in
    let rank-count-ok = c.rank_count_ok in
    let if1 = c.if-not-ranks_ok-rank_count_ok in
    let valid = c.valid in
    record { counted = (both ranks_ok_call.ensures rank-count-ok.ensures (if1.false)).0; checked = sym valid.ensures ∙ c.if-not-valid.false }

pub returns-then-not-left_out_empty : goal.returns-then-not-left_out_empty
unfolding pad_checks first_failed
returns-then-not-left_out_empty c =
    let ranks_ok_call = c.ranks_ok in
    let rank-count-ok = c.rank_count_ok in
    let if1 = c.if-not-ranks_ok-rank_count_ok in
    let valid = c.valid in
    let if2 = c.if-not-valid in
    let left-out-empty = c.left_out_empty in
    simp (← ranks_ok_call.ensures, ← rank-count-ok.ensures, if1.false, ← valid.ensures, if2.false, ← left-out-empty.ensures, c.if-not-left_out_empty.true)

pub returns : goal.returns
unfolding pad_checks first_failed
returns c =
    let ranks_ok_call = c.ranks_ok in
    let rank-count-ok = c.rank_count_ok in
    let if1 = c.if-not-ranks_ok-rank_count_ok in
    let valid = c.valid in
    let if2 = c.if-not-valid in
    let left-out-empty = c.left_out_empty in
    simp (← ranks_ok_call.ensures, ← rank-count-ok.ensures, if1.false, ← valid.ensures, if2.false, ← left-out-empty.ensures, c.if-not-left_out_empty.false)
