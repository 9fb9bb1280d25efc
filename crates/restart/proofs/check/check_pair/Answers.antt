use Rattle.restart.specs.Calls.{pair_checks}
use Rattle.encoding.specs.Refusal.{first_failed}
use Rattle.restart.proofs.Checks.{both}
use Rattle.restart.proofs.check.check_pair.Goals as goal

pub returns-then-not-ranks_ok : goal.returns-then-not-ranks_ok
unfolding pair_checks first_failed
returns-then-not-ranks_ok c =
    let ranks_ok_call = c.ranks_ok in
    let ranks-ok2 = c.ranks_ok-2 in
    simp (← ranks_ok_call.ensures, ← ranks-ok2.ensures, c.if-not-ranks_ok.true)

pub valid-requires : goal.valid-requires
valid-requires c = (both c.ranks_ok.ensures c.ranks_ok-2.ensures (c.if-not-ranks_ok.false)).0

pub valid-requires-2 : goal.valid-requires-2
valid-requires-2 c = (both c.ranks_ok.ensures c.ranks_ok-2.ensures (c.if-not-ranks_ok.false)).1

pub returns-then-not-valid : goal.returns-then-not-valid
unfolding pair_checks first_failed
returns-then-not-valid c =
    let ranks_ok_call = c.ranks_ok in
    let ranks-ok2 = c.ranks_ok-2 in
    let if1 = c.if-not-ranks_ok in
    let valid = c.valid in
    let valid2 = c.valid-2 in
    simp (← ranks_ok_call.ensures, ← ranks-ok2.ensures, if1.false, ← valid.ensures, ← valid2.ensures, c.if-not-valid.true)

pub ranks-requires : goal.ranks-requires
ranks-requires c =
    let ranks_ok_call = c.ranks_ok in
    let ranks-ok2 = c.ranks_ok-2 in
    let if1 = c.if-not-ranks_ok in
    (both ranks_ok_call.ensures ranks-ok2.ensures (if1.false)).0

pub ranks-requires-2 : goal.ranks-requires-2
ranks-requires-2 c =
    let ranks_ok_call = c.ranks_ok in
    let ranks-ok2 = c.ranks_ok-2 in
    let if1 = c.if-not-ranks_ok in
    (both ranks_ok_call.ensures ranks-ok2.ensures (if1.false)).1

pub returns-then-not-rank-ranks : goal.returns-then-not-rank-ranks
unfolding pair_checks first_failed
returns-then-not-rank-ranks c =
    let ranks_ok_call = c.ranks_ok in
    let ranks-ok2 = c.ranks_ok-2 in
    let if1 = c.if-not-ranks_ok in
    let valid = c.valid in
    let valid2 = c.valid-2 in
    let if2 = c.if-not-valid in
    let ranks = c.ranks in
    let ranks2 = c.ranks-2 in
    let args = c.args in
    simp (← ranks_ok_call.ensures, ← ranks-ok2.ensures, if1.false, ← valid.ensures, ← valid2.ensures, if2.false, ← ranks.ensures.0, ← ranks2.ensures.0, c.if-not-rank-ranks.true)

pub returns : goal.returns
unfolding pair_checks first_failed
returns c =
    let ranks_ok_call = c.ranks_ok in
    let ranks-ok2 = c.ranks_ok-2 in
    let if1 = c.if-not-ranks_ok in
    let valid = c.valid in
    let valid2 = c.valid-2 in
    let if2 = c.if-not-valid in
    let ranks = c.ranks in
    let ranks2 = c.ranks-2 in
    let args = c.args in
    simp (← ranks_ok_call.ensures, ← ranks-ok2.ensures, if1.false, ← valid.ensures, ← valid2.ensures, if2.false, ← ranks.ensures.0, ← ranks2.ensures.0, c.if-not-rank-ranks.false)
