use mathlib.Core.Path.{◌∙◌, sym}
use Rattle.encoding.specs.Refusal.{first_failed}
use Rattle.pattern.specs.Calls.{table_checks}
use Rattle.pattern.proofs.tables.check_tables.Goals as goal

pub returns-then-not-both_ranks_ok : goal.returns-then-not-both_ranks_ok
unfolding table_checks first_failed
returns-then-not-both_ranks_ok c = simp (← c.both_ranks_ok.ensures, c.if-not-both_ranks_ok.true)

pub both_valid-requires : goal.both_valid-requires
both_valid-requires c = sym c.both_ranks_ok.ensures ∙ c.if-not-both_ranks_ok.false

pub returns-then-not-both_valid : goal.returns-then-not-both_valid
unfolding table_checks first_failed
returns-then-not-both_valid c =
    let both-ranks-ok = c.both_ranks_ok in
    let if1 = c.if-not-both_ranks_ok in
    let both-valid = c.both_valid in
    simp (← both-ranks-ok.ensures, if1.false, ← both-valid.ensures, c.if-not-both_valid.true)

pub agree-requires : goal.agree-requires
agree-requires c = sym c.both_ranks_ok.ensures ∙ c.if-not-both_ranks_ok.false

pub returns-then-not-agree : goal.returns-then-not-agree
unfolding table_checks first_failed
returns-then-not-agree c =
    let both-ranks-ok = c.both_ranks_ok in
    let if1 = c.if-not-both_ranks_ok in
    let both-valid = c.both_valid in
    let if2 = c.if-not-both_valid in
    let agree = c.agree in
    simp (← both-ranks-ok.ensures, if1.false, ← both-valid.ensures, if2.false, ← agree.ensures, c.if-not-agree.true)

pub returns : goal.returns
unfolding table_checks first_failed
returns c =
    let both-ranks-ok = c.both_ranks_ok in
    let if1 = c.if-not-both_ranks_ok in
    let both-valid = c.both_valid in
    let if2 = c.if-not-both_valid in
    let agree = c.agree in
    simp (← both-ranks-ok.ensures, if1.false, ← both-valid.ensures, if2.false, ← agree.ensures, c.if-not-agree.false)
