use Rattle.offsets.specs.Calls.{table_refusal}
use Rattle.encoding.specs.Refusal.{first_failed}
use mathlib.Core.Path.{◌∙◌, sym}
use Rattle.offsets.proofs.check_table.Goals as goal

pub returns-then-not-ranks_ok : goal.returns-then-not-ranks_ok
unfolding table_refusal first_failed
returns-then-not-ranks_ok c = simp (← c.ranks_ok.ensures, c.if-not-ranks_ok.true)

pub valid-requires : goal.valid-requires
valid-requires c = sym c.ranks_ok.ensures ∙ c.if-not-ranks_ok.false

pub returns-then-not-valid : goal.returns-then-not-valid
unfolding table_refusal first_failed
returns-then-not-valid c =
    let ranks_ok_lem = c.ranks_ok in
    let if1 = c.if-not-ranks_ok in
    let valid = c.valid in
    simp (← ranks_ok_lem.ensures, if1.false, ← valid.ensures, c.if-not-valid.true)

pub returns : goal.returns
unfolding table_refusal first_failed
returns c =
    let ranks_ok_lem = c.ranks_ok in
    let if1 = c.if-not-ranks_ok in
    let valid = c.valid in
    simp (← ranks_ok_lem.ensures, if1.false, ← valid.ensures, c.if-not-valid.false)
