use mathlib.Core.Path.{sym, ◌∙◌}
use Rattle.encoding.specs.Refusal.{first_failed}
use Rattle.refinement.specs.Calls.{count_leaves, count_refusal, leaves_answer}
use Rattle.refinement.proofs.Counts.{refused_string, refused_leaves, counted}
use Rattle.refinement.proofs.count_leaves.Goals as goal

pub returns-then-not-shape_ok : goal.returns-then-not-shape_ok
unfolding count_leaves count_refusal leaves_answer first_failed
returns-then-not-shape_ok c = simp (← c.shape_ok.ensures, c.if-not-shape_ok.true)

pub returns-in_default : goal.returns-in_default
returns-in_default c = refused_string c.args.shape c.args.bits.now (sym c.shape_ok.ensures ∙ c.if-not-shape_ok.false) c.in_default.ensures.0

pub returns-then-n-gt16777216 : goal.returns-then-n-gt16777216
returns-then-n-gt16777216 c =
    refused_leaves c.args.shape c.args.bits.now (sym c.shape_ok.ensures ∙ c.if-not-shape_ok.false) _ c.in-Some.ensures.0 c.if-n-gt16777216.true

pub returns : goal.returns
returns c = counted c.args.shape c.args.bits.now (sym c.shape_ok.ensures ∙ c.if-not-shape_ok.false) _ c.in-Some.ensures.0 c.if-n-gt16777216.false
