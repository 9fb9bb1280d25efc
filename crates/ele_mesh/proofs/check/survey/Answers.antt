use mathlib.Core.Path.{sym, ◌∙◌}
use borrow.Author.Rules.{rules}
use Rattle.ele_mesh.proofs.Surveys.{survey_form, slice_whole, survey_twice, survey_three, survey_good}
use Rattle.ele_mesh.proofs.check.survey.Goals as goal

pub returns-in_default : goal.returns-in_default
returns-in_default c = survey_form _ c.read-read.new.vertices c.in_default.ensures

pub vertices_differ-requires : goal.vertices_differ-requires
vertices_differ-requires c = slice_whole _ _ _ c.in-Some.ensures

pub modulus-modulus-requires : goal.modulus-modulus-requires
modulus-modulus-requires c = (slice_whole _ _ _ c.in-Some.ensures, c.requires.1.hashed)

pub chain-requires : goal.chain-requires
chain-requires c = (slice_whole _ _ _ c.in-Some.ensures, c.modulus-modulus.ensures, record { hashed = search rules; faces = c.requires.1.faces })

pub returns-then-not-vertices_differ : goal.returns-then-not-vertices_differ
returns-then-not-vertices_differ c = survey_twice _ _ _ c.in-Some.ensures (sym c.if-not-vertices_differ.true ∙ c.vertices_differ.ensures)

pub returns-then-not-edges_ok : goal.returns-then-not-edges_ok
returns-then-not-edges_ok c =
    survey_three _ _ _ c.in-Some.ensures (sym c.if-not-vertices_differ.false ∙ c.vertices_differ.ensures) c.chain.ensures c.edges_ok.ensures c.if-not-edges_ok.true

pub returns : goal.returns
returns c = survey_good _ _ _ c.in-Some.ensures (sym c.if-not-vertices_differ.false ∙ c.vertices_differ.ensures) c.chain.ensures c.edges_ok.ensures c.if-not-edges_ok.false
