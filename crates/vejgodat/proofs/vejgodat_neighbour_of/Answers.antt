use mathlib.Core.Path.{◌∙◌, ap}
use borrow.Author.Rules.{rules}
use Rattle.part_neighbour.specs.Neighbour.{flat_answer}
use Rattle.vejgodat.proofs.vejgodat_neighbour_of.Goals as goal

pub returns : goal.returns
returns c = c.from.ensures ∙ ap flat_answer c.neighbour_of.ensures
