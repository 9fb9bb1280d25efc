use mathlib.Core.Path.{refl, sym, ◌∙◌}
use native.Mathlib.Omega.{arith}
use Rattle.mesh.proofs.Soundness.{header_parts}
use Rattle.faults.proofs.Searches.{mesh_headless, mesh_searched}
use Rattle.faults.proofs.mesh_fault.Goals as goal

pub returns-then-not-header_sound : goal.returns-then-not-header_sound
returns-then-not-header_sound c = mesh_headless _ (sym c.header_sound.ensures ∙ c.if-not-header_sound.true) refl

pub dimension-requires : goal.dimension-requires
dimension-requires c = omega (arith, (header_parts _ (sym c.header_sound.ensures ∙ c.if-not-header_sound.false)).2)

pub trees-requires : goal.trees-requires
trees-requires c = omega (arith, (header_parts _ (sym c.header_sound.ensures ∙ c.if-not-header_sound.false)).2)

pub first_wrong-requires : goal.first_wrong-requires
first_wrong-requires c = rw c.trees.ensures (header_parts _ (sym c.header_sound.ensures ∙ c.if-not-header_sound.false)).2

pub returns : goal.returns
returns c =
    let header-sound = c.header_sound in
    let if1 = c.if-not-header_sound in
    let dimension = c.dimension in
    let trees = c.trees in
    mesh_searched _ dimension.ensures trees.ensures (sym header-sound.ensures ∙ if1.false) c.first_wrong.ensures
