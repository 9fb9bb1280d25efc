use mathlib.Core.Path.{sym, ◌∙◌}
use native.Mathlib.Omega.{arith}
use Rattle.mesh.proofs.Checking.{sound_read}
use Rattle.mesh.proofs.Soundness.{header_parts}
use Rattle.mesh.specs.Mesh.{mesh_sound}
use Rattle.mesh.proofs.sound.sound.Goals as goal

pub returns-then-not-header_sound : goal.returns-then-not-header_sound
unfolding mesh_sound
returns-then-not-header_sound c = simp (← c.header_sound.ensures, c.if-not-header_sound.true)

pub dimension-requires : goal.dimension-requires
dimension-requires c = omega (arith, (header_parts _ (sym c.header_sound.ensures ∙ c.if-not-header_sound.false)).2)

pub trees-requires : goal.trees-requires
trees-requires c = omega (arith, (header_parts _ (sym c.header_sound.ensures ∙ c.if-not-header_sound.false)).2)

pub trees_sound-requires : goal.trees_sound-requires
trees_sound-requires c = rw c.trees.ensures (header_parts _ (sym c.header_sound.ensures ∙ c.if-not-header_sound.false)).2

pub returns : goal.returns
returns c =
    let header-sound = c.header_sound in
    let if1 = c.if-not-header_sound in
    let dimension = c.dimension in
    let trees = c.trees in
    sound_read _ (sym header-sound.ensures ∙ if1.false) dimension.ensures trees.ensures c.trees_sound.ensures
