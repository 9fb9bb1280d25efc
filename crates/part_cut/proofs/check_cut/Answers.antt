use native.Mathlib.Omega.{arith}
use mathlib.Core.Path.{refl, sym, ◌∙◌}
use Rattle.std.proofs.lemmas.Result.{err_from_is_err_and}
use Rattle.encoding.proofs.Refusals.{refused_first}
use Rattle.mesh.proofs.Soundness.{sound_length}
use Rattle.part_cut.specs.Calls.{cut_checks}
use Rattle.part_cut.proofs.Checks.{fails_sound, fails_trees, none_fails}
use Rattle.part.proofs.Checks.{rank_known}
use Rattle.part_cut.proofs.check_cut.Goals as goal

pub returns-in_err-check_rank : goal.returns-in_err-check_rank
unfolding cut_checks
returns-in_err-check_rank c =
    let p = err_from_is_err_and c.from_residual.result c.from_residual.ensures.1 in
    rw (p.1, p.2) (refused_first _ _ _ c.in_err-check_rank.ensures)

pub returns-then-not-sound : goal.returns-then-not-sound
returns-then-not-sound c = fails_sound _ _ c.in_ok-check_rank.ensures _ refl c.sound.ensures c.if-not-sound.true

pub trees-requires : goal.trees-requires
trees-requires c = omega (arith, sound_length _ (sym c.sound.ensures ∙ c.if-not-sound.false))

pub trees-requires-2 : goal.trees-requires-2
trees-requires-2 c = (rank_known _ _ c.in_ok-check_rank.ensures refl).counted

pub returns-then-trees : goal.returns-then-trees
returns-then-trees c = fails_trees _ _ c.in_ok-check_rank.ensures _ refl c.sound.ensures c.if-not-sound.false c.trees.ensures c.trees-2.ensures c.if-trees.true

pub returns : goal.returns
returns c = none_fails _ _ c.in_ok-check_rank.ensures _ refl c.sound.ensures c.if-not-sound.false c.trees.ensures c.trees-2.ensures c.if-trees.false
