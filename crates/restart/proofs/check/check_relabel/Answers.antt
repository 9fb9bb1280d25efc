use Rattle.std.proofs.lemmas.Result.{err_from_is_err_and}
use Rattle.encoding.proofs.Refusals.{number_positive}
use mathlib.Core.Path.{refl}
use mathlib.Core.Path.{◌∙◌, sym}
use Rattle.restart.proofs.Checks.{pair_known, relabel_pair, relabel_part_fails, relabel_last}
use Rattle.restart.proofs.check.check_relabel.Goals as goal

pub returns-in_err-check_pair : goal.returns-in_err-check_pair
returns-in_err-check_pair c =
    let p = err_from_is_err_and c.from_residual.result c.from_residual.ensures.1 in
    rw (p.1, p.2) (relabel_pair _ _ _ _ _ c.in_err-check_pair.ensures (number_positive _))

pub part_sound-requires : goal.part_sound-requires
part_sound-requires c = (pair_known _ _ _ _ (sym c.in_ok-check_pair.ensures)).rank_is

pub returns-then-not-part_sound : goal.returns-then-not-part_sound
returns-then-not-part_sound c =
    let part_sound_call = c.part_sound in
    relabel_part_fails _ _ _ _ _ c.in_ok-check_pair.ensures refl part_sound_call.ensures (c.if-not-part_sound.true)

pub same_trees-requires : goal.same_trees-requires
same_trees-requires c = let k = pair_known _ _ _ _ (sym c.in_ok-check_pair.ensures) in (k.rank_is, k.other_is)

pub returns-then-not-same_trees : goal.returns-then-not-same_trees
returns-then-not-same_trees c =
    let part_sound_call = c.part_sound in
    let if2 = c.if-not-part_sound in
    let same_trees_call = c.same_trees in
    relabel_last _ _ _ _ _ c.in_ok-check_pair.ensures refl part_sound_call.ensures (if2.false) (sym (c.if-not-same_trees.true) ∙ same_trees_call.ensures)

pub returns : goal.returns
returns c =
    let part_sound_call = c.part_sound in
    let if2 = c.if-not-part_sound in
    let same_trees_call = c.same_trees in
    relabel_last _ _ _ _ _ c.in_ok-check_pair.ensures refl part_sound_call.ensures (if2.false) (sym (c.if-not-same_trees.false) ∙ same_trees_call.ensures)
