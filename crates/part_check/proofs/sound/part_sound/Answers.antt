use Rattle.part_check.proofs.Checking.{head_laid, laid_read, sound_read, sound_none}
use native.Mathlib.Omega.{arith}
use Rattle.part_check.proofs.sound.part_sound.Goals as goal

pub returns-then-not-header_sound : goal.returns-then-not-header_sound
returns-then-not-header_sound c = sound_none _ _ _ c.header_sound.ensures (c.if-not-header_sound.true)

pub first_tree-requires : goal.first_tree-requires
first_tree-requires c =
    omega (arith, head_laid _ _ _ (λ i. (c.type_inv.table i).fits) c.requires c.header_sound.ensures c.if-not-header_sound.false)

pub tree_count-requires : goal.tree_count-requires
tree_count-requires c =
    omega (arith, head_laid _ _ _ (λ i. (c.type_inv.table i).fits) c.requires c.header_sound.ensures c.if-not-header_sound.false)

pub ghost_count-requires : goal.ghost_count-requires
ghost_count-requires c =
    omega (arith, head_laid _ _ _ (λ i. (c.type_inv.table i).fits) c.requires c.header_sound.ensures c.if-not-header_sound.false)

pub dimension-requires : goal.dimension-requires
dimension-requires c =
    omega (arith, head_laid _ _ _ (λ i. (c.type_inv.table i).fits) c.requires c.header_sound.ensures c.if-not-header_sound.false)

pub trees-requires : goal.trees-requires
trees-requires c =
    omega (arith, head_laid _ _ _ (λ i. (c.type_inv.table i).fits) c.requires c.header_sound.ensures c.if-not-header_sound.false)

pub records_sound-requires : goal.records_sound-requires
records_sound-requires c =
    let pre = c.requires in
    let header-sound = c.header_sound in
    let if1 = c.if-not-header_sound in
    let first_tree_call = c.first_tree in
    let tree_count_call = c.tree_count in
    let ghost-count = c.ghost_count in
    laid_read _ _ _ (λ i. (c.type_inv.table i).fits) pre header-sound.ensures (if1.false) first_tree_call.ensures tree_count_call.ensures ghost-count.ensures c.trees.ensures

pub returns : goal.returns
returns c =
    sound_read _ _ _ (λ i. (c.type_inv.table i).fits) c.requires c.header_sound.ensures c.if-not-header_sound.false (λ i. (c.type_inv.part i).fits) c.first_tree.ensures c.tree_count.ensures c.ghost_count.ensures c.dimension.ensures c.trees.ensures
    c.records_sound.ensures
