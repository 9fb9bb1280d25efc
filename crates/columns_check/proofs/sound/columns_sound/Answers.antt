use native.Mathlib.Omega.{arith}
use Rattle.columns_check.proofs.Accepting.{columns_none, columns_read}
use Rattle.part_check.proofs.Checking.{head_laid, laid_read}
use Rattle.columns_check.proofs.sound.columns_sound.Goals as goal

pub returns-then-not-header_sound : goal.returns-then-not-header_sound
returns-then-not-header_sound c = columns_none _ _ _ c.header_sound.ensures (c.if-not-header_sound.true)

pub first_tree-requires : goal.first_tree-requires
first_tree-requires c =
    let pre = c.requires in
    let header-sound = c.header_sound in
    omega (arith, head_laid _ _ _ (λ i. (c.type_inv.table i).fits) pre header-sound.ensures (c.if-not-header_sound.false))

pub tree_count-requires : goal.tree_count-requires
tree_count-requires c =
    let pre = c.requires in
    let header-sound = c.header_sound in
    let if1 = c.if-not-header_sound in
    omega (arith, head_laid _ _ _ (λ i. (c.type_inv.table i).fits) pre header-sound.ensures (if1.false))

pub ghost_count-requires : goal.ghost_count-requires
ghost_count-requires c =
    let pre = c.requires in
    let header-sound = c.header_sound in
    let if1 = c.if-not-header_sound in
    omega (arith, head_laid _ _ _ (λ i. (c.type_inv.table i).fits) pre header-sound.ensures (if1.false))

pub dimension-requires : goal.dimension-requires
dimension-requires c =
    let pre = c.requires in
    let header-sound = c.header_sound in
    let if1 = c.if-not-header_sound in
    omega (arith, head_laid _ _ _ (λ i. (c.type_inv.table i).fits) pre header-sound.ensures (if1.false))

pub trees-requires : goal.trees-requires
trees-requires c =
    let pre = c.requires in
    let header-sound = c.header_sound in
    let if1 = c.if-not-header_sound in
    omega (arith, head_laid _ _ _ (λ i. (c.type_inv.table i).fits) pre header-sound.ensures (if1.false))

pub records_sound-requires : goal.records_sound-requires
records_sound-requires c =
    let pre = c.requires in
    let header-sound = c.header_sound in
    let if1 = c.if-not-header_sound in
    let first_tree_call = c.first_tree in
    let tree_count_call = c.tree_count in
    let ghost-count = c.ghost_count in
    laid_read _ _ _ (λ i. (c.type_inv.table i).fits) pre header-sound.ensures (if1.false) first_tree_call.ensures tree_count_call.ensures ghost-count.ensures c.trees.ensures

pub returns : goal.returns
returns c =
    let header-sound = c.header_sound in
    let if1 = c.if-not-header_sound in
    let pre = c.requires in
    let first_tree_call = c.first_tree in
    let tree_count_call = c.tree_count in
    let ghost-count = c.ghost_count in
    let dimension = c.dimension in
    let trees = c.trees in
    columns_read _ _ _ header-sound.ensures (if1.false) (λ i. (c.type_inv.file i).fits) (λ i. (c.type_inv.table i).fits) pre first_tree_call.ensures
    tree_count_call.ensures ghost-count.ensures dimension.ensures trees.ensures
    (laid_read _ _ _ (λ i. (c.type_inv.table i).fits) pre header-sound.ensures (if1.false) first_tree_call.ensures tree_count_call.ensures ghost-count.ensures trees.ensures).within
    c.records_sound.ensures
