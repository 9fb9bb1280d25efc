use Rattle.columns_check.proofs.Finding.{found_none, found_all, numbered_all}
use Rattle.columns_check.proofs.sound.records_sound.Goals as goal

pub returns-then-not-ghost_numbers-tree_heads : goal.returns-then-not-ghost_numbers-tree_heads
returns-then-not-ghost_numbers-tree_heads c = found_none _ _ _ _ _ _ c.ghost_numbers.ensures c.tree_heads.ensures (c.if-not-ghost_numbers-tree_heads.true)

pub all_links_sound-requires : goal.all_links_sound-requires
all_links_sound-requires c =
    let ghost-numbers = c.ghost_numbers in
    let tree-heads = c.tree_heads in
    let if1 = c.if-not-ghost_numbers-tree_heads in
    let pre = c.requires in
    numbered_all _ _ _ _ _ _ ghost-numbers.ensures tree-heads.ensures (if1.false) pre

pub returns : goal.returns
returns c =
    let ghost-numbers = c.ghost_numbers in
    let tree-heads = c.tree_heads in
    let if1 = c.if-not-ghost_numbers-tree_heads in
    let ghost-heads = c.ghost_heads in
    found_all _ _ _ _ _ _ ghost-numbers.ensures tree-heads.ensures (if1.false) ghost-heads.ensures c.all_links_sound.ensures
