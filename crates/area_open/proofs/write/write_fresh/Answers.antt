use Rattle.area_open.proofs.Opening.{open_fits, old_put, old_put_length, new_put, new_put_length, zeros_put, fresh_written}
use Rattle.offsets.proofs.Tables.{trees_high}
use lib.ListN.{length-take, length-drop}
use native.Mathlib.Omega.{arith}
use Rattle.area_open.proofs.write.write_fresh.Goals as goal

pub overflow_cast-trees : goal.overflow_cast-trees
overflow_cast-trees c =
    let shared-slice-known = c.shared_slice_known-1 in
    let pre = c.requires in
    omega (arith, c.trees-trees.ensures, trees_high _ (λ i. (shared-slice-known.given i).fits) pre.tables.old_ranks pre.tables.old_valid)

pub write_eight-requires : goal.write_eight-requires
write_eight-requires c =
    let pre = c.requires in
    let ranks = c.ranks-ranks in
    let tree_count_call = c.tree_count-count in
    let area-size = c.area_size-to in
    omega (arith, open_fits pre ranks.ensures.0 tree_count_call.ensures.0 area-size.ensures)

pub slice_bounds-copy_words-end : goal.slice_bounds-copy_words-end
slice_bounds-copy_words-end c = let f = open_fits c.requires c.ranks-ranks.ensures.0 c.tree_count-count.ensures.0 c.area_size-to.ensures in omega (arith, f.zones, f.room, c.new_place-middle.ensures.1, c.write_eight.auto.out)

pub slice_bounds-copy_words-end-2 : goal.slice_bounds-copy_words-end-2
slice_bounds-copy_words-end-2 c =
    let f = open_fits c.requires c.ranks-ranks.ensures.0 c.tree_count-count.ensures.0 c.area_size-to.ensures in
    omega (arith, f.zones, f.room, c.words_place-from.ensures.1, old_put_length _ (open_fits c.requires c.ranks-ranks.ensures.0 c.tree_count-count.ensures.0 c.area_size-to.ensures) c.new_place-middle.ensures.1 c.words_place-from.ensures.1 c.write_eight.auto.out c.copy_words.ensures)

pub copy_words-requires-2 : goal.copy_words-requires-2
copy_words-requires-2 c =
    let f = open_fits c.requires c.ranks-ranks.ensures.0 c.tree_count-count.ensures.0 c.area_size-to.ensures in
    rw (length-take, length-drop) (omega (arith, f.new_long, f.zones, f.room, c.new_place-middle.ensures.1, c.words_place-from.ensures.1, old_put_length _ (open_fits c.requires c.ranks-ranks.ensures.0 c.tree_count-count.ensures.0 c.area_size-to.ensures) c.new_place-middle.ensures.1 c.words_place-from.ensures.1 c.write_eight.auto.out c.copy_words.ensures))

pub slice_bounds-fill-count : goal.slice_bounds-fill-count
slice_bounds-fill-count c = let f = open_fits c.requires c.ranks-ranks.ensures.0 c.tree_count-count.ensures.0 c.area_size-to.ensures in omega (arith, f.zones, c.words_place-from.ensures.1)

pub slice_bounds-fill-start : goal.slice_bounds-fill-start
slice_bounds-fill-start c = let f = open_fits c.requires c.ranks-ranks.ensures.0 c.tree_count-count.ensures.0 c.area_size-to.ensures in omega (arith, f.zones, f.room, c.words_place-from.ensures.1, new_put_length _ (open_fits c.requires c.ranks-ranks.ensures.0 c.tree_count-count.ensures.0 c.area_size-to.ensures) c.new_place-middle.ensures.1 c.words_place-from.ensures.1 c.write_eight.auto.out c.copy_words.ensures c.copy_words-2.ensures)

pub returns : goal.returns
returns c =
    let f = open_fits c.requires c.ranks-ranks.ensures.0 c.tree_count-count.ensures.0 c.area_size-to.ensures in
    fresh_written _ _ _ _ _ c.requires.tables _ c.requires.room c.ranks-ranks.ensures.0 c.trees-trees.ensures c.tree_count-count.ensures.0 c.new_place-middle.ensures.0 c.words_place-from.ensures.0 c.area_size-to.ensures c.write_eight.ensures
    (old_put _ (open_fits c.requires c.ranks-ranks.ensures.0 c.tree_count-count.ensures.0 c.area_size-to.ensures) c.new_place-middle.ensures.1 c.words_place-from.ensures.1 c.write_eight.auto.out c.copy_words.ensures) (new_put _ (open_fits c.requires c.ranks-ranks.ensures.0 c.tree_count-count.ensures.0 c.area_size-to.ensures) c.new_place-middle.ensures.1 c.words_place-from.ensures.1 c.write_eight.auto.out c.copy_words.ensures c.copy_words-2.ensures)
    (zeros_put _ (open_fits c.requires c.ranks-ranks.ensures.0 c.tree_count-count.ensures.0 c.area_size-to.ensures) c.new_place-middle.ensures.1 c.words_place-from.ensures.1 c.write_eight.auto.out c.copy_words.ensures c.copy_words-2.ensures (c.fill.ensures.after (λ y p. p)))
