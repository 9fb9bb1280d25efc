use Rattle.std.proofs.lemmas.Result.{err_from_is_err_and}
use Rattle.message.proofs.Reading.{reading_refused, checked_layout, reading_begins}
use Rattle.message.proofs.Layouts.{size_length, layout_size}
use native.Mathlib.Omega.{arith}
use Rattle.message.proofs.begin_reading.Goals as goal

pub returns-in_err-check_message : goal.returns-in_err-check_message
returns-in_err-check_message c =
    let p = err_from_is_err_and c.from_residual.result c.from_residual.ensures.1 in
    rw (p.1, p.2) (reading_refused c.args.message.now _ c.in_err-check_message.ensures)

pub tree_count-trees-requires : goal.tree_count-trees-requires
tree_count-trees-requires c = omega (arith, size_length _ (layout_size _ (checked_layout _ c.in_ok-check_message.ensures)))

pub ghost_count-ghosts-requires : goal.ghost_count-ghosts-requires
ghost_count-ghosts-requires c = omega (arith, size_length _ (layout_size _ (checked_layout _ c.in_ok-check_message.ensures)))

pub returns : goal.returns
returns c = reading_begins _ (checked_layout _ c.in_ok-check_message.ensures) c.tree_count-trees.ensures c.ghost_count-ghosts.ensures
