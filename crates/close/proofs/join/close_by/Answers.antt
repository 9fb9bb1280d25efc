use Rattle.close.proofs.Closing.{close_refused, close_short, join_room, close_done}
use Rattle.close.proofs.Joining.{numbered_read, index_read}
use Rattle.close_check.proofs.Checks.{refused_join, not_refused}
use mathlib.Core.Path.{refl, sym, ◌∙◌}
use native.Mathlib.Omega.{arith}
use Rattle.close.proofs.join.close_by.Goals as goal

pub make-requires : goal.make-requires
make-requires c =
    let ranks = c.ranks in
    let count = c.count-n in
    let ghosts = c.ghosts-ghosts in
    let ghost-slots-place = c.ghost_slots_place-at in
    let shared-slice-known = c.shared_slice_known-1 in
    let pre = c.requires in
    let trees = c.trees in
    (numbered_read _ ranks.ensures count.ensures ghosts.ensures ghost-slots-place.ensures.0 (λ i. (shared-slice-known.given i).fits) pre.0.sound trees.ensures, omega (arith, trees.ensures, pre.1), pre.2)

pub join_by-requires : goal.join_by-requires
join_by-requires c =
    let pre = c.requires in
    let ranks = c.ranks in
    let count = c.count-n in
    let ghosts = c.ghosts-ghosts in
    let ghost-slots-place = c.ghost_slots_place-at in
    let make = c.make in
    (pre.0, index_read _ ranks.ensures count.ensures ghosts.ensures ghost-slots-place.ensures.0 make.ensures, omega (arith, pre.1))

pub returns-then-not-join_by : goal.returns-then-not-join_by
returns-then-not-join_by c =
    let pre = c.requires in
    let shared-slice-known = c.shared_slice_known-1 in
    let join_by = c.join_by in
    close_refused _ _ (refused_join _ pre.0.sound pre.0.all (λ i. (shared-slice-known.given i).fits) (sym join_by.ensures ∙ c.if-not-join_by.true)) (λ e. omega arith)

pub returns-then-out-length : goal.returns-then-out-length
returns-then-out-length c =
    let pre = c.requires in
    let shared-slice-known = c.shared_slice_known-1 in
    let join_by = c.join_by in
    let if1 = c.if-not-join_by in
    let count = c.count-n in
    let ghosts = c.ghosts-ghosts in
    let ghost_at = c.ghost_at-length in
    close_short _ _ (not_refused _ pre.0.sound pre.0.all (λ i. (shared-slice-known.given i).fits) (sym join_by.ensures ∙ if1.false)) refl (λ i. (shared-slice-known.given i).fits) count.ensures ghosts.ensures ghost_at.ensures c.if-out-length.true

pub write_part-requires : goal.write_part-requires
write_part-requires c =
    let pre = c.requires in
    let shared-slice-known = c.shared_slice_known-1 in
    let join_by = c.join_by in
    let if1 = c.if-not-join_by in
    let count = c.count-n in
    let ghosts = c.ghosts-ghosts in
    let ghost_at = c.ghost_at-length in
    let if2 = c.if-out-length in
    let ranks = c.ranks in
    let ghost-slots-place = c.ghost_slots_place-at in
    let make = c.make in (
      join_room _ _ (not_refused _ pre.0.sound pre.0.all (λ i. (shared-slice-known.given i).fits) (sym join_by.ensures ∙ if1.false)) refl
          (λ i. (shared-slice-known.given i).fits) count.ensures ghosts.ensures ghost_at.ensures if2.false,
      index_read _ ranks.ensures count.ensures ghosts.ensures ghost-slots-place.ensures.0 make.ensures,
    )

pub returns : goal.returns
returns c =
    let pre = c.requires in
    let shared-slice-known = c.shared_slice_known-1 in
    let join_by = c.join_by in
    let if1 = c.if-not-join_by in
    let count = c.count-n in
    let ghosts = c.ghosts-ghosts in
    let ghost_at = c.ghost_at-length in
    let if2 = c.if-out-length in
    let write-part = c.write_part in
    close_done _ _ (not_refused _ pre.0.sound pre.0.all (λ i. (shared-slice-known.given i).fits) (sym join_by.ensures ∙ if1.false)) refl (λ i. (shared-slice-known.given i).fits) count.ensures ghosts.ensures ghost_at.ensures if2.false write-part.ensures
