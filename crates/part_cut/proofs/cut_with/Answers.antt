use Rattle.part_cut.proofs.Parts.{found_long, part_room, part_cut, cut_short, cut_done}
use Rattle.part_cut.proofs.Marking.{cut_space, space_known}
use mathlib.Core.Path.{refl, sym}
use Rattle.part_cut.proofs.cut_with.Goals as goal

pub measure-part-requires : goal.measure-part-requires
measure-part-requires g c = cut_space c.requires

pub returns-then-out-n : goal.returns-then-out-n
returns-then-out-n g c =
    let pre = cut_space c.requires in
    let measure = c.measure-part in
    let ghost_at = c.ghost_at-n in
    cut_short _ _ _ _ (sym pre.checked) refl (found_long pre (λ i. (c.type_inv.table i).fits) measure.ensures ghost_at.ensures) c.if-out-n.true

pub ranks-ranks-requires : goal.ranks-ranks-requires
ranks-ranks-requires g c =
    let pre = cut_space c.requires in
    (space_known pre (λ i. (c.type_inv.table i).fits)).table_ranks

pub write-requires : goal.write-requires
write-requires g c =
    let pre = cut_space c.requires in
    let measure = c.measure-part in
    let ghost_at = c.ghost_at-n in
    let if1 = c.if-out-n in
    part_room pre (λ i. (c.type_inv.table i).fits) measure.ensures _ ghost_at.ensures if1.false

pub returns : goal.returns
returns g c =
    let pre = cut_space c.requires in
    let measure = c.measure-part in
    let ghost_at = c.ghost_at-n in
    let if1 = c.if-out-n in
    let ranks = c.ranks-ranks in
    let write = c.write in
    cut_done _ _ _ _ (sym pre.checked) refl (found_long pre (λ i. (c.type_inv.table i).fits) measure.ensures ghost_at.ensures) if1.false (part_cut pre (λ i. (c.type_inv.table i).fits) measure.ensures _ ranks.ensures.0 write.ensures)
