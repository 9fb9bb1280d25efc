use Rattle.std.proofs.lemmas.Result.{err_from_is_err_and}
use Rattle.encoding.proofs.Refusals.{number_positive}
use mathlib.Core.Path.{refl}
use mathlib.Core.Path.{sym}
use Rattle.restart.specs.Calls.{relabel_part}
use Rattle.restart.proofs.Writing.{splice_front, part_long, part_words, relabelled_length, relabel_written}
use Rattle.restart.proofs.Checks.{relabel_numbered, relabel_known}
use Rattle.restart.proofs.Answers.{write_refused, write_short, write_done}
use lib.ListN.{length-take}
use native.Mathlib.Omega.{arith}
use borrow.Author.Rules.{rules}
use Rattle.restart.proofs.relabel_part.Goals as goal

pub returns-in_err-check_relabel : goal.returns-in_err-check_relabel
unfolding relabel_part
returns-in_err-check_relabel c =
    let p = err_from_is_err_and c.from_residual.result c.from_residual.ensures.1 in
    rw (p.1, p.2) (write_refused _ _ _ _ c.in_err-check_relabel.ensures refl (number_positive _))

pub returns-then-out-part : goal.returns-then-out-part
unfolding relabel_part
returns-then-out-part c =
    let if2 = c.if-out-part in
    write_short _ _ _ _ c.in_ok-check_relabel.ensures refl (relabel_numbered _ _ _ _ _) refl if2.true

pub copy_words-requires : goal.copy_words-requires
copy_words-requires c =
    let k = relabel_known _ _ _ _ _ (sym c.in_ok-check_relabel.ensures) in
    let w = (part_words _ _ _ k.is_sound).whole in
    (w, rw length-take (omega (arith, w, c.if-out-part.false)))

pub ranks-requires : goal.ranks-requires
ranks-requires c =
    (relabel_known _ _ _ _ _ (sym c.in_ok-check_relabel.ensures)).pair_is.other_is.counted

pub write_u32-requires : goal.write_u32-requires
write_u32-requires c =
    let k = relabel_known _ _ _ _ _ (sym c.in_ok-check_relabel.ensures) in let w = part_long _ _ _ k.is_sound in search rules

pub write_u32-requires-2 : goal.write_u32-requires-2
write_u32-requires-2 c =
    let k = relabel_known _ _ _ _ _ (sym c.in_ok-check_relabel.ensures) in let w = part_long _ _ _ k.is_sound in search rules

pub returns : goal.returns
unfolding relabel_part
returns c =
    let k = relabel_known _ _ _ _ _ (sym c.in_ok-check_relabel.ensures) in
    let w = part_long _ _ _ k.is_sound in
    write_done _ _ _ _ c.in_ok-check_relabel.ensures refl (relabel_numbered _ _ _ _ _) c.if-out-part.false (sym (relabelled_length _ _ _ w))
    (relabel_written _ _ _ _ w c.if-out-part.false c.ranks.ensures.0 (splice_front _ _ c.copy_words.ensures) c.write_u32.ensures c.write_u32-2.ensures)
