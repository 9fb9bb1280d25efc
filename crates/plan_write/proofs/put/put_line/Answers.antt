use Rattle.plan_write.proofs.Writing.{fits_first, fits_next, put_then}
use Rattle.plan_write.specs.Moves.{line_text}
use Rattle.plan_write.specs.Means.{number_text}
use Rattle.plan_write.proofs.put.put_line.Goals as goal

pub put_word-next-requires : goal.put_word-next-requires
unfolding number_text line_text
put_word-next-requires c = fits_first _ _ c.requires.fits

pub put_number-requires : goal.put_number-requires
unfolding number_text line_text
put_number-requires c =
    let pre = c.requires in
    let put_word = c.put_word-next in
    record { small = pre.small; fits = fits_next put_word.ensures _ pre.fits }

pub returns : goal.returns
unfolding number_text line_text
returns c =
    let put_word = c.put_word-next in
    let pre = c.requires in
    let put-number = c.put_number in
    put_then put_word.ensures _ pre.fits put-number.ensures
