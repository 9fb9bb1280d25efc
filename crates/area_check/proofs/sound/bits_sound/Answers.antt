use Rattle.area_check.proofs.Checking.{bits_fail, bits_pass}
use Rattle.encoding.proofs.Below.{all_more}
use Rattle.encoding.specs.Below.{all_below}
use Rattle.area.specs.Layout.{heard_words}
use native.Mathlib.Omega.{arith}
use mathlib.Core.Path.{sym, ap, ◌∙◌}
use borrow.Author.Rules.{rules}
use Rattle.area_check.proofs.sound.bits_sound.Goals as goal

pub loop-w-init : goal.loop-w-init
unfolding all_below
loop-w-init c = search rules

pub word_sound-requires : goal.word_sound-requires
word_sound-requires c =
    let pre = c.requires in
    let ranks = c.ranks in
    let heard-words = c.heard_words-w-end in
    (pre, omega (arith, ap heard_words ranks.ensures, heard-words.ensures.0, c.loop-w-test.true))

pub returns-then-not-word_sound : goal.returns-then-not-word_sound
returns-then-not-word_sound c =
    let ranks = c.ranks in
    let heard-words = c.heard_words-w-end in
    let loop-test = c.loop-w-test in
    let word_sound_call = c.word_sound in
    bits_fail _ ranks.ensures heard-words.ensures.0 loop-test.true (sym word_sound_call.ensures ∙ c.if-not-word_sound.true)

pub loop-w-preserved : goal.loop-w-preserved
loop-w-preserved c = all_more _ _ c.loop-w.invariant (sym c.word_sound.ensures ∙ c.if-not-word_sound.false)

pub returns : goal.returns
returns c =
    let ranks = c.ranks in
    let heard-words = c.heard_words-w-end in
    let loop = c.loop-w in
    bits_pass _ ranks.ensures heard-words.ensures.0 loop.auto.w-end c.loop-w-test.false loop.invariant
