use Rattle.area.proofs.Headers.{word_below}
use Rattle.area_check.proofs.Checking.{word_none, word_fail, word_pass}
use Rattle.encoding.proofs.Below.{all_more}
use Rattle.encoding.specs.Below.{all_below}
use mathlib.Core.Path.{sym, ◌∙◌}
use native.Mathlib.Omega.{arith}
use borrow.Author.Rules.{rules}
use Rattle.area_check.proofs.sound.word_sound.Goals as goal

pub returns-then-read_u64-eq0 : goal.returns-then-read_u64-eq0
returns-then-read_u64-eq0 c = word_none _ _ c.ranks.ensures c.words_place.ensures.0 c.read_u64.ensures c.if-read_u64-eq0.true

pub loop-b-init : goal.loop-b-init
unfolding all_below
loop-b-init c = search rules

pub overflow_mul-w : goal.overflow_mul-w
overflow_mul-w c = omega (arith, word_below _ _ c.requires.1)

pub overflow_add-w : goal.overflow_add-w
overflow_add-w c = omega (arith, word_below _ _ c.requires.1, c.loop-b-test.true)

pub returns-then-not-bit_sound : goal.returns-then-not-bit_sound
returns-then-not-bit_sound c = word_fail _ _ _ c.loop-b-test.true c.bit_sound.ensures (c.if-not-bit_sound.true)

pub loop-b-preserved : goal.loop-b-preserved
loop-b-preserved c = all_more _ _ c.loop-b.invariant (sym c.bit_sound.ensures ∙ c.if-not-bit_sound.false)

pub returns : goal.returns
returns c = word_pass _ _ c.loop-b.auto.b-end c.loop-b-test.false c.loop-b.invariant
