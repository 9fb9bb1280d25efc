use Rattle.area_open.proofs.Progressing.{ones_none, ones_more, ones_end}
use native.Mathlib.Omega.{arith}
use mathlib.Core.Path.{ap}
use Rattle.area.specs.Layout.{heard_words}
use Rattle.area_open.proofs.heard.heard_ones.Goals as goal

pub loop-word-init : goal.loop-word-init
loop-word-init c = (ones_none _, omega arith)

pub read_u64-requires : goal.read_u64-requires
read_u64-requires c =
    let pre = c.requires in
    let ranks = c.ranks-ranks in
    let words-place = c.words_place-at in
    let heard-words = c.heard_words-word-end in
    omega (arith, pre.long, ranks.ensures, words-place.ensures.1, heard-words.ensures.0, ap heard_words ranks.ensures, c.loop-word-test.true)

pub loop-word-preserved : goal.loop-word-preserved
loop-word-preserved c =
    let ranks = c.ranks-ranks in
    let words-place = c.words_place-at in
    let loop = c.loop-word in
    let read_u64 = c.read_u64 in
    (ones_more _ _ ranks.ensures words-place.ensures.0 loop.invariant.0 read_u64.ensures c.ones-heard.ensures.0, omega arith)

pub returns : goal.returns
returns c =
    let ranks = c.ranks-ranks in
    let heard-words = c.heard_words-word-end in
    let loop = c.loop-word in
    ones_end _ ranks.ensures heard-words.ensures.0 loop.auto.word-end c.loop-word-test.false loop.invariant.0
