use Rattle.area.proofs.Tabled.{tabled_pair}
use Rattle.area_check.proofs.Checking.{bit_silent, bit_past, bit_read}
use native.Mathlib.Omega.{arith}
use Rattle.area_check.proofs.sound.bit_sound.Goals as goal

pub returns-then-not-heard : goal.returns-then-not-heard
returns-then-not-heard c = bit_silent c.requires.0 _ c.heard.ensures (c.if-not-heard.true)

pub returns-then-ranks-s : goal.returns-then-ranks-s
returns-then-ranks-s c =
    let pre = c.requires in
    let heard = c.heard in
    let if1 = c.if-not-heard in
    let ranks = c.ranks in
    bit_past pre.0 _ heard.ensures (if1.false) ranks.ensures c.if-ranks-s.true

pub sends_some-requires : goal.sends_some-requires
sends_some-requires c =
    let pre = c.requires in
    let ranks = c.ranks in
    let if2 = c.if-ranks-s in
    tabled_pair pre.0 (omega (arith, ranks.ensures, if2.false)) c.rank.ensures

pub returns : goal.returns
returns c =
    let pre = c.requires in
    let heard = c.heard in
    let if1 = c.if-not-heard in
    let ranks = c.ranks in
    let if2 = c.if-ranks-s in
    let rank = c.rank in
    bit_read pre.0 _ heard.ensures (if1.false) ranks.ensures if2.false rank.ensures c.sends_some.ensures
