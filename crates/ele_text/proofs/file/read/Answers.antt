use lib.Dec.{eqb}
use Prim.Native.Nat.{◌+◌}
use mathlib.Core.Path.{refl}
use Rattle.encoding.proofs.Below.{and_snd}
use Rattle.ele_text.proofs.Files.{text_accepted, text_refused}
use Rattle.ele_text.proofs.Storing.{gone_accepted, gone_refused, gone_broken, gone_over, gone_on}
use borrow.Author.Rules.{rules}
use Rattle.ele_text.proofs.file.read.Goals as goal

pub returns-then-at-e : goal.returns-then-at-e
returns-then-at-e c =
    let loop = c.loop-f in
    text_accepted _ _ _ loop.invariant.within (and_snd (eqb loop.at (loop.at + c.until_either.result)) _ c.if-at-e.true) (gone_accepted _ _ _ _ _ _ loop.invariant c.until_either.ensures.0 c.if-e-text.true c.if-at-e.true)

pub returns-then-e-text : goal.returns-then-e-text
returns-then-e-text c = text_refused _ c.loop-f.vertices (gone_refused _ _ _ _ _ _ c.loop-f.invariant c.until_either.ensures.0 c.if-e-text.true c.if-at-e.false)

pub returns-in_err-r : goal.returns-in_err-r
returns-in_err-r c = rw c.from_residual.ensures (text_refused _ c.loop-f.vertices (gone_broken _ _ _ _ _ _ c.loop-f.invariant c.until_either.ensures.0 c.if-e-text.false c.in_err-r.ensures refl))

pub returns-in_err-f : goal.returns-in_err-f
returns-in_err-f c =
    rw c.from_residual-in_err-f.ensures (text_refused _ c.with_row.new.vertices (gone_over _ _ _ _ _ _ c.loop-f.invariant c.until_either.ensures.0 c.if-e-text.false c.in_ok-r.ensures _ refl c.in_err-f.ensures))

pub loop-f-preserved : goal.loop-f-preserved
loop-f-preserved c =
    gone_on _ _ _ _ _ _ c.loop-f.invariant c.until_either.ensures.0 c.if-e-text.false c.in_ok-r.ensures _ refl c.in_ok-f.ensures (search rules)
