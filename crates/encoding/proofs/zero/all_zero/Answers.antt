use Rattle.encoding.proofs.Words.{block_more, block_fails}
use Rattle.encoding.proofs.Below.{all_more, all_fails, all_to}
use borrow.Author.Tests.{eq-eqb, ne_eqb}
use native.Mathlib.Omega.{arith}
use Rattle.encoding.specs.Words.{all_zero}
use Rattle.encoding.specs.Below.{all_below}
use Prim.Native.Nat.{◌+◌, ◌*◌, ◌/◌}
use lib.ListN.{length}
use mathlib.Core.Path.{◌≡◌, sym, ◌∙◌}
use borrow.Author.Rules.{rules}
use Rattle.encoding.proofs.zero.all_zero.Goals as goal

pub loop-block-init : goal.loop-block-init
unfolding all_below
loop-block-init c = search rules

pub returns-then-not-zero64 : goal.returns-then-not-zero64
unfolding all_zero
returns-then-not-zero64 c = sym (block_fails 64 _ _ _ (omega arith) (sym c.zero64.ensures ∙ c.if-not-zero64.true))

pub loop-block-preserved : goal.loop-block-preserved
loop-block-preserved c =
    let e : 64 * c.loop-block.block + 64 ≡ 64 * (c.loop-block.block + 1) = omega arith in
    rw e at (block_more 64 _ _ c.loop-block.invariant (sym c.zero64.ensures ∙ c.if-not-zero64.false))

pub loop-i-init : goal.loop-i-init
loop-i-init c =
    let e : c.loop-block.block ≡ length c.args.bs.now / 64 = omega arith in
    rw e at c.loop-block.invariant

pub returns-then-bs-i-ne0 : goal.returns-then-bs-i-ne0
unfolding all_zero
returns-then-bs-i-ne0 c = sym (all_fails _ _ _ (omega arith) (ne_eqb _ _ c.if-bs-i-ne0.true))

pub loop-i-preserved : goal.loop-i-preserved
loop-i-preserved c = all_more _ _ c.loop-i.invariant (eq-eqb _ _ c.if-bs-i-ne0.false)

pub returns : goal.returns
unfolding all_zero
returns c = sym (all_to _ _ _ (omega arith) (omega arith) c.loop-i.invariant)
