use Rattle.pattern.proofs.Laws.{walk_start, walk_below, walk_above, walk_more, walk_ends}
use Rattle.offsets.proofs.OnePass.{ranks_known}
use mathlib.Core.Path.{sym, ◌∙◌}
use native.Mathlib.Omega.{arith}
use Rattle.pattern.proofs.holder.sender.Goals as goal

pub ranks-end-requires : goal.ranks-end-requires
ranks-end-requires c = c.requires.0.ranks_fit

pub loop-d-init : goal.loop-d-init
loop-d-init c = walk_start _ _ _ (λ i. (c.shared_slice_known-1.given i).fits) c.requires _ (omega arith)

pub overflow_sub-result : goal.overflow_sub-result
overflow_sub-result c =
    let shared-slice-known = c.shared_slice_known-1 in
    let pre = c.requires in
    let ranks = c.ranks-end in
    let loop = c.loop-d in
    let loop-test = c.loop-d-test in
    let holds-below = c.holds_below in
    (walk_below _ _ _ (λ i. (shared-slice-known.given i).fits) pre _ _ ranks.ensures.0 loop.invariant loop-test.true (sym holds-below.ensures ∙ c.if-holds_below.true)).0

pub returns-then-holds_below : goal.returns-then-holds_below
returns-then-holds_below c =
    let shared-slice-known = c.shared_slice_known-1 in
    let pre = c.requires in
    let ranks = c.ranks-end in
    let loop = c.loop-d in
    let loop-test = c.loop-d-test in
    let holds-below = c.holds_below in
    ((walk_below _ _ _ (λ i. (shared-slice-known.given i).fits) pre _ _ ranks.ensures.0 loop.invariant loop-test.true (sym holds-below.ensures ∙ c.if-holds_below.true)).1, omega (arith, (ranks_known _ pre.0.ranks_fit).high, pre.1))

pub overflow_add-result : goal.overflow_add-result
overflow_add-result c =
    let shared-slice-known = c.shared_slice_known-1 in
    let pre = c.requires in
    let ranks = c.ranks-end in
    let loop = c.loop-d in
    let loop-test = c.loop-d-test in
    let holds-below = c.holds_below in
    let if1 = c.if-holds_below in
    let holds-above = c.holds_above in
    omega (arith, (walk_above _ _ _ (λ i. (shared-slice-known.given i).fits) pre _ _ ranks.ensures.0 loop.invariant loop-test.true (sym holds-below.ensures ∙ if1.false) (sym holds-above.ensures ∙ c.if-holds_above.true)).0, ranks.ensures.1.1)

pub returns-then-holds_above : goal.returns-then-holds_above
returns-then-holds_above c =
    let shared-slice-known = c.shared_slice_known-1 in
    let pre = c.requires in
    let ranks = c.ranks-end in
    let loop = c.loop-d in
    let loop-test = c.loop-d-test in
    let holds-below = c.holds_below in
    let if1 = c.if-holds_below in
    let holds-above = c.holds_above in
    let w = walk_above _ _ _ (λ i. (shared-slice-known.given i).fits) pre _ _ ranks.ensures.0 loop.invariant loop-test.true (sym holds-below.ensures ∙ if1.false) (sym holds-above.ensures ∙ c.if-holds_above.true) in (w.1, omega (arith, ranks.ensures.1.1))

pub loop-d-preserved : goal.loop-d-preserved
loop-d-preserved c =
    let shared-slice-known = c.shared_slice_known-1 in
    let pre = c.requires in
    let ranks = c.ranks-end in
    let loop = c.loop-d in
    let loop-test = c.loop-d-test in
    let holds-below = c.holds_below in
    let if1 = c.if-holds_below in
    let holds-above = c.holds_above in
    walk_more _ _ _ (λ i. (shared-slice-known.given i).fits) pre _ _ ranks.ensures.0 loop.invariant loop-test.true (sym holds-below.ensures ∙ if1.false) (sym holds-above.ensures ∙ c.if-holds_above.false)

pub returns : goal.returns
returns c =
    let shared-slice-known = c.shared_slice_known-1 in
    let pre = c.requires in
    let ranks = c.ranks-end in
    let loop = c.loop-d in
    absurd (walk_ends _ _ _ (λ i. (shared-slice-known.given i).fits) pre _ _ ranks.ensures.0 loop.invariant c.loop-d-test.false)
