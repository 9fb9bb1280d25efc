use Rattle.leaf_shares.specs.Leaves.{leaves_ok}
use Rattle.encoding.specs.Below.{all_below}
use native.Mathlib.Omega.{arith}
use native.Mathlib.Numerals.{add-one}
use mathlib.Core.Bool.{Bool, ◌&&◌}
use mathlib.Core.Path.{◌≡◌, sym, ◌∙◌, refl}
use lib.ListN.{length}
use Prim.Native.Nat.{ℕ, ◌+◌}
use Rattle.leaf_shares.proofs.counts.leaves_ok.Goals as goal

-- one count more
one_more : (i : ℕ) (f : ℕ → Bool) {ok next : Bool} → ok ≡ all_below i f → next ≡ f i → (ok && next) ≡ all_below (i + 1) f
unfolding all_below
one_more i f e h = rw (add-one, e, h)

pub returns-then-not-tree_count_ok : goal.returns-then-not-tree_count_ok
unfolding leaves_ok
returns-then-not-tree_count_ok c = rw (sym c.tree_count_ok.ensures ∙ c.if-not-tree_count_ok.true)

pub loop-x-init : goal.loop-x-init
unfolding all_below
loop-x-init c = refl

pub loop-x-preserved : goal.loop-x-preserved
loop-x-preserved c = one_more _ _ c.loop-x.invariant c.count_ok-ok.ensures

pub returns : goal.returns
unfolding leaves_ok
returns c =
    let e : c.loop-x.x-index ≡ length c.args.leaves.now = omega arith in
    rw (sym c.tree_count_ok.ensures ∙ c.if-not-tree_count_ok.false, sym e) c.loop-x.invariant
