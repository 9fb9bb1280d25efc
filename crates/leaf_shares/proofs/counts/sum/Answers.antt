use native.Mathlib.Nat.{add_assoc}
use Rattle.std.proofs.lemmas.List.{length-take, length-drop, get_or-take, get_or-drop}
use Rattle.leaf_shares.proofs.LeafCounts.{start_more, start_bound}
use Rattle.leaf_shares.specs.Leaves.{leaf_start}
use native.Mathlib.Omega.{arith}
use mathlib.Core.Path.{◌≡◌}
use mathlib.Core.List.{List}
use lib.ListN.{length, take, drop, get_or}
use Prim.Native.Nat.{ℕ, ◌+◌, ◌-◌, ◌≤◌, ◌<◌}
use Rattle.leaf_shares.proofs.counts.sum.Goals as goal

-- how many counts are summed
part_length : (ls : List ℕ) (a b : ℕ) → a ≤ b → b ≤ length ls → length (take (b - a) (drop a ls)) ≡ b - a
part_length ls a b h k = omega (arith, length-take (b - a) (drop a ls), length-drop a ls)

-- one more of them
part_more : (ls : List ℕ) (a b i : ℕ) → i < b - a → leaf_start ls (a + (i + 1)) ≡ leaf_start ls (a + i) + get_or (take (b - a) (drop a ls)) i 0
part_more ls a b i h = rw (get_or-take (b - a) (drop a ls) i 0 h, get_or-drop a ls i 0, ← add_assoc a i 1) (start_more ls (a + i))

pub overflow_add-n : goal.overflow_add-n
overflow_add-n c =
    let ls = c.args.leaves.now in
    let from = c.args.from in
    let to = c.args.to in
    let i = c.loop-x.x-index in
    let l = part_length ls from to c.requires.1 c.requires.2 in
    omega (arith, l, c.loop-x.invariant, part_more ls from to i (omega arith), start_bound ls c.requires.0 (from + (i + 1)) (omega arith))

pub loop-x-preserved : goal.loop-x-preserved
loop-x-preserved c =
    let ls = c.args.leaves.now in
    let from = c.args.from in
    let to = c.args.to in
    let i = c.loop-x.x-index in
    let l = part_length ls from to c.requires.1 c.requires.2 in
    omega (arith, c.loop-x.invariant, part_more ls from to i (omega arith))

pub returns : goal.returns
returns c =
    let l = part_length c.args.leaves.now c.args.from c.args.to c.requires.1 c.requires.2 in
    let e : c.args.from + c.loop-x.x-index ≡ c.args.to = omega arith in
    rw e at c.loop-x.invariant
