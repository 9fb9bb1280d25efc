use Rattle.std.proofs.lemmas.List.{drop-drop}
use Rattle.encoding.specs.Pieces.{splice}
use borrow.Rule.Slice.PartMut.{put_mid}
use lib.ListN.{length, take}
use native.Mathlib.Omega.{arith}
use mathlib.Core.List.{List, ◌++◌}
use mathlib.Core.Path.{◌≡◌, refl, ap}
use Prim.Native.Nat.{ℕ, ◌+◌, ◌-◌}
use Rattle.plan_write.proofs.put.put_word.Goals as goal

-- a word copied into its place
copied : (out word : List ℕ) (at : ℕ) → put_mid at (at + length word - at) out word ≡ splice out at word
unfolding splice
copied out word at =
    let k : at + length word - at ≡ length word = omega arith in
    ap (λ (r : List ℕ). take at out ++ (word ++ r)) (rw k (drop-drop (length word) at out))

pub returns : goal.returns
returns c = record { wrote = rw (c.copy_from_slice.ensures.after) (copied c.args.out.now c.args.word.now c.args.at); behind = refl }
