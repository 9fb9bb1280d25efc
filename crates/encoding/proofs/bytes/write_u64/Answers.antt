use Rattle.encoding.specs.Numbers.{put_u32}
use mathlib.Core.List.{List}
use Prim.Native.Nat.{◌+◌, ◌/◌, ℕ}
use Rattle.encoding.proofs.Numbers.{put_add}
use mathlib.Core.Path.{◌∙◌, ap}
use native.Mathlib.Omega.{arith}
use Rattle.encoding.proofs.bytes.write_u64.Goals as goal

pub returns : goal.returns
returns c =
    let write-u322 = c.write_u32-2 in
    let args = c.args in
    let write-u32 = c.write_u32 in
    write-u322.ensures ∙ (ap (λ (l : List ℕ). put_u32 l (args.at + 4) (args.v / 4294967296)) write-u32.ensures ∙ put_add 4 4 args.bs.now args.at args.v (omega arith))
