use Rattle.encoding.proofs.Numbers.{four_stores}
use lib.ListN.{length-set}
use Prim.Native.Nat.{◌/◌}
use mathlib.Core.Path.{◌≡◌}
use native.Mathlib.Omega.{arith}
use Rattle.encoding.proofs.bytes.write_u32.Goals as goal

pub bounds-bs-at-2 : goal.bounds-bs-at-2
bounds-bs-at-2 c = simp length-set (omega arith)

pub bounds-bs-at-3 : goal.bounds-bs-at-3
bounds-bs-at-3 c = simp length-set (omega arith)

pub bounds-bs-at-4 : goal.bounds-bs-at-4
bounds-bs-at-4 c = simp length-set (omega arith)

pub returns : goal.returns
returns c =
    let v = c.args.v in
    let e2 : v / 65536 ≡ v / 256 / 256 = omega arith in
    let e3 : v / 16777216 ≡ v / 256 / 256 / 256 = omega arith in
    rw (c.to_le_bytes.ensures, e2, e3) (four_stores _ _ v c.requires)
