use Prim.Native.Nat.{◌*◌, ◌%◌}
use mathlib.Core.Path.{◌≡◌}
use native.Mathlib.Omega.{arith}
use Rattle.mesh_build.proofs.Records.{half_bytes}
use Rattle.mesh_build.proofs.write.pair.Goals as goal

pub returns : goal.returns
returns c =
    let shifted : (c.args.high * 4294967296) % 18446744073709551616 ≡ 4294967296 * c.args.high = omega arith in
    rw shifted (half_bytes c.args.low c.args.high (omega arith))
