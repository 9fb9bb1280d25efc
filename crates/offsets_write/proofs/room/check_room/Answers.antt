use mathlib.Core.Path.{◌≡◌}
use mathlib.Core.Bool.{true, false}
use lib.Dec.{leb}
use lib.ListN.{length}
use native.Mathlib.Omega.{arith}
use borrow.Author.Tests.{lt-leb, le-leb}
use Rattle.offsets.specs.Table.{table_length}
use Rattle.offsets_write.proofs.room.check_room.Goals as goal

pub returns-then-out-n : goal.returns-then-out-n
returns-then-out-n c =
    let t : leb (table_length c.args.ranks) (length c.args.out.now) ≡ false = lt-leb _ _ (omega (arith, c.length-n.ensures)) in
    (rw t, tt)

pub returns : goal.returns
returns c =
    let t : leb (table_length c.args.ranks) (length c.args.out.now) ≡ true = le-leb _ _ (omega (arith, c.length-n.ensures)) in
    (rw t, c.length-n.ensures)
