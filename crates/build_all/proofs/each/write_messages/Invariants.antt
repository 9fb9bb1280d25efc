use Rattle.build_all.proofs.Rows.{Writing}
use lib.ListN.{length}
use mathlib.Core.Path.{◌≡◌}
use Prim.Native.Nat.{◌^◌, ◌<◌}
use Rattle.build_all.proofs.each.write_messages.Given as goal

abbrev pub invariant-loop-q : goal.invariant-loop-q
invariant-loop-q l = (length l.initial.out < 2 ^ 64) × ((length l.marks ≡ length l.initial.marks) × Writing l.from.part.now l.from.old.now l.from.new.now l.from.rank l.epoch l.initial.out l.out l.at l.q)
