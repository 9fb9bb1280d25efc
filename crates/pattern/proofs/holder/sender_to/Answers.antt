use Prim.Native.Nat.{◌^◌}
use native.Mathlib.Omega.{arith}
use mathlib.Core.Path.{refl}
use borrow.Author.Tests.{lt-ltb}
use Rattle.pattern.specs.Answers.{sender_fits}
use Rattle.pattern.specs.Sender.{sender_to}
use Rattle.pattern.proofs.Laws.{receiver_in_new}
use Rattle.pattern.proofs.holder.sender_to.Goals as goal

pub holds-requires : goal.holds-requires
holds-requires c = receiver_in_new _ _ c.requires.tables _ c.requires.receiver_below

pub returns-then-holds : goal.returns-then-holds
unfolding sender_to sender_fits
returns-then-holds c = (simp (← c.holds.ensures, c.if-holds.true, c.sender.ensures.0), lt-ltb c.sender.result (2 ^ 31) (omega arith))

pub returns : goal.returns
unfolding sender_to sender_fits
returns c = (simp (← c.holds.ensures, c.if-holds.false), refl)
