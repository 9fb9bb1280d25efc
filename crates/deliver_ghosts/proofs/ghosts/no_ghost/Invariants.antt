use mathlib.Core.Path.{◌≡◌}
use mathlib.Core.Bool.{Bool, true, not}
use Prim.Native.Nat.{ℕ, ◌<◌}
use Rattle.encoding.specs.Below.{all_below}
use Rattle.records.specs.Record.{number_of}
use Rattle.message.specs.Layout.{message_ghosts, message_ghost}
use Rattle.deliver_ghosts.proofs.ghosts.no_ghost.Given as goal

abbrev pub invariant-loop-j : goal.invariant-loop-j
invariant-loop-j g l =
    (test : ℕ → Bool) → ((j : ℕ) (b : Bool) → j < message_ghosts l.message → goal.F-post g l.held (number_of (message_ghost l.message j)) b → b ≡ test j)
    → all_below l.j (λ j. not (test j)) ≡ true
