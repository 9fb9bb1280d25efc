use Rattle.std.proofs.Common.{rules}
use native.Mathlib.Omega.{arith}
use Prim.Native.Nat.{ℕ}
use Rattle.bits.specs.Bits.{in_set}
use Rattle.records.specs.Record.{number_of}
use Rattle.message.specs.Layout.{message_ghost}
use Rattle.deliver_ghosts.proofs.Marking.{held_fit, ghosts_fit, new_marked}
use Rattle.deliver_ghosts.proofs.ghosts.none_held.Goals as goal

pub mark_held-requires : goal.mark_held-requires
mark_held-requires c = held_fit c.requires.0 c.ranks.ensures c.count.ensures c.ghost_slots_place-at.ensures.0 c.ghosts-held.ensures 16384 (omega arith)

pub no_ghost-requires-clause-callable : goal.no_ghost-requires-clause-callable
no_ghost-requires-clause-callable c = λ j l. let k = (ghosts_fit c.requires.0 c.ranks.ensures c.count.ensures c.ghost_slots_place-at.ensures.0 c.ghosts-held.ensures 16384 (omega arith) c.mark_held.ensures c.requires.1).low j l in search rules

pub returns : goal.returns
returns c = new_marked c.requires.0 c.ranks.ensures c.count.ensures c.ghost_slots_place-at.ensures.0 c.ghosts-held.ensures 16384 (omega arith) c.mark_held.ensures (c.no_ghost.ensures.none (λ (j : ℕ). in_set c.mark_held.new.marks (number_of (message_ghost c.args.message.now j))) (λ j b l p. search rules))
