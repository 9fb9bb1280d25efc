use Rattle.std.proofs.Common.{rules}
use Prim.Native.Nat.{ℕ}
use Rattle.records.specs.Record.{number_of}
use Rattle.message.specs.Layout.{message_ghost}
use Rattle.deliver_ghosts.specs.Means.{held_at}
use Rattle.deliver_ghosts.proofs.Marking.{held_ascending, new_found}
use Rattle.deliver_ghosts.proofs.ghosts.none_found.Goals as goal

pub no_ghost-requires-clause-callable : goal.no_ghost-requires-clause-callable
no_ghost-requires-clause-callable c = λ j l. let k = held_ascending c.requires c.ranks.ensures c.count.ensures c.ghost_slots_place-at.ensures.0 c.ghosts-held.ensures in search rules

pub returns : goal.returns
returns c = new_found c.requires c.ranks.ensures c.count.ensures c.ghost_slots_place-at.ensures.0 c.ghosts-held.ensures (c.no_ghost.ensures.none (λ (j : ℕ). held_at c.args.area.now c.ghost_slots_place-at.result c.ghosts-held.result (number_of (message_ghost c.args.message.now j))) (λ j b l p. search rules))
