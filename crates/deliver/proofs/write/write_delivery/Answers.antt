use Rattle.deliver.proofs.Written.{delivery_done}
use Rattle.deliver.proofs.Ready.{ready}
use mathlib.Core.Path.{refl}
use Prim.Native.Nat.{ℕ}
use native.Mathlib.Omega.{arith}
use Rattle.deliver.proofs.write.write_delivery.Goals as goal

pub places-at-requires : goal.places-at-requires
places-at-requires c = ready _ _ (λ i. (c.slice_known-1.given i).fits) c.requires

pub overflow_add-at : goal.overflow_add-at
overflow_add-at c = omega (arith, c.places-at.ensures.few)

pub write_u32-requires : goal.write_u32-requires
write_u32-requires c = omega (arith, c.places-at.ensures.header_room)

pub returns : goal.returns
returns c =
    let fits = λ (i : ℕ). (c.slice_known-1.given i).fits in
    delivery_done _ _ fits c.requires (ready _ _ fits c.requires) c.places-at.ensures c.set_heard.ensures c.copy_words.ensures refl c.merge.ensures c.write_u32.ensures
