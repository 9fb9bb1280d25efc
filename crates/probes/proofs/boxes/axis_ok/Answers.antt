use Rattle.probes.proofs.Corners.{axis_bits}
use Rattle.probes.proofs.boxes.axis_ok.Goals as goal

pub returns : goal.returns
returns c =
    let bits_of = c.bits_of-low in
    let bits-of2 = c.bits_of-high in
    let bits-ok = c.bits_ok in
    let bits-ok2 = c.bits_ok-2 in
    let order = c.order in
    axis_bits _ _ _ bits_of.ensures bits-of2.ensures bits-ok.ensures bits-ok2.ensures order.ensures c.order-2.ensures
