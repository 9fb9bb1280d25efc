use Rattle.probes.proofs.Floats.{bits_number}
use Rattle.probes.proofs.boxes.bits_ok.Goals as goal

pub returns : goal.returns
returns c = bits_number _
