use Rattle.probes.proofs.Corners.{box_float, box_read}
use Rattle.probes.proofs.boxes.number_of.Goals as goal

pub float_from_bits-result : goal.float_from_bits-result
float_from_bits-result c = box_float _ _ c.requires.0.sound _ c.requires.1 _ c.bits_of.ensures

pub returns : goal.returns
returns c = box_read _ _ _ c.bits_of.ensures
