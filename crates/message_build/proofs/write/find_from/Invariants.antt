use Rattle.part.proofs.Search.{Between}
use Rattle.message_build.proofs.write.find_from.Given as goal

abbrev pub invariant-loop-low : goal.invariant-loop-low
invariant-loop-low l = Between l.part l.at l.count l.k l.low l.count
