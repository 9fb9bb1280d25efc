use Rattle.probes.specs.Probes.{meets}
use Rattle.pattern.proofs.Laws.{Writing}
use Rattle.part.specs.Part.{part_count}
use Rattle.probes.proofs.list.write.Given as goal

abbrev pub invariant-loop-i : goal.invariant-loop-i
invariant-loop-i l = Writing (meets l.probe l.part) (part_count l.part) l.initial.out l.out l.count l.i
