use Rattle.pattern.specs.Means.{lower_rank}
use mathlib.Core.Path.{◌≡◌}
use Rattle.pattern.proofs.range.lower_rank.Given as goal

abbrev pub invariant-loop-m : goal.invariant-loop-m
invariant-loop-m l = lower_rank l.t l.m ≡ lower_rank l.t l.p
