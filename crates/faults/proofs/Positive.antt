-- No kind has the number 0, which is that of a place where nothing is wrong.
use native.Mathlib.Omega.{arith}
use mathlib.Core.Path.{◌≡◌}
use Rattle.faults.specs.declared.answer.Kind.{Kind}
use Rattle.faults.specs.Kinds.{kind_number}

pub kind_positive : (k : Kind) → kind_number k ≡ 0 → ⊥
kind_positive Kind.First h = omega arith
kind_positive Kind.Trees h = omega arith
kind_positive Kind.Entry h = omega arith
kind_positive Kind.Count h = omega arith
kind_positive Kind.Empty h = omega arith
kind_positive Kind.Header h = omega arith
kind_positive Kind.Number h = omega arith
kind_positive Kind.Shape h = omega arith
kind_positive Kind.Bytes h = omega arith
kind_positive Kind.Unused h = omega arith
kind_positive Kind.Boundary h = omega arith
kind_positive Kind.Dimension h = omega arith
kind_positive Kind.Neighbour h = omega arith
kind_positive Kind.Orientation h = omega arith
kind_positive Kind.Corners h = omega arith
kind_positive Kind.Answer h = omega arith
kind_positive Kind.Beside h = omega arith
