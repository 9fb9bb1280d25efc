use mathlib.Core.Path.{refl}
use Rattle.ele_text.specs.Means.{is_triangle}
use Rattle.ele_text.proofs.file.is_triangle.Goals as goal

pub returns : goal.returns
unfolding is_triangle
returns c = refl
