use mathlib.Core.Path.{refl}
use Rattle.ele_text.specs.Means.{is_head}
use Rattle.ele_text.proofs.file.is_head.Goals as goal

pub returns : goal.returns
unfolding is_head
returns c = refl
