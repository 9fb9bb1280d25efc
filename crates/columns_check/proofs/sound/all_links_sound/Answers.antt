use native.Mathlib.Omega.{arith}
use Rattle.columns_check.proofs.sound.all_links_sound.Goals as goal

pub links_with-requires-2 : goal.links_with-requires-2
links_with-requires-2 c = (c.requires, omega (arith, c.requires.laid.most), omega arith)
