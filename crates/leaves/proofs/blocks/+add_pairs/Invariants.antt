-- the size falls
use Rattle.leaves.proofs.blocks.+add_pairs.Given as goal

abbrev pub decreases-add_pairs : goal.decreases-add_pairs
decreases-add_pairs l = l.size
