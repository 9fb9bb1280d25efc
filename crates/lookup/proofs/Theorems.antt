-- The record that is lent is the one whose place is named.
use mathlib.Core.Path.{sym}
use Rattle.lookup.specs.Theorems.{LendsNamed}
use Rattle.lookup.proofs.Finding.{found_is, tree_inside, ghost_inside}

pub lends_named : LendsNamed
lends_named trees ghosts number =
    record {
      lent = sym (found_is trees ghosts number);
      in_trees = tree_inside trees ghosts number;
      in_ghosts = ghost_inside trees ghosts number;
    }
