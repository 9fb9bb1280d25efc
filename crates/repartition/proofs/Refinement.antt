-- Leaf counts of refinement strings make tables.
use mathlib.Core.Path.{◌≡◌, ◌∙◌, ap, sym, subst}
use lib.ListN.{length}
use Rattle.leaves.specs.Promises.{MakesTable}
use Rattle.leaves.proofs.LeafTables.{leaf_tables}
use Rattle.refinement_list.specs.Calls.{count_list}
use Rattle.refinement_list.proofs.Totals.{count_length, counts_taken, list_passed, counts_written}
use Rattle.repartition.specs.Refinement.{counts_given, CountsMakeTables}

pub counts_make_tables : CountsMakeTables
counts_make_tables shapes lengths bits out e =
    let w : counts_given shapes lengths bits out ≡ count_list shapes lengths bits = counts_written shapes lengths bits out e in (
      ap length w ∙ count_length shapes lengths bits,
      λ P ro. subst (MakesTable P) (sym w) (leaf_tables P (count_list shapes lengths bits) ro (counts_taken shapes lengths bits out (list_passed shapes lengths bits out e))),
    )
