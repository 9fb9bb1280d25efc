use Rattle.table_fault.proofs.Entries.{table_refused, table_found}
use mathlib.Core.Path.{refl, sym, ◌∙◌}
use Rattle.table_fault.proofs.table_fault.Goals as goal

pub returns-then-not-ranks_ok : goal.returns-then-not-ranks_ok
returns-then-not-ranks_ok c = table_refused _ c.ranks_ok.ensures (c.if-not-ranks_ok.true) refl

pub first_wrong-requires : goal.first_wrong-requires
first_wrong-requires c = sym c.ranks_ok.ensures ∙ c.if-not-ranks_ok.false

pub returns : goal.returns
returns c = table_found _ c.ranks_ok.ensures (c.if-not-ranks_ok.false) c.first_wrong.ensures
