use Rattle.lookup.proofs.Finding.{tree_place_lem, ghost_place_lem, none_place}
use Rattle.lookup.proofs.find_record.Goals as goal

pub returns-in-Some : goal.returns-in-Some
returns-in-Some c = tree_place_lem _ _ _ c.in-Some.ensures.0 c.in-Some.ensures.1

pub returns-in_err-held : goal.returns-in_err-held
returns-in_err-held c = rw c.from_residual.ensures (none_place _ _ _ c.in_default.ensures c.in_err-held.ensures)

pub returns : goal.returns
returns c = ghost_place_lem _ _ _ c.in_default.ensures c.in_ok-held.ensures.0 c.in_ok-held.ensures.1
