-- What the call answers.
use Rattle.std.specs.Prelude.{ℕ, cond, List, eqb}
use Rattle.mesh.specs.Mesh.{mesh_dimension, mesh_trees, mesh_core, header_sound}
use Rattle.faults.specs.declared.answer.Fault.{Fault}
use Rattle.faults.specs.Answer.{wrong, fault_refused, fault_at, first_fault}
use Rattle.faults.specs.Mesh.{tree_wrong}

-- a fault, or the refusal alone
unfoldable pub fault_answer : ℕ → Fault → Fault
fault_answer refusal fault = cond (eqb refusal 0) fault (fault_refused refusal)

-- where a whole mesh fails: kind 6, header or length, before every record; else at the least tree
unfoldable pub mesh_fault_of : List ℕ → Fault
mesh_fault_of m =
    cond (header_sound m) (first_fault 7 (mesh_trees m) (tree_wrong (mesh_core m) (mesh_dimension m) (mesh_trees m))) (fault_at 7 0 (wrong 6 0))
