-- What is proved of the first fault beyond the calls' contracts.
use Rattle.std.specs.Prelude.{ℕ, ◌<◌, ◌≡◌, true, List, eqb}
use Rattle.mesh.specs.Mesh.{mesh_dimension, mesh_trees, mesh_core, header_sound, tree_sound, mesh_refusal}
use Rattle.faults.specs.declared.answer.Fault.{Fault}
use Rattle.faults.specs.Answer.{wrong}
use Rattle.faults.specs.Mesh.{tree_face_kind, tree_wrong}
use Rattle.faults.specs.Calls.{mesh_fault_of}

-- the fault is what the check call answers, 0 for a sound object; and the kind is 0 exactly where it is
pub record AsChecked (a : Fault) (refusal : ℕ) : Type 0 where
  pub fault : a.fault ≡ refusal
  pub kind : eqb a.kind 0 ≡ eqb a.fault 0

-- of every mesh
abbrev pub MeshAsChecked : Type 0
MeshAsChecked = (m : List ℕ) → AsChecked (mesh_fault_of m) (mesh_refusal m)

-- the fault of a mesh with a sound header is that of its place, each tree before it is sound, and nothing is wrong at a face before it
pub record FirstTree (m : List ℕ) (a : Fault) : Type 0 where
  pub within : a.at < mesh_trees m
  pub here : tree_wrong (mesh_core m) (mesh_dimension m) (mesh_trees m) a.at ≡ wrong a.kind a.face
  pub before : (k : ℕ) → k < a.at → tree_sound (mesh_core m) (mesh_dimension m) (mesh_trees m) k ≡ true
  pub faces : (f : ℕ) → f < a.face → tree_face_kind (mesh_core m) (mesh_trees m) a.at f ≡ 0

abbrev pub MeshFirst : Type 0
MeshFirst = (m : List ℕ) → header_sound m ≡ true → (mesh_fault_of m).fault ≡ 7 → FirstTree m (mesh_fault_of m)
