-- What is proved of the first fault of a part beyond the call's contract.
use Rattle.std.specs.Prelude.{ℕ, ◌+◌, ◌<◌, ◌≡◌, Bool, true, false, ◌&&◌, List}
use Rattle.encoding.specs.Pieces.{Bytes}
use Rattle.encoding.specs.Refusal.{first_failed}
use Rattle.records.specs.Shape.{face_count}
use Rattle.records.specs.Record.{number_of, shape_of, neighbour_of}
use Rattle.mesh.specs.Link.{orientation_ok, same_corners, answered}
use Rattle.part.specs.View.{View, local_in, tree_in_form, ghost_in_form}
use Rattle.part.specs.Part.{part_count, part_ghost_count, view_of}
use Rattle.part.specs.Checks.{rank_checks}
use Rattle.part_check.specs.Calls.{part_refusal}
use Rattle.faults.specs.declared.answer.Fault.{Fault}
use Rattle.faults.specs.Answer.{wrong}
use Rattle.faults.specs.Theorems.{AsChecked}
use Rattle.part_fault.specs.Wrong.{ghost_order_in, found_in, face_in, wrong_in}
use Rattle.part_fault.specs.Calls.{part_headed, part_fault_of}

-- the fault is what the check call answers, 0 for a sound part; and the kind is 0 exactly where it is
abbrev pub PartAsChecked : Type 0
PartAsChecked =
    (part table : List ℕ) (rank : ℕ) → Bytes part → Bytes table → first_failed (rank_checks table rank) ≡ 0 → AsChecked (part_fault_of part table rank) (part_refusal part table rank)

-- ---- what soundness asks of one record, its links followed as they are stored

-- the whole mesh rule for the link of face f of record r to record s, which is to lead back to this number as it stands there
abbrev pub obeys : ℕ → List ℕ → ℕ → List ℕ → Bool
obeys back r f s = orientation_ok r f && same_corners r f s && answered back r f s

-- tree i of a part: a link to a local tree is answered with the local index i, one to a ghost with the tree's number
pub record TreeRight (v : View) (i : ℕ) : Type 0 where
  -- in form, in order, with a shape of the dimension
  pub in_form_lem : tree_in_form v i ≡ true
  -- every neighbour is a local tree or a ghost
  pub held : (f : ℕ) → f < face_count (shape_of (v.stored i)) → neighbour_of (v.stored i) f < v.n + v.g
  -- each link obeys the rule
  pub to_tree : (f m : ℕ) → f < face_count (shape_of (v.stored i)) → m < v.n → neighbour_of (v.stored i) f ≡ m
      → obeys i (v.stored i) f (v.stored m) ≡ true
  pub to_ghost : (f j : ℕ) → f < face_count (shape_of (v.stored i)) → j < v.g → neighbour_of (v.stored i) f ≡ v.n + j
      → obeys (number_of (v.stored i)) (v.stored i) f (v.ghost j) ≡ true

-- ghost j of a part, of whose ghosts the first so many are looked up by their numbers: a link to a local tree is answered with the local index n + j, one to a ghost with the ghost's number
pub record GhostRight (v : View) (looked j : ℕ) : Type 0 where
  -- in form, ascending, with a shape of the dimension
  pub in_form_lem : ghost_in_form v j ≡ true
  -- below K, outside f(p), and a face neighbour of a tree
  pub below : number_of (v.ghost j) < v.K
  pub outside : local_in v (number_of (v.ghost j)) ≡ false
  pub beside : (i : ℕ) × (f : ℕ) × (i < v.n) × (f < face_count (shape_of (v.stored i))) × (neighbour_of (v.stored i) f ≡ v.n + j)
  -- each link to a record held obeys the rule
  pub to_tree : (f i : ℕ) → f < face_count (shape_of (v.ghost j)) → i < v.n → neighbour_of (v.ghost j) f ≡ v.first + i
      → obeys (v.n + j) (v.ghost j) f (v.stored i) ≡ true
  pub to_ghost : (f m : ℕ) → f < face_count (shape_of (v.ghost j)) → m < looked → neighbour_of (v.ghost j) f ≡ number_of (v.ghost m)
      → obeys (number_of (v.ghost j)) (v.ghost j) f (v.ghost m) ≡ true
  -- every other has a number below K and an orientation below the corners of its own face
  pub far : (f : ℕ) → f < face_count (shape_of (v.ghost j)) → local_in v (neighbour_of (v.ghost j) f) ≡ false
      → ((m : ℕ) → m < looked → neighbour_of (v.ghost j) f ≡ number_of (v.ghost m) → ⊥)
      → (neighbour_of (v.ghost j) f < v.K) × (orientation_ok (v.ghost j) f ≡ true)

-- these are the clauses of soundness: a part with a sound header is sound exactly where each of its trees is right, and each of its ghosts with all of them looked up
pub record RightMeans (part table : List ℕ) (rank : ℕ) : Type 0 where
  pub trees : part_refusal part table rank ≡ 0 → (i : ℕ) → i < part_count part → TreeRight (view_of part) i
  pub ghosts : part_refusal part table rank ≡ 0 → (j : ℕ) → j < part_ghost_count part → GhostRight (view_of part) (part_ghost_count part) j
  pub sound : ((i : ℕ) → i < part_count part → TreeRight (view_of part) i)
      → ((j : ℕ) → j < part_ghost_count part → GhostRight (view_of part) (part_ghost_count part) j) → part_refusal part table rank ≡ 0

abbrev pub RightIsSound : Type 0
RightIsSound =
    (part table : List ℕ) (rank : ℕ) → Bytes part → Bytes table → first_failed (rank_checks table rank) ≡ 0 → part_headed part table rank ≡ true
    → RightMeans part table rank

-- ---- the first fault

-- The fault of a part with a sound header is that of its record, and before it nothing is wrong of what is looked at: all of a tree; of a ghost all but its links to ghosts that aren't looked up. Looked up are the ghosts before the first that is out of order.
pub record FirstRecord (part : List ℕ) (a : Fault) : Type 0 where
  pub within : a.at < part_count part + part_ghost_count part
  pub here : wrong_in (view_of part) a.at ≡ wrong a.kind a.face
  pub before : (i : ℕ) → i < a.at → (wrong_in (view_of part) i).kind ≡ 0
  -- nothing is wrong at a face before it
  pub faces : (f : ℕ) → f < a.face → face_in (view_of part) a.at f ≡ 0
  -- each tree before it is right, and each ghost before it as far as ghosts are looked up
  pub trees_before : (i : ℕ) → i < a.at → i < part_count part → TreeRight (view_of part) i
  pub ghosts_before : (j : ℕ) → part_count part + j < a.at → GhostRight (view_of part) (found_in (view_of part)) j
  -- where every ghost is in order, all of them are looked up
  pub ghosts_right : ((j : ℕ) → j < part_ghost_count part → ghost_order_in (view_of part) j ≡ true)
      → (j : ℕ) → part_count part + j < a.at → GhostRight (view_of part) (part_ghost_count part) j

abbrev pub PartFirst : Type 0
PartFirst =
    (part table : List ℕ) (rank : ℕ) → part_headed part table rank ≡ true → (part_fault_of part table rank).fault ≡ 8 → FirstRecord part (part_fault_of part table rank)
