-- Means, no part of what is promised: what the search knows of a part whose header is sound.
use Rattle.std.specs.Prelude.{ℕ, ◌+◌, ◌≤◌, ◌<◌, Bool, ◌&&◌, ◌≡◌, List, Some, None, ltb, length}
use Rattle.std.specs.declared.option.Option.{Option}
use Rattle.encoding.specs.Below.{least_below}
use Rattle.encoding.specs.Pieces.{piece}
use Rattle.records.specs.Record.{core_size}
use Rattle.mesh.specs.Link.{orientation_ok}
use Rattle.mesh.specs.Means.{link_by_dimension}
use Rattle.part.specs.Means.{ghost_core}
use Rattle.part.specs.Part.{part_dimension, part_k, part_first, part_count, part_ghost_count, stored_tree, view_of}
use Rattle.part_check.specs.Means.{ghost_to, ghost_face, PartLaid}
use Rattle.positions.specs.Means.{Indexed}
use Rattle.part.specs.Layout.{ghost_place}
use Rattle.part_fault.specs.declared.search.Extent.{Extent}
use Rattle.part_fault.specs.declared.search.Way.{Way}
use Rattle.part_fault.specs.Wrong.{found_in}

-- the header, and how many ghosts are found by their numbers
pub record Known (part : List ℕ) (e : Extent) : Type 0 where
  pub laid : PartLaid part e.first e.count e.ghosts e.trees
  pub is_first : e.first ≡ part_first part
  pub is_count : e.count ≡ part_count part
  pub is_ghosts : e.ghosts ≡ part_ghost_count part
  pub is_dimension : e.dimension ≡ part_dimension part
  pub is_trees : e.trees ≡ part_k part
  pub is_found : e.found ≡ found_in (view_of part)
  pub within : e.found ≤ e.ghosts
  pub few : e.found ≤ e.trees

-- and the index of these
pub record Sought (part : List ℕ) (e : Extent) (marks behind : List ℕ) : Type 0 where
  pub known : Known part e
  pub indexed : Indexed part (ghost_place e.count 0) e.found marks behind

-- face f of ghost j, its links looked up among these
abbrev pub ghost_face_of : List ℕ → Extent → ℕ → ℕ → Bool
ghost_face_of part e = ghost_face (link_by_dimension e.dimension) e.first e.count e.found (stored_tree part) (ghost_core part e.count) e.trees

-- where the link of ghost j to tree k leads: to a record whose link leads back, or to none that is held
abbrev pub GhostWay : List ℕ → Extent → ℕ → ℕ → Option Way → Type 0
GhostWay part e j k None =
    (f : ℕ)
    → (ltb k e.trees && orientation_ok (ghost_core part e.count j) f)
    ≡ ghost_to (link_by_dimension e.dimension) e.first e.count e.found (stored_tree part) (ghost_core part e.count) e.trees j f k
GhostWay part e j k (Some w) =
    (w.to + core_size ≤ length part)
    × ((f : ℕ)
    → link_by_dimension e.dimension w.back (ghost_core part e.count j) f (piece part w.to core_size)
    ≡ ghost_to (link_by_dimension e.dimension) e.first e.count e.found (stored_tree part) (ghost_core part e.count) e.trees j f k)

-- the first number below n that passes the test, if one does
abbrev pub IsFirst : ℕ → (ℕ → Bool) → Option ℕ → Type 0
IsFirst n test None = n ≡ least_below n test
IsFirst n test (Some i) = (i < n) × (i ≡ least_below n test)
