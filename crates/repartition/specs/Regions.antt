-- Document 02, C-22: regions in whole meshes, parts, messages and areas, and after a repartition.
use Rattle.std.specs.Prelude.{ℕ, ◌+◌, ◌*◌, ◌<◌, ◌≡◌, Bool, true, false, cond, ◌&&◌, ◌||◌, List, leb, ltb, eqb, get_or}
use Rattle.encoding.specs.Below.{any_below}
use Rattle.encoding.specs.Refusal.{first_failed}
use Rattle.offsets.specs.Table.{tree_count}
use Rattle.records.specs.Record.{core_size, tree_size, region_limit, number_of, region_of}
use Rattle.mesh.specs.Mesh.{mesh_header, mesh_trees, mesh_core, mesh_refusal}
use Rattle.part.specs.Layout.{part_header, ghost_place}
use Rattle.part.specs.Part.{part_count, part_ghost_count, stored_tree, stored_ghost}
use Rattle.part.specs.Checks.{rank_checks}
use Rattle.part_check.specs.Calls.{part_refusal}
use Rattle.regions.specs.Calls.{region_counts_of}
use Rattle.message.specs.Layout.{message_trees, message_ghosts, message_tree, message_ghost}
use Rattle.message.specs.Calls.{message_refusal}
use Rattle.area.specs.Area.{area_count, area_bound, tree_slot_core, ghost_slot}
use Rattle.area.specs.Deliver.{deliver_of}
use Rattle.area.specs.Close.{close_length_of, close_of}
use Rattle.area_open.specs.Calls.{progress_of}
use Rattle.deliver_all.specs.Calls.{deliver_all_of}
use Rattle.repartition.specs.Demand.{close_after}
use Rattle.repartition.specs.AfterList.{EveryList}
use Rattle.repartition.specs.TreeData.{SameBut}

-- ---- a region above the limit makes the object unsound

-- one of count records has a region above the limit
unfoldable pub some_above : ℕ → (ℕ → List ℕ) → Bool
some_above count r = any_below count (λ i. leb region_limit (region_of (r i)))

-- every call refuses the area with 10
pub record AreaRefused (a : List ℕ) : Type 0 where
  pub progress : (progress_of a).refusal ≡ 10
  pub deliver : (m : List ℕ) → (deliver_of a m).0 ≡ 10
  pub deliver_all : (bs answers : List ℕ) → (deliver_all_of a bs answers).0.refusal ≡ 10
  pub close_length : (close_length_of a).refusal ≡ 10
  pub close : (out : List ℕ) → (close_of a out).0.refusal ≡ 10

-- so is each object with such a record, by the number of its check
pub record RegionsRefused : Type 0 where
  -- 7, in a tree of a whole mesh
  pub mesh : (m : List ℕ) → some_above (mesh_trees m) (mesh_core m) ≡ true → mesh_refusal m ≡ 7
  -- 8, in a tree or a ghost of a part, for a valid table and a rank of it
  pub part : (part table : List ℕ) (rank : ℕ) → first_failed (rank_checks table rank) ≡ 0
      → (some_above (part_count part) (stored_tree part) || some_above (part_ghost_count part) (stored_ghost part)) ≡ true → part_refusal part table rank ≡ 8
  -- 10, in any slot of an area
  pub area : (a : List ℕ) → (some_above (area_count a) (tree_slot_core a) || some_above (area_bound a) (ghost_slot a)) ≡ true → AreaRefused a
  -- 11, in a tree or a ghost of a message
  pub message : (m : List ℕ) → (some_above (message_trees m) (message_tree m) || some_above (message_ghosts m) (message_ghost m)) ≡ true → message_refusal m ≡ 11

-- ---- linked records may differ in theirs

-- byte i is one of the two of a region: that of one of n records of so many bytes, which begin at byte start
unfoldable pub region_byte : ℕ → ℕ → ℕ → ℕ → Bool
region_byte start size n i = any_below n (λ t. leb (start + size * t + 38) i && ltb i (start + size * t + 40))

-- two whole meshes, and two parts, that differ in regions alone
abbrev pub MeshRegionsDiffer : List ℕ → List ℕ → Type 0
MeshRegionsDiffer a b = SameBut (region_byte mesh_header tree_size (mesh_trees a)) a b

abbrev pub PartRegionsDiffer : List ℕ → List ℕ → Type 0
PartRegionsDiffer a b =
    SameBut (λ i. region_byte part_header tree_size (part_count a) i || region_byte (ghost_place (part_count a) 0) core_size (part_ghost_count a) i) a b

-- whichever regions they have, within the limit: the check answers both alike
pub record RegionsFree : Type 0 where
  pub mesh : (a b : List ℕ) → MeshRegionsDiffer a b → some_above (mesh_trees a) (mesh_core a) ≡ false → some_above (mesh_trees b) (mesh_core b) ≡ false
      → mesh_refusal a ≡ mesh_refusal b
  pub part : (a b table : List ℕ) (rank : ℕ) → PartRegionsDiffer a b
      → (some_above (part_count a) (stored_tree a) || some_above (part_ghost_count a) (stored_ghost a)) ≡ false
      → (some_above (part_count b) (stored_tree b) || some_above (part_ghost_count b) (stored_ghost b)) ≡ false
      → part_refusal a table rank ≡ part_refusal b table rank

-- ---- old files read as region 0

-- bytes 38 and 39 of a record are zero, as document 01 has them
abbrev pub Unmarked : List ℕ → Type 0
Unmarked r = (get_or r 38 0 ≡ 0) × (get_or r 39 0 ≡ 0)

pub record OldFiles : Type 0 where
  -- the record has region 0
  pub none : (r : List ℕ) → Unmarked r → region_of r ≡ 0
  -- which is within the limit
  pub within : (count : ℕ) (r : ℕ → List ℕ) → ((i : ℕ) → i < count → Unmarked (r i)) → some_above count r ≡ false
  -- so an accepted part of such trees has n of region 0 and none of any other
  pub counts : (part table : List ℕ) (rank : ℕ) (out : List ℕ) → (region_counts_of part table rank out).0 ≡ 0
      → ((i : ℕ) → i < part_count part → Unmarked (stored_tree part i))
      → (b : ℕ) → b < region_limit → get_or (region_counts_of part table rank out).1 b 0 ≡ cond (eqb b 0) (tree_count table rank) 0

-- ---- what closing writes has each region as the whole mesh has it

-- each record of a part has the region of the mesh's tree with its number
pub record RegionsKept (mesh part : List ℕ) : Type 0 where
  pub of_trees : (i : ℕ) → i < part_count part → region_of (stored_tree part i) ≡ region_of (mesh_core mesh (number_of (stored_tree part i)))
  pub of_ghosts : (j : ℕ) → j < part_ghost_count part → region_of (stored_ghost part j) ≡ region_of (mesh_core mesh (number_of (stored_ghost part j)))

-- so it is of what every accepted close writes, after every list of calls
abbrev pub ClosedRegions : Type 0
ClosedRegions = EveryList (λ run b cs. (out : List ℕ) → (close_after run b cs out).0.refusal ≡ 0 → RegionsKept run.mesh (close_after run b cs out).1)
