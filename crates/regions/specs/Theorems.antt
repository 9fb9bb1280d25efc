-- What is proved of regions beyond the call's contract.
use Rattle.std.specs.Prelude.{ℕ, ◌+◌, ◌<◌, ◌≡◌, true, List, get_or}
use Rattle.encoding.specs.Below.{sum_below}
use Rattle.encoding.specs.Pieces.{Bytes}
use Rattle.offsets.specs.Table.{first_tree, tree_count}
use Rattle.records.specs.Record.{region_limit, region_of}
use Rattle.mesh.specs.Mesh.{mesh_trees, mesh_core}
use Rattle.part.specs.Ghosts.{ghosts_of}
use Rattle.part.specs.Cut.{ghost_count, cut_part}
use Rattle.part.specs.Part.{part_holds, part_core, stored_tree, stored_ghost}
use Rattle.part_check.specs.Calls.{part_refusal}
use Rattle.part_cut.specs.Calls.{part_length_of}
use Rattle.regions.specs.Calls.{region_counts_of}

-- the counts that an accepted call writes sum to n
abbrev pub CountsSum : Type 0
CountsSum =
    (part table : List ℕ) (rank : ℕ) (out : List ℕ) → (region_counts_of part table rank out).0 ≡ 0
    → sum_below region_limit (λ b. get_or (region_counts_of part table rank out).1 b 0) ≡ tree_count table rank

-- every record that an accepted part holds, tree or ghost, has a region within its limit
abbrev pub RegionsWithin : Type 0
RegionsWithin =
    (part table : List ℕ) (rank : ℕ) → part_refusal part table rank ≡ 0 → (k : ℕ) → part_holds part k ≡ true → region_of (part_core part k) < region_limit

-- the regions of a cut part are the whole mesh's
pub record RegionsOfMesh (mesh table : List ℕ) (rank : ℕ) : Type 0 where
  -- in its tree records
  pub of_trees : (i : ℕ) → i < tree_count table rank → region_of (stored_tree (cut_part mesh table rank) i) ≡ region_of (mesh_core mesh (first_tree table rank + i))
  -- in its ghost records
  pub of_ghosts : (j : ℕ) → j < ghost_count mesh table rank
      → region_of (stored_ghost (cut_part mesh table rank) j) ≡ region_of (mesh_core mesh (get_or (ghosts_of (mesh_core mesh) table rank (mesh_trees mesh)) j 0))
  -- and by number, of every tree and ghost that it holds
  pub of_held : (k : ℕ) → part_holds (cut_part mesh table rank) k ≡ true → region_of (part_core (cut_part mesh table rank) k) ≡ region_of (mesh_core mesh k)

-- wherever a part can be cut out
abbrev pub CutRegions : Type 0
CutRegions = (mesh table : List ℕ) (rank : ℕ) → Bytes mesh → Bytes table → (part_length_of mesh table rank).refusal ≡ 0 → RegionsOfMesh mesh table rank
