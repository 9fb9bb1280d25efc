-- The part of a whole mesh for a table and a rank.
use Rattle.std.specs.Prelude.{ℕ, zero, suc, ◌+◌, ◌-◌, cond, List, [], ◌∷◌, ◌++◌, map, eqb}
use Rattle.offsets.specs.Table.{ranks, first_tree, tree_count, holds}
use Rattle.records.specs.Record.{unused}
use Rattle.records.specs.Links.{rows_of, with_rows}
use Rattle.records.specs.Shape.{faces_in}
use Rattle.mesh.specs.Mesh.{mesh_dimension, mesh_trees, mesh_core, mesh_record}
use Rattle.part.specs.Layout.{header_bytes}
use Rattle.part.specs.Ghosts.{ghosts_of, ghost_position}

-- a row of a record with another neighbour
unfoldable pub rename_row : (ℕ → ℕ) → List ℕ → List ℕ
rename_row rename [] = []
rename_row rename (n ∷ rest) = rename n ∷ rest

-- a record with its neighbours renamed; every other byte stays
unfoldable pub renamed : (ℕ → ℕ) → ℕ → List ℕ → List ℕ
renamed rename F r = with_rows (map (rename_row rename) (rows_of r F)) F r

-- the cores of the trees of a list, one behind the other
unfoldable pub cores_of : (ℕ → List ℕ) → List ℕ → List ℕ
cores_of core [] = []
cores_of core (k ∷ ks) = core k ++ cores_of core ks

module _ (mesh table : List ℕ) (rank : ℕ) where
  -- the local index of a neighbour: below n the local tree, else n plus the ghost's position; unused stays
  unfoldable pub local_index : ℕ → ℕ
  local_index k =
      cond (eqb k unused) unused (cond (holds table rank k) (k - first_tree table rank) (tree_count table rank + ghost_position (mesh_core mesh) table rank k))

  -- tree record i of the part
  unfoldable pub part_tree : ℕ → List ℕ
  part_tree i = renamed local_index (faces_in (mesh_dimension mesh)) (mesh_record mesh (first_tree table rank + i))

  -- the first n tree records
  unfoldable pub part_trees : ℕ → List ℕ
  part_trees zero = []
  part_trees (suc n) = part_trees n ++ part_tree n

  -- the cores of the ghosts below K, ascending
  unfoldable pub part_ghosts : ℕ → List ℕ
  part_ghosts K = cores_of (mesh_core mesh) (ghosts_of (mesh_core mesh) table rank K)

  -- how many ghosts there are
  unfoldable pub ghost_count : ℕ
  ghost_count = ghost_position (mesh_core mesh) table rank (mesh_trees mesh)

  -- the part
  unfoldable pub cut_part : List ℕ
  cut_part =
      header_bytes (mesh_dimension mesh) (mesh_trees mesh) (ranks table) rank (first_tree table rank) (tree_count table rank) ghost_count
      ++ (part_trees (tree_count table rank) ++ part_ghosts (mesh_trees mesh))
