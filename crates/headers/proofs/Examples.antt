-- Headers of parts and meshes, with the first wrong field of each, computed on the definitions.
use mathlib.Core.Path.{◌≡◌, refl}
use mathlib.Core.List.{List, [], ◌∷◌, ◌++◌}
use Prim.Native.Nat.{ℕ}
use Rattle.encoding.specs.Below.{all_below}
use Rattle.encoding.specs.Pieces.{piece}
use Rattle.encoding.specs.Numbers.{le_value, le_bytes, le_at}
use Rattle.encoding.specs.Header.{eight_bytes}
use Rattle.encoding.specs.Refusal.{first_failed}
use Rattle.offsets.specs.Limits.{rank_count_ok, tree_count_ok}
use Rattle.offsets.specs.Table.{ranks, ranks_ok, entry, negative, magnitude, first_of, trees, first_tree, end_tree, tree_count, entries_within, counts_ok, valid, table_bytes}
use Rattle.offsets.proofs.Examples.{minus}
use Rattle.mesh.specs.Mesh.{mesh_dimension, mesh_trees, dimension_ok}
use Rattle.part.specs.Part.{part_dimension, part_k, part_first, part_count, part_ghost_count}
use Rattle.part.specs.Checks.{rank_checks}
use Rattle.headers.specs.Answer.{header_refused, none_wrong, wrong_at, wrong_or, first_wrong}
use Rattle.headers.specs.Fields.{part_fields, mesh_fields}
use Rattle.headers.specs.Calls.{header_answer, part_header_of, mesh_header_of}

-- document 01's {0,3,-3,5}, whose rank 1 is empty
abbrev table : List ℕ
table = table_bytes (0 ∷ 3 ∷ minus 3 ∷ 5 ∷ [])

-- the part of rank 1; asked for rank 2; that of four ranks; a byte too many; no header; rank 3
pub parts_told : (part_header_of (eight_bytes 2 5 3 1 3 0 0 0) table 1 ≡ none_wrong)
    × (part_header_of (eight_bytes 2 5 3 1 3 0 0 0) table 2 ≡ wrong_at 5 2 1)
    × (part_header_of (eight_bytes 2 5 4 1 3 0 0 0) table 1 ≡ wrong_at 4 3 4)
    × (part_header_of (eight_bytes 2 5 3 1 3 0 0 0 ++ (7 ∷ [])) table 1 ≡ wrong_at 9 32 33)
    × (part_header_of [] table 1 ≡ wrong_at 1 32 0)
    × (part_header_of [] table 3 ≡ header_refused 5)
unfolding part_header_of header_answer first_wrong wrong_or part_fields first_failed rank_checks ranks_ok rank_count_ok ranks valid entries_within counts_ok all_below tree_count_ok trees entry magnitude negative first_of first_tree end_tree tree_count table_bytes le_bytes le_at le_value piece dimension_ok part_dimension part_k part_first part_count part_ghost_count
parts_told = (refl, refl, refl, refl, refl, refl)

-- dimension 4; no tree; one tree and no record
pub meshes_told : (mesh_header_of (le_bytes 4 4 ++ le_bytes 4 1) ≡ wrong_at 2 0 4)
    × (mesh_header_of (le_bytes 4 2 ++ le_bytes 4 0) ≡ wrong_at 3 0 0)
    × (mesh_header_of (le_bytes 4 2 ++ le_bytes 4 1) ≡ wrong_at 9 72 8)
unfolding mesh_header_of first_wrong wrong_or mesh_fields tree_count_ok le_bytes le_at le_value piece dimension_ok mesh_dimension mesh_trees
meshes_told = (refl, refl, refl)
