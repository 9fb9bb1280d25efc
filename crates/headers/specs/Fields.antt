-- The fields of a part's and of a whole mesh's header, with the length, in their order.
--   1  the bytes of the buffer, where they are fewer than a header's
--   2  the dimension
--   3  K
--   4  P
--   5  the rank
--   6  the rank's first tree
--   7  the rank's count
--   8  the last number of the header
--   9  the bytes of the buffer, where they aren't as many as the header's counts ask for
use Rattle.std.specs.Prelude.{ℕ, ◌+◌, ◌*◌, List, [], ◌∷◌, length}
use Rattle.encoding.specs.Numbers.{u32_at}
use Rattle.offsets.specs.Limits.{tree_count_ok}
use Rattle.offsets.specs.Table.{ranks, trees, first_tree, tree_count}
use Rattle.records.specs.Record.{tree_size}
use Rattle.mesh.specs.Mesh.{mesh_header, mesh_dimension, mesh_trees, dimension_ok}
use Rattle.part.specs.Layout.{part_header, part_size}
use Rattle.part.specs.Part.{part_dimension, part_k, part_first, part_count, part_ghost_count}
use Rattle.headers.specs.Answer.{Field, at_least, one_of, exactly}

-- of a part, for a table and a rank
unfoldable pub part_fields : List ℕ → List ℕ → ℕ → List Field
part_fields part table rank =
    at_least 1 part_header (length part)
    ∷ one_of 2 (dimension_ok (part_dimension part)) (part_dimension part)
    ∷ exactly 3 (trees table) (part_k part)
    ∷ exactly 4 (ranks table) (u32_at part 8)
    ∷ exactly 5 rank (u32_at part 12)
    ∷ exactly 6 (first_tree table rank) (part_first part)
    ∷ exactly 7 (tree_count table rank) (part_count part)
    ∷ exactly 8 0 (u32_at part 28)
    ∷ exactly 9 (part_size (part_count part) (part_ghost_count part)) (length part)
    ∷ []

-- of a whole mesh
unfoldable pub mesh_fields : List ℕ → List Field
mesh_fields m =
    at_least 1 mesh_header (length m)
    ∷ one_of 2 (dimension_ok (mesh_dimension m)) (mesh_dimension m)
    ∷ one_of 3 (tree_count_ok (mesh_trees m)) (mesh_trees m)
    ∷ exactly 9 (mesh_header + tree_size * mesh_trees m) (length m)
    ∷ []
