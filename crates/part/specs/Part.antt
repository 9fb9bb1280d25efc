-- A part as lent bytes: its header, its records, and when it is sound for a table and a rank.
use Rattle.std.specs.Prelude.{ℕ, ◌+◌, ◌-◌, Bool, cond, ◌&&◌, List, ltb, eqb, length}
use Rattle.encoding.specs.Numbers.{u32_at}
use Rattle.encoding.specs.Pieces.{piece}
use Rattle.offsets.specs.Table.{ranks, trees, first_tree, tree_count}
use Rattle.records.specs.Shape.{faces_in}
use Rattle.records.specs.Record.{core_size, unused, number_of}
use Rattle.mesh.specs.Mesh.{dimension_ok}
use Rattle.part.specs.Layout.{tree_place, ghost_place, part_size}
use Rattle.part.specs.Cut.{renamed}
use Rattle.part.specs.View.{View, held_in, core_in, records_hold}

-- no tree's number, and not the mark of an unused face
abbrev pub no_tree : ℕ
no_tree = 4294967294

module _ (part : List ℕ) where
  unfoldable pub part_dimension : ℕ
  part_dimension = u32_at part 0

  -- K
  unfoldable pub part_k : ℕ
  part_k = u32_at part 4

  -- the first tree
  unfoldable pub part_first : ℕ
  part_first = u32_at part 16

  -- n
  unfoldable pub part_count : ℕ
  part_count = u32_at part 20

  -- g
  unfoldable pub part_ghost_count : ℕ
  part_ghost_count = u32_at part 24

  -- the core of tree record i as it stands, with local indices
  unfoldable pub stored_tree : ℕ → List ℕ
  stored_tree i = piece part (tree_place i) core_size

  -- ghost j
  unfoldable pub stored_ghost : ℕ → List ℕ
  stored_ghost j = piece part (ghost_place part_count j) core_size

  -- the global number behind a local index is read from the record at that index; unused stays, and an index of no record gives no tree's number
  unfoldable pub global_number : ℕ → ℕ
  global_number j =
      cond (eqb j unused) unused
      (cond (ltb j part_count) (number_of (stored_tree j))
      (cond (ltb j (part_count + part_ghost_count)) (number_of (stored_ghost (j - part_count))) no_tree))

  -- the core of tree i with neighbours as global numbers
  unfoldable pub global_tree : ℕ → List ℕ
  global_tree i = renamed global_number (faces_in part_dimension) (stored_tree i)

  -- what the part says
  abbrev pub view_of : View
  view_of =
      record {
        dimension = part_dimension;
        K = part_k;
        first = part_first;
        n = part_count;
        g = part_ghost_count;
        stored = stored_tree;
        tree = global_tree;
        ghost = stored_ghost;
      }

  -- the part holds tree k, and its core with neighbours as global numbers
  unfoldable pub part_holds : ℕ → Bool
  part_holds = held_in view_of

  unfoldable pub part_core : ℕ → List ℕ
  part_core = core_in view_of

  module _ (table : List ℕ) (rank : ℕ) where
    -- dimension 2 or 3; the header is as table and rank say
    unfoldable pub part_header_sound : Bool
    part_header_sound =
        dimension_ok part_dimension && eqb part_k (trees table) && eqb (u32_at part 8) (ranks table) && eqb (u32_at part 12) rank
        && eqb part_first (first_tree table rank) && eqb part_count (tree_count table rank) && eqb (u32_at part 28) 0

    -- the part is sound: header, exact length, records
    unfoldable pub part_sound : Bool
    part_sound = part_header_sound && eqb (length part) (part_size part_count part_ghost_count) && records_hold view_of
