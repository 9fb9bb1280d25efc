-- A part stored by columns: its header, then byte 0 of every tree record, byte 1 of every tree record and so on to byte 63, then likewise the ghosts' 40.
use Rattle.std.specs.Prelude.{ℕ, zero, suc, ◌+◌, ◌*◌, Bool, ◌&&◌, List, [], ◌∷◌, ◌++◌, length, ◌==◌, slice_index}
use Rattle.encoding.specs.Pieces.{piece}
use Rattle.records.specs.Record.{core_size, tree_size}
use Rattle.part.specs.Layout.{part_header, tree_place, ghost_place, part_size}
use Rattle.part.specs.Part.{part_count, part_ghost_count, part_sound}

-- n bytes: the one at off, and each next one step behind it
unfoldable pub spaced : List ℕ → ℕ → ℕ → ℕ → List ℕ
spaced bs off step zero = []
spaced bs off step (suc n) = spaced bs off step n ++ (slice_index bs (off + step * n) ∷ [])

-- of n records of w bytes that begin at off: byte 0 of every record, byte 1 of every record and so on, m columns
unfoldable pub columns : List ℕ → ℕ → ℕ → ℕ → ℕ → List ℕ
columns bs off w n zero = []
columns bs off w n (suc m) = columns bs off w n m ++ spaced bs (off + m) w n

-- of n records stored as columns that begin at off: record 0, record 1 and so on, m records of w bytes
unfoldable pub rows : List ℕ → ℕ → ℕ → ℕ → ℕ → List ℕ
rows bs off w n zero = []
rows bs off w n (suc m) = rows bs off w n m ++ spaced bs (off + m) n w

-- the column file of a part
unfoldable pub part_columns : List ℕ → List ℕ
part_columns part =
    piece part 0 part_header
    ++ (columns part (tree_place 0) tree_size (part_count part) tree_size ++ columns part (ghost_place (part_count part) 0) core_size (part_ghost_count part) core_size)

-- the part of a column file: the inverse
unfoldable pub columns_part : List ℕ → List ℕ
columns_part file =
    piece file 0 part_header
    ++ (rows file (tree_place 0) tree_size (part_count file) (part_count file) ++ rows file (ghost_place (part_count file) 0) core_size (part_ghost_count file) (part_ghost_count file))

-- the file is that of a sound part: it has the length that its header says, and its part is sound
unfoldable pub columns_sound : List ℕ → List ℕ → ℕ → Bool
columns_sound file table rank = length file == part_size (part_count file) (part_ghost_count file) && part_sound (columns_part file) table rank
