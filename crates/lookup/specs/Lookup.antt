-- Finding a record by its global number.
use Rattle.std.specs.Prelude.{ℕ, ◌*◌, ◌/◌, Bool, cond, List, [], eqb, length, Some, None}
use Rattle.std.specs.Borrow.{Bor}
use Rattle.std.specs.declared.option.Option.{Option}
use Rattle.encoding.specs.Below.{any_below, least_below}
use Rattle.encoding.specs.Numbers.{u32_at}
use Rattle.encoding.specs.Pieces.{piece}
use Rattle.records.specs.Record.{core_size, tree_size}
use Rattle.lookup.specs.declared.Found.{Found}
use Rattle.lookup.specs.declared.Place.{Place}

-- record i of the slice has the number
unfoldable pub has_number : ℕ → List ℕ → ℕ → ℕ → Bool
has_number size bs number i = eqb (u32_at bs (size * i)) number

-- some record has it; a tail shorter than a record isn't read
unfoldable pub found : ℕ → List ℕ → ℕ → Bool
found size bs number = any_below (length bs / size) (has_number size bs number)

-- where the first that has it begins
unfoldable pub first_place : ℕ → List ℕ → ℕ → ℕ
first_place size bs number = size * least_below (length bs / size) (has_number size bs number)

-- the first that has it
unfoldable pub first_with : ℕ → List ℕ → ℕ → List ℕ
first_with size bs number = piece bs (first_place size bs number) size

-- the record with the number: trees before ghosts, an empty piece if neither has it
unfoldable pub lookup_record : List ℕ → List ℕ → ℕ → List ℕ
lookup_record trees ghosts number =
    cond (found tree_size trees number) (first_with tree_size trees number) (cond (found core_size ghosts number) (first_with core_size ghosts number) [])

abbrev pub found_at : ℕ → ℕ → Found
found_at which offset = record { which = which; offset = offset }

-- the same record by its place: 1 for the trees, 2 for the ghosts, 0 for neither, and the byte where it begins there
unfoldable pub found_record : List ℕ → List ℕ → ℕ → Found
found_record trees ghosts number =
    cond (found tree_size trees number) (found_at 1 (first_place tree_size trees number))
    (cond (found core_size ghosts number) (found_at 2 (first_place core_size ghosts number)) (found_at 0 0))

-- the piece that a place names: a tree record, a core record, or none
unfoldable pub found_piece : List ℕ → List ℕ → Found → List ℕ
found_piece trees ghosts r =
    cond (eqb r.which 1) (piece trees r.offset tree_size) (cond (eqb r.which 2) (piece ghosts r.offset core_size) [])

-- a place as C gets it
abbrev pub found_of : Option Place → Found
found_of None = found_at 0 0
found_of (Some (Place.Tree at)) = found_at 1 at
found_of (Some (Place.Ghost at)) = found_at 2 at

-- a record that is lent as bytes, none where there is none
abbrev pub bytes_of : Option (Bor (List ℕ)) → List ℕ
bytes_of None = []
bytes_of (Some r) = r.now
