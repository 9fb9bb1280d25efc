-- A core record is 40 bytes, a tree record a core record and 24 bytes of tree data. What is said here reads a record's first 40 bytes alone.
use Rattle.std.specs.Prelude.{ℕ, ◌+◌, ◌*◌, ◌/◌, ◌%◌, Bool, true, cond, ◌&&◌, List, ltb, eqb, get_or}
use Rattle.encoding.specs.Below.{all_below}
use Rattle.encoding.specs.Numbers.{le_at, u32_at}
use Rattle.records.specs.Shape.{shape_ok, dimension_of, face_count, faces_in}

abbrev pub core_size : ℕ
core_size = 40

abbrev pub tree_size : ℕ
tree_size = 64

-- a face without use has this neighbour and code 0
abbrev pub unused : ℕ
unused = 4294967295

-- regions are the numbers below this one
abbrev pub region_limit : ℕ
region_limit = 4096

-- the global number
unfoldable pub number_of : List ℕ → ℕ
number_of r = u32_at r 0

unfoldable pub shape_of : List ℕ → ℕ
shape_of r = get_or r 4 0

-- the neighbour across face f
unfoldable pub neighbour_of : List ℕ → ℕ → ℕ
neighbour_of r f = u32_at r (8 + 4 * f)

-- the code of face f: orientation × F + the neighbour's face
unfoldable pub code_of : List ℕ → ℕ → ℕ
code_of r f = get_or r (32 + f) 0

-- F by the record's own shape
unfoldable pub faces_of : List ℕ → ℕ
faces_of r = faces_in (dimension_of (shape_of r))

-- the neighbour's face, and the orientation
unfoldable pub face_of : List ℕ → ℕ → ℕ
face_of r f = code_of r f % faces_of r

unfoldable pub orientation_of : List ℕ → ℕ → ℕ
orientation_of r f = code_of r f / faces_of r

-- document 02, C-22: the region, a number of two bytes; 0 for none
unfoldable pub region_of : List ℕ → ℕ
region_of r = le_at 2 r 38

-- it is within its limit
unfoldable pub region_ok : List ℕ → Bool
region_ok r = ltb (region_of r) region_limit

-- the zero bytes are zero
unfoldable pub zeros_ok : List ℕ → Bool
zeros_ok r = eqb (get_or r 5 0) 0 && eqb (get_or r 6 0) 0 && eqb (get_or r 7 0) 0

-- a face that the shape doesn't have is marked unused
unfoldable pub unused_ok : List ℕ → ℕ → Bool
unused_ok r f = eqb (neighbour_of r f) unused && eqb (code_of r f) 0

-- the face is a domain boundary: its link leads to the own number and the own face
unfoldable pub to_itself : ℕ → List ℕ → ℕ → Bool
to_itself own r f = eqb (neighbour_of r f) own && eqb (face_of r f) f

-- a boundary has orientation 0
unfoldable pub boundary_ok : ℕ → List ℕ → ℕ → Bool
boundary_ok own r f = cond (to_itself own r f) (eqb (orientation_of r f) 0) true

-- document 01's "in form", with document 02's region; the own number is the local index in a part's tree records and the global number everywhere else
unfoldable pub in_form : ℕ → List ℕ → Bool
in_form own r =
    shape_ok (shape_of r) && zeros_ok r && region_ok r && all_below 6 (λ f. cond (ltb f (face_count (shape_of r))) (boundary_ok own r f) (unused_ok r f))
