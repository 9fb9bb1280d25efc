-- Means, no part of what is promised: reading a text line by line, so that each function's answer is one equation. In proofs/Files.antt: what is read is what `Text` says.
use Rattle.std.specs.Prelude.{ℕ, suc, ◌+◌, ◌-◌, ◌*◌, ◌≤◌, ◌≡◌, Bool, true, false, cond, ◌&&◌, ◌||◌, List, [], ◌∷◌, ◌++◌, leb, ltb, eqb, take}
use Rattle.std.specs.Prelude.{None, Some}
use Rattle.std.specs.declared.option.Option.{Option}
use Rattle.ele_text.specs.declared.line.Row.{Row}
use Rattle.ele_text.specs.declared.file.File.{File}
use Rattle.ele_text.specs.Text.{is_either, pieces, is_empty, first_piece, is_number, field_number, max_triangles, text_ok, vertices, triangles}

-- how many bytes stand before the first that is x or y
unfoldable pub until_either : ℕ → ℕ → List ℕ → ℕ
until_either x y [] = 0
until_either x y (b ∷ s) = cond (is_either x y b) 0 (suc (until_either x y s))

unfoldable pub numeral_of : List ℕ → Option ℕ
numeral_of s = cond (is_number s) (Some (field_number s)) None

-- ---- a row: how many fields it has, at most four, and the last four of their numbers; none where a field is no number, or the fifth

abbrev pub empty_row : Row
empty_row = record { count = 0; a = 0; b = 0; c = 0; d = 0 }

-- the row with a field more
unfoldable pub add_field : Option Row → List ℕ → Option Row
add_field None s = None
add_field (Some r) s = cond (ltb r.count 4 && is_number s) (Some (record { count = r.count + 1; a = r.b; b = r.c; c = r.d; d = field_number s })) None

-- the same of a piece, which is no field if it is empty
unfoldable pub with_field : Option Row → List ℕ → Option Row
with_field r s = cond (is_empty s) r (add_field r s)

unfoldable pub with_fields : Option Row → List (List ℕ) → Option Row
with_fields r [] = r
with_fields r (p ∷ ps) = with_fields (with_field r p) ps

-- the row of a line
unfoldable pub row_of : List ℕ → Option Row
row_of line = with_fields (Some empty_row) (pieces 32 9 (first_piece (pieces 35 35 line)))

-- ---- a file: how many rows were read, what the first says, the number that the next triangle has, and the vertices

pub record Read : Type 0 where
  pub rows : ℕ
  pub count : ℕ
  pub next : ℕ
  pub vertices : List ℕ

abbrev pub nothing_read : Read
nothing_read = record { rows = 0; count = 0; next = 0; vertices = [] }

unfoldable pub is_head : Row → Bool
is_head r = eqb r.count 3 && (eqb r.c 3 && eqb r.d 0) && (leb 1 r.b && leb r.b max_triangles)

-- the number is the next; the first triangle's may be 0 or 1
unfoldable pub is_triangle : ℕ → ℕ → ℕ → Row → Bool
is_triangle rows count next r = (eqb r.count 4 && leb rows count) && (eqb r.a next || (eqb rows 1 && eqb r.a 1))

-- with a row more
unfoldable pub add_row : Option Read → Option Row → Option Read
add_row None r = None
add_row (Some m) None = None
add_row (Some m) (Some r) =
    cond (eqb m.rows 0)
    (cond (is_head r) (Some (record { rows = 1; count = r.b; next = 0; vertices = [] })) None)
    (cond (is_triangle m.rows m.count m.next r) (Some (record { rows = m.rows + 1; count = m.count; next = r.a + 1; vertices = m.vertices ++ (r.b ∷ r.c ∷ r.d ∷ []) })) None)

-- a row without fields
unfoldable pub blank : Option Row → Bool
blank None = false
blank (Some r) = eqb r.count 0

-- the same of a line, which is no row if it has no fields
unfoldable pub with_row : Option Read → Option Row → Option Read
with_row m r = cond (blank r) m (add_row m r)

-- as many rows as the first one says
unfoldable pub accepted : Option Read → Bool
accepted None = false
accepted (Some m) = eqb m.rows (m.count + 1)

-- to the end: what stands behind the last LF is empty, and all triangles are there
unfoldable pub read_end : Option Read → List ℕ → Option Read
read_end m p = cond (is_empty p && accepted m) m None

-- all lines, and what stands behind the last LF
unfoldable pub with_lines : Option Read → List (List ℕ) → Option Read
with_lines m [] = None
with_lines m (p ∷ ps) = cond (is_empty ps) (read_end m p) (with_lines (with_row m (row_of p)) ps)

-- what a file struct and an array of vertices hold
abbrev pub read_of : File → List ℕ → Read
read_of f vs = record { rows = f.rows; count = f.count; next = f.next; vertices = take (3 * (f.rows - 1)) vs }

-- rows within their limits
pub record Within (f : File) : Type 0 where
  pub count : f.count ≤ max_triangles
  pub rows : f.rows ≤ f.count + 1
  pub next : f.next ≤ f.rows

-- the file that takes a row in, if any
abbrev pub Taken : Read → Row → List ℕ → Option File → Type 0
Taken m r exit None = None ≡ with_row (Some m) (Some r)
Taken m r exit (Some f) = Within f × (Some (read_of f exit) ≡ with_row (Some m) (Some r))

-- n triangles, whose vertices are in the first places of an array
pub record Triangles (text exit : List ℕ) (n : ℕ) : Type 0 where
  pub ok : text_ok text ≡ true
  pub count : n ≡ triangles text
  pub within : n ≤ max_triangles
  pub filled : take (3 * n) exit ≡ vertices text

-- what a text gives
abbrev pub TextRead : List ℕ → List ℕ → Option ℕ → Type 0
TextRead text exit None = text_ok text ≡ false
TextRead text exit (Some n) = Triangles text exit n
