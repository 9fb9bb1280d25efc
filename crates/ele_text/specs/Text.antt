-- The text of an element file: lines, fields and numbers, in ASCII. 9 is tab, 10 LF, 32 space, 35 #, 48 to 57 the digits.
use Rattle.std.specs.Prelude.{ℕ, zero, suc, ◌+◌, ◌*◌, ◌-◌, Bool, true, false, cond, ◌&&◌, ◌||◌, List, [], ◌∷◌, leb, eqb, length, get_or}
use Rattle.encoding.specs.Below.{all_below}

-- ---- lines and fields

-- the byte is x or y
unfoldable pub is_either : ℕ → ℕ → ℕ → Bool
is_either x y b = eqb b x || eqb b y

-- a byte in front of the first piece
unfoldable pub on_first : ℕ → List (List ℕ) → List (List ℕ)
on_first b [] = (b ∷ []) ∷ []
on_first b (p ∷ ps) = (b ∷ p) ∷ ps

-- what stands between the bytes that are x or y, in order: one piece more than there are such bytes
unfoldable pub pieces : ℕ → ℕ → List ℕ → List (List ℕ)
pieces x y [] = [] ∷ []
pieces x y (b ∷ s) = cond (is_either x y b) ([] ∷ pieces x y s) (on_first b (pieces x y s))

unfoldable pub is_empty : {A : Type 0} → List A → Bool
is_empty [] = true
is_empty (a ∷ s) = false

unfoldable pub first_piece : List (List ℕ) → List ℕ
first_piece [] = []
first_piece (p ∷ ps) = p

-- the pieces but the last
unfoldable pub but_last : List (List ℕ) → List (List ℕ)
but_last [] = []
but_last (p ∷ []) = []
but_last (p ∷ q ∷ ps) = p ∷ but_last (q ∷ ps)

unfoldable pub last_piece : List (List ℕ) → List ℕ
last_piece [] = []
last_piece (p ∷ []) = p
last_piece (p ∷ q ∷ ps) = last_piece (q ∷ ps)

-- the pieces in which something stands
unfoldable pub filled : List (List ℕ) → List (List ℕ)
filled [] = []
filled (p ∷ ps) = cond (is_empty p) (filled ps) (p ∷ filled ps)

-- the lines, each of which ends in LF
unfoldable pub lines : List ℕ → List (List ℕ)
lines text = but_last (pieces 10 10 text)

-- nothing stands behind the last LF
unfoldable pub ended : List ℕ → Bool
ended text = is_empty (last_piece (pieces 10 10 text))

-- a line's fields: what spaces and tabs part in front of its comment
unfoldable pub fields : List ℕ → List (List ℕ)
fields line = filled (pieces 32 9 (first_piece (pieces 35 35 line)))

-- the fields of every line that has some; blank lines, and those with only a comment, are skipped
unfoldable pub rows : List (List ℕ) → List (List (List ℕ))
rows [] = []
rows (l ∷ ls) = cond (is_empty (fields l)) (rows ls) (fields l ∷ rows ls)

-- ---- numbers

unfoldable pub is_digit : ℕ → Bool
is_digit b = leb 48 b && leb b 57

-- the number that the first n digits stand for
unfoldable pub digits_value : ℕ → List ℕ → ℕ
digits_value zero s = 0
digits_value (suc n) s = 10 * digits_value n s + (get_or s n 0 - 48)

-- a number has 1 to 8 digits, zeros in front allowed
unfoldable pub is_number : List ℕ → Bool
is_number field = (leb 1 (length field) && leb (length field) 8) && all_below (length field) (λ i. is_digit (get_or field i 0))

unfoldable pub field_number : List ℕ → ℕ
field_number field = digits_value (length field) field

-- number j of a row
unfoldable pub row_number : List (List ℕ) → ℕ → ℕ
row_number row j = field_number (get_or row j [])

unfoldable pub all_numbers : List (List ℕ) → Bool
all_numbers [] = true
all_numbers (f ∷ fs) = is_number f && all_numbers fs

-- a row of k numbers
unfoldable pub row_ok : ℕ → List (List ℕ) → Bool
row_ok k row = eqb (length row) k && all_numbers row

-- ---- the file

abbrev pub max_triangles : ℕ
max_triangles = 65536

-- the first line: the number of triangles, 3 and 0
unfoldable pub head_ok : List (List ℕ) → Bool
head_ok row = row_ok 3 row && (eqb (row_number row 1) 3 && eqb (row_number row 2) 0) && (leb 1 (row_number row 0) && leb (row_number row 0) max_triangles)

-- a line per triangle: its number, from k on rising by one, and three vertex numbers
unfoldable pub numbered : ℕ → List (List (List ℕ)) → Bool
numbered k [] = true
numbered k (t ∷ ts) = (row_ok 4 t && eqb (row_number t 0) k) && numbered (suc k) ts

-- the first line, and as many lines as it says, numbered from 0 or from 1
unfoldable pub rows_ok : List (List (List ℕ)) → Bool
rows_ok [] = false
rows_ok (h ∷ ts) = head_ok h && (eqb (length ts) (row_number h 0) && (numbered 0 ts || numbered 1 ts))

-- the text has the form of an element file
unfoldable pub text_ok : List ℕ → Bool
text_ok text = ended text && rows_ok (rows (lines text))

-- the lines behind the first
unfoldable pub behind_first : List (List (List ℕ)) → List (List (List ℕ))
behind_first [] = []
behind_first (h ∷ ts) = ts

-- three vertex numbers for each triangle
unfoldable pub vertices_of : List (List (List ℕ)) → List ℕ
vertices_of [] = []
vertices_of (t ∷ ts) = row_number t 1 ∷ row_number t 2 ∷ row_number t 3 ∷ vertices_of ts

-- the vertices that a text gives, by triangle and corner: vertex 3 t + i is corner i of triangle t
unfoldable pub vertices : List ℕ → List ℕ
vertices text = vertices_of (behind_first (rows (lines text)))

-- how many triangles it gives
unfoldable pub triangles : List ℕ → ℕ
triangles text = length (behind_first (rows (lines text)))
