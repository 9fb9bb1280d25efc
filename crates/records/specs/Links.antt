-- The six links of a record, worked on together: six rows of neighbour, face and orientation.
use Rattle.std.specs.Prelude.{ℕ, zero, suc, ◌+◌, ◌*◌, ◌/◌, ◌%◌, ◌<◌, List, [], ◌∷◌, ◌++◌, ◌≡◌, length, get_or}
use Rattle.encoding.specs.Numbers.{le_bytes}
use Rattle.encoding.specs.Pieces.{splice}
use Rattle.records.specs.Record.{neighbour_of, code_of}

-- row f of a record, with F faces
unfoldable pub row_of : List ℕ → ℕ → ℕ → List ℕ
row_of r F f = neighbour_of r f ∷ (code_of r f % F) ∷ (code_of r f / F) ∷ []

-- the six rows of a record
unfoldable pub rows_of : List ℕ → ℕ → List (List ℕ)
rows_of r F = row_of r F 0 ∷ row_of r F 1 ∷ row_of r F 2 ∷ row_of r F 3 ∷ row_of r F 4 ∷ row_of r F 5 ∷ []

-- a number of a row of the six
abbrev pub cell : List (List ℕ) → ℕ → ℕ → ℕ
cell rows f i = get_or (get_or rows f []) i 0

-- the neighbours and the face codes of the rows below n, as they stand in a record
unfoldable pub neighbour_bytes : List (List ℕ) → ℕ → List ℕ
neighbour_bytes rows zero = []
neighbour_bytes rows (suc n) = neighbour_bytes rows n ++ le_bytes 4 (cell rows n 0)

unfoldable pub code_bytes : List (List ℕ) → ℕ → ℕ → List ℕ
code_bytes rows F zero = []
code_bytes rows F (suc n) = code_bytes rows F n ++ ((cell rows n 2 * F + cell rows n 1) ∷ [])

-- the record with the six rows in it: bytes 8 to 37 are written, every other byte stays
unfoldable pub with_rows : List (List ℕ) → ℕ → List ℕ → List ℕ
with_rows rows F r = splice r 8 (neighbour_bytes rows 6 ++ code_bytes rows F 6)

-- rows that a record can hold: each of three numbers, the neighbour in 32 bits, the face below F, the code in a byte
pub record Rows (rows : List (List ℕ)) (F : ℕ) : Type 0 where
  pub six : length rows ≡ 6
  pub three : (f : ℕ) → f < 6 → length (get_or rows f []) ≡ 3
  pub neighbours : (f : ℕ) → f < 6 → cell rows f 0 < 4294967296
  pub faces : (f : ℕ) → f < 6 → cell rows f 1 < F
  pub codes : (f : ℕ) → f < 6 → cell rows f 2 * F + cell rows f 1 < 256
