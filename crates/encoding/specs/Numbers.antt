-- Little-endian numbers of any width in lent bytes.
use Rattle.std.specs.Prelude.{ℕ, zero, suc, ◌+◌, ◌*◌, ◌/◌, ◌%◌, List, [], ◌∷◌}
use Rattle.encoding.specs.Pieces.{piece, splice}

-- the number that the bytes stand for, the least significant byte first
unfoldable pub le_value : List ℕ → ℕ
le_value [] = 0
le_value (b ∷ bs) = b + 256 * le_value bs

-- the w bytes that stand for v
unfoldable pub le_bytes : ℕ → ℕ → List ℕ
le_bytes zero v = []
le_bytes (suc w) v = v % 256 ∷ le_bytes w (v / 256)

-- the number of w bytes at off
unfoldable pub le_at : ℕ → List ℕ → ℕ → ℕ
le_at w bs off = le_value (piece bs off w)

-- the buffer with v written in w bytes at off
unfoldable pub le_put : ℕ → List ℕ → ℕ → ℕ → List ℕ
le_put w bs off v = splice bs off (le_bytes w v)

abbrev pub u32_at : List ℕ → ℕ → ℕ
u32_at = le_at 4

abbrev pub u64_at : List ℕ → ℕ → ℕ
u64_at = le_at 8

abbrev pub put_u32 : List ℕ → ℕ → ℕ → List ℕ
put_u32 = le_put 4

abbrev pub put_u64 : List ℕ → ℕ → ℕ → List ℕ
put_u64 = le_put 8
