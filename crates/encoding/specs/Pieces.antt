-- Pieces of a buffer. Every change of a buffer is one splice.
use Rattle.std.specs.Prelude.{ℕ, ◌+◌, ◌<◌, List, ◌++◌, length, get_or, take, drop}

-- the n bytes from off
unfoldable pub piece : List ℕ → ℕ → ℕ → List ℕ
piece bs off n = take n (drop off bs)

-- bs with p in the place of as many bytes from off
unfoldable pub splice : List ℕ → ℕ → List ℕ → List ℕ
splice bs off p = take off bs ++ (p ++ drop (off + length p) bs)

-- every element is a byte: what owning a slice of bytes tells
abbrev pub Bytes : List ℕ → Type 0
Bytes bs = (i : ℕ) → get_or bs i 0 < 256
