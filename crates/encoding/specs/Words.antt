-- Records as words of 8 bytes, and the zero test.
use Rattle.std.specs.Prelude.{ℕ, Bool, List, [], ◌∷◌, ◌++◌, eqb, length, get_or}
use Rattle.encoding.specs.declared.record.Words40.{Words40}
use Rattle.encoding.specs.declared.record.Words64.{Words64}
use Rattle.encoding.specs.Below.{all_below}
use Rattle.encoding.specs.Numbers.{le_bytes}

-- the bytes of the words, one word after the other
unfoldable pub word_bytes : List ℕ → List ℕ
word_bytes [] = []
word_bytes (w ∷ ws) = le_bytes 8 w ++ word_bytes ws

-- the 40 bytes of a record
unfoldable pub bytes40 : Words40 → List ℕ
bytes40 r = word_bytes (r.w0 ∷ r.w1 ∷ r.w2 ∷ r.w3 ∷ r.w4 ∷ [])

-- the 64 bytes of a record
unfoldable pub bytes64 : Words64 → List ℕ
bytes64 r = bytes40 r.core ++ word_bytes (r.w5 ∷ r.w6 ∷ r.w7 ∷ [])

-- the byte at i is 0
abbrev pub zero_at : List ℕ → ℕ → Bool
zero_at bs i = eqb (get_or bs i 0) 0

-- every byte is 0
unfoldable pub all_zero : List ℕ → Bool
all_zero bs = all_below (length bs) (zero_at bs)
