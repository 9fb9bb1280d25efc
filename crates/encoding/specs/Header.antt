-- The header that parts, messages and areas begin with.
use Rattle.std.specs.Prelude.{ℕ, List, ◌++◌, get_or}
use Rattle.encoding.specs.Numbers.{le_bytes}

-- eight numbers of 32 bits
abbrev pub eight_bytes : ℕ → ℕ → ℕ → ℕ → ℕ → ℕ → ℕ → ℕ → List ℕ
eight_bytes a b c d e f g h =
    le_bytes 4 a ++ (le_bytes 4 b ++ (le_bytes 4 c ++ (le_bytes 4 d ++ (le_bytes 4 e ++ (le_bytes 4 f ++ (le_bytes 4 g ++ le_bytes 4 h))))))

-- the same of a list of eight
abbrev pub eight_of : List ℕ → List ℕ
eight_of ns =
    eight_bytes (get_or ns 0 0) (get_or ns 1 0) (get_or ns 2 0) (get_or ns 3 0) (get_or ns 4 0) (get_or ns 5 0) (get_or ns 6 0) (get_or ns 7 0)
