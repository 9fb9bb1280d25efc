-- A part: dimension, K, P, rank, first tree, count n, ghost count g, 0 (each u32); n tree records; g core records.
use Rattle.std.specs.Prelude.{ℕ, ◌+◌, ◌*◌, List}
use Rattle.encoding.specs.Header.{eight_bytes}
use Rattle.records.specs.Record.{core_size, tree_size}

abbrev pub part_header : ℕ
part_header = 32

-- where tree i and ghost j of a part with n trees begin
abbrev pub tree_place : ℕ → ℕ
tree_place i = part_header + tree_size * i

abbrev pub ghost_place : ℕ → ℕ → ℕ
ghost_place n j = part_header + (tree_size * n + core_size * j)

-- the bytes of a part with n trees and g ghosts
abbrev pub part_size : ℕ → ℕ → ℕ
part_size n g = ghost_place n g

-- the header
unfoldable pub header_bytes : ℕ → ℕ → ℕ → ℕ → ℕ → ℕ → ℕ → List ℕ
header_bytes dimension K P rank first n g = eight_bytes dimension K P rank first n g 0
