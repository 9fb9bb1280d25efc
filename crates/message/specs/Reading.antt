-- Reading a message record by record: trees first, then ghosts.
use Rattle.std.specs.Prelude.{ℕ, ◌+◌, ◌-◌, cond, List, [], ltb}
use Rattle.encoding.specs.Pieces.{piece}
use Rattle.records.specs.Record.{core_size, tree_size}
use Rattle.message.specs.Layout.{message_tree_place, message_ghost_place, message_trees, message_ghosts, size_laid}

-- how many records a message has, trees and ghosts together; none where its length isn't as its header says
unfoldable pub record_count : List ℕ → ℕ
record_count m = cond (size_laid m) (message_trees m + message_ghosts m) 0

-- record i: a tree of 64 bytes, a ghost of 40, after the last an empty piece
unfoldable pub record_at : List ℕ → ℕ → List ℕ
record_at m i =
    cond (ltb i (record_count m))
    (cond (ltb i (message_trees m)) (piece m (message_tree_place i) tree_size) (piece m (message_ghost_place (message_trees m) (i - message_trees m)) core_size))
    []

-- the number that remain after record i, and 0 after the last
unfoldable pub remain_after : List ℕ → ℕ → ℕ
remain_after m i = record_count m - (i + 1)
