-- Means, no part of what is promised: what writing an area requires, and the count of ones.
use Rattle.std.specs.Prelude.{ℕ, ◌+◌, ◌*◌, ◌≤◌, ◌<◌, List, length}
use Rattle.encoding.specs.Below.{count_below, sum_below}
use Rattle.encoding.specs.Numbers.{u64_at}
use Rattle.offsets.specs.Table.{ranks, tree_count}
use Rattle.pattern.specs.Sender.{Tables}
use Rattle.bits.specs.Bits.{bit_of}
use Rattle.area.specs.Layout.{words_place, area_size}
use Rattle.area.specs.Area.{area_p}

-- two tables that agree, a rank of theirs, and room for its area
pub record AreaRoom (old new : List ℕ) (rank dimension : ℕ) (out : List ℕ) : Type 0 where
  pub tables : Tables old new
  pub rank_below : rank < ranks old
  pub room : area_size dimension (ranks old) (tree_count new rank) ≤ length out

-- the ones in the first n words of heard senders
unfoldable pub heard_ones : List ℕ → ℕ → ℕ
heard_ones a n = sum_below n (λ w. count_below 64 (bit_of (u64_at a (words_place (area_p a) + 8 * w))))
