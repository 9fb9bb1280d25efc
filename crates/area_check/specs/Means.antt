-- Means, no part of what is promised: the tests of words and slots as the code makes them.
use Rattle.std.specs.Prelude.{ℕ, ◌+◌, ◌*◌, Bool, true, cond, not, ◌&&◌, List, leb, ltb, eqb}
use Rattle.encoding.specs.Below.{all_below}
use Rattle.encoding.specs.Pieces.{piece}
use Rattle.encoding.specs.Words.{all_zero}
use Rattle.records.specs.Record.{core_size, tree_size, number_of, in_form}
use Rattle.message.specs.Layout.{after_last}
use Rattle.area.specs.Area.{heard, bit_sound}
use Rattle.area.specs.Means.{from_first, from_count, from_place, core_at}

-- the bits of word w are set only for ranks of the receive set
unfoldable pub word_sound : List ℕ → ℕ → Bool
word_sound a w = all_below 64 (λ b. bit_sound a (64 * w + b))

-- the record at byte `at` is in form and has number k
unfoldable pub slot_held : List ℕ → ℕ → ℕ → Bool
slot_held a at k = in_form k (piece a at core_size) && eqb (number_of (piece a at core_size)) k

module _ (a : List ℕ) where
  -- the slots of the trees due from s: held where s is heard, else zero
  unfoldable pub range_sound : ℕ → Bool
  range_sound s =
      cond (eqb (from_count a s) 0) true
      (cond (heard a s) (all_below (from_count a s) (λ j. slot_held a (from_place a s + tree_size * j) (from_first a s + j)))
      (all_zero (piece a (from_place a s) (tree_size * from_count a s))))

  -- how many of them are filled
  unfoldable pub range_filled : ℕ → ℕ
  range_filled s = cond (heard a s) (from_count a s) 0

-- ghost j from byte `at` on: in form, below K, outside the range from first to end, after the ghost before it
unfoldable pub ghost_held_at : List ℕ → ℕ → ℕ → ℕ → ℕ → ℕ → Bool
ghost_held_at a at K first end j =
    in_form (number_of (core_at a at j)) (core_at a at j) && ltb (number_of (core_at a at j)) K
    && not (leb first (number_of (core_at a at j)) && ltb (number_of (core_at a at j)) end) && after_last (core_at a at) j
