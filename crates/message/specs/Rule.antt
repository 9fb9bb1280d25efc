-- Which trees and ghosts rank p sends to q, over a function from a tree's number to its core with global neighbours.
use Rattle.std.specs.Prelude.{ℕ, zero, suc, ◌+◌, Bool, cond, not, ◌&&◌, ◌||◌, List, [], ◌++◌, eqb}
use Rattle.encoding.specs.Below.{any_below, least_below, count_below}
use Rattle.offsets.specs.Table.{ranks, trees}
use Rattle.records.specs.Shape.{face_count}
use Rattle.records.specs.Record.{shape_of, neighbour_of}
use Rattle.pattern.specs.Sender.{sends, sent_first, sent_count}
use Rattle.part.specs.Ghosts.{is_ghost}
use Rattle.message.specs.Layout.{message_header_bytes}

module _ (core : ℕ → List ℕ) (old new : List ℕ) where
  -- p sends q a face neighbour of g
  unfoldable pub sends_beside : ℕ → ℕ → ℕ → Bool
  sends_beside p q g = any_below (face_count (shape_of (core g))) (λ f. sends old new p q (neighbour_of (core g) f))

  -- p considers ghost g for q if p sends q a face neighbour of g and g is a ghost of q under f'
  unfoldable pub considers : ℕ → ℕ → ℕ → Bool
  considers p q g = sends_beside p q g && is_ghost core new q g

  -- it sends g if p = q, or if q doesn't consider g and p is the smallest rank that does
  unfoldable pub sends_ghost : ℕ → ℕ → ℕ → Bool
  sends_ghost p q g =
      considers p q g && (eqb p q || (not (considers q q g) && eqb p (least_below (ranks old) (λ r. considers r q g))))

  -- the message from p to q: record k is tree k's record with its data, and only records at hand are looked at
  module _ (hand : ℕ → Bool) (tree_record : ℕ → List ℕ) (p q : ℕ) where
    -- the records of the first n trees from k on
    unfoldable pub trees_from : ℕ → ℕ → List ℕ
    trees_from k zero = []
    trees_from k (suc n) = trees_from k n ++ tree_record (k + n)

    -- ghost g goes with it
    unfoldable pub ghost_goes : ℕ → Bool
    ghost_goes g = hand g && sends_ghost p q g

    -- the cores of the ghosts below k that go, ascending
    unfoldable pub ghosts_going : ℕ → List ℕ
    ghosts_going zero = []
    ghosts_going (suc k) = ghosts_going k ++ cond (ghost_goes k) (core k) []

    -- the message of an epoch and a dimension
    unfoldable pub rule_message : ℕ → ℕ → List ℕ
    rule_message epoch dimension =
        message_header_bytes epoch dimension (trees old) (ranks old) p q (sent_count old new p q) (count_below (trees old) ghost_goes)
        ++ (trees_from (sent_first old new p q) (sent_count old new p q) ++ ghosts_going (trees old))
