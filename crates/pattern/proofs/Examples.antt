-- Document 01's examples of the pattern, computed on the definitions.
use Prim.Native.Nat.{ℕ}
use mathlib.Core.Path.{◌≡◌, refl}
use mathlib.Core.List.{List, [], ◌∷◌}
use Rattle.encoding.specs.Below.{all_below, any_below, count_below, least_below, kept_below}
use Rattle.encoding.specs.Pieces.{piece}
use Rattle.encoding.specs.Numbers.{le_value, le_bytes, le_at}
use Rattle.offsets.specs.Table.{ranks, entry, negative, magnitude, first_of, trees, first_tree, end_tree, holds, table_bytes}
use Rattle.offsets.proofs.Examples.{minus}
use Rattle.pattern.specs.Sender.{distance, nearest, sender, sends, sent_count, sent_first}
use Rattle.pattern.specs.Sets.{sends_to, send_set}

-- document 000's list of empty send sets misses this one: old {0,-1,2}, new {0,0,2}, rank 0 sends nothing
pub missed_corner : send_set (table_bytes (0 ∷ minus 1 ∷ 2 ∷ [])) (table_bytes (0 ∷ 0 ∷ 2 ∷ [])) 0 ≡ []
unfolding send_set kept_below sends_to any_below sender nearest distance all_below least_below holds first_tree end_tree first_of magnitude negative trees ranks entry le_at piece le_value table_bytes le_bytes
missed_corner = refl

-- the tables of the example of `plan`
abbrev plan_old : List ℕ
plan_old = table_bytes (0 ∷ minus 2 ∷ 3 ∷ 5 ∷ [])

abbrev plan_new : List ℕ
plan_new = table_bytes (0 ∷ minus 3 ∷ minus 4 ∷ 5 ∷ [])

-- the first tree and the number of trees of its five moves; of the other four pairs, none sends a tree
pub plan_moves : (sent_first plan_old plan_new 0 0 ≡ 0) × (sent_count plan_old plan_new 0 0 ≡ 2)
    × (sent_first plan_old plan_new 1 0 ≡ 2) × (sent_count plan_old plan_new 1 0 ≡ 1)
    × (sent_first plan_old plan_new 1 1 ≡ 2) × (sent_count plan_old plan_new 1 1 ≡ 1)
    × (sent_first plan_old plan_new 2 1 ≡ 3) × (sent_count plan_old plan_new 2 1 ≡ 1)
    × (sent_first plan_old plan_new 2 2 ≡ 3) × (sent_count plan_old plan_new 2 2 ≡ 2)
    × (sent_count plan_old plan_new 0 1 ≡ 0) × (sent_count plan_old plan_new 0 2 ≡ 0) × (sent_count plan_old plan_new 1 2 ≡ 0) × (sent_count plan_old plan_new 2 0 ≡ 0)
unfolding sent_first sent_count sends count_below any_below sender nearest distance all_below least_below holds first_tree end_tree first_of magnitude negative trees ranks entry le_at piece le_value table_bytes le_bytes
plan_moves = (refl, refl, refl, refl, refl, refl, refl, refl, refl, refl, refl, refl, refl, refl)

-- tree 0, on ranks at several distances from the receiver, which hasn't got it: the nearest sends it, the lower of two
pub nearest_senders : (sender (table_bytes (0 ∷ minus 1 ∷ 1 ∷ 1 ∷ [])) 0 2 ≡ 1) × (sender (table_bytes (0 ∷ 1 ∷ minus 1 ∷ 1 ∷ [])) 0 1 ≡ 0)
    × (sender (table_bytes (0 ∷ 1 ∷ 1 ∷ minus 1 ∷ 1 ∷ [])) 0 2 ≡ 3) × (sender (table_bytes (0 ∷ 0 ∷ minus 1 ∷ 1 ∷ [])) 0 0 ≡ 1)
unfolding sender nearest distance all_below any_below least_below holds first_tree end_tree first_of magnitude negative trees ranks entry le_at piece le_value table_bytes le_bytes
nearest_senders = (refl, refl, refl, refl)
