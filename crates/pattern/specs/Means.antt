-- Means, no part of what is promised: what inner functions require, and values that follow the code. Each is proved equal to what the public definitions say.
use Rattle.std.specs.Prelude.{ℕ, zero, suc, ◌+◌, ◌-◌, ◌^◌, ◌≤◌, ◌<◌, min, max, ◌≡◌, Bool, true, false, cond, ◌&&◌, List, leb, ltb, pos, length, get_or, take, Some, None, Ok, Err, ⊤}
use Rattle.encoding.specs.Below.{kept_below, least_below}
use Rattle.encoding.specs.Pieces.{Bytes, splice}
use Rattle.offsets.specs.Limits.{max_ranks}
use Rattle.offsets.specs.Table.{ranks, ranks_ok, valid, trees, entry, magnitude, first_tree, end_tree, holds}
use Rattle.pattern.specs.declared.Ranks.{Ranks}
use Rattle.pattern.specs.Calls.{set_refusal, set_answer}
use Rattle.pattern.specs.Sender.{Tables}
use Rattle.pattern.specs.Sets.{sends_to, gets_from}

-- ---- what inner functions require

-- a valid table and one of its trees
pub record TreeOf (t : List ℕ) (k : ℕ) : Type 0 where
  pub ranks_fit : ranks_ok t ≡ true
  pub is_valid : valid t ≡ true
  pub tree_below : k < trees t

-- a valid table
pub record ValidTable (t : List ℕ) : Type 0 where
  pub bytes : Bytes t
  pub ranks_fit : ranks_ok t ≡ true
  pub is_valid : valid t ≡ true

-- two tables that agree, and a rank of theirs
pub record RankOf (old new : List ℕ) (p : ℕ) : Type 0 where
  pub tables : Tables old new
  pub rank_below : p < ranks old

-- two tables that agree, and two ranks of theirs
pub record PairOf (old new : List ℕ) (p q : ℕ) : Type 0 where
  pub tables : Tables old new
  pub sender_below : p < ranks old
  pub receiver_below : q < ranks old

-- two tables that agree, and a tree and a rank of theirs
pub record TreeTo (old new : List ℕ) (k q : ℕ) : Type 0 where
  pub tables : Tables old new
  pub tree_below : k < trees old
  pub receiver_below : q < ranks old

-- ---- the walk away from q for a rank that has tree k: d ranks below q, then d above

unfoldable pub held_below : List ℕ → ℕ → ℕ → ℕ → Bool
held_below old k q d = cond (ltb q d) false (holds old (q - d) k)

unfoldable pub held_above : List ℕ → ℕ → ℕ → ℕ → Bool
held_above old k q d = cond (leb (ranks old - q) d) false (holds old (q + d) k)

-- ---- the trees from p to q

-- p has trees
unfoldable pub has_trees : List ℕ → ℕ → Bool
has_trees t p = ltb (first_tree t p) (end_tree t p)

-- the nearest rank below p that has trees; 0 where none has
unfoldable pub lower_rank : List ℕ → ℕ → ℕ
lower_rank t zero = 0
lower_rank t (suc p) = cond (has_trees t p) p (lower_rank t p)

-- n is above p and has trees
unfoldable pub above_with_trees : List ℕ → ℕ → ℕ → Bool
above_with_trees t p n = ltb p n && has_trees t n

-- the nearest rank above p that has trees; P where none has
unfoldable pub upper_rank : List ℕ → ℕ → ℕ
upper_rank t p = least_below (ranks t) (above_with_trees t p)

-- the trees from p to q are those from sent_low up to, but without, sent_high.
-- Of two ranks a < b that have a tree, b is nearer to q exactly where a + b < 2 q. So p doesn't send its first tree
-- if that is shared with a lower rank m and 2 q ≤ m + p, nor its last if that is shared with a higher rank n and n + p < 2 q
unfoldable pub sent_low : List ℕ → List ℕ → ℕ → ℕ → ℕ
sent_low old new p q =
    cond (leb (q + q) (lower_rank old p + p))
    (max (magnitude (entry old p)) (max (first_tree old p) (first_tree new q)))
    (max (first_tree old p) (first_tree new q))

unfoldable pub sent_high : List ℕ → List ℕ → ℕ → ℕ → ℕ
sent_high old new p q =
    cond (ltb (upper_rank old p + p) (q + q))
    (min (first_tree old (upper_rank old p)) (min (end_tree old p) (end_tree new q)))
    (min (end_tree old p) (end_tree new q))

-- the ranks with trees on either side of p, beside a pair
pub record PairNear (old new : List ℕ) (p q lower upper : ℕ) : Type 0 where
  pub pair : PairOf old new p q
  pub is_lower : lower ≡ lower_rank old p
  pub is_upper : upper ≡ upper_rank old p

-- ---- the two sets of a rank by one test: to the other where the rank is sending, else from the other

unfoldable pub exchanges_tree : List ℕ → List ℕ → ℕ → Bool → ℕ → Bool
exchanges_tree old new rank sending other = cond sending (sends_to old new rank other) (gets_from old new rank other)

unfoldable pub rank_set : List ℕ → List ℕ → ℕ → Bool → List ℕ
rank_set old new rank sending = kept_below (ranks old) (exchanges_tree old new rank sending)

-- ---- the window of ranks with which a rank may exchange trees

-- the ranks below r - 1 have no tree from k on, and from rank r on |O[p]| is above k
pub record FirstAbove (t : List ℕ) (k r : ℕ) : Type 0 where
  pub low : 1 ≤ r
  pub high : r ≤ ranks t
  pub before : (i : ℕ) → suc i < r → end_tree t i ≤ k
  pub after : (i : ℕ) → r ≤ i → i < ranks t → k < magnitude (entry t i)

-- a rank outside the window has no tree from a on and before b
pub record Meeting (t : List ℕ) (a b first end : ℕ) : Type 0 where
  pub ordered : first ≤ end
  pub within : end ≤ ranks t
  pub before : (i : ℕ) → i < first → end_tree t i ≤ a
  pub after : (i : ℕ) → end ≤ i → i < ranks t → b ≤ first_tree t i

-- with a rank outside the window no tree is exchanged
pub record WindowOf (old new : List ℕ) (rank : ℕ) (sending : Bool) (first end : ℕ) : Type 0 where
  pub ordered : first ≤ end
  pub within : end ≤ ranks old
  pub before : (i : ℕ) → i < first → exchanges_tree old new rank sending i ≡ false
  pub after : (i : ℕ) → end ≤ i → i < ranks old → exchanges_tree old new rank sending i ≡ false

-- n ranks are in the set, and they are written where the list has room for them
pub record SetWritten (old new : List ℕ) (p : ℕ) (sending : Bool) (start out : List ℕ) (n : ℕ) : Type 0 where
  pub counted : n ≡ length (rank_set old new p sending)
  pub few : n ≤ max_ranks
  pub kept : n ≤ length start → out ≡ splice start 0 (rank_set old new p sending)

-- either call for a set
unfoldable pub rank_set_of : List ℕ → List ℕ → ℕ → Bool → List ℕ → Ranks × List ℕ
rank_set_of old new rank sending out = set_answer (set_refusal old new rank (rank_set old new rank sending) out) (rank_set old new rank sending) out
