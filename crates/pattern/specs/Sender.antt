-- f is the partition of the old table, f' that of the new one: who sends tree k to rank q, by the rule of document 02, C-21, in the place of document 01's smallest rank.
use Rattle.std.specs.Prelude.{ℕ, ◌+◌, ◌-◌, ◌≡◌, Bool, true, cond, not, ◌&&◌, ◌||◌, List, leb, eqb, ℤ, pos, negsuc, Some, None}
use Rattle.encoding.specs.Below.{all_below, least_below, count_below}
use Rattle.encoding.specs.Pieces.{Bytes}
use Rattle.offsets.specs.Table.{ranks, ranks_ok, valid, trees, holds}
use Rattle.std.specs.declared.option.Option.{Option}

-- an old and a new table, both valid, that agree in P and K: what the theorems are about
pub record Tables (old new : List ℕ) : Type 0 where
  pub old_bytes : Bytes old
  pub new_bytes : Bytes new
  pub old_ranks : ranks_ok old ≡ true
  pub new_ranks : ranks_ok new ≡ true
  pub old_valid : valid old ≡ true
  pub new_valid : valid new ≡ true
  pub same_ranks : ranks new ≡ ranks old
  pub same_trees : trees new ≡ trees old

-- how far apart two ranks are
unfoldable pub distance : ℕ → ℕ → ℕ
distance p q = (p - q) + (q - p)

-- k is in f(p), and no rank with k in its range is nearer to q
unfoldable pub nearest : List ℕ → ℕ → ℕ → ℕ → Bool
nearest old k q p = holds old p k && all_below (ranks old) (λ r. not (holds old r k) || leb (distance p q) (distance r q))

-- C-21: for k in f'(q), the sender of k to q is the rank with k in f whose number differs least from q, the lower of two; so q if k is in f(q)
unfoldable pub sender : List ℕ → ℕ → ℕ → ℕ
sender old k q = least_below (ranks old) (nearest old k q)

-- the same where k may not be in f'(q): then nobody
unfoldable pub sender_to : List ℕ → List ℕ → ℕ → ℕ → Option ℕ
sender_to old new k q = cond (holds new q k) (Some (sender old k q)) None

-- the number that an answer gives: the rank, or −1
unfoldable pub sender_number : Option ℕ → ℤ
sender_number (Some p) = pos p
sender_number None = negsuc 0

-- p sends tree k to q
unfoldable pub sends : List ℕ → List ℕ → ℕ → ℕ → ℕ → Bool
sends old new p q k = holds new q k && eqb (sender old k q) p

-- the trees from p to q: the first, 0 where there are none, and how many
unfoldable pub sent_count : List ℕ → List ℕ → ℕ → ℕ → ℕ
sent_count old new p q = count_below (trees old) (sends old new p q)

unfoldable pub sent_first : List ℕ → List ℕ → ℕ → ℕ → ℕ
sent_first old new p q = cond (eqb (sent_count old new p q) 0) 0 (least_below (trees old) (sends old new p q))
