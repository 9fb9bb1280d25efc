-- The send set and the receive set of a rank, ascending.
use Rattle.std.specs.Prelude.{ℕ, ◌+◌, ◌-◌, ◌≤◌, ◌≡◌, Bool, true, cond, ◌&&◌, List, [], eqb, ℤ, pos, negsuc, length, get_or}
use Rattle.encoding.specs.Below.{any_below, kept_below, member}
use Rattle.offsets.specs.Table.{ranks, trees, first_tree, tree_count, holds}
use Rattle.pattern.specs.Sender.{sender}

module _ (old new : List ℕ) where
  -- p sends q a tree
  unfoldable pub sends_to : ℕ → ℕ → Bool
  sends_to p q = any_below (trees old) (λ k. holds new q k && eqb (sender old k q) p)

  -- the send set of p: every q to which p sends a tree
  unfoldable pub send_set : ℕ → List ℕ
  send_set p = kept_below (ranks old) (sends_to p)

  -- q gets a tree from p: p sends one of the trees of f'(q)
  unfoldable pub gets_from : ℕ → ℕ → Bool
  gets_from q p = any_below (tree_count new q) (λ i. eqb (sender old (first_tree new q + i) q) p)

  -- the receive set of q: every p from which it gets a tree
  unfoldable pub receive_set : ℕ → List ℕ
  receive_set q = kept_below (ranks old) (gets_from q)

-- the smallest of an ascending list, −1 where it is empty
unfoldable pub smallest : List ℕ → ℤ
smallest s = cond (eqb (length s) 0) (negsuc 0) (pos (get_or s 0 0))

-- the largest of an ascending list, −2 where it is empty
unfoldable pub largest : List ℕ → ℤ
largest s = cond (eqb (length s) 0) (negsuc 1) (pos (get_or s (length s - 1) 0))

-- promised of both sets: of an empty one, smallest and largest are −1 and −2; else they are in it, and each k in it lies between them
pub record Ends (s : List ℕ) : Type 0 where
  pub of_none : s ≡ [] → (smallest s ≡ negsuc 0) × (largest s ≡ negsuc 1)
  pub least : (k : ℕ) → member k s ≡ true → (m : ℕ) × (smallest s ≡ pos m) × (member m s ≡ true) × (m ≤ k)
  pub greatest : (k : ℕ) → member k s ≡ true → (m : ℕ) × (largest s ≡ pos m) × (member m s ≡ true) × (k ≤ m)
