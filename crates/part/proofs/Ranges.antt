-- The range of a rank and its ghosts, as the code tests them.
use Prim.Native.Nat.{ℕ, ◌+◌, ◌-◌, ◌%◌, ◌≤◌, ◌<◌}
use native.Mathlib.Omega.{arith}
use mathlib.Core.Path.{◌≡◌, refl, sym, ◌∙◌}
use mathlib.Core.Bool.{Bool, true, false}
use mathlib.Core.List.{List}
use lib.Dec.{ltb, leb}
use borrow.Author.Tests.{ltb-true, leb-true, lt-ltb, le-ltb, le-leb, lt-leb}
use Rattle.encoding.specs.Below.{any_below}
use Rattle.encoding.proofs.Below.{either, tests, and_fst, and_snd}
use Rattle.offsets.specs.Table.{first_tree, end_tree, holds}
use Rattle.records.specs.Record.{neighbour_of}
use Rattle.part.specs.Ghosts.{is_ghost}
use Rattle.part.specs.Means.{in_range, neighbour_in, ghost_in}
use native.Mathlib.Numerals.{add-one}

-- a tree of the range is not below its first
pub range_first : (first end k : ℕ) {b : Bool} → b ≡ in_range first end k → b ≡ true → first ≤ k
unfolding in_range
range_first first end k e h = leb-true first k (and_fst (leb first k) (ltb k end) (sym e ∙ h))

-- a tree of the range is below its end
pub range_last : (first end k : ℕ) {b : Bool} → b ≡ in_range first end k → b ≡ true → k < end
unfolding in_range
range_last first end k e h = ltb-true k end (and_snd (leb first k) (ltb k end) (sym e ∙ h))

-- a number is in the range by one comparison
pub range_wraps : (first end k : ℕ) → first ≤ end → end ≤ 4294967296 → k < 4294967296 → ltb ((k + (4294967296 - first)) % 4294967296) (end - first) ≡ in_range first end k
unfolding in_range
range_wraps first end k h l u =
    either (ltb k first)
    (λ p.
    let below : k < first = ltb-true k first p in
    let far : (k + (4294967296 - first)) % 4294967296 ≡ k + (4294967296 - first) = omega arith in
    rw (far, lt-leb first k below) (le-ltb (k + (4294967296 - first)) (end - first) (omega arith)))
    (λ p.
    let from : first ≤ k = omega tests in
    let near : (k + (4294967296 - first)) % 4294967296 ≡ k - first = omega arith in
    rw (near, le-leb first k from)
    (either (ltb k end)
    (λ q. rw q (lt-ltb (k - first) (end - first) (omega tests)))
    (λ q. rw q (le-ltb (k - first) (end - first) (omega tests)))))

-- one more that fails, after none that passes
pub none_next : (i : ℕ) (f : ℕ → Bool) → any_below i f ≡ false → f i ≡ false → any_below (i + 1) f ≡ false
unfolding any_below
none_next i f a e = rw (add-one, a, e)

-- a loop that has come to its bound
pub none_to : (n : ℕ) (f : ℕ → Bool) (i : ℕ) → i ≤ n → n ≤ i → any_below i f ≡ false → false ≡ any_below n f
none_to n f i p q a = let e : n ≡ i = omega arith in rw e (sym a)

-- a ghost of the range is one of the rank
pub ghost_read : (core : ℕ → List ℕ) (table : List ℕ) (rank k : ℕ) → is_ghost core table rank k ≡ ghost_in core (first_tree table rank) (end_tree table rank) k
unfolding is_ghost ghost_in neighbour_in in_range holds
ghost_read core table rank k = refl

module _ (first end : ℕ) where
  pub neighbour_read : (r : List ℕ) (f : ℕ) {n : ℕ} {b : Bool} → n ≡ neighbour_of r f → b ≡ in_range first end n → neighbour_in first end r f ≡ b
  unfolding neighbour_in
  neighbour_read r f e p = rw (p, e)
