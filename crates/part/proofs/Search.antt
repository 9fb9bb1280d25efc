-- The search by halves among records that ascend, and what it finds among the ghosts of a part.
use Prim.Native.Nat.{ℕ, ◌+◌, ◌*◌, ◌≤◌, ◌<◌}
use native.Mathlib.Omega.{arith}
use mathlib.Core.Path.{◌≡◌, sym, ap, ◌∙◌}
use mathlib.Core.Bool.{Bool, true, false, ◌&&◌}
use mathlib.Core.List.{List}
use lib.Dec.{ltb, eqb}
use borrow.Author.Tests.{ltb-true, lt-ltb, le-ltb, eq-eqb, ne_eqb, eqb-true}
use Rattle.encoding.specs.Numbers.{u32_at}
use Rattle.encoding.specs.Pieces.{piece}
use Rattle.encoding.proofs.Below.{either, tests, below_suc, count_initial, and_fst, and_snd, any_none, least_is, least_none}
use Rattle.records.specs.Record.{core_size, number_of}
use Rattle.part.specs.Means.{number_at, Ascending, smaller, ghost_core, ghost_has}
use Rattle.encoding.specs.Below.{least_below}
use Rattle.records.proofs.Forms.{number_at_lem}
use Rattle.part.specs.Layout.{ghost_place}

-- records below low have a smaller number, those from high on do not
pub record Between (bs : List ℕ) (at count number low high : ℕ) : Type 0 where
  pub order : low ≤ high
  pub bound : high ≤ count
  pub below : (i : ℕ) → i < low → number_at bs at i < number
  pub above : (i : ℕ) → high ≤ i → i < count → number ≤ number_at bs at i

module _ (bs : List ℕ) (at count number : ℕ) (asc : Ascending bs at count) where
  pub between_start : Between bs at count number 0 count
  between_start = record { order = omega arith; bound = omega arith; below = λ i h. absurd (omega arith); above = λ i h l. absurd (omega arith) }

  module _ {low high mid : ℕ} (so_far : Between bs at count number low high) (lo : low ≤ mid) (hi : mid < high) {v : ℕ} (read : v ≡ u32_at bs (at + core_size * mid)) where
    is_number : v ≡ number_at bs at mid
    unfolding number_at
    is_number = read

    pub between_above : v < number → Between bs at count number (mid + 1) high
    between_above h =
        record {
          order = omega arith;
          bound = so_far.bound;
          below = λ i l.
              below_suc i mid (omega arith)
              (λ q. omega (arith, asc.ascends i mid q (omega (arith, so_far.bound)), is_number))
              (λ q. omega (arith, is_number, ap (number_at bs at) q));
          above = so_far.above;
        }

    pub between_below : number ≤ v → Between bs at count number low mid
    between_below h =
        record {
          order = lo;
          bound = omega (arith, so_far.bound);
          below = so_far.below;
          above = λ i l m.
              either (ltb mid i) (λ p. omega (arith, asc.ascends mid i (ltb-true mid i p) m, is_number))
              (λ p. let q : i ≡ mid = omega tests in omega (arith, is_number, ap (number_at bs at) q));
        }

  pub between_end : {low high : ℕ} → Between bs at count number low high → high ≤ low → (low ≡ smaller bs at count number) × (low ≤ count)
  unfolding smaller
  between_end {low} s h =
      let b : low ≤ count = omega (arith, s.order, s.bound) in
      (sym (count_initial count (λ i. ltb (number_at bs at i) number) low b (λ i p. lt-ltb _ _ (s.below i p)) (λ i p q. le-ltb _ _ (s.above i (omega (arith, s.order)) q))), b)

-- ---- among the ghosts of a part

module _ (part : List ℕ) (n g : ℕ) where
  pub number_there : (i : ℕ) → number_at part (ghost_place n 0) i ≡ number_of (ghost_core part n i)
  unfolding number_at ghost_core
  number_there i =
      let e : ghost_place n 0 + core_size * i ≡ ghost_place n i = omega arith in
      ap (u32_at part) e ∙ sym (number_at_lem part (ghost_place n i))

  pub has_past : (k : ℕ) {p : ℕ} → g ≤ p → false ≡ (ltb p g && ghost_has (ghost_core part n) k p)
  has_past k {p} h = rw (le-ltb p g h)

  pub has_read : (k : ℕ) {p v to : ℕ} → p < g → to ≡ ghost_place n p → v ≡ number_of (piece part to core_size) → eqb v k ≡ (ltb p g && ghost_has (ghost_core part n) k p)
  unfolding ghost_has ghost_core
  has_read k {p} h there e = rw (lt-ltb p g h, ← there, e)

  module _ (known : Ascending part (ghost_place n 0) g) where
    ascends : (i j : ℕ) → i < j → j < g → number_of (ghost_core part n i) < number_of (ghost_core part n j)
    ascends i j h l = omega (arith, known.ascends i j h l, number_there i, number_there j)

    -- ghost m has as many before it as have smaller numbers
    search_is : (k m : ℕ) → m < g → number_of (ghost_core part n m) ≡ k → smaller part (ghost_place n 0) g k ≡ m
    unfolding smaller
    search_is k m h e =
        count_initial g (λ i. ltb (number_at part (ghost_place n 0) i) k) m (omega arith)
        (λ i l. lt-ltb (number_at part (ghost_place n 0) i) k (omega (arith, number_there i, ascends i m l h)))
        (λ i l p. le-ltb (number_at part (ghost_place n 0) i) k
        (either (ltb m i) (λ q. omega (arith, number_there i, ascends m i (ltb-true m i q) p))
        (λ q. let s : m ≡ i = omega tests in omega (arith, number_there i, ap (λ (x : ℕ). number_of (ghost_core part n x)) s))))

    -- the ghost with a number is the only one
    least-with : (k p : ℕ) → p < g → number_of (ghost_core part n p) ≡ k → p ≡ least_below g (ghost_has (ghost_core part n) k)
    unfolding ghost_has
    least-with k p h e =
        sym (least_is g (ghost_has (ghost_core part n) k) p h (eq-eqb (number_of (ghost_core part n p)) k e) (λ j l. ne_eqb (number_of (ghost_core part n j)) k (λ s. omega (arith, ascends j p l h))))

    pub near_found : (k : ℕ) {p : ℕ} {b : Bool} → b ≡ (ltb p g && ghost_has (ghost_core part n) k p) → b ≡ true → p ≡ least_below g (ghost_has (ghost_core part n) k)
    unfolding ghost_has
    near_found k {p} is h =
        least-with k p (ltb-true p g (and_fst (ltb p g) (ghost_has (ghost_core part n) k p) (sym is ∙ h))) (eqb-true _ _ (and_snd (ltb p g) (ghost_has (ghost_core part n) k p) (sym is ∙ h)))

    module _ {at : ℕ} (from : at ≡ ghost_place n 0) where
      pub ascending_at : Ascending part at g
      ascending_at = rw from known

      module _ (k : ℕ) {p : ℕ} (position : p ≡ smaller part at g k) where
        position_is : (m : ℕ) → m < g → number_of (ghost_core part n m) ≡ k → p ≡ m
        position_is m h e = position ∙ ap (λ (a : ℕ). smaller part a g k) from ∙ search_is k m h e

        none-with : ((m : ℕ) → m < g → number_of (ghost_core part n m) ≡ k → ⊥) → g ≡ least_below g (ghost_has (ghost_core part n) k)
        unfolding ghost_has
        none-with h =
            sym (least_none g (ghost_has (ghost_core part n) k) (any_none g (ghost_has (ghost_core part n) k) (λ m l. ne_eqb (number_of (ghost_core part n m)) k (h m l))))

        pub search_past : g ≤ p → g ≡ least_below g (ghost_has (ghost_core part n) k)
        search_past h = none-with (λ m l e. omega (arith, position_is m l e))

        module _ {to v : ℕ} (there : to ≡ ghost_place n p) (number : v ≡ number_of (piece part to core_size)) where
          number-of-position : v ≡ number_of (ghost_core part n p)
          unfolding ghost_core
          number-of-position = rw (number, there)

          pub search_other : (v ≡ k → ⊥) → g ≡ least_below g (ghost_has (ghost_core part n) k)
          search_other h = none-with (λ m l e. h (number-of-position ∙ ap (λ (x : ℕ). number_of (ghost_core part n x)) (position_is m l e) ∙ e))

          pub search_found : p < g → v ≡ k → p ≡ least_below g (ghost_has (ghost_core part n) k)
          search_found h e = least-with k p h (sym number-of-position ∙ e)
