-- The ghosts that are found by their numbers, and what the search knows of a part.
use Prim.Native.Nat.{ℕ, ◌+◌, ◌≤◌, ◌<◌}
use native.Mathlib.Omega.{arith}
use mathlib.Core.Path.{◌≡◌, refl, sym, ap, ◌∙◌}
use mathlib.Core.Bool.{Bool, true, false, not, ◌&&◌}
use mathlib.Core.List.{List}
use lib.Dec.{ltb, eqb}
use borrow.Author.Tests.{ltb-true, eqb-true, eq-eqb, not-true, not-false}
use Rattle.encoding.specs.Below.{all_below, any_below, least_below}
use Rattle.encoding.proofs.Below.{either, clash, and_fst, all_at, any_none, least_none, least_lt, least_at, least_le, least_below_lem, least_is, least_same}
use Rattle.records.specs.Record.{number_of}
use Rattle.part.specs.Layout.{ghost_place}
use Rattle.part.specs.View.{ghost_ascends}
use Rattle.part.specs.Means.{in_range, number_at, Ascending, ghost_core}
use Rattle.part.specs.Part.{part_dimension, part_k, part_first, part_count, part_ghost_count, stored_ghost, view_of}
use Rattle.part.proofs.Search.{number_there}
use Rattle.positions.specs.Means.{Numbered, Indexed}
use Rattle.part_check.specs.Means.{ghost_behind, ghost_numbered, PartLaid}
use Rattle.part_check.proofs.Judging.{numbered_ascend, numbered_few}
use Rattle.part_fault.specs.declared.search.Extent.{Extent}
use Rattle.part_fault.specs.Wrong.{ghost_order_in, found_in}
use Rattle.part_fault.specs.Means.{Known}

-- a ghost is in order exactly where it has the number that the check asks for
pub order_is : (part : List ℕ) (j : ℕ) → ghost_order_in (view_of part) j ≡ ghost_numbered (part_first part) (part_count part) (ghost_core part (part_count part)) (part_k part) j
unfolding ghost_order_in ghost_ascends ghost_numbered ghost_behind in_range stored_ghost ghost_core
order_is part j = refl

-- ghosts before the first that is out of order
module _ (first n g K : ℕ) (ghostly : ℕ → List ℕ) where
  abbrev out : ℕ → Bool
  out j = not (ghost_numbered first n ghostly K j)

  pub before_numbered : (j : ℕ) → j < least_below g out → ghost_numbered first n ghostly K j ≡ true
  before_numbered j h = not-false _ (least_below_lem g out j h)

module _ (part : List ℕ) (first n g K : ℕ) (laid : PartLaid part first n g K) {found : ℕ} (is : found ≡ least_below g (λ j. not (ghost_numbered first n (ghost_core part n) K j))) where
  pub found_within : found ≤ g
  found_within = rw is (least_le g (λ j. not (ghost_numbered first n (ghost_core part n) K j)))

  numbered : (j : ℕ) → j < found → ghost_numbered first n (ghost_core part n) K j ≡ true
  numbered j h = before_numbered first n g K (ghost_core part n) j (rw is at h)

  pub found_few : found ≤ K
  found_few = numbered_few first n found K (ghost_core part n) numbered

  found-low : (i : ℕ) → i < found → number_at part (ghost_place n 0) i < K
  unfolding ghost_numbered
  found-low i h =
      let low : Bool = ltb (number_of (ghost_core part n i)) K in
      let out : Bool = not (in_range first (first + n) (number_of (ghost_core part n i))) in
      rw (number_there part n g i) (ltb-true _ _ (and_fst low out (and_fst (low && out) (ghost_behind (ghost_core part n) i) (numbered i h))))

  found-ascending : Ascending part (ghost_place n 0) found
  found-ascending =
      record {
        fits = omega (arith, laid.long, found_within);
        ascends = λ i j h l. rw (number_there part n g i, number_there part n g j) (numbered_ascend first n found K (ghost_core part n) numbered i j h l);
      }

  pub found_numbered : Numbered part (ghost_place n 0) found K
  found_numbered = record { ascending = found-ascending; low = found-low }

-- the same, over the part
module _ (part : List ℕ) where
  pub found_is : found_in (view_of part) ≡ least_below (part_ghost_count part) (λ j. not (ghost_numbered (part_first part) (part_count part) (ghost_core part (part_count part)) (part_k part) j))
  unfolding found_in
  found_is =
      least_same (part_ghost_count part) (λ j. not (ghost_order_in (view_of part) j)) (λ j. not (ghost_numbered (part_first part) (part_count part) (ghost_core part (part_count part)) (part_k part) j))
      (λ j h. ap not (order_is part j))

  pub extent_known : {first n g K D found : ℕ} → first ≡ part_first part → n ≡ part_count part → g ≡ part_ghost_count part → K ≡ part_k part → D ≡ part_dimension part
      → PartLaid part (part_first part) (part_count part) (part_ghost_count part) (part_k part)
      → found ≡ least_below g (λ j. not (ghost_numbered first n (ghost_core part n) K j))
      → Known part (record { first = first; count = n; ghosts = g; found = found; dimension = D; trees = K })
  extent_known {first} {n} {g} {K} {D} {found} e1 e2 e3 e4 e5 laid is =
      let l : PartLaid part first n g K = rw (e1, e2, e3, e4) laid in
      record {
        laid = l;
        is_first = e1;
        is_count = e2;
        is_ghosts = e3;
        is_dimension = e5;
        is_trees = e4;
        is_found = rw (e1, e2, e3, e4) at is ∙ sym found_is;
        within = found_within part first n g K l is;
        few = found_few part first n g K l is;
      }

  module _ (e : Extent) (known : Known part e) where
    -- as the search among them has it
    found-read : e.found ≡ least_below e.ghosts (λ j. not (ghost_numbered e.first e.count (ghost_core part e.count) e.trees j))
    found-read = rw (known.is_first, known.is_count, known.is_ghosts, known.is_trees) (known.is_found ∙ found_is)

    known-index : Numbered part (ghost_place e.count 0) e.found e.trees
    known-index = found_numbered part e.first e.count e.ghosts e.trees known.laid found-read

    pub known_ascending : Ascending part (ghost_place e.count 0) e.found
    known_ascending = known-index.ascending

    -- they are to be indexed, and are
    module _ {at : ℕ} (from : at ≡ ghost_place e.count 0) where
      pub to_index : Numbered part at e.found e.trees
      to_index = rw from known-index

      pub indexed : {ws behind : List ℕ} → Indexed part at e.found ws behind → Indexed part (ghost_place e.count 0) e.found ws behind
      indexed x = rw from at x

    pub known_order : (j : ℕ) → j < e.found → ghost_order_in (view_of part) j ≡ true
    unfolding found_in
    known_order j h = not-false _ (least_below_lem (part_ghost_count part) (λ j. not (ghost_order_in (view_of part) j)) j (rw known.is_found at h))

    pub known_numbered : (j : ℕ) → j < e.found → ghost_numbered (part_first part) (part_count part) (ghost_core part (part_count part)) (part_k part) j ≡ true
    known_numbered j h = sym (order_is part j) ∙ known_order j h

    -- the ghost behind them, if there is one
    pub known_out : e.found < e.ghosts → ghost_order_in (view_of part) e.found ≡ false
    unfolding found_in
    known_out h =
        let f : ℕ → Bool = λ j. not (ghost_order_in (view_of part) j) in
        either (any_below (part_ghost_count part) f)
        (λ p. not-true _ (rw known.is_found (least_at (part_ghost_count part) f p)))
        (λ p. absurd (omega (arith, known.is_ghosts, known.is_found, least_none (part_ghost_count part) f p)))

-- ---- the search for the first that fails

module _ (g : ℕ) (f : ℕ → Bool) (j : ℕ) (passed : all_below j f ≡ true) where
  pub first_fails : j < g → f j ≡ false → j ≡ least_below g (λ i. not (f i))
  first_fails h e = sym (least_is g (λ i. not (f i)) j h (rw e) (λ i l. rw (all_at j f passed i l)))

  pub none_fails : j ≤ g → g ≤ j → g ≡ least_below g (λ i. not (f i))
  none_fails h l = sym (least_none g (λ i. not (f i)) (any_none g (λ i. not (f i)) (λ i k. rw (all_at j f passed i (omega arith)))))

-- and what it tells of kinds
module _ (n : ℕ) (kind : ℕ → ℕ) {t : ℕ} (least : t ≡ least_below n (λ i. not (eqb (kind i) 0))) where
  abbrev bad : ℕ → Bool
  bad i = not (eqb (kind i) 0)

  pub least_within : t ≤ n
  least_within = rw least (least_le n bad)

  pub least_quiet : (i : ℕ) → i < t → kind i ≡ 0
  least_quiet i h = eqb-true _ _ (not-false _ (least_below_lem n bad i (rw least at h)))

  pub least_wrong : t < n → kind t ≡ 0 → ⊥
  least_wrong h z =
      either (any_below n bad)
      (λ p. let yes : not (eqb (kind t) 0) ≡ true = rw least (least_at n bad p) in clash yes (rw (eq-eqb (kind t) 0 z)))
      (λ p. omega (arith, least_none n bad p))

-- the position of what is looked up
module _ (n : ℕ) (f : ℕ → Bool) {p : ℕ} (position : p ≡ least_below n f) where
  pub looked_some : p < n → any_below n f ≡ true
  looked_some h = either (any_below n f) (λ t. t) (λ t. absurd (omega (arith, least_none n f t)))

  pub looked_none : n ≤ p → any_below n f ≡ false
  looked_none h = either (any_below n f) (λ t. absurd (omega (arith, least_lt n f t))) (λ t. t)
