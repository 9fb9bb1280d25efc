-- Laws of the three passes over the trees.
use Prim.Native.Nat.{ℕ, zero, suc, ◌+◌, ◌≤◌, ◌<◌}
use native.Mathlib.Omega.{arith}
use mathlib.Core.Path.{◌≡◌, refl, sym, ap, ◌∙◌}
use mathlib.Core.Bool.{Bool, true, false}
use mathlib.Core.List.{List, append-nil}
use lib.Dec.{ltb}
use lib.ListN.{length, set}
use Rattle.encoding.specs.Below.{all_below, count_below, kept_below}
use Rattle.encoding.specs.Pieces.{Bytes, splice}
use Rattle.encoding.proofs.Below.{tests, either, all_fails, all_at, count_le, count_mono, count_lt, kept_length}
use Rattle.encoding.proofs.Numbers.{at_bound}
use Rattle.part.specs.Part.{part_count}
use Rattle.pattern.proofs.Laws.{Writing, count_one, count_skip, write_start, write_length, write_more, write_skip}
use Rattle.probes.specs.declared.Probe.{Probe}
use Rattle.probes.specs.Probes.{box_ok, boxes_ok, meets, trees_met}
use Rattle.probes.specs.Means.{HasTree, HasBox, HasTrees, Comparable, Listable}

-- ---- the pass over the boxes

module _ (part : List ℕ) (ready : HasTrees part) where
  pub has_tree : (i : ℕ) → i < part_count part → HasTree part i
  has_tree i h = record { fits = omega (arith, ready.fits) }

module _ (part : List ℕ) (i : ℕ) where
  pub boxes_fail : i < part_count part → {ok : Bool} → ok ≡ box_ok part i → ok ≡ false → false ≡ boxes_ok part
  unfolding boxes_ok
  boxes_fail h is e = sym (all_fails (part_count part) (box_ok part) i h (sym is ∙ e))

  pub boxes_pass : i ≤ part_count part → part_count part ≤ i → all_below i (box_ok part) ≡ true → true ≡ boxes_ok part
  unfolding boxes_ok
  boxes_pass p q e = let n : part_count part ≡ i = omega arith in rw n (sym e)

-- ---- the pass that counts

-- met of the trees below i are met
pub record Counting (part : List ℕ) (probe : Probe) (met i : ℕ) : Type 0 where
  pub within : i ≤ part_count part
  pub counted : met ≡ count_below i (meets probe part)

module _ (part : List ℕ) (probe : Probe) where
  pub has_box : Comparable part probe → (i : ℕ) → i < part_count part → HasBox part i
  unfolding boxes_ok
  has_box ready i h = record { tree = has_tree part ready.trees i h; sound = all_at (part_count part) (box_ok part) ready.boxes i h }

  pub counting_start : Counting part probe 0 0
  unfolding count_below
  counting_start = record { within = omega arith; counted = refl }

  module _ {met i : ℕ} (s : Counting part probe met i) where
    pub counting_done : part_count part ≤ i → met ≡ count_below (part_count part) (meets probe part)
    counting_done h = let e : part_count part ≡ i = omega (arith, s.within) in rw e s.counted

    pub met_most : met ≤ i
    met_most = omega (arith, s.counted, count_le i (meets probe part))

    module _ (more : i < part_count part) {here : Bool} (is : here ≡ meets probe part i) where
      pub counting_more : here ≡ true → Counting part probe (met + 1) (i + 1)
      counting_more h = record { within = omega arith; counted = count_one i met (meets probe part) s.counted (sym is ∙ h) }

      pub counting_skip : here ≡ false → Counting part probe met (i + 1)
      counting_skip h = record { within = omega arith; counted = count_skip i met (meets probe part) s.counted (sym is ∙ h) }

-- ---- the pass that lists

module _ (f : ℕ → Bool) where
  -- where none is left, the rest of the numbers adds nothing
  kept-rest : (i n : ℕ) → i ≤ n → count_below n f ≤ count_below i f → kept_below n f ≡ kept_below i f
  unfolding kept_below
  kept-rest i zero h c = let e : i ≡ 0 = omega arith in rw e
  kept-rest i (suc n) h c =
      either (ltb n i)
      (λ p. let e : i ≡ suc n = omega tests in rw e)
      (λ p.
      either (f n)
      (λ t. absurd (omega (tests, count_mono i n f (omega tests), count_lt n (suc n) f (omega arith) t)))
      (λ t. rw (t, append-nil) (kept-rest i n (omega tests) (omega (tests, count_mono n (suc n) f (omega arith))))))

  module _ (n : ℕ) (start : List ℕ) {out : List ℕ} {count i : ℕ} (w : Writing f n start out count i) where
    -- while some are left, there are numbers left
    pub left_within : count < count_below n f → i < n
    left_within h =
        either (ltb i n)
        (λ p. omega tests)
        (λ p. let e : i ≡ n = omega (tests, w.within) in absurd (omega (arith, ap (λ k. count_below k f) e, w.counted)))

    pub none_left : count_below n f ≤ count → out ≡ splice start 0 (kept_below n f)
    none_left h = w.kept ∙ ap (splice start 0) (sym (kept-rest i n w.within (omega (arith, w.counted))))

module _ (part : List ℕ) (probe : Probe) (met : ℕ) (start : List ℕ) (ready : Listable part probe met start) where
  pub list_room : length (kept_below (part_count part) (meets probe part)) ≤ length start
  list_room = omega (arith, ready.counted, ready.room, kept_length (part_count part) (meets probe part))

  pub list_start : Writing (meets probe part) (part_count part) start start 0 0
  list_start = write_start (meets probe part) (part_count part) start list_room

  module _ {out : List ℕ} {count i : ℕ} (w : Writing (meets probe part) (part_count part) start out count i) where
    pub list_within : count < met → i < part_count part
    list_within h = left_within (meets probe part) (part_count part) start w (omega (arith, ready.counted))

    pub list_most : count ≤ met
    list_most = omega (arith, ready.counted, w.counted, count_mono i (part_count part) (meets probe part) w.within)

    -- at the end of the trees
    pub list_all : part_count part ≤ i → met ≤ count
    list_all h = let e : i ≡ part_count part = omega (arith, w.within) in omega (arith, ready.counted, w.counted, ap (λ k. count_below k (meets probe part)) e)

    pub list_length : length out ≡ length start
    list_length = write_length (meets probe part) (part_count part) start list_room out count i w

    pub list_done : met ≤ count → out ≡ splice start 0 (trees_met part probe)
    unfolding trees_met
    list_done h = none_left (meets probe part) (part_count part) start w (omega (arith, ready.counted))

    module _ (h : count < met) {here : Bool} (is : here ≡ meets probe part i) where
      pub list_more : here ≡ true → Writing (meets probe part) (part_count part) start (set out count i) (count + 1) (i + 1)
      list_more e = write_more (meets probe part) (part_count part) start list_room out count i w (list_within h) (sym is ∙ e)

      pub list_skip : here ≡ false → Writing (meets probe part) (part_count part) start out count (i + 1)
      list_skip e = write_skip (meets probe part) (part_count part) start list_room out count i w (list_within h) (sym is ∙ e)

-- a local index is a u32
pub trees_small_lem : (part : List ℕ) → Bytes part → part_count part < 4294967296
unfolding part_count
trees_small_lem part b = at_bound 4 part 20 b
