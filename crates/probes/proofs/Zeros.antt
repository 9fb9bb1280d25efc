-- Both zeros are compared alike, and so the call answers alike whichever zeros a probe and the boxes have.
use Prim.Native.Nat.{ℕ, ◌+◌, ◌*◌, ◌<◌}
use native.Mathlib.Omega.{arith}
use mathlib.Core.Path.{◌≡◌, refl, sym, ap, ap₂, ◌∙◌}
use mathlib.Core.Bool.{Bool, true, false, cond, not, ◌&&◌, ◌||◌}
use mathlib.Core.List.{List}
use lib.Dec.{ltb, eqb}
use lib.IntN.{pos}
use lib.Ieee.{Float, nan, inf, fin, up, down, below, level, is_nan, le, lt, eq, of_bits, of_fields, odd}
use borrow.Author.Tests.{ltb-true, lt-ltb, le-ltb, ne_eqb}
use Rattle.encoding.specs.Answer.{written, count_answer}
use Rattle.encoding.specs.Numbers.{u32_at}
use Rattle.encoding.specs.Refusal.{first_failed}
use Rattle.encoding.proofs.Below.{either, and_fst, all_same, kept_same}
use Rattle.offsets.specs.Table.{ranks, ranks_ok, valid}
use Rattle.records.proofs.Forms.{at_piece}
use Rattle.part.specs.Checks.{rank_checks}
use Rattle.part.specs.Layout.{part_header}
use Rattle.part.specs.Part.{part_count, part_sound}
use Rattle.part_theorems.proofs.SoundParts.{part_cores}
use Rattle.probes.specs.declared.Probe.{Probe}
use Rattle.probes.specs.declared.Probe.TheVariants.{Slab}
use Rattle.probes.specs.Probes.{box_number, low, high, axis_ok, box_ok, boxes_ok, probe_ok, meets, trees_met}
use Rattle.probes.specs.Calls.{near_refusal, trees_near}
use Rattle.probes.specs.Theorems.{plus_zero, minus_zero, ZerosAlike, ZerosAccepted, SameNumber, same, minus_plus, plus_minus, SameProbe, points, half_spaces, slabs, SameBoxes, ZerosAnswered}

-- ---- comparisons

zero_is : plus_zero ≡ fin false 0 (pos 0)
unfolding of_bits of_fields odd
zero_is = refl

minus_zero_is : minus_zero ≡ fin true 0 (pos 0)
unfolding of_bits of_fields odd
minus_zero_is = refl

-- the sign of a zero on the left, and on the right
below_left : (t : Bool) (z b : ℕ) → z ≡ 0 → below true z t b ≡ below false z t b
below_left false z b e = let n : z + b ≡ b = omega arith in rw (n, e)
below_left true z b e = rw (e, le-ltb b 0 (omega arith))

below_right : (t : Bool) (a z : ℕ) → z ≡ 0 → below t a true z ≡ below t a false z
below_right false a z e = rw (e, le-ltb a 0 (omega arith))
below_right true a z e = let n : a + z ≡ a = omega arith in rw (n, e)

level_left : (t : Bool) (z b : ℕ) → z ≡ 0 → level true z t b ≡ level false z t b
level_left false z b e = rw e
level_left true z b e = rw e

level_right : (t : Bool) (a z : ℕ) → z ≡ 0 → level t a true z ≡ level t a false z
level_right false a z e = rw e (either (eqb a 0) (λ p. rw p) (λ p. rw p))
level_right true a z e = rw e (either (eqb a 0) (λ p. rw p) (λ p. rw p))

lt_left : (x : Float) → lt (fin true 0 (pos 0)) x ≡ lt (fin false 0 (pos 0)) x
unfolding lt
lt_left nan = refl
lt_left (inf s) = refl
lt_left (fin t n d) = below_left t (0 * down d) (n * up d * 1) (omega arith)

lt_right : (x : Float) → lt x (fin true 0 (pos 0)) ≡ lt x (fin false 0 (pos 0))
unfolding lt
lt_right nan = refl
lt_right (inf s) = refl
lt_right (fin t n d) = below_right t (n * up d * 1) (0 * down d) (omega arith)

eq_left : (x : Float) → eq (fin true 0 (pos 0)) x ≡ eq (fin false 0 (pos 0)) x
unfolding eq
eq_left nan = refl
eq_left (inf s) = refl
eq_left (fin t n d) = level_left t (0 * down d) (n * up d * 1) (omega arith)

eq_right : (x : Float) → eq x (fin true 0 (pos 0)) ≡ eq x (fin false 0 (pos 0))
unfolding eq
eq_right nan = refl
eq_right (inf s) = refl
eq_right (fin t n d) = level_right t (n * up d * 1) (0 * down d) (omega arith)

le_left : (x : Float) → le (fin true 0 (pos 0)) x ≡ le (fin false 0 (pos 0)) x
unfolding le
le_left x = ap₂ ◌||◌ (lt_left x) (eq_left x)

le_right : (x : Float) → le x (fin true 0 (pos 0)) ≡ le x (fin false 0 (pos 0))
unfolding le
le_right x = ap₂ ◌||◌ (lt_right x) (eq_right x)

pub zeros_alike : ZerosAlike
zeros_alike x =
    record {
      le_left = rw (zero_is, minus_zero_is) (le_left x);
      le_right = rw (zero_is, minus_zero_is) (le_right x);
      lt_left = rw (zero_is, minus_zero_is) (lt_left x);
      lt_right = rw (zero_is, minus_zero_is) (lt_right x);
    }

-- ---- the checks of both zeros

limits_pass : (axis : ℕ) → axis < 3 → probe_ok (Slab axis plus_zero minus_zero) ≡ true
unfolding probe_ok is_nan lt
limits_pass axis h = rw (lt-ltb axis 3 h, zero_is, minus_zero_is)

corners_pass : (part : List ℕ) (i axis : ℕ) → low part i axis ≡ plus_zero → high part i axis ≡ minus_zero → axis_ok part i axis ≡ true
unfolding axis_ok is_nan lt
corners_pass part i axis l h = rw (l, h, zero_is, minus_zero_is)

pub zeros_accepted : ZerosAccepted
zeros_accepted = record { limits = limits_pass; corners = corners_pass }

-- ---- the same numbers

same_nan : {x y : Float} → SameNumber x y → is_nan x ≡ is_nan y
unfolding is_nan
same_nan (same e) = rw e
same_nan (minus_plus e f) = rw (e, f, zero_is, minus_zero_is)
same_nan (plus_minus e f) = rw (e, f, zero_is, minus_zero_is)

le_first : {x y : Float} → SameNumber x y → (z : Float) → le x z ≡ le y z
le_first (same e) z = rw e
le_first (minus_plus e f) z = rw (e, f) (zeros_alike z).le_left
le_first (plus_minus e f) z = rw (e, f) (sym (zeros_alike z).le_left)

le_second : {x y : Float} → SameNumber x y → (z : Float) → le z x ≡ le z y
le_second (same e) z = rw e
le_second (minus_plus e f) z = rw (e, f) (zeros_alike z).le_right
le_second (plus_minus e f) z = rw (e, f) (sym (zeros_alike z).le_right)

lt_first : {x y : Float} → SameNumber x y → (z : Float) → lt x z ≡ lt y z
lt_first (same e) z = rw e
lt_first (minus_plus e f) z = rw (e, f) (zeros_alike z).lt_left
lt_first (plus_minus e f) z = rw (e, f) (sym (zeros_alike z).lt_left)

lt_second : {x y : Float} → SameNumber x y → (z : Float) → lt z x ≡ lt z y
lt_second (same e) z = rw e
lt_second (minus_plus e f) z = rw (e, f) (zeros_alike z).lt_right
lt_second (plus_minus e f) z = rw (e, f) (sym (zeros_alike z).lt_right)

le_same : {x y a b : Float} → SameNumber x a → SameNumber y b → le x y ≡ le a b
le_same {x} {y} {a} {b} s t = le_first s y ∙ le_second t a

lt_same : {x y a b : Float} → SameNumber x a → SameNumber y b → lt x y ≡ lt a b
lt_same {x} {y} {a} {b} s t = lt_first s y ∙ lt_second t a

-- ---- what is asked of a probe and of a box

probe_same : {p q : Probe} → SameProbe p q → probe_ok p ≡ probe_ok q
unfolding probe_ok
probe_same (points s t u) = rw (same_nan s, same_nan t, same_nan u)
probe_same (half_spaces s) = rw (same_nan s)
probe_same (slabs s t) = rw (same_nan s, same_nan t, lt_same t s)

module _ (a b : List ℕ) (i : ℕ) (numbers : (k : ℕ) → k < 6 → SameNumber (box_number a i k) (box_number b i k)) where
  axis-same : (axis : ℕ) → axis < 3 → axis_ok a i axis ≡ axis_ok b i axis
  unfolding axis_ok
  axis-same axis h =
      let s = numbers axis (omega arith) in
      let t = numbers (3 + axis) (omega arith) in
      rw (same_nan s, same_nan t, lt_same t s)

  box-same : box_ok a i ≡ box_ok b i
  unfolding box_ok
  box-same = all_same 3 (axis_ok a i) (axis_ok b i) axis-same

  meets_same : {p q : Probe} → SameProbe p q → probe_ok p ≡ true → meets p a i ≡ meets q b i
  unfolding meets probe_ok
  meets_same (points s t u) e =
      let n : (k : ℕ) → k < 6 → SameNumber (box_number a i k) (box_number b i k) = numbers in
      rw (
        le_same (n 0 (omega arith)) s,
        le_same s (n 3 (omega arith)),
        le_same (n 1 (omega arith)) t,
        le_same t (n 4 (omega arith)),
        le_same (n 2 (omega arith)) u,
        le_same u (n 5 (omega arith)),
      )
  meets_same (half_spaces {axis} {x} s) e =
      let h : axis < 3 = ltb-true axis 3 (and_fst (ltb axis 3) (not (is_nan x)) e) in
      le_same (numbers axis (omega arith)) s
  meets_same (slabs {axis} {x} {y} s t) e =
      let h : axis < 3 = ltb-true axis 3 (and_fst (ltb axis 3) (not (is_nan x)) (and_fst (ltb axis 3 && not (is_nan x)) (not (is_nan y)) (and_fst (ltb axis 3 && not (is_nan x) && not (is_nan y)) (not (lt y x)) e))) in
      rw (le_same (numbers axis (omega arith)) t, le_same s (numbers (3 + axis) (omega arith)))

-- ---- the call

-- 31, or an earlier refusal
never_passes : (a b d s : Bool) → cond {A = ℕ} a (cond b (cond d (cond s 31 8) 5) 3) 2 ≡ 0 → ⊥
never_passes true true true true e = omega arith
never_passes true true true false e = omega arith
never_passes true true false s e = omega arith
never_passes true false d s e = omega arith
never_passes false b d s e = omega arith

module _ (a b table : List ℕ) (rank : ℕ) (boxes : SameBoxes a b) {p q : Probe} (probes : SameProbe p q) (out : List ℕ) where
  count_same : part_count a ≡ part_count b
  unfolding part_count
  count_same = sym (at_piece 4 a 0 part_header 20 (omega arith)) ∙ ap (λ (h : List ℕ). u32_at h 20) boxes.same_header ∙ at_piece 4 b 0 part_header 20 (omega arith)

  sound-same : part_sound a table rank ≡ part_sound b table rank
  sound-same = part_cores a b boxes.same_header boxes.same_trees_lem boxes.same_ghosts boxes.same_length table rank

  boxes-same : boxes_ok a ≡ boxes_ok b
  unfolding boxes_ok
  boxes-same = rw (← count_same) (all_same (part_count a) (box_ok a) (box_ok b) (λ i h. box-same a b i (λ k. boxes.same_numbers i k h)))

  met-same : probe_ok p ≡ true → trees_met a p ≡ trees_met b q
  unfolding trees_met
  met-same e = rw (← count_same) (kept_same (part_count a) (meets p a) (meets q b) (λ i h. meets_same a b i (λ k. boxes.same_numbers i k h) probes e))

  abbrev early : ℕ
  early = cond (ranks_ok table) (cond (valid table) (cond (ltb rank (ranks table)) (cond (part_sound b table rank) 31 8) 5) 3) 2

  refused : probe_ok p ≡ false → (near_refusal a table rank p out ≡ early) × (near_refusal b table rank q out ≡ early)
  unfolding near_refusal first_failed rank_checks
  refused e = (rw (sound-same, e), rw (← probe_same probes, e))

  answer-same : trees_near a table rank p out ≡ trees_near b table rank q out
  unfolding trees_near near_refusal count_answer written
  answer-same =
      either (probe_ok p)
      (λ e. rw (sound-same, boxes-same, ← probe_same probes, met-same e))
      (λ e.
      let r = refused e in
      rw (r.0, r.1, ne_eqb early 0 (never_passes (ranks_ok table) (valid table) (ltb rank (ranks table)) (part_sound b table rank))))

pub zeros_answered : ZerosAnswered
zeros_answered a b table rank p q out boxes probes = answer-same a b table rank boxes probes out
