-- Laws of shapes.
use Prim.Native.Nat.{ℕ, zero, suc, ◌+◌, ◌-◌, ◌/◌, ◌%◌, ◌≤◌, ◌<◌}
use native.Mathlib.Omega.{arith}
use mathlib.Core.Path.{◌≡◌, refl, sym, ◌∙◌}
use mathlib.Core.Bool.{Bool, true, false, cond}
use lib.Dec.{eqb, leb, ltb, lit≤}
use borrow.Author.Tests.{ne_eqb, lt-leb, lt-ltb, le-ltb}
use Rattle.encoding.proofs.Below.{either, below_suc}
use Rattle.records.specs.Means.{base_corners, corners_formula}
use Rattle.records.specs.Shape.{dimension_of, face_count, faces_in, corners_of, corners}

-- what holds of each of the six shapes and of every other number holds of all
pub shapes : (P : ℕ → Type 0) → P 0 → P 1 → P 2 → P 3 → P 4 → P 5 → ((s : ℕ) → 5 < s → P s) → (s : ℕ) → P s
shapes P a b c d e f g zero = a
shapes P a b c d e f g (suc zero) = b
shapes P a b c d e f g (suc (suc zero)) = c
shapes P a b c d e f g (suc (suc (suc zero))) = d
shapes P a b c d e f g (suc (suc (suc (suc zero)))) = e
shapes P a b c d e f g (suc (suc (suc (suc (suc zero))))) = f
shapes P a b c d e f g (suc (suc (suc (suc (suc (suc s)))))) = g (suc (suc (suc (suc (suc (suc s)))))) (omega arith)

-- a number that is no shape has no faces and no dimension
pub count_none : (s : ℕ) → 5 < s → face_count s ≡ 0
unfolding face_count
count_none s h =
    rw (ne_eqb s 0 (λ e. omega arith), ne_eqb s 1 (λ e. omega arith), ne_eqb s 2 (λ e. omega arith), ne_eqb s 3 (λ e. omega arith), ne_eqb s 4 (λ e. omega arith), ne_eqb s 5 (λ e. omega arith))

-- the two shapes with five faces
pub count_five : (s : ℕ) → 4 ≤ s → s ≤ 5 → 5 ≡ face_count s
unfolding face_count
count_five s h k = below_suc s 5 (omega arith) (λ p. let e : s ≡ 4 = omega arith in rw e) (λ e. rw e)

pub dimension_none : (s : ℕ) → 5 < s → dimension_of s ≡ 0
unfolding dimension_of
dimension_none s h = rw (lt-leb s 1 (omega arith), lt-leb s 5 h)

-- a shape has at most 6 faces
pub count_six : (s : ℕ) → face_count s ≤ 6
unfolding face_count
count_six = shapes (λ s. face_count s ≤ 6) (lit≤ tt) (lit≤ tt) (lit≤ tt) (lit≤ tt) (lit≤ tt) (lit≤ tt) (λ s h. rw (count_none s h) (lit≤ tt))

-- and at most F
pub count_faces : (s : ℕ) → face_count s ≤ faces_in (dimension_of s)
unfolding face_count faces_in dimension_of
count_faces = shapes (λ s. face_count s ≤ faces_in (dimension_of s)) (lit≤ tt) (lit≤ tt) (lit≤ tt) (lit≤ tt) (lit≤ tt) (lit≤ tt) (λ s h. rw (count_none s h) (omega arith))

-- F is 4 or 6
pub faces_either : {C : Type 0} (d : ℕ) → (faces_in d ≡ 4 → C) → (faces_in d ≡ 6 → C) → C
unfolding faces_in
faces_either d four six = either (eqb d 2) (λ p. four (rw p)) (λ p. six (rw p))

pub faces_positive : (d : ℕ) → 0 < faces_in d
faces_positive d = faces_either d (λ e. omega arith) (λ e. omega arith)

pub faces_six : (d : ℕ) → faces_in d ≤ 6
faces_six d = faces_either d (λ e. omega arith) (λ e. omega arith)

cond_le : (b : Bool) {x y n : ℕ} → x ≤ n → y ≤ n → cond b x y ≤ n
cond_le true h k = h
cond_le false h k = k

pub corners_none : (s f : ℕ) → face_count s ≤ f → corners s f ≡ 0
unfolding corners
corners_none s f h = rw (le-ltb f (face_count s) h)

-- ---- the corners by a formula

none_either : (a b : Bool) → ◌≡◌ {A = ℕ} (cond a 0 (cond b 0 0)) 0
none_either true b = refl
none_either false true = refl
none_either false false = refl

-- no face from the sixth on
formula_none : (s f : ℕ) → 5 < f → corners_formula s f ≡ 0
unfolding corners_formula base_corners
formula_none s f h =
    rw (le-ltb f (4 - s) (omega arith), le-ltb f (3 + s % 3 / 2) (omega arith), le-ltb f (3 + s % 3 / 2 + (2 - s % 2)) (omega arith)) (none_either (ltb 5 s) (leb s 1))

-- six faces by computation, and all others
by_face : (s : ℕ) → corners_formula s 0 ≡ corners s 0 → corners_formula s 1 ≡ corners s 1 → corners_formula s 2 ≡ corners s 2 → corners_formula s 3 ≡ corners s 3 → corners_formula s 4 ≡ corners s 4 → corners_formula s 5 ≡ corners s 5
    → (f : ℕ) → corners_formula s f ≡ corners s f
by_face s a b c d e g = shapes (λ f. corners_formula s f ≡ corners s f) a b c d e g (λ f h. formula_none s f h ∙ sym (corners_none s f (omega (arith, count_six s))))

-- the formula gives document 01's corners, for every number of a shape and of a face
pub corners_formula_lem : (s f : ℕ) → corners_formula s f ≡ corners s f
unfolding corners_formula base_corners corners corners_of face_count
corners_formula_lem =
    shapes (λ s. (f : ℕ) → corners_formula s f ≡ corners s f)
    (by_face 0 refl refl refl refl refl refl)
    (by_face 1 refl refl refl refl refl refl)
    (by_face 2 refl refl refl refl refl refl)
    (by_face 3 refl refl refl refl refl refl)
    (by_face 4 refl refl refl refl refl refl)
    (by_face 5 refl refl refl refl refl refl)
    (λ s h f. rw (lt-ltb 5 s h, corners_none s f (omega (arith, count_none s h))))

pub by_formula : {r : ℕ} (s f : ℕ) → r ≡ corners_formula s f → r ≡ corners s f
by_formula s f e = e ∙ corners_formula_lem s f
