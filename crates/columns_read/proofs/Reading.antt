-- What the functions that read a record find is what the definitions say of its core.
use Rattle.std.proofs.Common.{◌≡◌, ℕ, ◌+◌, ◌*◌, ◌/◌, ◌%◌, ◌<◌, ◌≤◌, Bool, true, ◌&&◌, ◌||◌, eqb, ltb, List, length, get_or, ap, ◌∙◌, add-one, arith, le-ltb, lt-ltb, eq-eqb, ne_eqb}
use Rattle.encoding.specs.Below.{any_below}
use Rattle.encoding.specs.Numbers.{le_at, u32_at}
use Rattle.encoding.proofs.Numbers.{four_bytes, at_step, at_one}
use Rattle.records.specs.Shape.{shape_ok, dimension_of, face_count, faces_in, corners}
use Rattle.records.specs.Record.{unused, region_limit, shape_of, neighbour_of, code_of, faces_of, face_of, orientation_of, region_of, region_ok, zeros_ok, unused_ok, to_itself, boundary_ok}
use Rattle.records.specs.Means.{face_form}
use Rattle.mesh.specs.Link.{orientation_ok}
use Rattle.mesh.specs.Means.{corners_fit, corners_by_dimension, answered_there, answered_by_dimension, link_by_dimension}
use Rattle.part.specs.Means.{in_range, neighbour_in}
use Rattle.columns_read.specs.Means.{head_ok}

module _ (r : List ℕ) where
  pub word_read : {a b d e : ℕ} (j : ℕ) → j + 4 ≤ length r → a ≡ get_or r j 0 → b ≡ get_or r (j + 1) 0 → d ≡ get_or r (j + 2) 0 → e ≡ get_or r (j + 3) 0
      → a + 256 * b + 65536 * d + 16777216 * e ≡ u32_at r j
  word_read j h p q s t = rw (p, q, s, t) (four_bytes r j h)

  pub two : 40 ≤ length r → le_at 2 r 38 ≡ get_or r 38 0 + 256 * get_or r 39 0
  two h = at_step 1 r 38 (omega arith) ∙ ap (λ (x : ℕ). get_or r 38 0 + 256 * x) (at_one r 39)

  pub head_read : {a : Bool} {shape d x y z low high : ℕ} (D : ℕ) → 40 ≤ length r → shape ≡ get_or r 4 0 → a ≡ shape_ok shape → d ≡ dimension_of shape
      → x ≡ get_or r 5 0 → y ≡ get_or r 6 0 → z ≡ get_or r 7 0 → low ≡ get_or r 38 0 → high ≡ get_or r 39 0
      → (a && eqb d D && (eqb x 0 && eqb y 0 && eqb z 0) && ltb (low + 256 * high) region_limit) ≡ head_ok D r
  unfolding head_ok shape_of zeros_ok region_ok region_of
  head_read D k s p q x y z l h = rw (p, q, s, x, y, z, l, h, two k)

  module _ (own f : ℕ) {shape neighbour code faces : ℕ} (s : shape ≡ get_or r 4 0) (m : neighbour ≡ u32_at r (8 + 4 * f)) (k : code ≡ get_or r (32 + f) 0) (c : faces ≡ face_count shape) where
    pub face_none : faces ≤ f → (eqb neighbour unused && eqb code 0) ≡ face_form own r f
    unfolding face_form unused_ok shape_of neighbour_of code_of
    face_none h = rw (← s, ← c, le-ltb f faces h, ← m, ← k)

    pub face_other : f < faces → (neighbour ≡ own → ⊥) → true ≡ face_form own r f
    unfolding face_form boundary_ok to_itself shape_of neighbour_of
    face_other h n = rw (← s, ← c, lt-ltb f faces h, ← m, ne_eqb neighbour own n)

    module _ (h : f < faces) (e : neighbour ≡ own) {F d : ℕ} (p : F ≡ faces_in d) (q : d ≡ dimension_of shape) where
      pub face_elsewhere : (code % F ≡ f → ⊥) → true ≡ face_form own r f
      unfolding face_form boundary_ok to_itself shape_of neighbour_of face_of faces_of code_of
      face_elsewhere n = rw (← s, ← c, lt-ltb f faces h, ← m, eq-eqb neighbour own e, ← k, ← q, ← p, ne_eqb (code % F) f n)

      pub face_boundary : code % F ≡ f → eqb (code / F) 0 ≡ face_form own r f
      unfolding face_form boundary_ok to_itself shape_of neighbour_of face_of orientation_of faces_of code_of
      face_boundary n = rw (← s, ← c, lt-ltb f faces h, ← m, eq-eqb neighbour own e, ← k, ← q, ← p, eq-eqb (code % F) f n)

  pub orientation_read : {shape d F code most : ℕ} (f : ℕ) → shape ≡ get_or r 4 0 → d ≡ dimension_of shape → F ≡ faces_in d → code ≡ get_or r (32 + f) 0 → most ≡ corners shape f
      → ltb (code / F) most ≡ orientation_ok r f
  unfolding orientation_ok orientation_of faces_of code_of shape_of
  orientation_read f s d p k m = rw (m, p, d, k, s)

pub link_read : (r s : List ℕ) (D back f : ℕ) {a : Bool} {code there turn shape other neighbour answer : ℕ} → code ≡ get_or r (32 + f) 0 → there ≡ code % faces_in D → turn ≡ code / faces_in D
    → shape ≡ get_or r 4 0 → other ≡ get_or s 4 0 → a ≡ corners_fit turn shape f other there → neighbour ≡ u32_at s (8 + 4 * there) → answer ≡ get_or s (32 + there) 0
    → (a && (eqb neighbour back && eqb (answer + there) (code + f))) ≡ link_by_dimension D back r f s
unfolding link_by_dimension corners_by_dimension answered_by_dimension answered_there code_of shape_of neighbour_of
link_read r s D back f k t o p q a n w = rw (a, n, w, o, p, q, t, k)

-- ---- a neighbour in the range

module _ (first end : ℕ) (r : List ℕ) where
  -- one more turn of the loop
  pub beside_more : {met b : Bool} {k : ℕ} (f : ℕ) → met ≡ any_below f (neighbour_in first end r) → k ≡ u32_at r (8 + 4 * f) → b ≡ in_range first end k → (met || b) ≡ any_below (f + 1) (neighbour_in first end r)
  unfolding any_below neighbour_in neighbour_of
  beside_more f met read test = rw (add-one f, met, test, read)

  -- a loop that has come to its bound
  pub beside_to : {met : Bool} (faces f : ℕ) → f ≤ faces → faces ≤ f → met ≡ any_below f (neighbour_in first end r) → met ≡ any_below faces (neighbour_in first end r)
  beside_to faces f p q met = let e : faces ≡ f = omega arith in rw e met
