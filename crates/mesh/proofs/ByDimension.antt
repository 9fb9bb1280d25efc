-- Links may be read by the dimension where all records have it: a check by that rule says what the definitions say.
use Prim.Native.Nat.{ℕ, ◌+◌, ◌*◌, ◌/◌, ◌%◌, ◌<◌}
use native.Mathlib.Nat.{div-add-mod'}
use native.Mathlib.Omega.{arith}
use mathlib.Core.Path.{◌≡◌, refl, sym, ap, ap₂, ◌∙◌}
use mathlib.Core.Bool.{Bool, true, false, cond, ◌&&◌, and-true}
use mathlib.Core.List.{List}
use lib.Arith.{digits_div, digits_mod}
use lib.Dec.{ltb, eqb}
use borrow.Author.Tests.{ltb-true, eqb-true, eq-eqb, lt-ltb, le-ltb}
use Rattle.encoding.specs.Below.{all_below}
use Rattle.encoding.proofs.Below.{and_fst, and_snd, and_intro, iff_eq, all_at, all_same}
use Rattle.records.specs.Shape.{shape_ok, dimension_of, face_count, faces_in, corners_of, corners}
use Rattle.records.specs.Record.{shape_of, neighbour_of, code_of, faces_of, face_of, orientation_of, in_form}
use Rattle.records.proofs.Forms.{form_shape, count_faces_of}
use Rattle.mesh.specs.Link.{orientation_ok, same_corners, answered}
use Rattle.mesh.proofs.Soundness.{corners_there, answered_back}
use Rattle.mesh.specs.Means.{corners_fit, corners_by_dimension, answered_there, answered_by_dimension, link_between, link_by_dimension}

-- ---- corners

-- every face of a hexahedron has 4
hexahedron_four : (f : ℕ) → f < 6 → corners 2 f ≡ 4
unfolding corners corners_of face_count
hexahedron_four f h = rw (lt-ltb f 6 h)

hexahedra_fit : (o f g : ℕ) → f < 6 → g < 6 → ltb o 4 ≡ corners_fit o 2 f 2 g
unfolding corners_fit
hexahedra_fit o f g hf hg = rw (hexahedron_four f hf, hexahedron_four g hg) (sym (and-true (ltb o 4)))

-- two trees of one shape
one_shape : (n o s f other g : ℕ) → (eqb s other && eqb s n) ≡ true → corners_fit o n f n g ≡ corners_fit o s f other g
one_shape n o s f other g e =
    let same : s ≡ other = eqb-true s other (and_fst (eqb s other) (eqb s n) e) in
    let is : s ≡ n = eqb-true s n (and_snd (eqb s other) (eqb s n) e) in
    rw (sym same, is)

pub both_hexahedra : (o s f other g : ℕ) → (eqb s other && eqb s 2) ≡ true → (f < 6) × (g < 6) → ltb o 4 ≡ corners_fit o s f other g
both_hexahedra o s f other g e h = hexahedra_fit o f g h.0 h.1 ∙ one_shape 2 o s f other g e

-- every face of a tetrahedron has 3, and it has four
tetrahedron_three : (f : ℕ) → corners 3 f ≡ cond (ltb f 4) 3 0
unfolding corners corners_of face_count
tetrahedron_three f = refl

none_below : (o : ℕ) → ltb o 0 ≡ false
none_below o = le-ltb o 0 (omega arith)

pub and_false : (b : Bool) → (b && false) ≡ false
and_false true = refl
and_false false = refl

two_tests : (o : ℕ) (a b : Bool) → (ltb o 3 && (a && b)) ≡ (ltb o (cond a 3 0) && eqb (cond a 3 0) (cond b 3 0))
two_tests o true true = refl
two_tests o true false = refl
two_tests o false b = and_false (ltb o 3) ∙ sym (ap (λ (x : Bool). x && eqb 0 (cond b 3 0)) (none_below o))

tetrahedra_fit : (o f g : ℕ) → (ltb o 3 && (ltb f 4 && ltb g 4)) ≡ corners_fit o 3 f 3 g
unfolding corners_fit
tetrahedra_fit o f g = rw (tetrahedron_three f, tetrahedron_three g) (two_tests o (ltb f 4) (ltb g 4))

pub both_tetrahedra : (o s f other g : ℕ) → (eqb s other && eqb s 3) ≡ true → (ltb o 3 && (ltb f 4 && ltb g 4)) ≡ corners_fit o s f other g
both_tetrahedra o s f other g e = tetrahedra_fit o f g ∙ one_shape 3 o s f other g e

-- ---- codes

codes_same : (F c b f : ℕ) → f < F → eqb (b + c % F) (c + f) ≡ (eqb (b % F) f && eqb (b / F) (c / F))
codes_same F c b f h =
    let own : c / F * F + c % F ≡ c = div-add-mod' c F in
    let back : b / F * F + b % F ≡ b = div-add-mod' b F in
    iff_eq _ _
    (λ e.
    let q : b ≡ c / F * F + f = omega (arith, eqb-true (b + c % F) (c + f) e) in
    and_intro (eqb (b % F) f) (eqb (b / F) (c / F)) (eq-eqb (b % F) f (rw q (digits_mod (c / F) h))) (eq-eqb (b / F) (c / F) (rw q (digits_div (c / F) h))))
    (λ e.
    let p : b % F ≡ f = eqb-true (b % F) f (and_fst (eqb (b % F) f) (eqb (b / F) (c / F)) e) in
    let q : b / F ≡ c / F = eqb-true (b / F) (c / F) (and_snd (eqb (b % F) f) (eqb (b / F) (c / F)) e) in
    let r : c / F * F + f ≡ b = rw (p, q) at back in
    eq-eqb (b + c % F) (c + f) (omega arith))

-- one comparison of codes compares faces and orientations
codes_equal : (F G : ℕ) → G ≡ F → (c b f : ℕ) → f < F → eqb (b + c % F) (c + f) ≡ (eqb (b % G) f && eqb (b / G) (c / F))
codes_equal F G e c b f h = rw e (codes_same F c b f h)

and_right : (a b c : Bool) → (a && (b && c)) ≡ (a && b && c)
and_right true b c = refl
and_right false b c = refl

-- ---- links

-- of face f of record r, which is there, and a neighbour s; both of one dimension
module _ (r s : List ℕ) (f : ℕ) (face : f < face_count (shape_of r)) where
  corners-by-dimension : corners_by_dimension (dimension_of (shape_of r)) r f s ≡ (orientation_ok r f && same_corners r f s)
  unfolding corners_by_dimension corners_fit orientation_ok same_corners orientation_of face_of faces_of
  corners-by-dimension = refl

  answered-by-dimension : (k : ℕ) → dimension_of (shape_of s) ≡ dimension_of (shape_of r) → answered_by_dimension (dimension_of (shape_of r)) k r f s ≡ answered k r f s
  unfolding answered_by_dimension answered_there answered orientation_of face_of faces_of
  answered-by-dimension k e =
      let b : ℕ = code_of s (face_of r f) in
      let below : f < faces_of r = omega (arith, count_faces_of r) in
      ap (λ (x : Bool). eqb (neighbour_of s (face_of r f)) k && x) (codes_equal (faces_of r) (faces_of s) (ap faces_in e) (code_of r f) b f below)
      ∙ and_right (eqb (neighbour_of s (face_of r f)) k) (eqb (face_of s (face_of r f)) f) (eqb (orientation_of s (face_of r f)) (orientation_of r f))

  by-dimension : (d k : ℕ) → dimension_of (shape_of r) ≡ d → dimension_of (shape_of s) ≡ d → link_by_dimension d k r f s ≡ link_between k r f s
  unfolding link_by_dimension link_between
  by-dimension d k own there =
      let e : dimension_of (shape_of s) ≡ dimension_of (shape_of r) = there ∙ sym own in
      let c : corners_by_dimension d r f s ≡ (orientation_ok r f && same_corners r f s) = rw own at corners-by-dimension in
      let a : answered_by_dimension d k r f s ≡ answered k r f s = rw own at (answered-by-dimension k e) in
      rw (c, a)

-- the answer to a link that obeys the rule
between_turns : (r s : List ℕ) (back f : ℕ) → link_between back r f s ≡ true
    → (face_of r f < face_count (shape_of s)) × (neighbour_of s (face_of r f) ≡ back) × (face_of s (face_of r f) ≡ f) × (link_between (neighbour_of r f) s (face_of r f) r ≡ true)
unfolding link_between orientation_ok same_corners answered
between_turns r s back f e =
    let g : ℕ = face_of r f in
    let low : Bool = ltb (orientation_of r f) (corners (shape_of r) f) in
    let alike : Bool = eqb (corners (shape_of r) f) (corners (shape_of s) g) in
    let both = and_fst (low && alike) _ e in
    let c : corners (shape_of r) f ≡ corners (shape_of s) g = eqb-true _ _ (and_snd low alike both) in
    let o : orientation_of r f < corners (shape_of r) f = ltb-true _ _ (and_fst low alike both) in
    let back_at = answered_back back r f s (and_snd (low && alike) _ e) in
    let turned : orientation_of s g ≡ orientation_of r f = back_at.2 in
    let at_face : face_of s g ≡ f = back_at.1 in
    let less : orientation_of s g < corners (shape_of s) g = rw (turned, ← c) o in
    (corners_there _ _ (omega (arith, less)), back_at.0, at_face, rw (at_face, lt-ltb _ _ less, eq-eqb _ _ (sym c), eq-eqb (neighbour_of r f) (neighbour_of r f) refl, eq-eqb g g refl, eq-eqb _ _ (sym turned)))

-- ---- records

-- a rule of a link: the number that the neighbour's link leads back to, the record, the face and the neighbour's record
abbrev pub Rule : Type 0
Rule = ℕ → List ℕ → ℕ → List ℕ → Bool

module _ (D : ℕ) where
  -- a record with a shape of the dimension
  abbrev pub Fits : List ℕ → Type 0
  Fits r = (shape_ok (shape_of r) ≡ true) × (dimension_of (shape_of r) ≡ D)

  pub fits_form : (own : ℕ) (r : List ℕ) → (in_form own r && eqb (dimension_of (shape_of r)) D) ≡ true → Fits r
  fits_form own r e =
      (form_shape own r (and_fst (in_form own r) (eqb (dimension_of (shape_of r)) D) e), eqb-true _ _ (and_snd (in_form own r) (eqb (dimension_of (shape_of r)) D) e))

  pub link_same : (r s : List ℕ) → Fits r → Fits s → (back f : ℕ) → f < face_count (shape_of r) → link_by_dimension D back r f s ≡ link_between back r f s
  link_same r s a b back f h = by-dimension r s f h D back a.1 b.1

  -- the answer to a link that obeys the rule is at a face that is there, leads back, and obeys the rule
  pub link_turns : (r s : List ℕ) → Fits r → Fits s → (back f : ℕ) → f < face_count (shape_of r) → link_by_dimension D back r f s ≡ true
      → (face_of r f < face_count (shape_of s)) × (neighbour_of s (face_of r f) ≡ back) × (face_of s (face_of r f) ≡ f) × (link_by_dimension D (neighbour_of r f) s (face_of r f) r ≡ true)
  link_turns r s a b back f face e =
      let g : ℕ = face_of r f in
      let t = between_turns r s back f (sym (link_same r s a b back f face) ∙ e) in
      (t.0, t.1, t.2, link_same s r b a (neighbour_of r f) g t.0 ∙ t.3)

  -- all records of two kinds, trees and ghosts, fit
  module _ (n g : ℕ) (tree ghostly : ℕ → List ℕ) where
    abbrev pub AllFit : Type 0
    AllFit = ((i : ℕ) → i < n → Fits (tree i)) × ((j : ℕ) → j < g → Fits (ghostly j))

    -- a check by a rule of a link, record by record: a test of the record alone, which asks for the dimension, and one of each face that its shape has
    module _ (treeTest ghostTest : ℕ → Bool) (tree_face ghost_face : Rule → ℕ → ℕ → Bool) where
      abbrev pub tree_by : Rule → ℕ → Bool
      tree_by link i = treeTest i && all_below (face_count (shape_of (tree i))) (tree_face link i)

      abbrev pub ghost_by : Rule → ℕ → Bool
      ghost_by link j = ghostTest j && all_below (face_count (shape_of (ghostly j))) (ghost_face link j)

      -- where a face's test says the same by both rules as soon as all records fit, so does the check
      module _ (tree_fits_lem : (i : ℕ) → i < n → treeTest i ≡ true → Fits (tree i)) (ghost_fits : (j : ℕ) → j < g → ghostTest j ≡ true → Fits (ghostly j))
          (tree-same : AllFit → (i : ℕ) → i < n → (f : ℕ) → f < face_count (shape_of (tree i)) → tree_face (link_by_dimension D) i f ≡ tree_face link_between i f)
          (ghost-same : AllFit → (j : ℕ) → j < g → (f : ℕ) → f < face_count (shape_of (ghostly j)) → ghost_face (link_by_dimension D) j f ≡ ghost_face link_between j f) where
        all_fit : (link : Rule) → (all_below n (tree_by link) && all_below g (ghost_by link)) ≡ true → AllFit
        all_fit link e = (
          λ i h. tree_fits_lem i h (and_fst (treeTest i) _ (all_at n (tree_by link) (and_fst (all_below n (tree_by link)) (all_below g (ghost_by link)) e) i h)),
          λ j h. ghost_fits j h (and_fst (ghostTest j) _ (all_at g (ghost_by link) (and_snd (all_below n (tree_by link)) (all_below g (ghost_by link)) e) j h)),
        )

        same : AllFit → (all_below n (tree_by (link_by_dimension D)) && all_below g (ghost_by (link_by_dimension D))) ≡ (all_below n (tree_by link_between) && all_below g (ghost_by link_between))
        same fits =
            ap₂ (λ (a b : Bool). a && b)
            (all_same n (tree_by (link_by_dimension D)) (tree_by link_between)
            (λ i h. ap (λ (b : Bool). treeTest i && b) (all_same (face_count (shape_of (tree i))) (tree_face (link_by_dimension D) i) (tree_face link_between i) (tree-same fits i h))))
            (all_same g (ghost_by (link_by_dimension D)) (ghost_by link_between)
            (λ j h. ap (λ (b : Bool). ghostTest j && b) (all_same (face_count (shape_of (ghostly j))) (ghost_face (link_by_dimension D) j) (ghost_face link_between j) (ghost-same fits j h))))

        pub checked_by_dimension : (all_below n (tree_by (link_by_dimension D)) && all_below g (ghost_by (link_by_dimension D))) ≡ (all_below n (tree_by link_between) && all_below g (ghost_by link_between))
        checked_by_dimension =
            iff_eq (all_below n (tree_by (link_by_dimension D)) && all_below g (ghost_by (link_by_dimension D))) (all_below n (tree_by link_between) && all_below g (ghost_by link_between))
            (λ e. sym (same (all_fit (link_by_dimension D) e)) ∙ e)
            (λ e. same (all_fit link_between e) ∙ e)
