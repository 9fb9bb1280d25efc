-- Nothing is wrong with a record exactly where it is in form, in order, of the dimension, and nothing is wrong with its links.
use Prim.Native.Nat.{ℕ, ◌≤◌, ◌<◌}
use native.Mathlib.Omega.{arith}
use mathlib.Core.Path.{◌≡◌, refl, sym, ap, ◌∙◌}
use mathlib.Core.Bool.{Bool, true, false, cond, ◌&&◌}
use mathlib.Core.List.{List}
use lib.Dec.{eqb, ltb}
use borrow.Author.Tests.{ltb-true, ltb-false, le-ltb, lt-ltb}
use Rattle.encoding.specs.Below.{all_below, any_below, least_below}
use Rattle.encoding.specs.Refusal.{first_failed}
use Rattle.encoding.proofs.Below.{either, clash, iff_eq, and_fst, and_snd, and_intro, all_at, all_intro, all_fails, all_same, any_false, least_lt, least_at}
use Rattle.records.specs.Shape.{shape_ok, dimension_of, face_count}
use Rattle.records.specs.Record.{number_of, shape_of, neighbour_of, zeros_ok, region_ok, unused_ok, boundary_ok, in_form}
use Rattle.records.proofs.Shapes.{count_six}
use Rattle.records.proofs.Forms.{form_intro, form_shape, form_zeros, form_region, form_used, form_unused}
use Rattle.mesh.specs.Link.{orientation_ok, same_corners, answered, link_ok}
use Rattle.mesh.specs.Mesh.{face_sound, tree_sound}
use Rattle.mesh.specs.Means.{link_between}
use Rattle.faults.specs.Answer.{Wrong, is_fault}
use Rattle.faults.specs.Record.{record_kind, face_kind, link_kind, first_face, record_wrong}
use Rattle.faults.specs.Mesh.{tree_link_kind, tree_face_kind, tree_wrong}

four_zero : (a b c d : Bool) → eqb (cond a (cond b (cond c (cond d 0 12) 9) 8) 7) 0 ≡ (a && b && c && d)
four_zero true true true true = refl
four_zero true true true false = refl
four_zero true true false d = refl
four_zero true false c d = refl
four_zero false b c d = refl

three_zero : (a b c : Bool) → eqb (cond a (cond b (cond c 0 16) 15) 14) 0 ≡ (a && b && c)
three_zero true true true = refl
three_zero true true false = refl
three_zero true false c = refl
three_zero false b c = refl

-- a link without a fault obeys the rule
pub link_right : (back : ℕ) (r : List ℕ) (f : ℕ) (s : List ℕ) → eqb (link_kind back r f s) 0 ≡ link_between back r f s
unfolding link_kind link_between first_failed
link_right back r f s = three_zero (orientation_ok r f) (same_corners r f s) (answered back r f s)

used_zero : (o : Bool) (l : ℕ) → eqb (cond o l 11) 0 ≡ (o && eqb l 0)
used_zero true l = refl
used_zero false l = refl

unused_zero : (u : Bool) → eqb (cond u 0 10) 0 ≡ u
unused_zero true = refl
unused_zero false = refl

-- no face is wrong exactly where nothing is wrong at each
pub faces_right : (kind : ℕ → ℕ) → eqb (first_face kind).kind 0 ≡ all_below 6 (λ f. eqb (kind f) 0)
unfolding first_face
faces_right kind =
    either (any_below 6 (λ f. is_fault (kind f)))
    (λ p.
    let f : ℕ = least_below 6 (λ f. is_fault (kind f)) in
    let z : eqb (kind f) 0 ≡ false = either (eqb (kind f) 0) (λ e. clash (least_at 6 (λ f. is_fault (kind f)) p) (rw e)) (λ e. e) in
    rw (p, z) (sym (all_fails 6 (λ f. eqb (kind f) 0) f (least_lt 6 (λ f. is_fault (kind f)) p) z)))
    (λ p. rw p (sym (all_intro 6 (λ f. eqb (kind f) 0) (λ f h. either (eqb (kind f) 0) (λ e. e) (λ e. clash (rw e) (any_false 6 (λ f. is_fault (kind f)) p f h))))))

wrong_zero : (kind : ℕ) (faces : Wrong) → eqb (record_wrong kind faces).kind 0 ≡ (eqb kind 0 && eqb faces.kind 0)
unfolding record_wrong
wrong_zero kind faces = either (eqb kind 0) (λ e. rw e) (λ e. rw (e, e))

-- a record with the links of its faces
module _ (i : Bool) (D : ℕ) (own : ℕ) (r : List ℕ) (link : ℕ → ℕ) where
  abbrev dimensional : Bool
  dimensional = eqb (dimension_of (shape_of r)) D

  kind-zero : eqb (record_kind i D r) 0 ≡ (i && shape_ok (shape_of r) && (zeros_ok r && region_ok r) && dimensional)
  unfolding record_kind first_failed
  kind-zero = four_zero i (shape_ok (shape_of r)) (zeros_ok r && region_ok r) dimensional

  used-face : (f : ℕ) → f < face_count (shape_of r) → eqb (face_kind own r link f) 0 ≡ (boundary_ok own r f && eqb (link f) 0)
  unfolding face_kind
  used-face f h = rw (lt-ltb f (face_count (shape_of r)) h) (used_zero (boundary_ok own r f) (link f))

  unused-face : (f : ℕ) → face_count (shape_of r) ≤ f → eqb (face_kind own r link f) 0 ≡ unused_ok r f
  unfolding face_kind
  unused-face f h = rw (le-ltb f (face_count (shape_of r)) h) (unused_zero (unused_ok r f))

  abbrev asked : Bool
  asked = eqb (record_kind i D r) 0 && all_below 6 (λ f. eqb (face_kind own r link f) 0)

  abbrev formed : Bool
  formed = in_form own r && i && dimensional && all_below (face_count (shape_of r)) (λ f. eqb (link f) 0)

  to-formed : asked ≡ true → formed ≡ true
  to-formed e =
      let shape = shape_ok (shape_of r) in
      let bytes = zeros_ok r && region_ok r in
      let k : (i && shape && bytes && dimensional) ≡ true = sym kind-zero ∙ and_fst (eqb (record_kind i D r) 0) _ e in
      let k3 : (i && shape && bytes) ≡ true = and_fst (i && shape && bytes) dimensional k in
      let k2 : (i && shape) ≡ true = and_fst (i && shape) bytes k3 in
      let b : bytes ≡ true = and_snd (i && shape) bytes k3 in
      let face : (f : ℕ) → f < 6 → eqb (face_kind own r link f) 0 ≡ true = all_at 6 (λ f. eqb (face_kind own r link f) 0) (and_snd (eqb (record_kind i D r) 0) _ e) in
      let used : (f : ℕ) → f < face_count (shape_of r) → (boundary_ok own r f && eqb (link f) 0) ≡ true = λ f h. sym (used-face f h) ∙ face f (omega (arith, count_six (shape_of r))) in
      let form : in_form own r ≡ true =
      form_intro own r (and_snd i shape k2) (and_fst (zeros_ok r) (region_ok r) b) (and_snd (zeros_ok r) (region_ok r) b) (λ f h. and_fst (boundary_ok own r f) (eqb (link f) 0) (used f h)) (λ f l h. sym (unused-face f l) ∙ face f h) in
      and_intro (in_form own r && i && dimensional) _
      (and_intro (in_form own r && i) dimensional (and_intro (in_form own r) i form (and_fst i shape k2)) (and_snd (i && shape && bytes) dimensional k))
      (all_intro (face_count (shape_of r)) (λ f. eqb (link f) 0) (λ f h. and_snd (boundary_ok own r f) (eqb (link f) 0) (used f h)))

  to-asked : formed ≡ true → asked ≡ true
  to-asked e =
      let shape = shape_ok (shape_of r) in
      let bytes = zeros_ok r && region_ok r in
      let a : (in_form own r && i && dimensional) ≡ true = and_fst (in_form own r && i && dimensional) _ e in
      let a2 : (in_form own r && i) ≡ true = and_fst (in_form own r && i) dimensional a in
      let form : in_form own r ≡ true = and_fst (in_form own r) i a2 in
      let links : all_below (face_count (shape_of r)) (λ f. eqb (link f) 0) ≡ true = and_snd (in_form own r && i && dimensional) _ e in
      let k : (i && shape && bytes && dimensional) ≡ true =
      and_intro (i && shape && bytes) dimensional (and_intro (i && shape) bytes (and_intro i shape (and_snd (in_form own r) i a2) (form_shape own r form)) (and_intro (zeros_ok r) (region_ok r) (form_zeros own r form) (form_region own r form))) (and_snd (in_form own r && i) dimensional a) in
      and_intro (eqb (record_kind i D r) 0) _ (kind-zero ∙ k)
      (all_intro 6 (λ f. eqb (face_kind own r link f) 0)
      (λ f h. either (ltb f (face_count (shape_of r)))
      (λ p. let l : f < face_count (shape_of r) = ltb-true _ _ p in used-face f l ∙ and_intro (boundary_ok own r f) (eqb (link f) 0) (form_used own r form f l) (all_at (face_count (shape_of r)) (λ f. eqb (link f) 0) links f l))
      (λ p. let l : face_count (shape_of r) ≤ f = ltb-false _ _ p in unused-face f l ∙ form_unused own r form f l h)))

  pub record_right_is : eqb (record_wrong (record_kind i D r) (first_face (face_kind own r link))).kind 0 ≡ (in_form own r && i && eqb (dimension_of (shape_of r)) D && all_below (face_count (shape_of r)) (λ f. eqb (link f) 0))
  record_right_is =
      wrong_zero (record_kind i D r) (first_face (face_kind own r link))
      ∙ ap (λ (b : Bool). eqb (record_kind i D r) 0 && b) (faces_right (face_kind own r link))
      ∙ iff_eq asked formed to-formed to-asked

-- a tree of a whole mesh
module _ (core : ℕ → List ℕ) (D K k : ℕ) where
  face-right : (f : ℕ) → eqb (tree_link_kind core K k f) 0 ≡ face_sound core K k f
  unfolding tree_link_kind face_sound link_ok link_between
  face-right f =
      either (ltb (neighbour_of (core k) f) K)
      (λ e. rw e (link_right k (core k) f (core (neighbour_of (core k) f))))
      (λ e. rw e)

  pub tree_right : eqb (tree_wrong core D K k).kind 0 ≡ tree_sound core D K k
  unfolding tree_wrong tree_face_kind tree_sound
  tree_right =
      record_right_is (eqb (number_of (core k)) k) D k (core k) (tree_link_kind core K k)
      ∙ ap (λ (b : Bool). in_form k (core k) && eqb (number_of (core k)) k && eqb (dimension_of (shape_of (core k))) D && b) (all_same (face_count (shape_of (core k))) (λ f. eqb (tree_link_kind core K k f) 0) (face_sound core K k) (λ f h. face-right f))
