-- A record's form: what it shows without its links, and a test of each of its faces.
use Prim.Native.Nat.{ℕ, ◌≤◌, ◌<◌}
use mathlib.Core.Path.{◌≡◌}
use mathlib.Core.Bool.{Bool, true, ◌&&◌}
use mathlib.Core.List.{List}
use lib.Dec.{ltb, eqb}
use borrow.Author.Tests.{le-ltb, eqb-true}
use Rattle.encoding.specs.Below.{all_below}
use Rattle.encoding.proofs.Below.{tests, either, and_fst, and_snd, and_intro, all_at, all_intro}
use Rattle.records.specs.Shape.{dimension_of, face_count, shape_ok}
use Rattle.records.specs.Record.{shape_of, region_ok, zeros_ok, unused_ok, boundary_ok, in_form}
use Rattle.records.specs.Means.{unused_from}
use Rattle.records.proofs.Forms.{form_shape, form_zeros, form_region, form_used, form_unused, form_intro}
use Rattle.mesh.proofs.ByDimension.{Fits}
use Rattle.ghost_links.specs.Means.{form_alone}

unused_from_lem : (n : ℕ) (r : List ℕ) (f : ℕ) → n ≤ f → unused_from n r f ≡ true → unused_ok r f ≡ true
unfolding unused_from
unused_from_lem n r f h e = rw (le-ltb f n h) at e

-- ---- the form, face by face

module _ (own : ℕ) (r : List ℕ) where
  abbrev faces : ℕ
  faces = face_count (shape_of r)

  abbrev plain : Bool
  plain = shape_ok (shape_of r) && zeros_ok r && region_ok r

  abbrev rest : Bool
  rest = all_below 6 (unused_from faces r)

  abbrev edges : Bool
  edges = all_below faces (boundary_ok own r)

  form-to : (plain && rest && edges) ≡ true → in_form own r ≡ true
  form-to e =
      let both : (plain && rest) ≡ true = and_fst (plain && rest) edges e in
      let first_three : (shape_ok (shape_of r) && zeros_ok r && region_ok r) ≡ true = and_fst plain rest both in
      let two : (shape_ok (shape_of r) && zeros_ok r) ≡ true = and_fst (shape_ok (shape_of r) && zeros_ok r) (region_ok r) first_three in
      form_intro own r (and_fst (shape_ok (shape_of r)) (zeros_ok r) two) (and_snd (shape_ok (shape_of r)) (zeros_ok r) two) (and_snd (shape_ok (shape_of r) && zeros_ok r) (region_ok r) first_three)
      (all_at faces (boundary_ok own r) (and_snd (plain && rest) edges e))
      (λ f h l. unused_from_lem faces r f h (all_at 6 (unused_from faces r) (and_snd plain rest both) f l))

  rest-unused : in_form own r ≡ true → (f : ℕ) → f < 6 → unused_from faces r f ≡ true
  unfolding unused_from
  rest-unused e f l = either (ltb f faces) (λ p. rw p) (λ p. rw p (form_unused own r e f (omega tests) l))

  form-from : in_form own r ≡ true → (plain && rest && edges) ≡ true
  form-from e =
      and_intro (plain && rest) edges
      (and_intro plain rest
      (and_intro (shape_ok (shape_of r) && zeros_ok r) (region_ok r) (and_intro (shape_ok (shape_of r)) (zeros_ok r) (form_shape own r e) (form_zeros own r e)) (form_region own r e))
      (all_intro 6 (unused_from faces r) (rest-unused e)))
      (all_intro faces (boundary_ok own r) (form_used own r e))

  -- the form, and what the record shows without its links
  module _ (D : ℕ) where
    abbrev shaped : Bool
    shaped = eqb (dimension_of (shape_of r)) D

    pub alone_from : in_form own r ≡ true → shaped ≡ true → form_alone D r ≡ true
    unfolding form_alone
    alone_from e q = and_intro (plain && rest) shaped (and_fst (plain && rest) edges (form-from e)) q

    pub alone_form : form_alone D r ≡ true → ((f : ℕ) → f < faces → boundary_ok own r f ≡ true) → (in_form own r && shaped) ≡ true
    unfolding form_alone
    alone_form e b =
        and_intro (in_form own r) shaped (form-to (and_intro (plain && rest) edges (and_fst (plain && rest) shaped e) (all_intro faces (boundary_ok own r) b))) (and_snd (plain && rest) shaped e)

    pub alone_fits : form_alone D r ≡ true → Fits D r
    unfolding form_alone
    alone_fits e =
        let first_three : plain ≡ true = and_fst plain rest (and_fst (plain && rest) shaped e) in
        (and_fst (shape_ok (shape_of r)) (zeros_ok r) (and_fst (shape_ok (shape_of r) && zeros_ok r) (region_ok r) first_three), eqb-true _ _ (and_snd (plain && rest) shaped e))

-- what the function reads
pub alone_read : {a z b u : Bool} {shape faces dimension : ℕ} (D : ℕ) (r : List ℕ) → shape ≡ shape_of r → a ≡ shape_ok shape → z ≡ zeros_ok r → b ≡ region_ok r → faces ≡ face_count shape → u ≡ all_below 6 (unused_from faces r) → dimension ≡ dimension_of shape
    → (a && z && b && u && eqb dimension D) ≡ form_alone D r
unfolding form_alone
alone_read D r e p z b q u d = rw (p, z, b, u, d, q, e)
