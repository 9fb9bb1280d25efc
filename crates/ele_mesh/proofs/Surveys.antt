-- The checks of a text, and the calls' answers.
use Prim.Native.Nat.{ℕ, ◌+◌, ◌*◌, ◌≤◌, ◌<◌}
use mathlib.Core.Path.{◌≡◌, refl, sym, ap, ◌∙◌}
use mathlib.Core.Bool.{Bool, true, false, cond, not, ◌&&◌, ◌||◌}
use mathlib.Core.List.{List, [], ◌∷◌}
use native.Mathlib.Omega.{arith}
use lib.Dec.{leb, eqb}
use lib.ListN.{length, take}
use borrow.Author.Tests.{leb-true, eqb-true, ne_eqb, not-true, not-false, le-leb, lt-leb}
use Rattle.encoding.specs.Answer.{length_refused, length_answer, written, write_answer}
use Rattle.encoding.specs.Pieces.{splice}
use Rattle.encoding.specs.Refusal.{check, first_failed}
use Rattle.encoding.proofs.Below.{either, clash, and_fst, and_snd}
use Rattle.mesh_build.specs.Build.{built_mesh}
use Rattle.mesh_build.proofs.Building.{built_length}
use Rattle.std.specs.Prelude.{None, Some}
use Rattle.encoding.specs.declared.refusal.Refusal.{Refusal}
use Rattle.encoding.specs.Refusals.{refusal_number}
use Rattle.encoding.proofs.Refusals.{number_positive, refused_first}
use Rattle.ele_text.specs.Text.{rows as rows_in, lines, ended, row_number, row_ok, max_triangles, head_ok, numbered, rows_ok, text_ok, behind_first, vertices_of, vertices, triangles}
use Rattle.ele_text.specs.Means.{TextRead}
use Rattle.ele_mesh.specs.declared.check.Found.{Found}
use Rattle.ele_faces.specs.Faces.{vertices_differ, three_faces, face_link}
use Rattle.ele_mesh.specs.Calls.{triangle_mesh, triangle_bytes, triangle_refusal, import_refusal, triangle_length, import_triangle}
use Rattle.ele_faces.specs.Means.{Whole}
use Rattle.ele_mesh.specs.Means.{Ready, Given, Drawn}
use Rattle.ele_mesh.proofs.Chains.{edges_pairs, paired}

-- ---- how many triangles a text has

vertices_three : (ts : List (List (List ℕ))) → length (vertices_of ts) ≡ 3 * length ts
unfolding vertices_of
vertices_three [] = refl
vertices_three (t ∷ ts) = omega (arith, vertices_three ts)

pub vertices_many : (text : List ℕ) → length (vertices text) ≡ 3 * triangles text
unfolding vertices triangles
vertices_many text = vertices_three (behind_first (rows_in (lines text)))

rows_bounds : (rs : List (List (List ℕ))) → rows_ok rs ≡ true → (1 ≤ length (behind_first rs)) × (length (behind_first rs) ≤ max_triangles)
unfolding rows_ok behind_first head_ok
rows_bounds [] e = clash refl (sym e)
rows_bounds (h ∷ ts) e =
    let k : (leb 1 (row_number h 0) && leb (row_number h 0) max_triangles) ≡ true = and_snd (row_ok 3 h && (eqb (row_number h 1) 3 && eqb (row_number h 2) 0)) _ (and_fst (head_ok h) _ e) in
    let n : length ts ≡ row_number h 0 = eqb-true (length ts) (row_number h 0) (and_fst (eqb (length ts) (row_number h 0)) _ (and_snd (head_ok h) (eqb (length ts) (row_number h 0) && (numbered 0 ts || numbered 1 ts)) e)) in
    (omega (arith, leb-true 1 (row_number h 0) (and_fst (leb 1 (row_number h 0)) _ k)), omega (arith, leb-true (row_number h 0) max_triangles (and_snd (leb 1 (row_number h 0)) _ k)))

pub triangles_bounds : (text : List ℕ) → text_ok text ≡ true → (1 ≤ triangles text) × (triangles text ≤ max_triangles)
unfolding text_ok triangles
triangles_bounds text e = rows_bounds (rows_in (lines text)) (and_snd (ended text) _ e)

text_whole : (text : List ℕ) → text_ok text ≡ true → Whole (vertices text)
text_whole text e = record { threes = omega (arith, vertices_many text); most = omega (arith, vertices_many text, triangles_bounds text e) }

-- ---- what a text is refused for

module _ (text : List ℕ) where
  refused_form : text_ok text ≡ false → 27 ≡ triangle_refusal text
  unfolding triangle_refusal first_failed
  refused_form a = rw a

  refused-twice : text_ok text ≡ true → vertices_differ (vertices text) ≡ false → 28 ≡ triangle_refusal text
  unfolding triangle_refusal first_failed
  refused-twice a b = rw (a, b)

  pub refused_three : text_ok text ≡ true → vertices_differ (vertices text) ≡ true → three_faces (vertices text) ≡ true → 29 ≡ triangle_refusal text
  unfolding triangle_refusal first_failed
  refused_three a b c = rw (a, b, c)

  refused_none : text_ok text ≡ true → vertices_differ (vertices text) ≡ true → three_faces (vertices text) ≡ false → 0 ≡ triangle_refusal text
  unfolding triangle_refusal first_failed
  refused_none a b c = rw (a, b, c)

  -- the checks one after the other
  refusal-cases : {C : Type 0} → (text_ok text ≡ false → C) → (text_ok text ≡ true → vertices_differ (vertices text) ≡ false → C)
      → (text_ok text ≡ true → vertices_differ (vertices text) ≡ true → three_faces (vertices text) ≡ true → C)
      → (text_ok text ≡ true → vertices_differ (vertices text) ≡ true → three_faces (vertices text) ≡ false → C) → C
  refusal-cases p q r s =
      either (text_ok text) (λ a. either (vertices_differ (vertices text)) (λ b. either (three_faces (vertices text)) (r a b) (s a b)) (q a)) p

  pub record Passes : Type 0 where
    pub form : text_ok text ≡ true
    pub differ : vertices_differ (vertices text) ≡ true
    pub pairs : three_faces (vertices text) ≡ false

  pub refusal_none : triangle_refusal text ≡ 0 → Passes
  refusal_none e =
      refusal-cases
      (λ a. absurd (omega (arith, refused_form a)))
      (λ a b. absurd (omega (arith, refused-twice a b)))
      (λ a b c. absurd (omega (arith, refused_three a b c)))
      (λ a b c. record { form = a; differ = b; pairs = c })

  pub refusal_three : triangle_refusal text ≡ 29 → (text_ok text ≡ true) × (vertices_differ (vertices text) ≡ true) × (three_faces (vertices text) ≡ true)
  refusal_three e =
      refusal-cases
      (λ a. absurd (omega (arith, refused_form a)))
      (λ a b. absurd (omega (arith, refused-twice a b)))
      (λ a b c. (a, b, c))
      (λ a b c. absurd (omega (arith, refused_none a b c)))

-- ---- the survey

module _ (text vs : List ℕ) where
  pub survey_form : TextRead text vs None → 27 ≡ triangle_refusal text
  survey_form r = refused_form text r

  module _ (n : ℕ) (r : TextRead text vs (Some n)) where
    -- the vertices of the text
    pub slice : take (3 * n) vs ≡ vertices text
    slice = r.filled

    pub slice_whole : Whole (take (3 * n) vs)
    slice_whole = rw slice (text_whole text r.ok)

    pub survey_twice : false ≡ vertices_differ (take (3 * n) vs) → 28 ≡ triangle_refusal text
    survey_twice e = refused-twice text r.ok (rw (← slice) (sym e))

    module _ (ed : true ≡ vertices_differ (take (3 * n) vs)) {m : ℕ} {heads links : List ℕ} (ready : Ready (take (3 * n) vs) m heads links) {b : Bool}
        (e : b ≡ Rattle.encoding.specs.Below.all_below (length (take (3 * n) vs)) (paired (take (3 * n) vs))) where
      differ : vertices_differ (vertices text) ≡ true
      differ = rw (← slice) (sym ed)

      pairs : b ≡ not (three_faces (vertices text))
      pairs = e ∙ (edges_pairs (take (3 * n) vs) ∙ ap (λ (l : List ℕ). not (three_faces l)) slice)

      pub survey_three : b ≡ false → 29 ≡ triangle_refusal text
      survey_three q = refused_three text r.ok differ (not-false _ (sym pairs ∙ q))

      pub survey_good : b ≡ true → Given text vs heads links (record { count = n; modulus = m })
      survey_good q =
          record {
            refusal = refused_none text r.ok differ (not-true _ (sym pairs ∙ q));
            count = r.count;
            within = r.within;
            filled = slice;
            ready = rw (← slice) ready;
          }

-- ---- the calls

checks-are : (text : List ℕ) → triangle_refusal text ≡ first_failed (check (text_ok text) 27 ∷ check (vertices_differ (vertices text)) 28 ∷ check (not (three_faces (vertices text))) 29 ∷ [])
unfolding triangle_refusal
checks-are text = refl

module _ (text : List ℕ) where
  pub length_fails : (e : Refusal) → refusal_number e ≡ triangle_refusal text → length_refused (refusal_number e) ≡ triangle_length text
  unfolding triangle_length length_answer
  length_fails e s = rw (← s, ne_eqb (refusal_number e) 0 (number_positive e))

  pub import_fails : (e : Refusal) → refusal_number e ≡ triangle_refusal text → (out : List ℕ) → (length_refused (refusal_number e), out) ≡ import_triangle text out
  unfolding import_triangle write_answer length_answer written import_refusal
  import_fails e s out =
      let same : refusal_number e ≡ import_refusal text out = refused_first e (check (text_ok text) 27 ∷ check (vertices_differ (vertices text)) 28 ∷ check (not (three_faces (vertices text))) 29 ∷ []) (check (leb (triangle_bytes text) (length out)) 22 ∷ []) (rw (checks-are text) at s) in
      rw (← same, ne_eqb (refusal_number e) 0 (number_positive e))

  module _ (vs heads links : List ℕ) (r : Found) (s : Given text vs heads links r) where
    none : triangle_refusal text ≡ 0
    none = sym s.refusal

    bytes : 8 + 64 * r.count ≡ triangle_bytes text
    unfolding triangle_bytes
    bytes = ap (λ (n : ℕ). 8 + 64 * n) s.count

    pub length_given : record { refusal = 0; length = 8 + 64 * r.count } ≡ triangle_length text
    unfolding triangle_length length_answer
    length_given = rw (none, bytes)

    pub ready_drawn : Drawn (take (3 * r.count) vs) r.modulus heads links r.count
    ready_drawn =
        let p : Passes text = refusal_none text none in
        let b : (1 ≤ triangles text) × (triangles text ≤ max_triangles) = triangles_bounds text p.form in
        rw s.filled
        record { some = omega (arith, s.count); many = vertices_many text ∙ ap (λ (n : ℕ). 3 * n) (sym s.count); ready = s.ready; pairs = p.pairs }

    -- 22 is asked last
    room : (out : List ℕ) → import_refusal text out ≡ cond (leb (triangle_bytes text) (length out)) 0 22
    unfolding import_refusal first_failed
    room out = let p : Passes text = refusal_none text none in rw (p.form, p.differ, p.pairs)

    pub import_short : (out : List ℕ) → length out < 8 + 64 * r.count → (length_refused 22, out) ≡ import_triangle text out
    unfolding import_triangle write_answer length_answer written
    import_short out l = rw (room out, lt-leb (triangle_bytes text) (length out) (rw (← bytes) l))

    pub import_written : (out exit : List ℕ) → 8 + 64 * r.count ≤ length out → exit ≡ splice out 0 (built_mesh 1 (face_link (take (3 * r.count) vs)) r.count)
        → (record { refusal = 0; length = 8 + 64 * r.count }, exit) ≡ import_triangle text out
    unfolding import_triangle write_answer length_answer written triangle_mesh triangle_bytes
    import_written out exit l e =
        let w : exit ≡ splice out 0 (triangle_mesh text) = e ∙ (ap (λ (v : List ℕ). splice out 0 (built_mesh 1 (face_link v) r.count)) s.filled ∙ ap (λ (n : ℕ). splice out 0 (built_mesh 1 (face_link (vertices text)) n)) s.count) in
        rw (room out, le-leb (triangle_bytes text) (length out) (rw (← bytes) l), built_length 1 (face_link (vertices text)) (triangles text), w, s.count)
