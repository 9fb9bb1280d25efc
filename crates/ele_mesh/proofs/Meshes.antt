-- The promises: the mesh is sound and joins exactly the faces with equal vertex sets, and 29 comes exactly where three faces share one.
use Prim.Native.Nat.{ℕ, suc, ◌+◌, ◌*◌, ◌/◌, ◌%◌, ◌≤◌, ◌<◌}
use mathlib.Core.Path.{◌≡◌, refl, sym, ap, ◌∙◌}
use mathlib.Core.Bool.{Bool, true, false, cond, not, ◌&&◌}
use mathlib.Core.List.{List}
use native.Mathlib.Nat.{zero-add}
use native.Mathlib.Omega.{arith}
use lib.Dec.{leb, eqb}
use lib.ListN.{length}
use borrow.Author.Tests.{leb-true, eqb-true}
use Rattle.encoding.specs.Answer.{length_answer, written, write_answer}
use Rattle.encoding.specs.Below.{any_below}
use Rattle.encoding.specs.Pieces.{splice}
use Rattle.encoding.specs.Refusal.{first_failed}
use Rattle.encoding.proofs.Below.{either, clash, and_fst, and_snd, any_at}
use Rattle.encoding.proofs.Pieces.{splice_take}
use Rattle.records.specs.Shape.{face_count}
use Rattle.records.specs.Record.{neighbour_of, face_of, orientation_of}
use Rattle.mesh.specs.Mesh.{mesh_core, mesh_refusal}
use Rattle.mesh_build.specs.Build.{NewLink, LinksFit, built_mesh}
use Rattle.mesh_build.proofs.Building.{built_length, built_sound, built_trees_lem, built_neighbour, built_face, built_orientation}
use Rattle.ele_text.specs.Text.{max_triangles, text_ok, vertices, triangles}
use Rattle.ele_faces.specs.Faces.{same_set, vertices_differ, three_faces, partner, turn_of, face_link}
use Rattle.ele_mesh.specs.Calls.{triangle_mesh, triangle_bytes, triangle_refusal, import_refusal, triangle_length, import_triangle}
use Rattle.ele_mesh.specs.Theorems.{TrianglesSound, Joined, JoinsSets, TrianglesJoin, imported_mesh, ImportsSound, Three, EdgesRefused}
use Rattle.ele_faces.proofs.Pairs.{turn_none, turn_one}
use Rattle.ele_mesh.proofs.Joins.{three_rising, meets_other, meets_same, meets_intro, partner_most, partner_meets, partner_cases, partner_is, link_alone, link_joined, three_faces_lem, links_fit}
use Rattle.ele_mesh.proofs.Surveys.{vertices_many, triangles_bounds, refused_three, Passes, refusal_none, refusal_three}

-- ---- links of a mesh

module _ (vs : List ℕ) (n : ℕ) (some : 1 ≤ n) (most : n ≤ max_triangles) (many : length vs ≡ 3 * n) (pairs : three_faces vs ≡ false) where
  fit : LinksFit 1 (face_link vs) n
  fit = links_fit vs n some most many pairs

  module _ (t i : ℕ) (ht : t < n) (hi : i < 3) where
    there : i < face_count 1
    there = rw three_faces_lem hi

    neighbour : neighbour_of (mesh_core (built_mesh 1 (face_link vs) n) t) i ≡ (face_link vs t i).neighbour
    neighbour = built_neighbour 1 (face_link vs) n fit t ht i there

    face : face_of (mesh_core (built_mesh 1 (face_link vs) n) t) i ≡ (face_link vs t i).face
    face = built_face 1 (face_link vs) n fit t ht i there

    orientation : orientation_of (mesh_core (built_mesh 1 (face_link vs) n) t) i ≡ (face_link vs t i).orientation
    orientation = built_orientation 1 (face_link vs) n fit t ht i there

    -- the face that this one meets
    module _ (u j : ℕ) (hu : u < n) (hj : j < 3) (other : 3 * t + i ≡ 3 * u + j → ⊥) where
      joins : same_set vs (3 * t + i) (3 * u + j) ≡ true → Joined (built_mesh 1 (face_link vs) n) t i u j
      joins e =
          let p : partner vs (3 * t + i) ≡ suc (3 * u + j) =
          partner_is vs (3 * t + i) pairs (omega arith) (3 * u + j) (omega arith) (meets_intro vs (3 * t + i) (3 * u + j) (λ q. other (sym q)) e) in
          let a : (3 * u + j) / 3 ≡ u = omega arith in
          let b : (3 * u + j) % 3 ≡ j = omega arith in (
            neighbour ∙ (ap (λ (l : NewLink). l.neighbour) (link_joined vs t i (3 * u + j) p) ∙ a),
            face ∙ (ap (λ (l : NewLink). l.face) (link_joined vs t i (3 * u + j) p) ∙ b),
          )

      met : Joined (built_mesh 1 (face_link vs) n) t i u j → partner vs (3 * t + i) ≡ suc (3 * u + j)
      met e =
          let a : (face_link vs t i).neighbour ≡ u = sym neighbour ∙ e.0 in
          let b : (face_link vs t i).face ≡ j = sym face ∙ e.1 in
          partner_cases vs (3 * t + i)
          (λ z. let c : t ≡ u = rw (link_alone vs t i z) at a in
          let d : i ≡ j = rw (link_alone vs t i z) at b in
          absurd (other (omega arith)))
          (λ g z. let c : g / 3 ≡ u = rw (link_joined vs t i g z) at a in
          let d : g % 3 ≡ j = rw (link_joined vs t i g z) at b in
          let q : g ≡ 3 * u + j = omega arith in
          z ∙ ap suc q)

      alike : Joined (built_mesh 1 (face_link vs) n) t i u j → same_set vs (3 * t + i) (3 * u + j) ≡ true
      alike e = meets_same vs (3 * t + i) (3 * u + j) (partner_meets vs (3 * t + i) (3 * u + j) (met e))

      turned : Joined (built_mesh 1 (face_link vs) n) t i u j → orientation_of (mesh_core (built_mesh 1 (face_link vs) n) t) i ≡ turn_of vs (3 * t + i) (3 * u + j)
      turned e = orientation ∙ ap (λ (l : NewLink). l.orientation) (link_joined vs t i (3 * u + j) (met e))

    boundary : ((g : ℕ) → g < 3 * n → (g ≡ 3 * t + i → ⊥) → same_set vs (3 * t + i) g ≡ false) → Joined (built_mesh 1 (face_link vs) n) t i t i
    boundary h =
        let z : partner vs (3 * t + i) ≡ 0 = alone in (
          neighbour ∙ ap (λ (l : NewLink). l.neighbour) (link_alone vs t i z),
          face ∙ ap (λ (l : NewLink). l.face) (link_alone vs t i z),
        )
      where
        alone : partner vs (3 * t + i) ≡ 0
        alone =
            partner_cases vs (3 * t + i)
            (λ z. z)
            (λ g z. let m = partner_meets vs (3 * t + i) g z in
            clash (meets_same vs (3 * t + i) g m) (h g (omega (arith, partner_most vs (3 * t + i))) (meets_other vs (3 * t + i) g m)))

  mesh-joins : JoinsSets vs (built_mesh 1 (face_link vs) n) n
  mesh-joins =
      record {
        trees = built_trees_lem 1 (face_link vs) n (omega arith);
        joins = λ t i u j ht hi hu hj o. joins t i ht hi u j hu hj o;
        alike = λ t i u j ht hi hu hj o. alike t i ht hi u j hu hj o;
        boundary = boundary;
        turned = λ t i u j ht hi hu hj o e. (
          λ q. turned t i ht hi u j hu hj o e ∙ sym (turn_none vs (3 * t + i) (3 * u + j) refl refl q),
          λ q. turned t i ht hi u j hu hj o e ∙ sym (turn_one vs (3 * t + i) (3 * u + j) refl refl q),
        );
      }

-- ---- the promises

-- of four checks that pass, the first three
first_three : (a b c d : Bool) → ◌≡◌ {A = ℕ} (cond a (cond b (cond c (cond d 0 22) 29) 28) 27) 0 → ◌≡◌ {A = ℕ} (cond a (cond b (cond c 0 29) 28) 27) 0
first_three true true true d e = refl
first_three true true false d e = e
first_three true false c d e = e
first_three false b c d e = e

module _ (text : List ℕ) (e : triangle_refusal text ≡ 0) where
  passes : Passes text
  passes = refusal_none text e

  bounds : (1 ≤ triangles text) × (triangles text ≤ max_triangles)
  bounds = triangles_bounds text passes.form

pub triangles_sound : TrianglesSound
unfolding triangle_mesh
triangles_sound text e =
    built_sound 1 (face_link (vertices text)) (triangles text) (links_fit (vertices text) (triangles text) (bounds text e).0 (bounds text e).1 (vertices_many text) (passes text e).pairs)

pub triangles_join : TrianglesJoin
unfolding triangle_mesh
triangles_join text e = mesh-joins (vertices text) (triangles text) (bounds text e).0 (bounds text e).1 (vertices_many text) (passes text e).pairs

-- the call: where it accepts, the text passes and the buffer has room
module _ (text out : List ℕ) (e : (import_triangle text out).0.refusal ≡ 0) where
  import-passed : import_refusal text out ≡ 0
  unfolding import_triangle write_answer length_answer
  import-passed = either (eqb (import_refusal text out) 0) (eqb-true (import_refusal text out) 0) (λ t. rw t at e)

  text-passed : triangle_refusal text ≡ 0
  unfolding import_refusal triangle_refusal first_failed
  text-passed = first_three (text_ok text) (vertices_differ (vertices text)) (not (three_faces (vertices text))) (leb (triangle_bytes text) (length out)) import-passed

  mesh_long : length (triangle_mesh text) ≡ triangle_bytes text
  unfolding triangle_mesh triangle_bytes
  mesh_long = built_length 1 (face_link (vertices text)) (triangles text)

  room-there : triangle_bytes text ≤ length out
  unfolding import_refusal first_failed
  room-there =
      let p : Passes text = refusal_none text text-passed in
      let z : ◌≡◌ {A = ℕ} (cond (leb (triangle_bytes text) (length out)) 0 22) 0 = rw (p.form, p.differ, p.pairs) at import-passed in
      either (leb (triangle_bytes text) (length out)) (leb-true (triangle_bytes text) (length out)) (λ t. let w : ◌≡◌ {A = ℕ} 22 0 = rw t at z in absurd (omega arith))

  import-answer : import_triangle text out ≡ (record { refusal = 0; length = triangle_bytes text }, splice out 0 (triangle_mesh text))
  unfolding import_triangle write_answer length_answer written
  import-answer = rw (import-passed, mesh_long)

  imported-mesh : imported_mesh text out ≡ triangle_mesh text
  imported-mesh = rw import-answer (rw (zero-add, mesh_long) at (splice_take out 0 (triangle_mesh text) (omega (arith, mesh_long, room-there))))

  import-long : (import_triangle text out).0 ≡ triangle_length text
  unfolding triangle_length length_answer
  import-long = rw (import-answer, text-passed)

  mesh-accepted : mesh_refusal (triangle_mesh text) ≡ 0
  unfolding mesh_refusal first_failed
  mesh-accepted = rw (triangles_sound text text-passed)

pub imports_sound : ImportsSound
imports_sound text out e =
    record {
      sound = rw (imported-mesh text out e) (mesh-accepted text out e);
      joined = rw (imported-mesh text out e) (triangles_join text (text-passed text out e));
      long = import-long text out e;
    }

three_found : (vs : List ℕ) → three_faces vs ≡ true → Three vs
unfolding three_faces
three_found vs e =
    let a = any_at (length vs) (λ h. any_below h (λ g. same_set vs h g && any_below g (same_set vs h))) e in
    let h : ℕ = a.0 in
    let b = any_at h (λ g. same_set vs h g && any_below g (same_set vs h)) a.2 in
    let g : ℕ = b.0 in
    let c = any_at g (same_set vs h) (and_snd (same_set vs h g) _ b.2) in
    (c.0, g, h, (c.1, b.1, a.1), (and_fst (same_set vs h g) _ b.2, c.2))

pub edges_refused : EdgesRefused
edges_refused text =
    record {
      given = λ a b t. sym (refused_three text a b (three_rising (vertices text) t.0 t.1 t.2 t.3.0 t.3.1 t.3.2 t.4.0 t.4.1));
      only = λ e. let p = refusal_three text e in (p.0, p.1, three_found (vertices text) p.2);
    }
