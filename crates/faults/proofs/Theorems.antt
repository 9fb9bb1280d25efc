-- The fault is what the check answers, and nothing before it is wrong.
use Prim.Native.Nat.{ℕ, ◌<◌}
use native.Mathlib.Omega.{arith}
use mathlib.Core.Path.{◌≡◌, refl, sym, ap, ◌∙◌}
use mathlib.Core.Bool.{Bool, true, false, cond}
use mathlib.Core.List.{List}
use lib.Dec.{eqb}
use borrow.Author.Tests.{eq-eqb, ne_eqb, eqb-true}
use Rattle.encoding.specs.Below.{all_below, any_below, least_below}
use Rattle.encoding.specs.Refusal.{first_failed}
use Rattle.encoding.proofs.Below.{either, clash, all_intro, all_fails, any_false, least_lt, least_at, least_below_lem}
use Rattle.mesh.specs.Mesh.{mesh_dimension, mesh_trees, mesh_core, header_sound, mesh_sound, mesh_refusal}
use Rattle.faults.specs.declared.answer.Fault.{Fault}
use Rattle.faults.specs.Answer.{Wrong, wrong, is_fault, first_place, first_fault}
use Rattle.faults.specs.Record.{record_kind, first_face, record_wrong}
use Rattle.records.specs.Record.{number_of}
use Rattle.faults.specs.Mesh.{tree_face_kind, tree_wrong}
use Rattle.faults.specs.Calls.{mesh_fault_of}
use Rattle.faults.specs.Theorems.{AsChecked, MeshAsChecked, FirstTree, MeshFirst}
use Rattle.faults.proofs.Firsts.{quiet}
use Rattle.faults.proofs.Right.{tree_right}
use Rattle.faults.proofs.Searches.{trees_right}

-- ---- the first of n places

-- what a test that isn't passed says of a kind
fault_is : (kind : ℕ) → is_fault kind ≡ false → kind ≡ 0
fault_is kind e = either (eqb kind 0) (eqb-true kind 0) (λ p. clash (rw p) e)

fault_not : (kind : ℕ) → is_fault kind ≡ true → eqb kind 0 ≡ false
fault_not kind e = either (eqb kind 0) (λ p. clash e (rw p)) (λ p. p)

module _ (fault n : ℕ) (at : ℕ → Wrong) where
  abbrev bad : ℕ → Bool
  bad i = is_fault (at i).kind

  -- a fault is found exactly where something is wrong at a place
  pub first_checked : (fault ≡ 0 → ⊥) → AsChecked (first_fault fault n at) (cond (quiet (λ i. (at i).kind) n) 0 fault)
  unfolding first_fault first_place quiet
  first_checked h =
      either (any_below n bad)
      (λ p.
      let z : eqb (at (least_below n bad)).kind 0 ≡ false = fault_not (at (least_below n bad)).kind (least_at n bad p) in
      let q : all_below n (λ i. eqb (at i).kind 0) ≡ false = all_fails n (λ i. eqb (at i).kind 0) (least_below n bad) (least_lt n bad p) z in
      rw (p, q) (record { fault = refl; kind = z ∙ sym (ne_eqb fault 0 h) }))
      (λ p.
      let q : all_below n (λ i. eqb (at i).kind 0) ≡ true = all_intro n (λ i. eqb (at i).kind 0) (λ i l. eq-eqb (at i).kind 0 (fault_is (at i).kind (any_false n bad p i l))) in
      rw (p, q) (record { fault = refl; kind = refl }))

  -- and then it is what is wrong at the least place
  pub record Found (a : Fault) : Type 0 where
    pub within : a.at < n
    pub here : at a.at ≡ wrong a.kind a.face
    pub before : (i : ℕ) → i < a.at → (at i).kind ≡ 0

  pub first_first : (fault ≡ 0 → ⊥) → (first_fault fault n at).fault ≡ fault → Found (first_fault fault n at)
  unfolding first_fault first_place
  first_first h e =
      either (any_below n bad)
      (λ p. rw p (record { within = least_lt n bad p; here = refl; before = λ i l. fault_is (at i).kind (least_below_lem n bad i l) }))
      (λ p. absurd (h (sym (rw p at e))))

-- nothing is wrong at a face before the one that is told
pub faces_before : (kind : ℕ) (face : ℕ → ℕ) {w : Wrong} → record_wrong kind (first_face face) ≡ w → (f : ℕ) → f < w.face → face f ≡ 0
unfolding record_wrong first_face
faces_before kind face {w} e f h =
    either (eqb kind 0)
    (λ k. either (any_below 6 (λ f. is_fault (face f)))
    (λ p.
    let l : least_below 6 (λ f. is_fault (face f)) ≡ w.face = ap (λ (x : Wrong). x.face) (rw (k, p) at e) in
    fault_is (face f) (least_below_lem 6 (λ f. is_fault (face f)) f (omega arith)))
    (λ p. let l : 0 ≡ w.face = ap (λ (x : Wrong). x.face) (rw (k, p) at e) in absurd (omega arith)))
    (λ k. let l : 0 ≡ w.face = ap (λ (x : Wrong). x.face) (rw k at e) in absurd (omega arith))

-- ---- a whole mesh

module _ (m : List ℕ) where
  abbrev place : ℕ → Wrong
  place = tree_wrong (mesh_core m) (mesh_dimension m) (mesh_trees m)

  mesh-checked : AsChecked (mesh_fault_of m) (mesh_refusal m)
  unfolding mesh_fault_of mesh_refusal mesh_sound first_failed
  mesh-checked =
      either (header_sound m)
      (λ h. rw (h, ← trees_right m refl refl) (first_checked 7 (mesh_trees m) place (λ e. omega arith)))
      (λ h. rw h (record { fault = refl; kind = refl }))

  tree-faces : (k : ℕ) {w : Wrong} → place k ≡ w → (f : ℕ) → f < w.face → tree_face_kind (mesh_core m) (mesh_trees m) k f ≡ 0
  unfolding tree_wrong
  tree-faces k e = faces_before (record_kind (eqb (number_of (mesh_core m k)) k) (mesh_dimension m) (mesh_core m k)) (tree_face_kind (mesh_core m) (mesh_trees m) k) e

  mesh-first-at : header_sound m ≡ true → (mesh_fault_of m).fault ≡ 7 → FirstTree m (mesh_fault_of m)
  unfolding mesh_fault_of
  mesh-first-at h e =
      let f : Found 7 (mesh_trees m) place (first_fault 7 (mesh_trees m) place) = first_first 7 (mesh_trees m) place (λ z. omega arith) (rw h at e) in
      rw h
      (record {
        within = f.within;
        here = f.here;
        before = λ k l. sym (tree_right (mesh_core m) (mesh_dimension m) (mesh_trees m) k) ∙ eq-eqb (place k).kind 0 (f.before k l);
        faces = tree-faces (first_fault 7 (mesh_trees m) place).at f.here;
      })

pub mesh_as_checked : MeshAsChecked
mesh_as_checked = mesh-checked

pub mesh_first : MeshFirst
mesh_first = mesh-first-at
