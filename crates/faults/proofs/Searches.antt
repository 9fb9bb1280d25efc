-- What the search over the trees of a whole mesh finds, and the check before it.
use Prim.Native.Nat.{ℕ, ◌+◌, ◌*◌}
use mathlib.Core.Path.{◌≡◌, refl, sym, ap, ◌∙◌}
use mathlib.Core.Bool.{Bool, true, false}
use mathlib.Core.List.{List}
use lib.Dec.{eqb}
use borrow.Author.Tests.{eq-eqb, ne_eqb, eqb-true, eqb-false}
use Rattle.encoding.specs.Below.{all_below}
use Rattle.encoding.specs.Pieces.{piece}
use Rattle.encoding.proofs.Below.{all_same}
use Rattle.records.specs.Record.{core_size, tree_size, number_of}
use Rattle.mesh.specs.Mesh.{mesh_header, mesh_dimension, mesh_trees, mesh_core, header_sound, tree_sound}
use Rattle.faults.specs.declared.answer.Fault.{Fault}
use Rattle.faults.specs.Answer.{Wrong, wrong, fault_at, first_fault}
use Rattle.faults.specs.Record.{record_kind, first_face, record_wrong}
use Rattle.faults.specs.Mesh.{tree_face_kind, tree_wrong}
use Rattle.faults.specs.Calls.{mesh_fault_of}
use Rattle.faults.proofs.Firsts.{quiet}
use Rattle.faults.proofs.Right.{tree_right}
use Rattle.faults.proofs.OneRecord.{tree_by_dimension_lem}
use Rattle.mesh.specs.Means.{tree_by_dimension}

-- ---- a tree

module _ (m : List ℕ) (D K k : ℕ) {at n kind : ℕ} (here : at ≡ mesh_header + tree_size * k) (pn : n ≡ number_of (piece m at core_size)) (pk : kind ≡ record_kind (eqb n k) D (piece m at core_size)) where
  read : kind ≡ record_kind (eqb (number_of (mesh_core m k)) k) D (mesh_core m k)
  unfolding mesh_core
  read = rw (pn, here) at pk

  pub tree_kind : (kind ≡ 0 → ⊥) → wrong kind 0 ≡ tree_wrong (mesh_core m) D K k
  unfolding tree_wrong record_wrong
  tree_kind h = rw (← read, ne_eqb kind 0 h)

  pub tree_found : {w : Wrong} → kind ≡ 0 → w ≡ first_face (tree_face_kind (mesh_core m) K k) → w ≡ tree_wrong (mesh_core m) D K k
  unfolding tree_wrong record_wrong
  tree_found h e = e ∙ rw (← read, eq-eqb kind 0 h)

-- the kind of tree k
abbrev pub kind_at : (ℕ → List ℕ) → ℕ → ℕ → ℕ → ℕ
kind_at core D K k = (tree_wrong core D K k).kind

-- what the check of a tree tells
module _ (core : ℕ → List ℕ) (D K k : ℕ) {b : Bool} (pb : b ≡ tree_by_dimension core D K k) where
  right : b ≡ eqb (tree_wrong core D K k).kind 0
  right = pb ∙ tree_by_dimension_lem core D K k ∙ sym (tree_right core D K k)

  pub tree_passes : b ≡ true → (tree_wrong core D K k).kind ≡ 0
  tree_passes h = eqb-true (tree_wrong core D K k).kind 0 (sym right ∙ h)

  pub tree_fails : {w : Wrong} → b ≡ false → w ≡ tree_wrong core D K k → w.kind ≡ 0 → ⊥
  tree_fails h e z = eqb-false (tree_wrong core D K k).kind 0 (sym right ∙ h) (sym (ap (λ (w : Wrong). w.kind) e) ∙ z)

-- nothing is wrong with trees that pass it
pub trees_pass : (core : ℕ → List ℕ) (D K k : ℕ) → all_below k (tree_by_dimension core D K) ≡ true → quiet (kind_at core D K) k ≡ true
unfolding quiet
trees_pass core D K k all = sym (all_same k (tree_by_dimension core D K) (λ j. eqb (kind_at core D K j) 0) (λ j h. right core D K j refl)) ∙ all

-- ---- a whole mesh

module _ (m : List ℕ) {D K : ℕ} (pD : D ≡ mesh_dimension m) (pK : K ≡ mesh_trees m) where
  -- nothing is wrong with any tree exactly where all are sound
  pub trees_right : quiet (kind_at (mesh_core m) D K) K ≡ all_below K (tree_sound (mesh_core m) D K)
  unfolding quiet
  trees_right = all_same K (λ k. eqb (kind_at (mesh_core m) D K k) 0) (tree_sound (mesh_core m) D K) (λ k h. tree_right (mesh_core m) D K k)

  pub mesh_searched : {a : Fault} → header_sound m ≡ true → a ≡ first_fault 7 K (tree_wrong (mesh_core m) D K) → a ≡ mesh_fault_of m
  unfolding mesh_fault_of
  mesh_searched h e = e ∙ rw (h, pD, pK)

module _ (m : List ℕ) {a : Fault} where
  pub mesh_headless : header_sound m ≡ false → a ≡ fault_at 7 0 (wrong 6 0) → a ≡ mesh_fault_of m
  unfolding mesh_fault_of
  mesh_headless h e = e ∙ rw h
