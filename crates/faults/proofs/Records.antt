-- What the search finds in a record, at a face and of a link is the kind there.
use Prim.Native.Nat.{ℕ, ◌+◌, ◌*◌, ◌≤◌, ◌<◌}
use native.Mathlib.Omega.{arith}
use mathlib.Core.Path.{◌≡◌, refl, sym, ◌∙◌}
use mathlib.Core.Bool.{Bool, true, false, cond, not, ◌&&◌}
use mathlib.Core.List.{List}
use lib.Dec.{eqb, ltb}
use borrow.Author.Tests.{le-ltb, lt-ltb, eq-eqb, ne_eqb}
use Rattle.encoding.specs.Refusal.{first_failed}
use Rattle.encoding.proofs.Below.{clash}
use Rattle.encoding.specs.Pieces.{piece}
use Rattle.records.specs.Shape.{shape_ok, dimension_of, face_count}
use Rattle.records.specs.Record.{core_size, tree_size, unused, shape_of, neighbour_of, code_of, face_of, orientation_of, zeros_ok, region_ok, unused_ok, to_itself, boundary_ok}
use Rattle.mesh.specs.Mesh.{mesh_header, mesh_core}
use Rattle.faults.specs.Record.{record_kind, face_kind, link_kind}
use Rattle.faults.specs.Mesh.{tree_link_kind, tree_face_kind}
use Rattle.faults.specs.Means.{form_kind}

-- ---- the kinds without a face

module _ (r : List ℕ) (D : ℕ) {i : Bool} where
  pub number_wrong : i ≡ false → 7 ≡ record_kind i D r
  unfolding record_kind first_failed
  number_wrong e = rw e

  module _ (g1 : i ≡ true) {s : ℕ} (ps : s ≡ shape_of r) {b : Bool} (pb : b ≡ shape_ok s) where
    pub shape_wrong : b ≡ false → 8 ≡ record_kind i D r
    unfolding record_kind first_failed
    shape_wrong e = rw (g1, ← ps, ← pb, e)

    module _ (g2 : b ≡ true) {z : Bool} (pz : z ≡ zeros_ok r) {g : Bool} (pg : g ≡ region_ok r) where
      pub bytes_wrong : (z && g) ≡ false → 9 ≡ record_kind i D r
      unfolding record_kind first_failed
      bytes_wrong e = rw (g1, ← ps, ← pb, g2, ← pz, ← pg, e)

      module _ (g3 : (z && g) ≡ true) {d : ℕ} (pd : d ≡ dimension_of s) where
        pub dimension_wrong : (d ≡ D → ⊥) → 12 ≡ record_kind i D r
        unfolding record_kind first_failed
        dimension_wrong h = rw (g1, ← ps, ← pb, g2, ← pz, ← pg, g3, ← pd, ne_eqb d D h)

        pub record_right : d ≡ D → 0 ≡ record_kind i D r
        unfolding record_kind first_failed
        record_right h = rw (g1, ← ps, ← pb, g2, ← pz, ← pg, g3, ← pd, eq-eqb d D h)

-- ---- the form of a face

turned : (w x : Bool) → (w && not x) ≡ true → cond w x true ≡ false
turned true true e = sym e
turned true false e = refl
turned false x e = sym e

straight : (w x : Bool) → (w && not x) ≡ false → cond w x true ≡ true
straight true true e = refl
straight true false e = sym e
straight false x e = refl

module _ (own : ℕ) (r : List ℕ) (f : ℕ) {n : ℕ} (pn : n ≡ neighbour_of r f) {b : Bool} (pb : b ≡ ltb f (face_count (shape_of r))) where
  module _ (there : b ≡ true) {v o : ℕ} (pv : v ≡ face_of r f) (po : o ≡ orientation_of r f) where
    pub boundary_wrong : (eqb n own && eqb v f && not (eqb o 0)) ≡ true → 11 ≡ form_kind own r f
    unfolding form_kind boundary_ok to_itself
    boundary_wrong e = rw (← pb, there, ← pn, ← pv, ← po, turned (eqb n own && eqb v f) (eqb o 0) e)

    pub boundary_right : (eqb n own && eqb v f && not (eqb o 0)) ≡ false → 0 ≡ form_kind own r f
    unfolding form_kind boundary_ok to_itself
    boundary_right e = rw (← pb, there, ← pn, ← pv, ← po, straight (eqb n own && eqb v f) (eqb o 0) e)

  module _ (absent : b ≡ false) {d : ℕ} (pd : d ≡ code_of r f) where
    pub marked : (eqb n unused && eqb d 0) ≡ true → 0 ≡ form_kind own r f
    unfolding form_kind unused_ok
    marked e = rw (← pb, absent, ← pn, ← pd, e)

    pub unmarked : (eqb n unused && eqb d 0) ≡ false → 10 ≡ form_kind own r f
    unfolding form_kind unused_ok
    unmarked e = rw (← pb, absent, ← pn, ← pd, e)

-- ---- a face, its link included

with_link : (b o u : Bool) (l : ℕ) → (◌≡◌ {A = ℕ} (cond b (cond o 0 11) (cond u 0 10)) 0 → ⊥) → cond {A = ℕ} b (cond o 0 11) (cond u 0 10) ≡ cond b (cond o l 11) (cond u 0 10)
with_link true true u l h = absurd (h refl)
with_link true false u l h = refl
with_link false o u l h = refl

without_link : (b o u : Bool) (l : ℕ) → ◌≡◌ {A = ℕ} (cond b (cond o 0 11) (cond u 0 10)) 0 → b ≡ false → 0 ≡ cond b (cond o l 11) (cond u 0 10)
without_link true o u l e h = clash refl h
without_link false o u l e h = sym e

linked : (b o u : Bool) (l : ℕ) → ◌≡◌ {A = ℕ} (cond b (cond o 0 11) (cond u 0 10)) 0 → b ≡ true → l ≡ cond b (cond o l 11) (cond u 0 10)
linked true true u l e h = refl
linked true false u l e h = absurd (omega arith)
linked false o u l e h = clash h refl

module _ (own : ℕ) (r : List ℕ) (link : ℕ → ℕ) (f : ℕ) {kind : ℕ} (pk : kind ≡ form_kind own r f) where
  pub face_form_lem : (kind ≡ 0 → ⊥) → kind ≡ face_kind own r link f
  unfolding form_kind face_kind
  face_form_lem h = pk ∙ with_link (ltb f (face_count (shape_of r))) (boundary_ok own r f) (unused_ok r f) (link f) (λ e. h (pk ∙ e))

  module _ (g1 : kind ≡ 0) {b : Bool} (pb : b ≡ ltb f (face_count (shape_of r))) where
    pub face_absent : b ≡ false → 0 ≡ face_kind own r link f
    unfolding form_kind face_kind
    face_absent h = without_link (ltb f (face_count (shape_of r))) (boundary_ok own r f) (unused_ok r f) (link f) (sym pk ∙ g1) (sym pb ∙ h)

    pub face_linked : b ≡ true → link f ≡ face_kind own r link f
    unfolding form_kind face_kind
    face_linked h = linked (ltb f (face_count (shape_of r))) (boundary_ok own r f) (unused_ok r f) (link f) (sym pk ∙ g1) (sym pb ∙ h)

-- ---- a face of a tree of a whole mesh

module _ (m : List ℕ) (K k f : ℕ) {at : ℕ} (here : at ≡ mesh_header + tree_size * k) {kind : ℕ} (pk : kind ≡ form_kind k (piece m at core_size) f) where
  at_core : kind ≡ form_kind k (mesh_core m k) f
  unfolding mesh_core
  at_core = rw here at pk

  pub tree_form : (kind ≡ 0 → ⊥) → kind ≡ tree_face_kind (mesh_core m) K k f
  unfolding tree_face_kind
  tree_form h = face_form_lem k (mesh_core m k) (tree_link_kind (mesh_core m) K k) f at_core h

  module _ (g1 : kind ≡ 0) {b : Bool} (pb : b ≡ ltb f (face_count (shape_of (piece m at core_size)))) where
    has : b ≡ ltb f (face_count (shape_of (mesh_core m k)))
    unfolding mesh_core
    has = rw here at pb

    pub tree_absent : b ≡ false → 0 ≡ tree_face_kind (mesh_core m) K k f
    unfolding tree_face_kind
    tree_absent h = face_absent k (mesh_core m k) (tree_link_kind (mesh_core m) K k) f at_core g1 has h

    module _ (g2 : b ≡ true) {n : ℕ} (pn : n ≡ neighbour_of (piece m at core_size) f) where
      to-face : tree_link_kind (mesh_core m) K k f ≡ tree_face_kind (mesh_core m) K k f
      unfolding tree_face_kind
      to-face = face_linked k (mesh_core m k) (tree_link_kind (mesh_core m) K k) f at_core g1 has g2

      pub tree_outside : K ≤ n → 13 ≡ tree_face_kind (mesh_core m) K k f
      unfolding tree_link_kind mesh_core
      tree_outside h = rw (← here, ← pn, le-ltb n K h) at to-face

      pub tree_linked : {to r : ℕ} → n < K → to ≡ mesh_header + tree_size * n → r ≡ link_kind k (piece m at core_size) f (piece m to core_size) → r ≡ tree_face_kind (mesh_core m) K k f
      unfolding tree_link_kind mesh_core
      tree_linked h e p = p ∙ rw (← here, ← pn, lt-ltb n K h, ← e) at to-face
