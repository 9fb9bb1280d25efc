-- Plain trees: hexahedra whose neighbours are hexahedra. Their tests answer in one direction: where they pass, the tree does; else nothing is said.
use Prim.Native.Nat.{ℕ, ◌+◌, ◌*◌, ◌/◌, ◌%◌, ◌≤◌, ◌<◌}
use native.Mathlib.Nat.{div-eq_of_lt}
use native.Mathlib.Omega.{arith}
use mathlib.Core.Path.{◌≡◌, refl, sym, ◌∙◌}
use mathlib.Core.Bool.{Bool, true, false, not, ◌&&◌, ◌||◌}
use mathlib.Core.List.{List}
use lib.Dec.{ltb, eqb}
use borrow.Author.Tests.{ltb-true, eqb-true, eq-eqb, lt-ltb, le-ltb}
use Rattle.encoding.specs.Below.{all_below, count_below}
use Rattle.encoding.specs.Pieces.{piece}
use Rattle.encoding.proofs.Below.{either, and_fst, and_snd, and_intro, all_at, all_intro}
use Rattle.records.specs.Shape.{shape_ok, dimension_of, face_count, faces_in}
use Rattle.records.specs.Record.{core_size, tree_size, shape_of, neighbour_of, code_of, faces_of, orientation_of, to_itself, boundary_ok, in_form}
use Rattle.records.specs.Means.{alike_form}
use Rattle.records.proofs.Forms.{alike_used, alike_zeros, alike_region, alike_number, alike_shape, alike_form_lem, hexahedron_faces}
use Rattle.mesh.specs.Mesh.{mesh_header, mesh_core}
use Rattle.mesh.specs.Means.{corners_fit, answered_there, link_by_dimension, face_by_dimension, tree_by_dimension, face_passes, leads_up, leads_down, links_up, links_down, alone_by_dimension, face_from_above, tree_from_above, SeenAs}
use Rattle.std.specs.Prelude.{Some}
use Rattle.mesh.specs.declared.sound.Counts.{Counts}
use Rattle.mesh.proofs.Checking.{is_answered, leads_up_lem, leads_down_lem, tree_seen_lem, tree_read, face_read}

-- ---- a link

-- between records of one shape
pub alike_down : {a c : ℕ} {w t : Bool} (shape back f : ℕ) (r s : List ℕ) → c ≡ code_of r f → shape_of r ≡ shape → a ≡ shape_of s → w ≡ corners_fit (c / 6) shape f shape (c % 6) → t ≡ answered_there back c f s (c % 6)
    → (eqb a shape && w && t) ≡ true → link_by_dimension 3 back r f s ≡ true
unfolding faces_in
alike_down {a} {c} {w} {t} shape back f r s code own is fits answers e =
    let two : (eqb a shape && w) ≡ true = and_fst (eqb a shape && w) t e in
    let other : shape_of s ≡ shape = sym is ∙ eqb-true a shape (and_fst (eqb a shape) w two) in
    let answered : answered_there back c f s (c % 6) ≡ true = sym answers ∙ and_snd (eqb a shape && w) t e in
    sym (is_answered 3 back r s f c (c % 6) (c / 6) code refl refl answered) ∙ rw (own, other) (sym fits ∙ and_snd (eqb a shape) w two)

-- a face that leads to the record itself has orientation 0
module _ (own : ℕ) (r : List ℕ) (f : ℕ) (space : dimension_of (shape_of r) ≡ 3) where
  straight : code_of r f < 6 → boundary_ok own r f ≡ true
  unfolding boundary_ok orientation_of faces_of faces_in
  straight small =
      let turn : eqb (orientation_of r f) 0 ≡ true = rw (space, div-eq_of_lt small) in
      either (to_itself own r f) (λ t. rw t turn) (λ t. rw t)

  pub plain_edge : {n c : ℕ} → n ≡ neighbour_of r f → c ≡ code_of r f → (not (eqb n own) || ltb c 6) ≡ true → boundary_ok own r f ≡ true
  unfolding boundary_ok to_itself
  plain_edge {n} {c} read code t =
      either (eqb n own)
      (λ same. let small : ltb c 6 ≡ true = rw same at t in straight (rw (← code) (ltb-true c 6 small)))
      (λ other. rw (← read, other))

-- ---- a tree of a mesh

module _ (m : List ℕ) (k : ℕ) {at : ℕ} (here : at ≡ mesh_header + tree_size * k) where
  module _ (f : ℕ) {n : ℕ} (read : n ≡ neighbour_of (piece m at core_size) f) where
    -- a link up
    module _ (up : k < n) where
      pub up_face : (d K : ℕ) → n < K → face_from_above (mesh_core m) d K k f ≡ true
      unfolding face_from_above leads_up mesh_core
      up_face d K h = rw (← here, ← read, lt-ltb k n up, lt-ltb n K h)

      pub up_counts : true ≡ leads_up (mesh_core m) k f
      up_counts = sym (lt-ltb k n up) ∙ leads_up_lem m k here n f read

      pub up_stays : leads_down (mesh_core m) k f ≡ false
      up_stays = sym (leads_down_lem m k here n f read) ∙ le-ltb n k (omega arith)

    -- any other
    module _ (other : n ≤ k) where
      pub down_stays : leads_up (mesh_core m) k f ≡ false
      down_stays = sym (leads_up_lem m k here n f read) ∙ le-ltb k n other

      pub down_face : {b : Bool} {c to : ℕ} (K : ℕ) → dimension_of (shape_of (piece m at core_size)) ≡ 3 → to ≡ mesh_header + tree_size * n → c ≡ code_of (piece m at core_size) f
          → (b ≡ true → link_by_dimension 3 k (piece m at core_size) f (piece m to core_size) ≡ true) → (b && (not (eqb n k) || ltb c 6)) ≡ true → face_from_above (mesh_core m) 3 K k f ≡ true
      unfolding face_from_above leads_up mesh_core
      down_face {b} {c} K space there code linked t =
          let edge : boundary_ok k (piece m at core_size) f ≡ true = plain_edge k (piece m at core_size) f space read code (and_snd b (not (eqb n k) || ltb c 6) t) in
          rw (← here, ← read, le-ltb k n other, edge, ← there, linked (and_fst b (not (eqb n k) || ltb c 6) t))

  module _ {h : Bool} (is : h ≡ alike_form 2 6 k (piece m at core_size)) (t : h ≡ true) where
    hexahedron : alike_form 2 6 k (piece m at core_size) ≡ true
    hexahedron = sym is ∙ t

    pub tree_shape : shape_of (piece m at core_size) ≡ 2
    tree_shape = alike_shape 2 6 k (piece m at core_size) hexahedron

    pub tree_space : dimension_of (shape_of (piece m at core_size)) ≡ 3
    unfolding dimension_of
    tree_space = rw tree_shape

    alone : alone_by_dimension 3 k (piece m at core_size) ≡ true
    unfolding alone_by_dimension shape_ok dimension_of
    alone =
        rw (alike_zeros 2 6 k (piece m at core_size) hexahedron, alike_region 2 6 k (piece m at core_size) hexahedron, alike_number 2 6 k (piece m at core_size) hexahedron, eq-eqb k k refl, tree_shape)

    pub plain_seen : {seen : Counts} (K : ℕ) → SeenAs (all_below 6 (face_from_above (mesh_core m) 3 K k)) (count_below 6 (leads_up (mesh_core m) k)) (count_below 6 (leads_down (mesh_core m) k)) 6 (Some seen)
        → SeenAs (tree_from_above (mesh_core m) 3 K k) (links_up (mesh_core m) k) (links_down (mesh_core m) k) 6 (Some seen)
    plain_seen {seen} K s =
        let six : face_count (shape_of (piece m at core_size)) ≡ 6 = hexahedron_faces k (piece m at core_size) hexahedron in
        tree_seen_lem m 3 K k here refl (sym six) (Some seen) alone (alike_used 2 6 k (piece m at core_size) hexahedron) s

-- ---- a tree of which each link is looked at, and its neighbours have its shape

module _ (m : List ℕ) (K k : ℕ) {at : ℕ} (here : at ≡ mesh_header + tree_size * k) (shape faces : ℕ) {h : Bool} (is : h ≡ alike_form shape faces k (piece m at core_size)) (t : h ≡ true) (space : dimension_of shape ≡ 3) where
  own_record : alike_form shape faces k (piece m at core_size) ≡ true
  own_record = sym is ∙ t

  pub own_shape : shape_of (piece m at core_size) ≡ shape
  own_shape = alike_shape shape faces k (piece m at core_size) own_record

  pub alike_face : (f : ℕ) {n c to : ℕ} {b : Bool} → n ≡ neighbour_of (piece m at core_size) f → n < K → to ≡ mesh_header + tree_size * n → c ≡ code_of (piece m at core_size) f
      → (b ≡ true → link_by_dimension 3 k (piece m at core_size) f (piece m to core_size) ≡ true) → (b && (not (eqb n k) || ltb c 6)) ≡ true → face_passes (mesh_core m) K k f ≡ true
  unfolding face_passes mesh_core
  alike_face f {n} {c} {b = b} read below there code linked e =
      let edge : boundary_ok k (piece m at core_size) f ≡ true = plain_edge k (piece m at core_size) f (rw own_shape space) read code (and_snd b (not (eqb n k) || ltb c 6) e) in
      let link : face_by_dimension (mesh_core m) 3 K k f ≡ true = sym (face_read m 3 K k here n _ f read below there (sym (linked (and_fst b (not (eqb n k) || ltb c 6) e)))) in
      rw (← here) (and_intro (boundary_ok k (piece m at core_size) f) (face_by_dimension (mesh_core m) 3 K k f) edge link)

  module _ (sound : shape_ok shape ≡ true) (counted : faces ≡ face_count shape) (all : all_below faces (face_passes (mesh_core m) K k) ≡ true) where
    both : (f : ℕ) → f < faces → (boundary_ok k (piece m at core_size) f && face_by_dimension (mesh_core m) 3 K k f) ≡ true
    unfolding face_passes mesh_core
    both f l = rw (← here) at (all_at faces (face_passes (mesh_core m) K k) all f l)

    linked : all_below faces (face_by_dimension (mesh_core m) 3 K k) ≡ true
    linked = all_intro faces (face_by_dimension (mesh_core m) 3 K k) (λ f l. and_snd (boundary_ok k (piece m at core_size) f) (face_by_dimension (mesh_core m) 3 K k f) (both f l))

    formed : in_form k (piece m at core_size) ≡ true
    formed = alike_form_lem shape faces k (piece m at core_size) own_record k sound counted (λ f l. and_fst (boundary_ok k (piece m at core_size) f) (face_by_dimension (mesh_core m) 3 K k f) (both f l))

    pub alike_tree : tree_by_dimension (mesh_core m) 3 K k ≡ true
    alike_tree =
        sym (tree_read m 3 K k here (sym own_shape) (sym formed) refl (sym space) counted (sym linked)) ∙ rw (alike_number shape faces k (piece m at core_size) own_record, eq-eqb k k refl)
