-- Plain trees of a part: hexahedra whose neighbours are hexahedra. Their tests answer in one direction: where they pass, the tree does; else nothing is said.
use Prim.Native.Nat.{ℕ, ◌+◌, ◌<◌}
use mathlib.Core.Path.{◌≡◌, refl, sym, ◌∙◌}
use mathlib.Core.Bool.{Bool, true, cond, not, ◌&&◌, ◌||◌}
use mathlib.Core.List.{List}
use lib.Dec.{ltb, eqb}
use borrow.Author.Tests.{eq-eqb}
use Rattle.encoding.specs.Below.{all_below}
use Rattle.encoding.specs.Pieces.{piece}
use Rattle.encoding.proofs.Below.{and_fst, and_snd, all_at, all_intro}
use Rattle.records.specs.Shape.{dimension_of}
use Rattle.records.specs.Record.{core_size, shape_of, neighbour_of, code_of, boundary_ok, in_form}
use Rattle.records.specs.Means.{alike_form}
use Rattle.records.proofs.Forms.{alike_number, alike_shape, hexahedron_faces, hexahedron_form}
use Rattle.mesh.specs.Means.{link_by_dimension}
use Rattle.mesh.proofs.PlainTrees.{plain_edge}
use Rattle.part.specs.Layout.{tree_place}
use Rattle.part.specs.Part.{stored_tree}
use Rattle.part.specs.Means.{record_place, ghost_core}
use Rattle.part_check.specs.Means.{tree_face, tree_fits, tree_stored, tree_numbered, TreeKnown, Hexahedron}
use Rattle.part_check.proofs.Checking.{fits_read}

-- ---- a tree

module _ (first : ℕ) (tree : ℕ → List ℕ) (i : ℕ) (e : alike_form 2 6 (first + i) (tree i) ≡ true) where
  numbered : tree_numbered first tree i ≡ true
  unfolding tree_numbered
  numbered = eq-eqb _ _ (alike_number 2 6 (first + i) (tree i) e)

  module _ (n g : ℕ) (ghostly : ℕ → List ℕ) where
    -- its links
    module _ (all : all_below 6 (tree_fits (link_by_dimension 3) n g tree ghostly i) ≡ true) where
      both : (f : ℕ) → f < 6 → (boundary_ok i (tree i) f && tree_face (link_by_dimension 3) n g tree ghostly i f) ≡ true
      unfolding tree_fits
      both f h = all_at 6 (tree_fits (link_by_dimension 3) n g tree ghostly i) all f h

      linked : all_below 6 (tree_face (link_by_dimension 3) n g tree ghostly i) ≡ true
      linked = all_intro 6 (tree_face (link_by_dimension 3) n g tree ghostly i) (λ f h. and_snd (boundary_ok i (tree i) f) (tree_face (link_by_dimension 3) n g tree ghostly i f) (both f h))

      formed : in_form i (tree i) ≡ true
      formed = hexahedron_form (first + i) (tree i) e i (λ f h. and_fst (boundary_ok i (tree i) f) (tree_face (link_by_dimension 3) n g tree ghostly i f) (both f h))

      pub plain_stored : (tree_numbered first tree i && tree_stored (link_by_dimension 3) n g tree ghostly 3 i) ≡ true
      unfolding tree_stored dimension_of
      plain_stored = rw (numbered, formed, hexahedron_faces (first + i) (tree i) e, linked, alike_shape 2 6 (first + i) (tree i) e)

-- ---- a face

module _ (part : List ℕ) (i : ℕ) {at : ℕ} (here : at ≡ tree_place i) where
  -- what the test of the record says
  pub plain_here : {h : Bool} (k : ℕ) → h ≡ alike_form 2 6 k (piece part at core_size) → h ≡ true → alike_form 2 6 k (stored_tree part i) ≡ true
  unfolding stored_tree
  plain_here k is t = rw (← here) (sym is ∙ t)

  module _ {first n g : ℕ} (hex : Hexahedron part first n g i) where
    pub plain_shape : shape_of (piece part at core_size) ≡ 2
    unfolding stored_tree
    plain_shape = rw here (alike_shape 2 6 (first + i) (stored_tree part i) hex.plain)

    plain_space : dimension_of (shape_of (piece part at core_size)) ≡ 3
    unfolding dimension_of
    plain_space = rw plain_shape

    known : TreeKnown part first n i
    known = record { below = hex.below; number = numbered first (stored_tree part) i hex.plain }

    pub plain_fits : (f : ℕ) {j c back to : ℕ} {b : Bool} → j ≡ neighbour_of (piece part at core_size) f → j < n + g → c ≡ code_of (piece part at core_size) f → back ≡ cond (ltb j n) i (first + i) → to ≡ record_place n j
        → (b ≡ true → link_by_dimension 3 back (piece part at core_size) f (piece part to core_size) ≡ true) → (b && (not (eqb j i) || ltb c 6)) ≡ true
        → tree_fits (link_by_dimension 3) n g (stored_tree part) (ghost_core part n) i f ≡ true
    plain_fits f {j} {c} {b = b} read less code back there link h =
        let edge : boundary_ok i (piece part at core_size) f ≡ true = plain_edge i (piece part at core_size) f plain_space read code (and_snd b (not (eqb j i) || ltb c 6) h) in
        sym (fits_read part i here 3 n g f read (sym edge) refl known less back there (sym (link (and_fst b (not (eqb j i) || ltb c 6) h))))
