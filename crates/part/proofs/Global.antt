-- Laws of records with their neighbours renamed: all else is the same. So a part's tree with neighbours as global numbers has what is stored, and each neighbour looked up.
use Prim.Native.Nat.{ℕ, zero, suc, ◌+◌, ◌-◌, ◌*◌, ◌≤◌, ◌<◌}
use native.Mathlib.Nat.{div-add-mod'}
use native.Mathlib.Omega.{arith}
use mathlib.Core.Path.{◌≡◌, refl, ap, ◌∙◌}
use mathlib.Core.List.{List, [], map}
use lib.Dec.{eqb, ltb}
use lib.ListN.{length, get_or}
use Rattle.encoding.specs.Pieces.{Bytes}
use Rattle.encoding.proofs.Below.{either}
use Rattle.encoding.proofs.Pieces.{piece_length, bytes_piece}
use Rattle.records.specs.Shape.{faces_in}
use Rattle.records.specs.Record.{core_size, unused, number_of, shape_of, neighbour_of, code_of, faces_of, face_of, orientation_of, zeros_ok, region_of, region_ok}
use Rattle.records.specs.Links.{cell, row_of, rows_of}
use Rattle.records.proofs.Forms.{number_word}
use Rattle.records.proofs.Rows.{with_number, with_shape, with_zeros, with_region, with_neighbour, with_code}
use Rattle.part.specs.Layout.{tree_place}
use Rattle.part.specs.Cut.{renamed, rename_row}
use Rattle.part.specs.Part.{part_dimension, part_count, part_ghost_count, stored_tree, stored_ghost, global_number, global_tree}

-- ---- records that differ in their neighbours alone

pub record Alike (r s : List ℕ) : Type 0 where
  pub number : number_of r ≡ number_of s
  pub shape : shape_of r ≡ shape_of s
  pub zeros : zeros_ok r ≡ zeros_ok s
  pub region : region_of r ≡ region_of s
  pub code : (f : ℕ) → f < 6 → code_of r f ≡ code_of s f

pub alike_itself : (r : List ℕ) → Alike r r
alike_itself r = record { number = refl; shape = refl; zeros = refl; region = refl; code = λ f h. refl }

module _ {r s : List ℕ} (same : Alike r s) where
  alike-faces : faces_of r ≡ faces_of s
  unfolding faces_of
  alike-faces = rw same.shape

  pub alike_region : region_ok r ≡ region_ok s
  unfolding region_ok
  alike_region = rw same.region

  pub alike_face : (f : ℕ) → f < 6 → face_of r f ≡ face_of s f
  unfolding face_of
  alike_face f h = rw (same.code f h, alike-faces)

  pub alike_orientation : (f : ℕ) → f < 6 → orientation_of r f ≡ orientation_of s f
  unfolding orientation_of
  alike_orientation f h = rw (same.code f h, alike-faces)

-- ---- a core with its neighbours renamed

module _ (rename : ℕ → ℕ) (F : ℕ) (r : List ℕ) where
  renamed-row : (f : ℕ) → f < 6 → get_or (map (rename_row rename) (rows_of r F)) f [] ≡ rename_row rename (row_of r F f)
  unfolding rows_of
  renamed-row zero h = refl
  renamed-row (suc zero) h = refl
  renamed-row (suc (suc zero)) h = refl
  renamed-row (suc (suc (suc zero))) h = refl
  renamed-row (suc (suc (suc (suc zero)))) h = refl
  renamed-row (suc (suc (suc (suc (suc zero))))) h = refl
  renamed-row (suc (suc (suc (suc (suc (suc f)))))) h = absurd (omega arith)

  renamed-cell : (f : ℕ) → f < 6 → cell (map (rename_row rename) (rows_of r F)) f 0 ≡ rename (neighbour_of r f)
  unfolding rename_row row_of
  renamed-cell f h = ap (λ (x : List ℕ). get_or x 0 0) (renamed-row f h)

  renamed-codes : (f : ℕ) → f < 6 → cell (map (rename_row rename) (rows_of r F)) f 2 * F + cell (map (rename_row rename) (rows_of r F)) f 1 ≡ code_of r f
  unfolding rename_row row_of
  renamed-codes f h = ap (λ (x : List ℕ). get_or x 2 0 * F + get_or x 1 0) (renamed-row f h) ∙ div-add-mod' (code_of r f) F

  module _ (l : length r ≡ 40) where
    pub renamed_alike : Alike (renamed rename F r) r
    unfolding renamed
    renamed_alike =
        record {
          number = with_number _ F r l;
          shape = with_shape _ F r l;
          zeros = with_zeros _ F r l;
          region = with_region _ F r l;
          code = λ f h. with_code _ F r l f h ∙ renamed-codes f h;
        }

    pub renamed_neighbour : (f : ℕ) → f < 6 → rename (neighbour_of r f) < 4294967296 → neighbour_of (renamed rename F r) f ≡ rename (neighbour_of r f)
    unfolding renamed
    renamed_neighbour f h b =
        let e = renamed-cell f h in
        with_neighbour _ F r l f h (rw e b) ∙ e

-- ---- a part's trees

module _ (part : List ℕ) (bytes : Bytes part) where
  stored-word : (i : ℕ) → number_of (stored_tree part i) < 4294967296
  unfolding stored_tree
  stored-word i = number_word _ (bytes_piece part _ core_size bytes)

  ghost-word : (j : ℕ) → number_of (stored_ghost part j) < 4294967296
  unfolding stored_ghost
  ghost-word j = number_word _ (bytes_piece part _ core_size bytes)

  -- the number behind a local index has 32 bits
  pub global_word : (j : ℕ) → global_number part j < 4294967296
  unfolding global_number
  global_word j =
      either (eqb j unused) (λ p. rw p (omega arith))
      (λ p. rw p (either (ltb j (part_count part)) (λ q. rw q (stored-word j))
      (λ q. rw q (either (ltb j (part_count part + part_ghost_count part)) (λ s. rw s (ghost-word (j - part_count part))) (λ s. rw s (omega arith))))))

  module _ (i : ℕ) (fits : tree_place i + core_size ≤ length part) where
    pub stored_core : length (stored_tree part i) ≡ 40
    unfolding stored_tree
    stored_core = piece_length part (tree_place i) core_size fits

    -- number, shape, zero bytes, region and codes are those stored
    pub global_alike : Alike (global_tree part i) (stored_tree part i)
    unfolding global_tree
    global_alike = renamed_alike (global_number part) (faces_in (part_dimension part)) (stored_tree part i) stored_core

    -- each neighbour is looked up
    pub global_neighbour : (f : ℕ) → f < 6 → neighbour_of (global_tree part i) f ≡ global_number part (neighbour_of (stored_tree part i) f)
    unfolding global_tree
    global_neighbour f h = renamed_neighbour (global_number part) (faces_in (part_dimension part)) (stored_tree part i) stored_core f h (global_word (neighbour_of (stored_tree part i) f))
