-- Laws of records with their neighbours renamed.
use Prim.Native.Nat.{ℕ, zero, suc, ◌+◌, ◌*◌, ◌/◌, ◌%◌, ◌<◌}
use native.Mathlib.Nat.{div-add-mod'}
use native.Mathlib.Omega.{arith}
use mathlib.Core.Path.{◌≡◌, refl, sym, ap, ◌∙◌}
use mathlib.Core.List.{List, ◌++◌}
use lib.ListN.{length}
use Rattle.encoding.specs.Pieces.{Bytes}
use Rattle.records.specs.Record.{number_of, shape_of, neighbour_of, code_of, faces_of, face_of, orientation_of}
use Rattle.records.specs.Links.{cell, row_of, rows_of, neighbour_bytes, code_bytes, with_rows, Rows}
use Rattle.records.proofs.Rows.{with_length, with_number, with_shape, with_faces, with_neighbour, with_code, cell_neighbour, rows_hold, rows_again, rows_back}
use Rattle.part.specs.Cut.{renamed}
use Rattle.part.specs.Means.{row_with, rows_with}
use Rattle.part.proofs.Records.{links_length, splice_over, with_hold, with_rows_lem}

-- links written twice are the links written last
rows_over : (a b : List (List ℕ)) (F : ℕ) (r : List ℕ) → length r ≡ 40 → with_rows b F (with_rows a F r) ≡ with_rows b F r
unfolding with_rows
rows_over a b F r l =
    let la : length (neighbour_bytes a 6 ++ code_bytes a F 6) ≡ 30 = links_length a F in
    let lb : length (neighbour_bytes b 6 ++ code_bytes b F 6) ≡ 30 = links_length b F in
    splice_over r 8 (neighbour_bytes a 6 ++ code_bytes a F 6) (neighbour_bytes b 6 ++ code_bytes b F 6) (la ∙ sym lb) (omega arith)

-- what holds of each of the six faces
six : (P : ℕ → Type 0) → P 0 → P 1 → P 2 → P 3 → P 4 → P 5 → (f : ℕ) → f < 6 → P f
six P a b c d e g zero h = a
six P a b c d e g (suc zero) h = b
six P a b c d e g (suc (suc zero)) h = c
six P a b c d e g (suc (suc (suc zero))) h = d
six P a b c d e g (suc (suc (suc (suc zero)))) h = e
six P a b c d e g (suc (suc (suc (suc (suc zero))))) h = g
six P a b c d e g (suc (suc (suc (suc (suc (suc f)))))) h = absurd (omega arith)

module _ (rename : ℕ → ℕ) (F : ℕ) (r : List ℕ) where
  abbrev rows : List (List ℕ)
  rows = rows_with rename (rows_of r F)

  renamed-is : renamed rename F r ≡ with_rows rows F r
  unfolding renamed
  renamed-is = rw (with_rows_lem rename r F)

  -- the numbers of the renamed rows
  cell-new : (f : ℕ) → f < 6 → cell rows f 0 ≡ rename (neighbour_of r f)
  unfolding rows_with row_with rows_of row_of
  cell-new = six (λ f. cell rows f 0 ≡ rename (neighbour_of r f)) refl refl refl refl refl refl

  cell-code : (f : ℕ) → f < 6 → cell rows f 2 * F + cell rows f 1 ≡ code_of r f
  unfolding rows_with row_with rows_of row_of
  cell-code =
      let e : (f : ℕ) → code_of r f / F * F + code_of r f % F ≡ code_of r f = λ f. div-add-mod' (code_of r f) F in
      six (λ f. cell rows f 2 * F + cell rows f 1 ≡ code_of r f) (e 0) (e 1) (e 2) (e 3) (e 4) (e 5)

  module _ (l : length r ≡ 40) where
    -- only the neighbours change
    pub renamed_length : length (renamed rename F r) ≡ 40
    renamed_length = rw renamed-is (with_length rows F r l)

    pub renamed_number : number_of (renamed rename F r) ≡ number_of r
    renamed_number = rw renamed-is (with_number rows F r l)

    pub renamed_shape : shape_of (renamed rename F r) ≡ shape_of r
    renamed_shape = rw renamed-is (with_shape rows F r l)

    pub renamed_faces : faces_of (renamed rename F r) ≡ faces_of r
    renamed_faces = rw renamed-is (with_faces rows F r l)

    module _ (f : ℕ) (h : f < 6) where
      pub renamed_code : code_of (renamed rename F r) f ≡ code_of r f
      renamed_code = rw renamed-is (with_code rows F r l f h ∙ cell-code f h)

      pub renamed_face : face_of (renamed rename F r) f ≡ face_of r f
      unfolding face_of
      renamed_face = rw (renamed_code, renamed_faces)

      pub renamed_orientation : orientation_of (renamed rename F r) f ≡ orientation_of r f
      unfolding orientation_of
      renamed_orientation = rw (renamed_code, renamed_faces)

      -- each is renamed, where the new name has 32 bits
      pub renamed_neighbour : rename (neighbour_of r f) < 4294967296 → neighbour_of (renamed rename F r) f ≡ rename (neighbour_of r f)
      renamed_neighbour w = rw renamed-is (with_neighbour rows F r l f h (rw (cell-new f h) w) ∙ cell-new f h)

-- neighbours renamed there and back
module _ (there back : ℕ → ℕ) (F : ℕ) (r : List ℕ) (back_there : (f : ℕ) → f < 6 → back (there (neighbour_of r f)) ≡ neighbour_of r f) where
  rows-twice : rows_with back (rows_with there (rows_of r F)) ≡ rows_of r F
  unfolding rows_with row_with rows_of row_of
  rows-twice = rw (back_there 0 (omega arith), back_there 1 (omega arith), back_there 2 (omega arith), back_there 3 (omega arith), back_there 4 (omega arith), back_there 5 (omega arith))

  -- the record is as it was
  pub renamed_back : Bytes r → length r ≡ 40 → 0 < F → ((f : ℕ) → f < 6 → there (neighbour_of r f) < 4294967296) → renamed back F (renamed there F r) ≡ r
  renamed_back b l p w =
      let new : List (List ℕ) = rows_with there (rows_of r F) in
      let H : Rows new F = with_hold there (rows_of r F) F (rows_hold r F b p) (λ f h. rw (cell_neighbour r F f h) (w f h)) in
      let e : rows_with back (rows_of (with_rows new F r) F) ≡ rows_of r F = ap (rows_with back) (rows_back new F r H l) ∙ rows-twice in
      ap (renamed back F) (renamed-is there F r)
      ∙ renamed-is back F (with_rows new F r)
      ∙ ap (λ (x : List (List ℕ)). with_rows x F (with_rows new F r)) e
      ∙ rows_over new (rows_of r F) F r l
      ∙ rows_again r F b l
