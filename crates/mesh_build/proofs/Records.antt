-- New records: their bytes as words, and what is read from them.
use Prim.Native.Nat.{ℕ, zero, suc, ◌+◌, ◌*◌, ◌/◌, ◌%◌, ◌^◌, ◌≤◌, ◌<◌}
use native.Mathlib.Omega.{arith}
use native.Mathlib.Nat.{pow-succ', mul_assoc}
use mathlib.Core.Path.{◌≡◌, refl, ap, ◌∙◌}
use mathlib.Core.Bool.{true}
use mathlib.Core.List.{List, [], ◌∷◌, ◌++◌}
use lib.ListN.{length, get_or, replicate, length-append}
use lib.Seq.{take_at}
use borrow.Author.Tests.{lt-ltb, le-ltb}
use Rattle.encoding.specs.Numbers.{le_value, le_bytes, le_at}
use Rattle.encoding.specs.Pieces.{piece}
use Rattle.encoding.proofs.Numbers.{bytes_length, bytes_add, value_bytes}
use Rattle.records.specs.Shape.{dimension_of, face_count, faces_in}
use Rattle.records.specs.Record.{unused, number_of, shape_of, neighbour_of, code_of, faces_of, face_of, orientation_of, region_of, region_ok, zeros_ok}
use Rattle.records.specs.Links.{cell, Rows}
use Rattle.records.proofs.Rows.{with_length, with_number, with_shape, with_zeros, with_region, with_neighbour, with_code, with_face, with_orientation}
use Rattle.mesh_build.specs.Build.{NewLink, face_row, tree_rows, new_core, new_tree}

-- ---- words

-- a byte and what stands above it
pub byte_next : (w b v : ℕ) → b < 256 → le_bytes (suc w) (b + 256 * v) ≡ b ∷ le_bytes w v
unfolding le_bytes
byte_next w b v h =
    let m : (b + 256 * v) % 256 ≡ b = omega arith in
    let d : (b + 256 * v) / 256 ≡ v = omega arith in
    rw (m, d)

-- the low bytes of a number don't show what stands above them
low_bytes : (w c a b : ℕ) → c ≡ 256 ^ w → le_bytes w (a + c * b) ≡ le_bytes w a
unfolding le_bytes
low_bytes zero c a b e = refl
low_bytes (suc w) c a b e =
    let n : ℕ = 256 ^ w in
    let f : c * b ≡ 256 * (n * b) = rw (e, pow-succ' 256 w) (mul_assoc 256 n b) in
    let m : (a + c * b) % 256 ≡ a % 256 = omega arith in
    let d : (a + c * b) / 256 ≡ a / 256 + n * b = omega arith in
    rw (m, d, low_bytes w n (a / 256) b refl)

-- a word of two halves
pub half_bytes : (a b : ℕ) → a < 4294967296 → le_bytes 8 (a + 4294967296 * b) ≡ le_bytes 4 a ++ le_bytes 4 b
half_bytes a b h =
    let m : (a + 4294967296 * b) / 4294967296 ≡ b = omega arith in
    rw (bytes_add 4 4 (a + 4294967296 * b), m, low_bytes 4 4294967296 a b refl)

-- ---- the record before its rows

unfoldable blank : ℕ → ℕ → List ℕ
blank number shape = le_bytes 4 number ++ (shape ∷ replicate 35 0)

blank_length : (number shape : ℕ) → length (blank number shape) ≡ 40
unfolding blank
blank_length number shape = rw (length-append, bytes_length 4 number)

blank_number : (number shape : ℕ) → number < 4294967296 → number_of (blank number shape) ≡ number
unfolding blank number_of le_at piece
blank_number number shape h = ap le_value (take_at (le_bytes 4 number) (shape ∷ replicate 35 0) 4 (bytes_length 4 number)) ∙ value_bytes 4 number h

blank_shape : (number shape : ℕ) → shape_of (blank number shape) ≡ shape
unfolding blank shape_of le_bytes
blank_shape number shape = refl

blank_zeros : (number shape : ℕ) → zeros_ok (blank number shape) ≡ true
unfolding blank zeros_ok le_bytes
blank_zeros number shape = refl

blank_region : (number shape : ℕ) → region_of (blank number shape) ≡ 0
unfolding blank region_of le_bytes le_at le_value piece
blank_region number shape = refl

-- ---- a new core

module _ (number shape : ℕ) (rows : List (List ℕ)) where
  pub core_length : length (new_core number shape rows) ≡ 40
  unfolding new_core blank
  core_length = with_length rows (faces_in (dimension_of shape)) (blank number shape) (blank_length number shape)

  pub core_number : number < 4294967296 → number_of (new_core number shape rows) ≡ number
  unfolding new_core blank
  core_number h = with_number rows (faces_in (dimension_of shape)) (blank number shape) (blank_length number shape) ∙ blank_number number shape h

  pub core_shape : shape_of (new_core number shape rows) ≡ shape
  unfolding new_core blank
  core_shape = with_shape rows (faces_in (dimension_of shape)) (blank number shape) (blank_length number shape) ∙ blank_shape number shape

  pub core_faces : faces_of (new_core number shape rows) ≡ faces_in (dimension_of shape)
  unfolding faces_of
  core_faces = rw core_shape

  pub core_zeros : zeros_ok (new_core number shape rows) ≡ true
  unfolding new_core blank
  core_zeros = with_zeros rows (faces_in (dimension_of shape)) (blank number shape) (blank_length number shape) ∙ blank_zeros number shape

  pub core_region : region_ok (new_core number shape rows) ≡ true
  unfolding new_core blank region_ok
  core_region = rw (with_region rows (faces_in (dimension_of shape)) (blank number shape) (blank_length number shape), blank_region number shape)

  module _ (hold : Rows rows (faces_in (dimension_of shape))) (f : ℕ) (six : f < 6) where
    pub core_neighbour : neighbour_of (new_core number shape rows) f ≡ cell rows f 0
    unfolding new_core blank
    core_neighbour = with_neighbour rows (faces_in (dimension_of shape)) (blank number shape) (blank_length number shape) f six (hold.neighbours f six)

    pub core_code : code_of (new_core number shape rows) f ≡ cell rows f 2 * faces_in (dimension_of shape) + cell rows f 1
    unfolding new_core blank
    core_code = with_code rows (faces_in (dimension_of shape)) (blank number shape) (blank_length number shape) f six

    pub core_face : face_of (new_core number shape rows) f ≡ cell rows f 1
    unfolding new_core blank face_of
    core_face = rw core_faces (with_face rows (faces_in (dimension_of shape)) (blank number shape) hold (blank_length number shape) f six)

    pub core_orientation : orientation_of (new_core number shape rows) f ≡ cell rows f 2
    unfolding new_core blank orientation_of
    core_orientation = rw core_faces (with_orientation rows (faces_in (dimension_of shape)) (blank number shape) hold (blank_length number shape) f six)

pub tree_length : (number shape : ℕ) (rows : List (List ℕ)) → length (new_tree number shape rows) ≡ 64
unfolding new_tree
tree_length number shape rows = rw (length-append, core_length number shape rows)

-- ---- the rows of a tree

pub rows_six : (shape : ℕ) (link : ℕ → NewLink) → length (tree_rows shape link) ≡ 6
unfolding tree_rows
rows_six shape link = refl

rows_at : (shape : ℕ) (link : ℕ → NewLink) (f : ℕ) → f < 6 → get_or (tree_rows shape link) f [] ≡ face_row shape link f
unfolding tree_rows
rows_at shape link zero h = refl
rows_at shape link (suc zero) h = refl
rows_at shape link (suc (suc zero)) h = refl
rows_at shape link (suc (suc (suc zero))) h = refl
rows_at shape link (suc (suc (suc (suc zero)))) h = refl
rows_at shape link (suc (suc (suc (suc (suc zero))))) h = refl
rows_at shape link (suc (suc (suc (suc (suc (suc f)))))) h = absurd (omega arith)

module _ (shape : ℕ) (link : ℕ → NewLink) (f : ℕ) (six : f < 6) where
  -- a face that the shape has
  pub row_used : f < face_count shape → get_or (tree_rows shape link) f [] ≡ ((link f).neighbour ∷ (link f).face ∷ (link f).orientation ∷ [])
  unfolding face_row
  row_used h = rows_at shape link f six ∙ rw (lt-ltb f (face_count shape) h)

  -- one that it doesn't have
  pub row_unused : face_count shape ≤ f → get_or (tree_rows shape link) f [] ≡ (unused ∷ 0 ∷ 0 ∷ [])
  unfolding face_row
  row_unused h = rows_at shape link f six ∙ rw (le-ltb f (face_count shape) h)
