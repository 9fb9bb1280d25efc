-- Laws of records with other links: their length and their rows; and the length of a header.
use Prim.Native.Nat.{ℕ, zero, suc, ◌+◌, ◌*◌, ◌≤◌, ◌<◌}
use native.Mathlib.Omega.{arith}
use mathlib.Core.Path.{◌≡◌, refl, sym, ◌∙◌, ap, ap₂}
use mathlib.Core.List.{List, [], ◌++◌, map}
use lib.ListN.{length, length-append, get_or, take, drop}
use Rattle.encoding.specs.Pieces.{piece, splice}
use Rattle.encoding.proofs.Numbers.{bytes_length}
use Rattle.encoding.proofs.Pieces.{length_splice, piece_at, splice_drop}
use Rattle.records.specs.Links.{neighbour_bytes, code_bytes, with_rows, cell, row_of, rows_of, Rows}
use Rattle.records.specs.Record.{core_size, tree_size, neighbour_of, code_of}
use Rattle.part.specs.Layout.{header_bytes}
use lib.Seq.{take_at, length-take-le}
use Rattle.encoding.specs.Numbers.{u32_at}
use Rattle.records.proofs.Forms.{at_piece}
use Rattle.part.specs.Cut.{rename_row}
use Rattle.part.specs.Means.{row_with, rows_with}

neighbours_length : (rows : List (List ℕ)) (n : ℕ) → length (neighbour_bytes rows n) ≡ 4 * n
unfolding neighbour_bytes
neighbours_length rows zero = refl
neighbours_length rows (suc n) = rw (length-append, neighbours_length rows n, bytes_length 4 (cell rows n 0)) (omega arith)

codes_length : (rows : List (List ℕ)) (F n : ℕ) → length (code_bytes rows F n) ≡ n
unfolding code_bytes
codes_length rows F zero = refl
codes_length rows F (suc n) = rw (length-append, codes_length rows F n) (omega arith)

pub links_length : (rows : List (List ℕ)) (F : ℕ) → length (neighbour_bytes rows 6 ++ code_bytes rows F 6) ≡ 30
links_length rows F = rw (length-append, neighbours_length rows 6, codes_length rows F 6)

-- a record with other links is as long
pub rows_length : (rows : List (List ℕ)) (F : ℕ) (r : List ℕ) → 38 ≤ length r → length (with_rows rows F r) ≡ length r
unfolding with_rows
rows_length rows F r h =
    length_splice r 8 (neighbour_bytes rows 6 ++ code_bytes rows F 6) (rw (links_length rows F) h)

pub header_length : (dimension K P rank first n g : ℕ) → length (header_bytes dimension K P rank first n g) ≡ 32
unfolding header_bytes
header_length dimension K P rank first n g = simp (length-append, bytes_length)

splice_front : (bs : List ℕ) (off : ℕ) (p : List ℕ) → off ≤ length bs → take off (splice bs off p) ≡ take off bs
unfolding splice
splice_front bs off p h = take_at (take off bs) (p ++ drop (off + length p) bs) off (length-take-le off bs h)

splice_is : (bs : List ℕ) (off : ℕ) (p : List ℕ) → splice bs off p ≡ take off bs ++ (p ++ drop (off + length p) bs)
unfolding splice
splice_is bs off p = refl

-- a splice over another of the same length
pub splice_over : (bs : List ℕ) (off : ℕ) (p q : List ℕ) → length p ≡ length q → off + length p ≤ length bs → splice (splice bs off p) off q ≡ splice bs off q
splice_over bs off p q l h =
    let e : off + length p ≡ off + length q = ap (λ (n : ℕ). off + n) l in
    let d : drop (off + length q) (splice bs off p) ≡ drop (off + length q) bs =
    ap (λ (n : ℕ). drop n (splice bs off p)) (sym e) ∙ splice_drop bs off p h ∙ ap (λ (n : ℕ). drop n bs) e in
    splice_is (splice bs off p) off q ∙ ap₂ (λ (a b : List ℕ). a ++ (q ++ b)) (splice_front bs off p (omega arith)) d ∙ sym (splice_is bs off q)

-- ---- rows

-- row f of the six
with_at : (rename : ℕ → ℕ) (rows : List (List ℕ)) (f : ℕ) → f < 6 → get_or (rows_with rename rows) f [] ≡ row_with rename (get_or rows f [])
unfolding rows_with
with_at rename rows zero h = refl
with_at rename rows (suc zero) h = refl
with_at rename rows (suc (suc zero)) h = refl
with_at rename rows (suc (suc (suc zero))) h = refl
with_at rename rows (suc (suc (suc (suc zero)))) h = refl
with_at rename rows (suc (suc (suc (suc (suc zero))))) h = refl
with_at rename rows (suc (suc (suc (suc (suc (suc f)))))) h = absurd (omega arith)

-- renamed rows still fit a record
pub with_hold : (rename : ℕ → ℕ) (rows : List (List ℕ)) (F : ℕ) → Rows rows F → ((f : ℕ) → f < 6 → rename (cell rows f 0) < 4294967296) → Rows (rows_with rename rows) F
unfolding rows_with row_with
with_hold rename rows F r w =
    record {
      six = refl;
      three = λ f h. ap length (with_at rename rows f h);
      neighbours = λ f h. rw (with_at rename rows f h) (w f h);
      faces = λ f h. rw (with_at rename rows f h) (r.faces f h);
      codes = λ f h. rw (with_at rename rows f h) (r.codes f h);
    }

-- the six rows of a record, renamed
pub with_rows_lem : (rename : ℕ → ℕ) (r : List ℕ) (F : ℕ) → rows_with rename (rows_of r F) ≡ map (rename_row rename) (rows_of r F)
unfolding rows_with row_with rows_of row_of rename_row
with_rows_lem rename r F = refl

module _ (mesh : List ℕ) (from F : ℕ) where
  -- the links of a tree record are those of its core
  row-core : (f : ℕ) → f < 6 → row_of (piece mesh from tree_size) F f ≡ row_of (piece mesh from core_size) F f
  unfolding row_of neighbour_of code_of
  row-core f h =
      let n : u32_at (piece mesh from tree_size) (8 + 4 * f) ≡ u32_at (piece mesh from core_size) (8 + 4 * f) =
      at_piece 4 mesh from tree_size (8 + 4 * f) (omega arith) ∙ sym (at_piece 4 mesh from core_size (8 + 4 * f) (omega arith)) in
      let c : get_or (piece mesh from tree_size) (32 + f) 0 ≡ get_or (piece mesh from core_size) (32 + f) 0 =
      piece_at mesh from tree_size (32 + f) (omega arith) ∙ sym (piece_at mesh from core_size (32 + f) (omega arith)) in
      rw (n, c)

  pub rows_core : rows_of (piece mesh from tree_size) F ≡ rows_of (piece mesh from core_size) F
  unfolding rows_of
  rows_core = rw (row-core 0 (omega arith), row-core 1 (omega arith), row-core 2 (omega arith), row-core 3 (omega arith), row-core 4 (omega arith), row-core 5 (omega arith))
