-- The column file that the code writes, and the part, are those of the definitions.
use Prim.Native.Nat.{ℕ, suc, ◌+◌, ◌-◌, ◌*◌, ◌≤◌, ◌<◌}
use native.Mathlib.Nat.{mul_comm, mul-suc, mul-le-mul_left}
use native.Mathlib.Omega.{arith}
use mathlib.Core.Path.{◌≡◌, sym, ap, ◌∙◌}
use mathlib.Core.List.{List}
use lib.ListN.{length, get_or}
use lib.Seq.{ext_get_or}
use borrow.Author.Tests.{lt-ltb, le-ltb, le-leb}
use Rattle.encoding.specs.Pieces.{splice}
use Rattle.encoding.proofs.Pieces.{length_splice}
use Rattle.records.proofs.Rows.{splice_get}
use Rattle.part.specs.Layout.{part_size}
use Rattle.part.specs.Part.{part_count, part_ghost_count}
use Rattle.columns_read.specs.Columns.{part_columns, columns_part}
use Rattle.columns_check.proofs.Turned.{Turned, place, zones, part_turned, file_turned}
use Rattle.columns.specs.Means.{Line, Lines, line_of, Sides, Fits, Moved, Turnable}
use Rattle.columns.specs.Means.Sides.{records, columns}
use Rattle.columns.proofs.Moving.{line_length, line_long, line_keep, line_gain}

-- ---- what is there

-- place i of column j stands before the next column
grid : (a b i j : ℕ) → i < a → j < b → a * j + i < a * b
grid a b i j h l = omega (arith, mul-le-mul_left {m = suc j} {n = b} a (omega arith), mul-suc a j)

-- n records of w bytes
pub rows_there : (bs : List ℕ) (off w n : ℕ) → off + w * n ≤ length bs → Lines bs off w 1 n w
rows_there bs off w n h = record { line = λ j l. record { at = λ i q. omega (arith, grid w n j i l q) } }

-- w columns of n bytes
pub columns_there : (bs : List ℕ) (off w n : ℕ) → off + w * n ≤ length bs → Lines bs off 1 n n w
columns_there bs off w n h = record { line = λ j l. record { at = λ i q. omega (arith, grid n w i j q l, mul_comm w n) } }

-- ---- what is written

-- a byte of a grid: its record, its column, and that its place is there
abbrev Cell : ℕ → ℕ → ℕ → ℕ → ℕ → ℕ → Type 0
Cell off gap span n w m = (i : ℕ) × (j : ℕ) × (i < n) × (j < w) × (off + m ≡ off + span * j + gap * i)

module _ (src out object : List ℕ) (n g : ℕ) (room : part_size n g ≤ length out) (long : length object ≡ part_size n g) where
  abbrev whole : List ℕ
  whole = splice out 0 object

  whole_in : (k : ℕ) → k < part_size n g → get_or whole k 0 ≡ get_or object k 0
  whole_in k h =
      let z : k - 0 ≡ k = omega arith in
      splice_get out 0 object k (omega arith) ∙ rw (le-leb 0 k (omega arith), lt-ltb k (0 + length object) (omega arith), z)

  whole_out : (k : ℕ) → part_size n g ≤ k → get_or out k 0 ≡ get_or whole k 0
  whole_out k h = sym (splice_get out 0 object k (omega arith) ∙ rw (le-leb 0 k (omega arith), le-ltb k (0 + length object) (omega arith)))

  -- the header as it stands; trees and ghosts by step and leap here, by gap and span there
  module _ (head : (k : ℕ) → k < 32 → get_or object k 0 ≡ get_or src k 0) (step leap gap span step' leap' gap' span' : ℕ)
      (trees : Fits src 32 step leap object 32 gap span n 64) (ghosts : Fits src (32 + 64 * n) step' leap' object (32 + 64 * n) gap' span' g 40)
      (tree-in : (i j : ℕ) → i < n → j < 64 → 32 + span * j + gap * i < part_size n g) (ghost-in : (i j : ℕ) → i < g → j < 40 → 32 + 64 * n + span' * j + gap' * i < part_size n g)
      (tree-cell : (m : ℕ) → m < 64 * n → Cell 32 gap span n 64 m) (ghost-cell : (m : ℕ) → m < 40 * g → Cell (32 + 64 * n) gap' span' g 40 m) where
    fits-trees : Fits src 32 step leap whole 32 gap span n 64
    fits-trees i j h l = whole_in (32 + span * j + gap * i) (tree-in i j h l) ∙ trees i j h l

    fits-ghosts : Fits src (32 + 64 * n) step' leap' whole (32 + 64 * n) gap' span' g 40
    fits-ghosts i j h l = whole_in (32 + 64 * n + span' * j + gap' * i) (ghost-in i j h l) ∙ ghosts i j h l

    fits_head : (i : ℕ) → i < 32 → get_or whole (0 + 1 * i) 0 ≡ get_or src (0 + 1 * i) 0
    fits_head i h =
        let e : 0 + 1 * i ≡ i = omega arith in
        rw e (whole_in i (omega arith) ∙ head i h)

    head-line : Line out 0 1 32
    head-line = record { at = λ i h. omega arith }

    pub written : {a b c : List ℕ} → a ≡ line_of src 0 1 out 0 1 32 → Moved src 32 step leap a b 32 gap span n 64 → Moved src (32 + 64 * n) step' leap' b c (32 + 64 * n) gap' span' g 40 → c ≡ splice out 0 object
    written {a} {b} {c} e p q =
        ext_get_or 0 c whole (q.long ∙ p.long ∙ ap length e ∙ line_length src 0 1 out 0 1 32 ∙ sym (length_splice out 0 object (omega arith)))
        (λ k h. zones n g k
        (λ l.
        let z : 0 + 1 * k ≡ k = omega arith in
        q.keep whole fits-ghosts k (p.keep whole fits-trees k (rw e (rw z at (line_gain src 0 1 out 0 1 whole 32 head-line fits_head k l)))))
        (λ m l s.
        let t = tree-cell m l in
        rw (s, t.4) (q.keep whole fits-ghosts (32 + span * t.1 + gap * t.0) (p.gain whole fits-trees t.0 t.1 t.2 t.3)))
        (λ m l s.
        let t = ghost-cell m l in
        let u : 32 + (64 * n + m) ≡ 32 + 64 * n + m = omega arith in
        rw (s, u, t.4) (q.gain whole fits-ghosts t.0 t.1 t.2 t.3))
        (λ l. q.keep whole fits-ghosts k (p.keep whole fits-trees k (rw e (line_keep src 0 1 out 0 1 whole 32 head-line fits_head k (whole_out k l))))))

-- a byte is in a column, or in a record
column_cell : (off w n m : ℕ) → m < w * n → Cell off 1 n n w m
column_cell off w n m h = place n w m (rw (mul_comm n w) h) (λ j i l q e. (i, j, q, l, omega arith))

record_cell : (off w n m : ℕ) → m < w * n → Cell off w 1 n w m
record_cell off w n m h = place w n m h (λ i j l q e. (i, j, l, q, omega arith))

module _ (src out : List ℕ) (n g : ℕ) (trees-n : n ≡ part_count src) (ghosts-g : g ≡ part_ghost_count src) (known : Turnable src out (part_count src) (part_ghost_count src)) where
  ok : Turnable src out n g
  ok = rw (trees-n, ghosts-g) known

  -- what moving the trees, and then the ghosts, needs
  module _ {a : List ℕ} (line : a ≡ line_of src 0 1 out 0 1 32) where
    pub columns_trees : Sides 64 1 1 n × Lines src 32 64 1 n 64 × Lines a 32 1 n n 64 × (16 ≤ 64)
    columns_trees =
        (records, rows_there src 32 64 n (omega (arith, ok.long)), columns_there a 32 64 n (omega (arith, ok.room, line_long src 0 1 out 0 1 32 line)), omega arith)

    pub part_trees_lem : Sides 1 n 64 1 × Lines src 32 1 n n 64 × Lines a 32 64 1 n 64 × (16 ≤ 64)
    part_trees_lem =
        (columns, columns_there src 32 64 n (omega (arith, ok.long)), rows_there a 32 64 n (omega (arith, ok.room, line_long src 0 1 out 0 1 32 line)), omega arith)

    pub columns_ghosts : {b : List ℕ} → Moved src 32 64 1 a b 32 1 n n 64 → Sides 40 1 1 g × Lines src (32 + 64 * n) 40 1 g 40 × Lines b (32 + 64 * n) 1 g g 40 × (16 ≤ 40)
    columns_ghosts {b} m =
        (records, rows_there src (32 + 64 * n) 40 g (omega (arith, ok.long)), columns_there b (32 + 64 * n) 40 g (omega (arith, ok.room, m.long, line_long src 0 1 out 0 1 32 line)), omega arith)

    pub part_ghosts_lem : {b : List ℕ} → Moved src 32 1 n a b 32 64 1 n 64 → Sides 1 g 40 1 × Lines src (32 + 64 * n) 1 g g 40 × Lines b (32 + 64 * n) 40 1 g 40 × (16 ≤ 40)
    part_ghosts_lem {b} m =
        (columns, columns_there src (32 + 64 * n) 40 g (omega (arith, ok.long)), rows_there b (32 + 64 * n) 40 g (omega (arith, ok.room, m.long, line_long src 0 1 out 0 1 32 line)), omega arith)

  pub columns_written : {a b c : List ℕ} → a ≡ line_of src 0 1 out 0 1 32 → Moved src 32 64 1 a b 32 1 n n 64 → Moved src (32 + 64 * n) 40 1 b c (32 + 64 * n) 1 g g 40 → c ≡ splice out 0 (part_columns src)
  columns_written =
      let t : Turned (part_columns src) src n g = part_turned src n g (sym trees-n) (sym ghosts-g) ok.long in
      written src out (part_columns src) n g ok.room t.length_x t.head 64 1 1 n 40 1 1 g
      (λ i j h l. ap (λ (k : ℕ). get_or (part_columns src) k 0) (omega arith) ∙ (t.trees i j h l ∙ ap (λ (k : ℕ). get_or src k 0) (omega arith)))
      (λ i j h l. ap (λ (k : ℕ). get_or (part_columns src) k 0) (omega arith) ∙ (t.ghosts i j h l ∙ ap (λ (k : ℕ). get_or src k 0) (omega arith)))
      (λ i j h l. omega (arith, grid n 64 i j h l))
      (λ i j h l. omega (arith, grid g 40 i j h l))
      (column_cell 32 64 n) (column_cell (32 + 64 * n) 40 g)

  pub part_written : {a b c : List ℕ} → a ≡ line_of src 0 1 out 0 1 32 → Moved src 32 1 n a b 32 64 1 n 64 → Moved src (32 + 64 * n) 1 g b c (32 + 64 * n) 40 1 g 40 → c ≡ splice out 0 (columns_part src)
  part_written =
      let t : Turned src (columns_part src) n g = file_turned src n g (sym trees-n) (sym ghosts-g) ok.long in
      written src out (columns_part src) n g ok.room t.length_p (λ k h. sym (t.head k h)) 1 n 64 1 1 g 40 1
      (λ i j h l. ap (λ (k : ℕ). get_or (columns_part src) k 0) (omega arith) ∙ (sym (t.trees i j h l) ∙ ap (λ (k : ℕ). get_or src k 0) (omega arith)))
      (λ i j h l. ap (λ (k : ℕ). get_or (columns_part src) k 0) (omega arith) ∙ (sym (t.ghosts i j h l) ∙ ap (λ (k : ℕ). get_or src k 0) (omega arith)))
      (λ i j h l. omega (arith, grid 64 n j i l h))
      (λ i j h l. omega (arith, grid 40 g j i l h))
      (record_cell 32 64 n) (record_cell (32 + 64 * n) 40 g)
