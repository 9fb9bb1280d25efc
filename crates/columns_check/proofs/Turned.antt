-- A part and its column file: the same bytes in another order, each determined by the other.
use Prim.Native.Nat.{ℕ, zero, suc, ◌+◌, ◌-◌, ◌*◌, ◌/◌, ◌%◌, ◌≤◌, ◌<◌}
use native.Mathlib.Nat.{mul-suc, mul-zero, mul_comm, mul-le-mul_left, div-add-mod', mod-lt, div-lt_iff_lt-mul}
use native.Mathlib.Omega.{arith}
use mathlib.Core.Path.{◌≡◌, refl, sym, ap, ap₂, ◌∙◌}
use mathlib.Core.List.{List, ◌++◌}
use lib.Dec.{ltb}
use lib.ListN.{length, get_or, length-append, get_or-append, get_or-eq_default}
use lib.Seq.{get_or-append-add, ext_get_or}
use Rattle.encoding.specs.Pieces.{piece, Bytes}
use Rattle.encoding.proofs.Below.{either, tests, below_suc}
use Rattle.encoding.proofs.Pieces.{piece_length, piece_at}
use Rattle.encoding.specs.Numbers.{u32_at}
use Rattle.records.specs.Record.{core_size, tree_size}
use Rattle.records.proofs.Forms.{at_agree}
use Rattle.part.specs.Layout.{part_header, tree_place, ghost_place, part_size}
use Rattle.part.specs.Means.{ghost_core}
use Rattle.part.specs.Part.{part_count, part_ghost_count, stored_tree}
use Rattle.columns_read.specs.Columns.{spaced, columns, rows, part_columns, columns_part}
use Rattle.columns_read.specs.Means.{tree_column, ghost_column}
use Rattle.columns_read.proofs.Spaced.{spaced_length, spaced_at}

-- ---- columns

module _ (bs : List ℕ) (off w n : ℕ) where
  pub columns_length : (m : ℕ) → length (columns bs off w n m) ≡ n * m
  unfolding columns
  columns_length zero = sym (mul-zero n)
  columns_length (suc m) = length-append (columns bs off w n m) (spaced bs (off + m) w n) ∙ (ap₂ ◌+◌ (columns_length m) (spaced_length bs (off + m) w n) ∙ sym (mul-suc n m))

  -- a column ends before a later one begins
  before : (i j m : ℕ) → i < n → j < m → n * j + i < n * m
  before i j m h l = omega (arith, mul-le-mul_left {m = suc j} {n = m} n (omega arith), mul-suc n j)

  pub columns_at : (m i j : ℕ) → i < n → j < m → get_or (columns bs off w n m) (n * j + i) 0 ≡ get_or bs (off + j + w * i) 0
  unfolding columns
  columns_at zero i j h l = absurd (omega arith)
  columns_at (suc m) i j h l =
      below_suc j m l
      (λ p. get_or-append (columns bs off w n m) (spaced bs (off + m) w n) 0 (n * j + i) (rw (columns_length m) (before i j m h p)) ∙ columns_at m i j h p)
      (λ e. rw (e, ← columns_length m, get_or-append-add (columns bs off w n m) (spaced bs (off + m) w n) i 0) (spaced_at bs (off + m) w n i h))

-- rows are the columns of the columns
pub rows_are : (bs : List ℕ) (off w n m : ℕ) → rows bs off w n m ≡ columns bs off n w m
unfolding rows columns
rows_are bs off w n zero = refl
rows_are bs off w n (suc m) = ap (λ (l : List ℕ). l ++ spaced bs (off + m) n w) (rows_are bs off w n m)

-- ---- one number of two

-- a number below a times b is in column q at place r
pub place : {C : Type 0} (a b k : ℕ) → k < a * b → ((q r : ℕ) → q < b → r < a → k ≡ a * q + r → C) → C
place zero b k h f = absurd (omega arith)
place (suc a) b k h f =
    let p : 0 < suc a = omega arith in
    f (k / suc a) (k % suc a) ((div-lt_iff_lt-mul p).1 (rw (mul_comm b (suc a)) h)) (mod-lt k p)
    (sym (div-add-mod' k (suc a)) ∙ ap (λ (x : ℕ). x + k % suc a) (mul_comm (k / suc a) (suc a)))

-- ---- the two files

-- file x holds the bytes of part p, of n trees and g ghosts, by columns
pub record Turned (x p : List ℕ) (n g : ℕ) : Type 0 where
  pub length_x : length x ≡ part_size n g
  pub length_p : length p ≡ part_size n g
  pub head : (k : ℕ) → k < 32 → get_or x k 0 ≡ get_or p k 0
  pub trees : (i j : ℕ) → i < n → j < 64 → get_or x (32 + (n * j + i)) 0 ≡ get_or p (32 + (64 * i + j)) 0
  pub ghosts : (i j : ℕ) → i < g → j < 40 → get_or x (32 + (64 * n + (g * j + i))) 0 ≡ get_or p (32 + (64 * n + (40 * i + j))) 0

-- a byte is one of the header, of the trees or of the ghosts, and past the end there is none
pub zones : {C : Type 0} (n g k : ℕ) → (k < 32 → C) → ((m : ℕ) → m < 64 * n → k ≡ 32 + m → C) → ((m : ℕ) → m < 40 * g → k ≡ 32 + (64 * n + m) → C) → (part_size n g ≤ k → C) → C
zones n g k a b c d =
    either (ltb k 32) (λ p. a (omega tests))
    (λ p. either (ltb k (32 + 64 * n)) (λ q. b (k - 32) (omega tests) (omega tests))
    (λ q. either (ltb k (part_size n g)) (λ s. c (k - (32 + 64 * n)) (omega tests) (omega tests)) (λ s. d (omega tests))))

-- the part determines the file
pub file_one : (x y p : List ℕ) (n g : ℕ) → Turned x p n g → Turned y p n g → x ≡ y
file_one x y p n g s t =
    ext_get_or 0 x y (s.length_x ∙ sym t.length_x)
    (λ k h. zones n g k
    (λ l. s.head k l ∙ sym (t.head k l))
    (λ m l e. place n 64 m (rw (mul_comm n 64) l) (λ j i b a q. rw (e, q) (s.trees i j a b ∙ sym (t.trees i j a b))))
    (λ m l e. place g 40 m (rw (mul_comm g 40) l) (λ j i b a q. rw (e, q) (s.ghosts i j a b ∙ sym (t.ghosts i j a b))))
    (λ l. absurd (omega (arith, s.length_x))))

-- the file determines the part
pub part_one_lem : (x p q : List ℕ) (n g : ℕ) → Turned x p n g → Turned x q n g → p ≡ q
part_one_lem x p q n g s t =
    ext_get_or 0 p q (s.length_p ∙ sym t.length_p)
    (λ k h. zones n g k
    (λ l. sym (s.head k l) ∙ t.head k l)
    (λ m l e. place 64 n m l (λ i j a b u. rw (e, u) (sym (s.trees i j a b) ∙ t.trees i j a b)))
    (λ m l e. place 40 g m l (λ i j a b u. rw (e, u) (sym (s.ghosts i j a b) ∙ t.ghosts i j a b)))
    (λ l. absurd (omega (arith, s.length_p))))

-- a part has bytes where its file has
pub part_bytes : (x p : List ℕ) (n g : ℕ) → Turned x p n g → Bytes x → Bytes p
part_bytes x p n g t b k =
    zones n g k
    (λ l. rw (← t.head k l) (b k))
    (λ m l e. place 64 n m l (λ i j a c u. rw (e, u, ← t.trees i j a c) (b (32 + (n * j + i)))))
    (λ m l e. place 40 g m l (λ i j a c u. rw (e, u, ← t.ghosts i j a c) (b (32 + (64 * n + (g * j + i))))))
    (λ l. let z : get_or p k 0 ≡ 0 = get_or-eq_default p 0 (rw t.length_p l) in rw z (omega arith))

-- ---- headers

-- a number of the header
pub header_number : (x p : List ℕ) → ((k : ℕ) → k < 32 → get_or x k 0 ≡ get_or p k 0) → (at : ℕ) → at + 4 ≤ 32 → u32_at x at ≡ u32_at p at
header_number x p h at l = at_agree 4 x p at (λ i k. h (at + i) (omega arith))

-- ---- header, trees and ghosts, one behind the other

module _ (src T G : List ℕ) (n g : ℕ) (long : 32 ≤ length src) (lt : length T ≡ 64 * n) (lg : length G ≡ 40 * g) where
  abbrev all : List ℕ
  all = piece src 0 part_header ++ (T ++ G)

  head_length : length (piece src 0 part_header) ≡ 32
  head_length = piece_length src 0 32 long

  all-length : length all ≡ part_size n g
  all-length = simp (length-append) (omega (arith, head_length))

  all_head : (k : ℕ) → k < 32 → get_or all k 0 ≡ get_or src k 0
  all_head k h = get_or-append (piece src 0 part_header) (T ++ G) 0 k (rw head_length h) ∙ (piece_at src 0 32 k h ∙ ap (λ (m : ℕ). get_or src m 0) (omega arith))

  all_trees : (k : ℕ) → k < 64 * n → get_or all (32 + k) 0 ≡ get_or T k 0
  all_trees k h =
      ap (λ (m : ℕ). get_or all (m + k) 0) (sym head_length)
      ∙ (get_or-append-add (piece src 0 part_header) (T ++ G) k 0 ∙ get_or-append T G 0 k (rw lt h))

  all-ghosts : (k : ℕ) → get_or all (32 + (64 * n + k)) 0 ≡ get_or G k 0
  all-ghosts k =
      ap₂ (λ (m l : ℕ). get_or all (m + (l + k)) 0) (sym head_length) (sym lt)
      ∙ (get_or-append-add (piece src 0 part_header) (T ++ G) (length T + k) 0 ∙ get_or-append-add T G k 0)

-- where a column's byte stands
byte_place : (base j i w : ℕ) → base + j + w * i ≡ base + (w * i + j)
byte_place base j i w = omega arith

module _ (src : List ℕ) (n g : ℕ) (trees-n : part_count src ≡ n) (ghosts-g : part_ghost_count src ≡ g) (long : length src ≡ part_size n g) where
  enough : 32 ≤ length src
  enough = omega (arith, long)

  -- the column file of a part
  pub part_turned : Turned (part_columns src) src n g
  unfolding part_columns
  part_turned =
      rw (trees-n, ghosts-g)
      (record {
        length_x = all-length src (columns src (tree_place 0) tree_size n tree_size) (columns src (ghost_place n 0) core_size g core_size) n g enough (columns_length src (tree_place 0) tree_size n tree_size ∙ mul_comm n 64) (columns_length src (ghost_place n 0) core_size g core_size ∙ mul_comm g 40);
        length_p = long;
        head = all_head src (columns src (tree_place 0) tree_size n tree_size) (columns src (ghost_place n 0) core_size g core_size) n g enough (columns_length src (tree_place 0) tree_size n tree_size ∙ mul_comm n 64) (columns_length src (ghost_place n 0) core_size g core_size ∙ mul_comm g 40);
        trees = λ i j a b.
            all_trees src (columns src (tree_place 0) tree_size n tree_size) (columns src (ghost_place n 0) core_size g core_size) n g enough (columns_length src (tree_place 0) tree_size n tree_size ∙ mul_comm n 64) (columns_length src (ghost_place n 0) core_size g core_size ∙ mul_comm g 40) (n * j + i)
            (rw (mul_comm 64 n) (before src (tree_place 0) tree_size n i j 64 a b))
            ∙ (columns_at src (tree_place 0) tree_size n tree_size i j a b ∙ ap (λ (k : ℕ). get_or src k 0) (byte_place 32 j i 64));
        ghosts = λ i j a b.
            all-ghosts src (columns src (tree_place 0) tree_size n tree_size) (columns src (ghost_place n 0) core_size g core_size) n g enough (columns_length src (tree_place 0) tree_size n tree_size ∙ mul_comm n 64) (columns_length src (ghost_place n 0) core_size g core_size ∙ mul_comm g 40) (g * j + i)
            ∙ (columns_at src (ghost_place n 0) core_size g core_size i j a b ∙ ap (λ (k : ℕ). get_or src k 0) (omega arith));
      })

  -- the part of a column file
  pub file_turned : Turned src (columns_part src) n g
  unfolding columns_part
  file_turned =
      rw (trees-n, ghosts-g, rows_are src (tree_place 0) tree_size n n, rows_are src (ghost_place n 0) core_size g g)
      (record {
        length_x = long;
        length_p = all-length src (columns src (tree_place 0) n tree_size n) (columns src (ghost_place n 0) g core_size g) n g enough (columns_length src (tree_place 0) n tree_size n) (columns_length src (ghost_place n 0) g core_size g);
        head = λ k h. sym (all_head src (columns src (tree_place 0) n tree_size n) (columns src (ghost_place n 0) g core_size g) n g enough (columns_length src (tree_place 0) n tree_size n) (columns_length src (ghost_place n 0) g core_size g) k h);
        trees = λ i j a b.
            sym
            (all_trees src (columns src (tree_place 0) n tree_size n) (columns src (ghost_place n 0) g core_size g) n g enough (columns_length src (tree_place 0) n tree_size n) (columns_length src (ghost_place n 0) g core_size g) (64 * i + j)
            (before src (tree_place 0) n tree_size j i n b a)
            ∙ (columns_at src (tree_place 0) n tree_size n j i b a ∙ ap (λ (k : ℕ). get_or src k 0) (byte_place 32 i j n)));
        ghosts = λ i j a b.
            sym
            (all-ghosts src (columns src (tree_place 0) n tree_size n) (columns src (ghost_place n 0) g core_size g) n g enough (columns_length src (tree_place 0) n tree_size n) (columns_length src (ghost_place n 0) g core_size g) (40 * i + j)
            ∙ (columns_at src (ghost_place n 0) g core_size g j i b a ∙ ap (λ (k : ℕ). get_or src k 0) (omega arith)));
      })

-- ---- the cores

module _ (x p : List ℕ) (n g : ℕ) (t : Turned x p n g) where
  pub tree_core : (i : ℕ) → i < n → tree_column x n i ≡ stored_tree p i
  unfolding tree_column stored_tree
  tree_core i h =
      ext_get_or 0 (spaced x (32 + i) n core_size) (piece p (tree_place i) core_size)
      (spaced_length x (32 + i) n core_size ∙ sym (piece_length p (tree_place i) core_size (omega (arith, t.length_p))))
      (λ j l. let b : j < 40 = rw (spaced_length x (32 + i) n core_size) at l in
      spaced_at x (32 + i) n core_size j b
      ∙ (ap (λ (k : ℕ). get_or x k 0) (byte_place 32 i j n) ∙ (t.trees i j h (omega arith) ∙ (ap (λ (k : ℕ). get_or p k 0) (omega arith) ∙ sym (piece_at p (tree_place i) core_size j b)))))

  pub ghost_core_lem : (i : ℕ) → i < g → ghost_column x n g i ≡ ghost_core p n i
  unfolding ghost_column ghost_core
  ghost_core_lem i h =
      ext_get_or 0 (spaced x (32 + 64 * n + i) g core_size) (piece p (ghost_place n i) core_size)
      (spaced_length x (32 + 64 * n + i) g core_size ∙ sym (piece_length p (ghost_place n i) core_size (omega (arith, t.length_p))))
      (λ j l. let b : j < 40 = rw (spaced_length x (32 + 64 * n + i) g core_size) at l in
      spaced_at x (32 + 64 * n + i) g core_size j b
      ∙ (ap (λ (k : ℕ). get_or x k 0) (omega arith) ∙ (t.ghosts i j h b ∙ (ap (λ (k : ℕ). get_or p k 0) (omega arith) ∙ sym (piece_at p (ghost_place n i) core_size j b)))))
