-- Laws of the six rows: what a record with rows in it has, both round trips, and the rows written one by one.
use Prim.Native.Nat.{ℕ, zero, suc, ◌+◌, ◌-◌, ◌*◌, ◌/◌, ◌%◌, ◌≤◌, ◌<◌}
use native.Mathlib.Nat.{mul-suc, mod-lt, div-add-mod'}
use native.Mathlib.Numerals.{add-one}
use native.Mathlib.Omega.{arith}
use mathlib.Core.Path.{◌≡◌, refl, sym, ap, ◌∙◌}
use mathlib.Core.Bool.{Bool, true, false, cond, ◌&&◌}
use mathlib.Core.List.{List, [], ◌∷◌, ◌++◌}
use mathlib.Core.Logic.{◌⊎◌, ⊎_elim}
use lib.Arith.{digits_div, digits_mod}
use lib.Dec.{leb, ltb}
use lib.ListN.{length, get_or, take, drop, set, length-append, length-drop, get_or-append}
use lib.Seq.{length-take-le, take-take, take_all, drop-drop, take-append-le, drop-append-le, drop_at, get_or_at, get_or-take, get_or-drop, get_or-append-add, ext_get_or}
use borrow.Author.Tests.{lt-leb, le-leb, le-ltb, ltb-true}
use Rattle.encoding.specs.Pieces.{piece, splice, Bytes}
use Rattle.encoding.specs.Numbers.{le_value, le_bytes, le_at, le_put}
use Rattle.encoding.proofs.Below.{tests, either, and_snd, below_suc}
use Rattle.encoding.proofs.Pieces.{piece_at, piece_length, piece_cons, piece_add, piece_same, piece_above, length_splice, splice_none, splice_cons, splice_next, splice_then, splice_piece}
use Rattle.encoding.proofs.Numbers.{bytes_length, value_bytes, at_bytes}
use Rattle.records.specs.Record.{number_of, shape_of, neighbour_of, code_of, faces_of, zeros_ok, region_of}
use Rattle.records.specs.Links.{row_of, rows_of, cell, neighbour_bytes, code_bytes, with_rows, Rows}
use Rattle.records.proofs.Forms.{drop_take, piece_piece, at_agree, neighbour_word, code_byte}

-- ---- splices

get_append : (xs ys : List ℕ) (n i : ℕ) → length xs ≡ n → n ≤ i → get_or (xs ++ ys) i 0 ≡ get_or ys (i - n) 0
get_append xs ys n i l h =
    let e : i ≡ length xs + (i - n) = omega arith in
    ap (λ (k : ℕ). get_or (xs ++ ys) k 0) e ∙ get_or-append-add xs ys (i - n) 0

-- byte i after a splice
pub splice_get : (bs : List ℕ) (off : ℕ) (p : List ℕ) (i : ℕ) → off + length p ≤ length bs
    → get_or (splice bs off p) i 0 ≡ cond (leb off i && ltb i (off + length p)) (get_or p (i - off) 0) (get_or bs i 0)
unfolding splice
splice_get bs off p i h =
    let l : length (take off bs) ≡ off = length-take-le off bs (omega arith) in
    let rest : List ℕ = drop (off + length p) bs in
    either (ltb i off)
    (λ a. rw (lt-leb off i (omega tests)) (get_or-append (take off bs) (p ++ rest) 0 i (rw l (ltb-true i off a)) ∙ get_or-take off bs i 0 (ltb-true i off a)))
    (λ a. rw (le-leb off i (omega tests))
    (get_append (take off bs) (p ++ rest) off i l (omega tests)
    ∙ either (ltb i (off + length p))
    (λ b. rw b (get_or-append p rest 0 (i - off) (omega tests)))
    (λ b. let e : off + length p + (i - off - length p) ≡ i = omega tests in
    rw b (get_append p rest (length p) (i - off) refl (omega tests) ∙ (get_or-drop (off + length p) bs (i - off - length p) 0 ∙ ap (λ (k : ℕ). get_or bs k 0) e)))))

swap : (a b : Bool) (x y z : ℕ) → (a ≡ true → b ≡ false) → cond a x (cond b y z) ≡ cond b y (cond a x z)
swap true b x y z h = rw (h refl)
swap false b x y z h = refl

-- two splices that don't meet, in either order
pub splice_comm : (bs : List ℕ) (a : ℕ) (p : List ℕ) (b : ℕ) (q : List ℕ) → a + length p ≤ b → b + length q ≤ length bs → splice (splice bs b q) a p ≡ splice (splice bs a p) b q
splice_comm bs a p b q h k =
    let lp : length (splice bs a p) ≡ length bs = length_splice bs a p (omega arith) in
    let lq : length (splice bs b q) ≡ length bs = length_splice bs b q k in
    let hp : a + length p ≤ length (splice bs b q) = omega arith in
    let hq : b + length q ≤ length (splice bs a p) = omega arith in
    ext_get_or 0 (splice (splice bs b q) a p) (splice (splice bs a p) b q)
    (length_splice (splice bs b q) a p hp ∙ (lq ∙ sym (length_splice (splice bs a p) b q hq ∙ lp)))
    (λ i _. rw (splice_get (splice bs b q) a p i hp, splice_get bs b q i k, splice_get (splice bs a p) b q i hq, splice_get bs a p i (omega arith))
    (swap (leb a i && ltb i (a + length p)) (leb b i && ltb i (b + length q)) (get_or p (i - a) 0) (get_or q (i - b) 0) (get_or bs i 0)
    (λ t. let u : i < a + length p = ltb-true i (a + length p) (and_snd (leb a i) (ltb i (a + length p)) t) in rw (lt-leb b i (omega arith)))))

-- what was written is read, in part
piece_within : (bs : List ℕ) (off : ℕ) (p : List ℕ) (j n : ℕ) → off + length p ≤ length bs → j + n ≤ length p → piece (splice bs off p) (off + j) n ≡ piece p j n
piece_within bs off p j n h k = sym (piece_piece (splice bs off p) off (length p) j n k) ∙ ap (λ (l : List ℕ). piece l j n) (piece_same bs off p h)

byte_within : (bs : List ℕ) (off : ℕ) (p : List ℕ) (j : ℕ) → off + length p ≤ length bs → j < length p → get_or (splice bs off p) (off + j) 0 ≡ get_or p j 0
byte_within bs off p j h k = sym (piece_at (splice bs off p) off (length p) j k) ∙ ap (λ (l : List ℕ). get_or l j 0) (piece_same bs off p h)

-- a piece of the first of two lists
piece_first : (a b : List ℕ) (j n : ℕ) → j + n ≤ length a → piece (a ++ b) j n ≡ piece a j n
unfolding piece
piece_first a b j n h =
    let l : n ≤ length (drop j a) = simp length-drop (omega arith) in
    rw (drop-append-le j a b (omega arith), take-append-le n (drop j a) b l)

-- the second of two lists
piece_last : (a b : List ℕ) (m n : ℕ) → length a ≡ m → length b ≡ n → piece (a ++ b) m n ≡ b
unfolding piece
piece_last a b m n l k = rw (drop_at a b m l) (take_all n b (omega arith))

-- a store is a splice of one byte
store_splice : (bs : List ℕ) (off b : ℕ) → off < length bs → set bs off b ≡ splice bs off (b ∷ [])
store_splice bs off b h = sym (splice_cons bs off b [] h ∙ splice_none (set bs off b) (suc off))

piece_parts : (bs : List ℕ) (off n j : ℕ) (p : List ℕ) → j + length p ≤ n → splice (piece bs off n) j p ≡ piece bs off j ++ (p ++ piece bs (off + (j + length p)) (n - (j + length p)))
unfolding piece splice
piece_parts bs off n j p h =
    let k1 : ℕ = j + length p in
    let e : n ≡ k1 + (n - k1) = omega arith in
    let d : drop k1 (take n (drop off bs)) ≡ take (n - k1) (drop k1 (drop off bs)) = ap (λ (m : ℕ). drop k1 (take m (drop off bs))) e ∙ drop_take k1 (n - k1) (drop off bs) in
    rw (take-take j n (drop off bs) (omega arith), d, drop-drop)

-- a splice in a piece, put back, is a splice of the buffer
pub splice_inside : (bs : List ℕ) (off n j : ℕ) (p : List ℕ) → j + length p ≤ n → off + n ≤ length bs → splice bs off (splice (piece bs off n) j p) ≡ splice bs (off + j) p
splice_inside bs off n j p h k =
    let k1 : ℕ = j + length p in
    let first : List ℕ = piece bs off j in
    let rest : List ℕ = piece bs (off + k1) (n - k1) in
    let l : length first ≡ j = piece_length bs off j (omega arith) in
    let parts : splice (piece bs off n) j p ≡ first ++ (p ++ rest) = piece_parts bs off n j p h in
    let q : off + j + length p ≡ off + k1 = omega arith in
    let b1 : splice bs off first ≡ bs = splice_piece bs off j (omega arith) in
    let b2 : piece (splice bs (off + j) p) (off + k1) (n - k1) ≡ rest = piece_above bs (off + j) p (off + k1) (n - k1) (omega arith) (omega arith) in
    let lb : length (splice bs (off + j) p) ≡ length bs = length_splice bs (off + j) p (omega arith) in
    let s1 : splice bs off (first ++ (p ++ rest)) ≡ splice bs (off + j) (p ++ rest) =
    sym (splice_then bs off j first (p ++ rest) l (omega arith) refl refl) ∙ ap (λ (x : List ℕ). splice x (off + j) (p ++ rest)) b1 in
    let s2 : splice bs (off + j) (p ++ rest) ≡ splice (splice bs (off + j) p) (off + k1) rest =
    sym (splice_next bs (off + j) p rest (omega arith)) ∙ ap (λ (x : ℕ). splice (splice bs (off + j) p) x rest) q in
    let s3 : splice (splice bs (off + j) p) (off + k1) rest ≡ splice bs (off + j) p =
    ap (splice (splice bs (off + j) p) (off + k1)) (sym b2) ∙ splice_piece (splice bs (off + j) p) (off + k1) (n - k1) (omega arith) in
    ap (splice bs off) parts ∙ (s1 ∙ (s2 ∙ s3))

-- ---- the bytes of rows

module _ (rows : List (List ℕ)) where
  neighbours_length : (n : ℕ) → length (neighbour_bytes rows n) ≡ 4 * n
  unfolding neighbour_bytes
  neighbours_length zero = refl
  neighbours_length (suc n) = rw (length-append, neighbours_length n, bytes_length 4 (cell rows n 0)) (omega arith)

  codes_length : (F n : ℕ) → length (code_bytes rows F n) ≡ n
  unfolding code_bytes
  codes_length F zero = refl
  codes_length F (suc n) = rw (length-append, codes_length F n) (omega arith)

  neighbours_at : (n f : ℕ) → f < n → piece (neighbour_bytes rows n) (4 * f) 4 ≡ le_bytes 4 (cell rows f 0)
  unfolding neighbour_bytes
  neighbours_at zero f h = absurd (omega arith)
  neighbours_at (suc n) f h =
      let l : length (neighbour_bytes rows n) ≡ 4 * n = neighbours_length n in
      below_suc f n h
      (λ k. piece_first (neighbour_bytes rows n) (le_bytes 4 (cell rows n 0)) (4 * f) 4 (omega arith) ∙ neighbours_at n f k)
      (λ e. rw e (piece_last (neighbour_bytes rows n) (le_bytes 4 (cell rows n 0)) (4 * n) 4 l (bytes_length 4 (cell rows n 0))))

  codes_at : (F n f : ℕ) → f < n → get_or (code_bytes rows F n) f 0 ≡ cell rows f 2 * F + cell rows f 1
  unfolding code_bytes
  codes_at F zero f h = absurd (omega arith)
  codes_at F (suc n) f h =
      let l : length (code_bytes rows F n) ≡ n = codes_length F n in
      below_suc f n h
      (λ k. get_or-append (code_bytes rows F n) ((cell rows n 2 * F + cell rows n 1) ∷ []) 0 f (omega arith) ∙ codes_at F n f k)
      (λ e. rw e (get_or_at (code_bytes rows F n) (cell rows n 2 * F + cell rows n 1) [] 0 n l))

  rows_length : (F : ℕ) → length (neighbour_bytes rows 6 ++ code_bytes rows F 6) ≡ 30
  rows_length F = rw (length-append, neighbours_length 6, codes_length F 6)

-- ---- a record with rows in it

module _ (rows : List (List ℕ)) (F : ℕ) (r : List ℕ) (l : length r ≡ 40) where
  rows_fit : 8 + length (neighbour_bytes rows 6 ++ code_bytes rows F 6) ≤ length r
  rows_fit = omega (arith, rows_length rows F)

  pub with_length : length (with_rows rows F r) ≡ 40
  unfolding with_rows
  with_length = length_splice r 8 (neighbour_bytes rows 6 ++ code_bytes rows F 6) rows_fit ∙ l

  -- every byte outside 8 to 37 stays
  pub with_low : (i : ℕ) → i < 8 → get_or (with_rows rows F r) i 0 ≡ get_or r i 0
  unfolding with_rows
  with_low i h = rw (splice_get r 8 (neighbour_bytes rows 6 ++ code_bytes rows F 6) i rows_fit, lt-leb 8 i (omega arith))

  pub with_high : (i : ℕ) → 38 ≤ i → get_or (with_rows rows F r) i 0 ≡ get_or r i 0
  unfolding with_rows
  with_high i h =
      let e : 8 + length (neighbour_bytes rows 6 ++ code_bytes rows F 6) ≤ i = omega (arith, rows_length rows F) in
      rw (splice_get r 8 (neighbour_bytes rows 6 ++ code_bytes rows F 6) i rows_fit, le-leb 8 i (omega arith), le-ltb i (8 + length (neighbour_bytes rows 6 ++ code_bytes rows F 6)) e)

  pub with_rows_keeps : (i : ℕ) → (i < 8) ⊎ (38 ≤ i) → get_or (with_rows rows F r) i 0 ≡ get_or r i 0
  with_rows_keeps i h = ⊎_elim (with_low i) (with_high i) h

  -- so number, shape, zero bytes and region do
  pub with_number : number_of (with_rows rows F r) ≡ number_of r
  unfolding number_of
  with_number = at_agree 4 (with_rows rows F r) r 0 (λ i h. with_low (0 + i) (omega arith))

  pub with_shape : shape_of (with_rows rows F r) ≡ shape_of r
  unfolding shape_of
  with_shape = with_low 4 (omega arith)

  pub with_faces : faces_of (with_rows rows F r) ≡ faces_of r
  unfolding faces_of
  with_faces = rw with_shape

  pub with_zeros : zeros_ok (with_rows rows F r) ≡ zeros_ok r
  unfolding zeros_ok
  with_zeros = rw (with_low 5 (omega arith), with_low 6 (omega arith), with_low 7 (omega arith))

  pub with_region : region_of (with_rows rows F r) ≡ region_of r
  unfolding region_of
  with_region = at_agree 2 (with_rows rows F r) r 38 (λ i h. with_high (38 + i) (omega arith))

  -- the neighbours and codes are those of the rows
  pub with_neighbour : (f : ℕ) → f < 6 → cell rows f 0 < 4294967296 → neighbour_of (with_rows rows F r) f ≡ cell rows f 0
  unfolding neighbour_of with_rows le_at
  with_neighbour f h b =
      let p : List ℕ = neighbour_bytes rows 6 ++ code_bytes rows F 6 in
      let k : 4 * f + 4 ≤ length p = omega (arith, rows_length rows F) in
      let n : 4 * f + 4 ≤ length (neighbour_bytes rows 6) = omega (arith, neighbours_length rows 6) in
      let e : piece (splice r 8 p) (8 + 4 * f) 4 ≡ le_bytes 4 (cell rows f 0) =
      piece_within r 8 p (4 * f) 4 rows_fit k ∙ (piece_first (neighbour_bytes rows 6) (code_bytes rows F 6) (4 * f) 4 n ∙ neighbours_at rows 6 f h) in
      ap le_value e ∙ value_bytes 4 (cell rows f 0) b

  pub with_code : (f : ℕ) → f < 6 → code_of (with_rows rows F r) f ≡ cell rows f 2 * F + cell rows f 1
  unfolding code_of with_rows
  with_code f h =
      let p : List ℕ = neighbour_bytes rows 6 ++ code_bytes rows F 6 in
      let k : 24 + f < length p = omega (arith, rows_length rows F) in
      let e : 8 + (24 + f) ≡ 32 + f = omega arith in
      let d : 24 + f - 24 ≡ f = omega arith in
      rw e at (byte_within r 8 p (24 + f) rows_fit k)
      ∙ (get_append (neighbour_bytes rows 6) (code_bytes rows F 6) 24 (24 + f) (neighbours_length rows 6) (omega arith)
      ∙ (ap (λ (i : ℕ). get_or (code_bytes rows F 6) i 0) d ∙ codes_at rows F 6 f h))

-- ---- round trips

rows_six : (r : List ℕ) (F : ℕ) → length (rows_of r F) ≡ 6
unfolding rows_of
rows_six r F = refl

rows_at : (r : List ℕ) (F f : ℕ) → f < 6 → get_or (rows_of r F) f [] ≡ row_of r F f
unfolding rows_of
rows_at r F zero h = refl
rows_at r F (suc zero) h = refl
rows_at r F (suc (suc zero)) h = refl
rows_at r F (suc (suc (suc zero))) h = refl
rows_at r F (suc (suc (suc (suc zero)))) h = refl
rows_at r F (suc (suc (suc (suc (suc zero))))) h = refl
rows_at r F (suc (suc (suc (suc (suc (suc f)))))) h = absurd (omega arith)

module _ (r : List ℕ) (F : ℕ) where
  -- the numbers of a record's rows
  pub cell_neighbour : (f : ℕ) → f < 6 → cell (rows_of r F) f 0 ≡ neighbour_of r f
  unfolding row_of
  cell_neighbour f h = ap (λ (x : List ℕ). get_or x 0 0) (rows_at r F f h)

  pub cell_face : (f : ℕ) → f < 6 → cell (rows_of r F) f 1 ≡ code_of r f % F
  unfolding row_of
  cell_face f h = ap (λ (x : List ℕ). get_or x 1 0) (rows_at r F f h)

  pub cell_orientation : (f : ℕ) → f < 6 → cell (rows_of r F) f 2 ≡ code_of r f / F
  unfolding row_of
  cell_orientation f h = ap (λ (x : List ℕ). get_or x 2 0) (rows_at r F f h)

  cell-code : (f : ℕ) → f < 6 → cell (rows_of r F) f 2 * F + cell (rows_of r F) f 1 ≡ code_of r f
  cell-code f h = rw (cell_orientation f h, cell_face f h) (div-add-mod' (code_of r f) F)

  -- a record can hold its own rows
  pub rows_hold : Bytes r → 0 < F → Rows (rows_of r F) F
  unfolding row_of
  rows_hold b p =
      record {
        six = rows_six r F;
        three = λ f h. ap length (rows_at r F f h);
        neighbours = λ f h. rw (cell_neighbour f h) (neighbour_word r f b);
        faces = λ f h. rw (cell_face f h) (mod-lt (code_of r f) p);
        codes = λ f h. rw (cell-code f h) (code_byte r f b);
      }

  module _ (b : Bytes r) (l : length r ≡ 40) where
    neighbour-bytes : (f : ℕ) → f < 6 → le_bytes 4 (neighbour_of r f) ≡ piece r (8 + 4 * f) 4
    unfolding neighbour_of
    neighbour-bytes f h = at_bytes 4 r (8 + 4 * f) b (omega arith)

    neighbours-again : (n : ℕ) → n ≤ 6 → neighbour_bytes (rows_of r F) n ≡ piece r 8 (4 * n)
    unfolding neighbour_bytes piece
    neighbours-again zero h = refl
    neighbours-again (suc n) h =
        let e : le_bytes 4 (cell (rows_of r F) n 0) ≡ piece r (8 + 4 * n) 4 = rw (cell_neighbour n (omega arith)) (neighbour-bytes n (omega arith)) in
        rw (neighbours-again n (omega arith), e, mul-suc) (sym (piece_add r 8 (4 * n) 4))

    code-bytes : (f : ℕ) → f < 6 → (code_of r f ∷ []) ≡ piece r (32 + f) 1
    unfolding code_of piece
    code-bytes f h = sym (piece_cons r (32 + f) 0 (omega arith))

    codes-again : (n : ℕ) → n ≤ 6 → code_bytes (rows_of r F) F n ≡ piece r 32 n
    unfolding code_bytes piece
    codes-again zero h = refl
    codes-again (suc n) h =
        rw (codes-again n (omega arith), cell-code n (omega arith), code-bytes n (omega arith), ← add-one n) (sym (piece_add r 32 n 1))

    -- a record's rows, put back, change nothing
    pub rows_again : with_rows (rows_of r F) F r ≡ r
    unfolding with_rows
    rows_again = rw (neighbours-again 6 (omega arith), codes-again 6 (omega arith), ← piece_add r 8 24 6) (splice_piece r 8 30 (omega arith))

three : (x : List ℕ) → length x ≡ 3 → (get_or x 0 0 ∷ get_or x 1 0 ∷ get_or x 2 0 ∷ []) ≡ x
three [] h = absurd (omega arith)
three (a ∷ []) h = absurd (omega arith)
three (a ∷ b ∷ []) h = absurd (omega arith)
three (a ∷ b ∷ c ∷ []) h = refl
three (a ∷ b ∷ c ∷ d ∷ x) h = absurd (omega arith)

-- the rows put into a record are read back
module _ (rows : List (List ℕ)) (F : ℕ) (r : List ℕ) (h : Rows rows F) (l : length r ≡ 40) where
  pub with_face : (f : ℕ) → f < 6 → code_of (with_rows rows F r) f % F ≡ cell rows f 1
  with_face f k = rw (with_code rows F r l f k) (digits_mod (cell rows f 2) (h.faces f k))

  pub with_orientation : (f : ℕ) → f < 6 → code_of (with_rows rows F r) f / F ≡ cell rows f 2
  with_orientation f k = rw (with_code rows F r l f k) (digits_div (cell rows f 2) (h.faces f k))

  row_back : (f : ℕ) → f < 6 → row_of (with_rows rows F r) F f ≡ get_or rows f []
  unfolding row_of
  row_back f k = rw (with_neighbour rows F r l f k (h.neighbours f k), with_face f k, with_orientation f k) (three (get_or rows f []) (h.three f k))

  pub rows_back : rows_of (with_rows rows F r) F ≡ rows
  rows_back =
      let n : length (rows_of (with_rows rows F r) F) ≡ 6 = rows_six (with_rows rows F r) F in
      ext_get_or [] (rows_of (with_rows rows F r) F) rows (n ∙ sym h.six) (λ f k. let j : f < 6 = rw n at k in rows_at (with_rows rows F r) F f j ∙ row_back f j)

-- ---- the rows written one by one

-- the buffer with the rows below n in the record at off
unfoldable pub first_rows : List (List ℕ) → ℕ → List ℕ → ℕ → ℕ → List ℕ
first_rows rows F bs off n = splice (splice bs (off + 8) (neighbour_bytes rows n)) (off + 32) (code_bytes rows F n)

module _ (rows : List (List ℕ)) (F : ℕ) (bs : List ℕ) (off : ℕ) where
  pub first_none : bs ≡ first_rows rows F bs off 0
  unfolding first_rows neighbour_bytes code_bytes
  first_none = rw (splice_none bs (off + 8), splice_none bs (off + 32))

  pub first_next : {mid next : List ℕ} (k : ℕ) → k < 6 → off + 40 ≤ length bs → mid ≡ first_rows rows F bs off k
      → next ≡ set (le_put 4 mid (off + (8 + 4 * k)) (cell rows k 0)) (off + (32 + k)) (cell rows k 2 * F + cell rows k 1) → next ≡ first_rows rows F bs off (suc k)
  unfolding first_rows le_put neighbour_bytes code_bytes
  first_next k lt h e q =
      let ns : List ℕ = neighbour_bytes rows k in
      let cs : List ℕ = code_bytes rows F k in
      let v : List ℕ = le_bytes 4 (cell rows k 0) in
      let c : ℕ = cell rows k 2 * F + cell rows k 1 in
      let nl : length ns ≡ 4 * k = neighbours_length rows k in
      let cl : length cs ≡ k = codes_length rows F k in
      let vl : length v ≡ 4 = bytes_length 4 (cell rows k 0) in
      let b1 : List ℕ = splice bs (off + 8) ns in
      let b2 : List ℕ = splice bs (off + 8) (ns ++ v) in
      let l1 : length b1 ≡ length bs = length_splice bs (off + 8) ns (omega arith) in
      let l2 : length b2 ≡ length bs = length_splice bs (off + 8) (ns ++ v) (rw (length-append ns v) (omega arith)) in
      let l3 : length (splice b2 (off + 32) cs) ≡ length b2 = length_splice b2 (off + 32) cs (omega arith) in
      let p1 : off + 8 + 4 * k ≡ off + (8 + 4 * k) = omega arith in
      let p2 : off + 32 + k ≡ off + (32 + k) = omega arith in
      let s1 : splice (splice b1 (off + 32) cs) (off + (8 + 4 * k)) v ≡ splice (splice b1 (off + (8 + 4 * k)) v) (off + 32) cs =
      splice_comm b1 (off + (8 + 4 * k)) v (off + 32) cs (omega arith) (omega arith) in
      let s2 : splice b1 (off + (8 + 4 * k)) v ≡ b2 = rw p1 at (splice_then bs (off + 8) (4 * k) ns v nl (omega arith) refl refl) in
      let s3 : set (splice b2 (off + 32) cs) (off + (32 + k)) c ≡ splice (splice b2 (off + 32) cs) (off + (32 + k)) (c ∷ []) =
      store_splice (splice b2 (off + 32) cs) (off + (32 + k)) c (omega arith) in
      let s4 : splice (splice b2 (off + 32) cs) (off + (32 + k)) (c ∷ []) ≡ splice b2 (off + 32) (cs ++ (c ∷ [])) =
      rw p2 at (splice_then b2 (off + 32) k cs (c ∷ []) cl (omega arith) refl refl) in
      q ∙ (ap (λ (x : List ℕ). set (splice x (off + (8 + 4 * k)) v) (off + (32 + k)) c) e
      ∙ (ap (λ (x : List ℕ). set x (off + (32 + k)) c) (s1 ∙ ap (λ (x : List ℕ). splice x (off + 32) cs) s2) ∙ (s3 ∙ s4)))

  -- all six are the record with the rows in it
  pub first_six : {last : List ℕ} → off + 40 ≤ length bs → last ≡ first_rows rows F bs off 6 → last ≡ splice bs off (with_rows rows F (piece bs off 40))
  unfolding first_rows with_rows
  first_six h e =
      let p : List ℕ = neighbour_bytes rows 6 ++ code_bytes rows F 6 in
      let q : off + 8 + 24 ≡ off + 32 = omega arith in
      let join : splice (splice bs (off + 8) (neighbour_bytes rows 6)) (off + 32) (code_bytes rows F 6) ≡ splice bs (off + 8) p =
      rw q at (splice_then bs (off + 8) 24 (neighbour_bytes rows 6) (code_bytes rows F 6) (neighbours_length rows 6) (omega arith) refl refl) in
      e ∙ (join ∙ sym (splice_inside bs off 40 8 p (omega (arith, rows_length rows F)) h))
