-- Laws of squares of 16 rows of 16 bytes, turned by four shuffles.
use Prim.Native.Nat.{ℕ, zero, suc, ◌+◌, ◌*◌, ◌≤◌, ◌<◌}
use native.Mathlib.Numerals.{add-one}
use native.Mathlib.Omega.{arith}
use mathlib.Core.Path.{◌≡◌, refl, sym, ap, ◌∙◌}
use mathlib.Core.List.{List, [], ◌∷◌, ◌++◌}
use lib.ListN.{length, get_or, set, length-set}
use lib.Seq.{get_or-set_same, get_or-set_other}
use Rattle.encoding.specs.Pieces.{piece, splice, Bytes}
use Rattle.encoding.specs.Numbers.{le_bytes, le_put, u64_at, put_u64}
use Rattle.encoding.proofs.Numbers.{at_bytes}
use Rattle.encoding.proofs.Below.{below_suc}
use Rattle.encoding.proofs.Pieces.{piece_add, piece_cons, piece_length, splice_none, splice_cons, splice_next, splice_then}
use Rattle.columns_check.proofs.Turned.{place}
use Rattle.columns.specs.Means.{Lines, line_of, band_of, Shuffled, Sides, Fits, Moved}
use Rattle.columns.specs.Means.Sides.{records, columns}
use Rattle.columns.proofs.Moving.{line_length, band_length, band_keep, band_gain, band_long, lines_flip, moved_flip}

-- ---- bytes that stand side by side

piece_none : (src : List ℕ) (a : ℕ) → piece src a 0 ≡ []
unfolding piece
piece_none src a = refl

piece_last : (src : List ℕ) (a n : ℕ) → a + n < length src → piece src a (suc n) ≡ piece src a n ++ (get_or src (a + n) 0 ∷ [])
piece_last src a n h = rw (← add-one n, piece_add src a n 1, piece_cons src (a + n) 0 h, piece_none)

splice_one : (bs : List ℕ) (off v : ℕ) → off < length bs → splice bs off (v ∷ []) ≡ set bs off v
splice_one bs off v h = splice_cons bs off v [] h ∙ splice_none (set bs off v) (suc off)

-- a line of them is a piece
pub line_piece : (src dst : List ℕ) (a b n : ℕ) → a + n ≤ length src → b + n ≤ length dst → splice dst b (piece src a n) ≡ line_of src a 1 dst b 1 n
unfolding line_of
line_piece src dst a b zero h l = ap (splice dst b) (piece_none src a) ∙ splice_none dst b
line_piece src dst a b (suc n) h l =
    let p : List ℕ = piece src a n in
    let v : ℕ = get_or src (a + n) 0 in
    let k : length p ≡ n = piece_length src a n (omega arith) in
    let i : splice dst b p ≡ line_of src a 1 dst b 1 n = line_piece src dst a b n (omega arith) (omega arith) in
    let o : 1 * n ≡ n = omega arith in
    ap (splice dst b) (piece_last src a n (omega arith))
    ∙ (sym (splice_next dst b p (v ∷ []) (omega arith))
    ∙ (ap (λ (m : ℕ). splice (splice dst b p) (b + m) (v ∷ [])) k
    ∙ (ap (λ (x : List ℕ). splice x (b + n) (v ∷ [])) i
    ∙ (splice_one (line_of src a 1 dst b 1 n) (b + n) v (omega (arith, line_length src a 1 dst b 1 n)) ∙ rw o))))

-- a word of them
word_piece : (src dst : List ℕ) (a b : ℕ) {w : ℕ} {new : List ℕ} → Bytes src → a + 8 ≤ length src → w ≡ u64_at src a → new ≡ put_u64 dst b w → new ≡ splice dst b (piece src a 8)
unfolding le_put
word_piece src dst a b y h e p = p ∙ ap (splice dst b) (ap (le_bytes 8) e ∙ at_bytes 8 src a y h)

-- two words of them
pub two_words : (src dst : List ℕ) (a b : ℕ) {low high : ℕ} {mid last : List ℕ} → Bytes src → a + 16 ≤ length src → b + 16 ≤ length dst
    → low ≡ u64_at src a → high ≡ u64_at src (a + 8) → mid ≡ put_u64 dst b low → last ≡ put_u64 mid (b + 8) high → last ≡ line_of src a 1 dst b 1 16
two_words src dst a b {low} {high} {mid} y h l e o p q =
    splice_then dst b 8 (piece src a 8) (piece src (a + 8) 8) (piece_length src a 8 (omega arith)) (omega arith)
    (word_piece src dst a b y (omega arith) e p) (word_piece src mid (a + 8) (b + 8) y (omega arith) o q)
    ∙ (ap (splice dst b) (sym (piece_add src a 8 8)) ∙ line_piece src dst a b 16 h l)

module _ (src : List ℕ) (a step : ℕ) (dst : List ℕ) (b : ℕ) where
  -- before a line all is as it was
  line-below : (n k : ℕ) → k < b → get_or (line_of src a step dst b 1 n) k 0 ≡ get_or dst k 0
  unfolding line_of
  line-below zero k h = refl
  line-below (suc n) k h = get_or-set_other (line_of src a step dst b 1 n) (b + 1 * n) k (get_or src (a + step * n) 0) 0 (λ e. omega arith) ∙ line-below n k h

  line-fits : (n : ℕ) → b + n ≤ length dst → (i : ℕ) → i < n → get_or (line_of src a step dst b 1 n) (b + i) 0 ≡ get_or src (a + step * i) 0
  unfolding line_of
  line-fits zero h i l = absurd (omega arith)
  line-fits (suc n) h i l =
      below_suc i n l
      (λ p. get_or-set_other (line_of src a step dst b 1 n) (b + 1 * n) (b + i) (get_or src (a + step * n) 0) 0 (λ e. omega arith) ∙ line-fits n (omega arith) i p)
      (λ e.
      let q : b + i ≡ b + 1 * n = omega arith in
      rw (q, e) (get_or-set_same (line_of src a step dst b 1 n) (b + 1 * n) (get_or src (a + step * n) 0) 0 (omega (arith, line_length src a step dst b 1 n))))

-- rows of 16 bytes, moved one behind the other
pub rows_at : (src : List ℕ) (a leap : ℕ) (dst : List ℕ) (w : ℕ) → 16 * w ≤ length dst → (i j : ℕ) → i < 16 → j < w → get_or (band_of src a 1 leap dst 0 1 16 16 w) (16 * j + i) 0 ≡ get_or src (a + leap * j + i) 0
unfolding band_of
rows_at src a leap dst zero h i j l q = absurd (omega arith)
rows_at src a leap dst (suc w) h i j l q =
    below_suc j w q
    (λ p. line-below src (a + leap * w) 1 (band_of src a 1 leap dst 0 1 16 16 w) (0 + 16 * w) 16 (16 * j + i) (omega arith) ∙ rows_at src a leap dst w (omega arith) i j l p)
    (λ e.
    let z : 16 * w + i ≡ 0 + 16 * w + i = omega arith in
    let o : a + leap * w + 1 * i ≡ a + leap * w + i = omega arith in
    rw (e, z, ← o) (line-fits src (a + leap * w) 1 (band_of src a 1 leap dst 0 1 16 16 w) (0 + 16 * w) 16 (omega (arith, band_length src a 1 leap dst 0 1 16 16 w)) i l))

-- ---- shuffles

pub shuffled_start : (x y : List ℕ) → Shuffled x y 0
shuffled_start x y = record { even = λ i h. absurd (omega arith); odd = λ i h. absurd (omega arith) }

pub shuffled_more : (x y : List ℕ) (n : ℕ) → n < 128 → length y ≡ 256 → Shuffled x y n → Shuffled x (set (set y (2 * n) (get_or x n 0)) (2 * n + 1) (get_or x (n + 128) 0)) (n + 1)
shuffled_more x y n h l s =
    record {
      even = λ i q.
          get_or-set_other (set y (2 * n) (get_or x n 0)) (2 * n + 1) (2 * i) (get_or x (n + 128) 0) 0 (λ e. omega arith)
          ∙ below_suc i n (omega arith)
          (λ p. get_or-set_other y (2 * n) (2 * i) (get_or x n 0) 0 (λ e. omega arith) ∙ s.even i p)
          (λ e. rw e (get_or-set_same y (2 * n) (get_or x n 0) 0 (omega arith)));
      odd = λ i q.
          below_suc i n (omega arith)
          (λ p. get_or-set_other (set y (2 * n) (get_or x n 0)) (2 * n + 1) (2 * i + 1) (get_or x (n + 128) 0) 0 (λ e. omega arith)
          ∙ (get_or-set_other y (2 * n) (2 * i + 1) (get_or x n 0) 0 (λ e. omega arith) ∙ s.odd i p))
          (λ e. rw e (get_or-set_same (set y (2 * n) (get_or x n 0)) (2 * n + 1) (get_or x (n + 128) 0) 0 (simp length-set (omega arith))));
    }

pub shuffled_done : (x y : List ℕ) (i : ℕ) → i ≤ 128 → 128 ≤ i → Shuffled x y i → Shuffled x y 128
shuffled_done x y i h l s = let e : 128 ≡ i = omega arith in rw e s

shuffled_at : (x y : List ℕ) → Shuffled x y 128 → (k h : ℕ) → k < 128 → h < 2 → get_or y (2 * k + h) 0 ≡ get_or x (k + 128 * h) 0
shuffled_at x y s k zero l q = ap (λ (m : ℕ). get_or y m 0) (omega arith) ∙ (s.even k l ∙ ap (λ (m : ℕ). get_or x m 0) (omega arith))
shuffled_at x y s k (suc zero) l q = s.odd k l
shuffled_at x y s k (suc (suc h)) l q = absurd (omega arith)

-- a number below 16 by its bits
bits : {C : Type 0} (r : ℕ) → r < 16 → ((d c b a : ℕ) → d < 2 → c < 2 → b < 2 → a < 2 → r ≡ 8 * d + 4 * c + 2 * b + a → C) → C
bits r h f =
    place 2 8 r h
    (λ k a l p e. place 2 4 k l
    (λ m b q s u. place 2 2 m q
    (λ d c v w z. f d c b a v w s p (omega arith))))

-- after four shuffles row and place have changed places
pub four_shuffles : (x0 x1 x2 x3 x4 : List ℕ) → Shuffled x0 x1 128 → Shuffled x1 x2 128 → Shuffled x2 x3 128 → Shuffled x3 x4 128
    → (i j : ℕ) → i < 16 → j < 16 → get_or x4 (16 * j + i) 0 ≡ get_or x0 (16 * i + j) 0
four_shuffles x0 x1 x2 x3 x4 s1 s2 s3 s4 i j h l =
    bits i h
    (λ d c b a hd hc hb ha e.
    ap (λ (m : ℕ). get_or x4 m 0) (omega arith)
    ∙ (shuffled_at x3 x4 s4 (8 * j + 4 * d + 2 * c + b) a (omega arith) ha
    ∙ (ap (λ (m : ℕ). get_or x3 m 0) (omega arith)
    ∙ (shuffled_at x2 x3 s3 (64 * a + 4 * j + 2 * d + c) b (omega arith) hb
    ∙ (ap (λ (m : ℕ). get_or x2 m 0) (omega arith)
    ∙ (shuffled_at x1 x2 s2 (64 * b + 32 * a + 2 * j + d) c (omega arith) hc
    ∙ (ap (λ (m : ℕ). get_or x1 m 0) (omega arith)
    ∙ (shuffled_at x0 x1 s1 (64 * c + 32 * b + 16 * a + j) d (omega arith) hd
    ∙ ap (λ (m : ℕ). get_or x0 m 0) (omega arith)))))))))

-- ---- a square

-- 16 rows of 16 bytes
pub buffer_rows : (x : List ℕ) → length x ≡ 256 → Lines x 0 1 16 16 16
buffer_rows x h = record { line = λ j l. record { at = λ i q. omega arith } }

module _ (src : List ℕ) (from leap : ℕ) (old : List ℕ) (to span : ℕ) where
  pub square_moved : {x0 x1 x2 x3 x4 new : List ℕ} (empty : List ℕ) → length empty ≡ 256 → Lines old to 1 span 16 16 → x0 ≡ band_of src from 1 leap empty 0 1 16 16 16
      → Shuffled x0 x1 128 → Shuffled x1 x2 128 → Shuffled x2 x3 128 → Shuffled x3 x4 128 → new ≡ band_of x4 0 1 16 old to 1 span 16 16
      → Moved src from leap 1 old new to 1 span 16 16
  square_moved {x0} {x1} {x2} {x3} {x4} {new} empty le r e s1 s2 s3 s4 o =
      record {
        long = band_long x4 0 1 16 old to 1 span 16 16 o;
        keep = λ t f k p. ap (λ (l : List ℕ). get_or l k 0) o ∙ band_keep x4 0 1 16 old to 1 span 16 t 16 r (here t f) k p;
        gain = λ t f i j h l. ap (λ (x : List ℕ). get_or x (to + span * j + 1 * i) 0) o ∙ band_gain x4 0 1 16 old to 1 span 16 t 16 r (here t f) i j h l;
      }
    where
      here : (t : List ℕ) → Fits src from leap 1 t to 1 span 16 16 → Fits x4 0 1 16 t to 1 span 16 16
      here t f i j h l =
          f i j h l
          ∙ sym (ap (λ (m : ℕ). get_or x4 m 0) (omega arith)
          ∙ (four_shuffles x0 x1 x2 x3 x4 s1 s2 s3 s4 i j h l
          ∙ (ap (λ (x : List ℕ). get_or x (16 * i + j) 0) e
          ∙ (rows_at src from leap empty 16 (omega arith) j i l h ∙ ap (λ (m : ℕ). get_or src m 0) (omega arith)))))

-- ---- the sides of a square

pub sides_lines : {bs : List ℕ} {off step leap gap span : ℕ} → Sides step leap gap span → Lines bs off step leap 16 16 → Lines bs off 1 (step * leap) 16 16
sides_lines (records {step} {span}) r =
    let e : step * 1 ≡ step = omega arith in
    rw e (lines_flip r)
sides_lines (columns {leap} {gap}) r =
    let e : 1 * leap ≡ leap = omega arith in
    rw e r

pub sides_places : {bs : List ℕ} {off step leap gap span : ℕ} → Sides step leap gap span → Lines bs off gap span 16 16 → Lines bs off 1 (gap * span) 16 16
sides_places (records {step} {span}) r =
    let e : 1 * span ≡ span = omega arith in
    rw e r
sides_places (columns {leap} {gap}) r =
    let e : gap * 1 ≡ gap = omega arith in
    rw e (lines_flip r)

pub sides_moved : {src old new : List ℕ} {a b step leap gap span : ℕ} → Sides step leap gap span → Moved src a (step * leap) 1 old new b 1 (gap * span) 16 16
    → Moved src a step leap old new b gap span 16 16
sides_moved (records {step} {span}) m =
    let e : step * 1 ≡ step = omega arith in
    let o : 1 * span ≡ span = omega arith in
    rw (e, o) at m
sides_moved (columns {leap} {gap}) m =
    let e : 1 * leap ≡ leap = omega arith in
    let o : gap * 1 ≡ gap = omega arith in
    moved_flip (rw (e, o) at m)

-- a side is no longer than what it stands in
pub sides_step : {bs : List ℕ} {off step leap gap span n w : ℕ} → Sides step leap gap span → Lines bs off step leap n w → 1 < n → 1 < w → step * leap < length bs
sides_step records r h l = omega (arith, (r.line 0 (omega arith)).at 1 h)
sides_step columns r h l = omega (arith, (r.line 1 l).at 0 (omega arith))

pub sides_gap : {bs : List ℕ} {off step leap gap span n w : ℕ} → Sides step leap gap span → Lines bs off gap span n w → 1 < n → 1 < w → gap * span < length bs
sides_gap records r h l = omega (arith, (r.line 1 l).at 0 (omega arith))
sides_gap columns r h l = omega (arith, (r.line 0 (omega arith)).at 1 h)
