-- Laws of bytes moved in lines. They are stated over any list that has each byte at its place: no two places need be told apart.
use Prim.Native.Nat.{ℕ, zero, suc, ◌+◌, ◌-◌, ◌*◌, ◌≤◌, ◌<◌}
use native.Mathlib.Nat.{mul-add}
use native.Mathlib.Numerals.{add-one}
use native.Mathlib.Omega.{arith}
use mathlib.Core.Path.{◌≡◌, refl, sym, ap, ◌∙◌}
use mathlib.Core.List.{List}
use lib.Dec.{eqb, ltb}
use lib.ListN.{length, get_or, set, length-set}
use lib.Seq.{get_or-set_same, get_or-set_other}
use borrow.Author.Tests.{eqb-true, eqb-false}
use Rattle.encoding.proofs.Below.{either, tests, below_suc}
use Rattle.columns.specs.Means.{Line, Lines, line_of, band_of, Fits, Moved}

-- a byte stored as t has it leaves what is as in t
set_keep : (l t : List ℕ) (p v k : ℕ) → p < length l → get_or t p 0 ≡ v → get_or l k 0 ≡ get_or t k 0 → get_or (set l p v) k 0 ≡ get_or t k 0
set_keep l t p v k h e s =
    either (eqb k p)
    (λ q. rw (eqb-true k p q) (get_or-set_same l p v 0 h ∙ sym e))
    (λ q. get_or-set_other l p k v 0 (eqb-false k p q) ∙ s)

-- ---- a line

shorter : {bs : List ℕ} {off step n : ℕ} → Line bs off step (suc n) → Line bs off step n
shorter r = record { at = λ i h. r.at i (omega arith) }

fewer : {bs : List ℕ} {off step leap n w : ℕ} → Lines bs off step leap n (suc w) → Lines bs off step leap n w
fewer r = record { line = λ j h. r.line j (omega arith) }

module _ (src : List ℕ) (a step : ℕ) (dst : List ℕ) (b gap : ℕ) where
  pub line_length : (n : ℕ) → length (line_of src a step dst b gap n) ≡ length dst
  unfolding line_of
  line_length zero = refl
  line_length (suc n) = length-set (line_of src a step dst b gap n) (b + gap * n) (get_or src (a + step * n) 0) ∙ line_length n

  pub line_start : dst ≡ line_of src a step dst b gap 0
  unfolding line_of
  line_start = refl

  pub line_more : {now : List ℕ} (n : ℕ) → now ≡ line_of src a step dst b gap n → set now (b + gap * n) (get_or src (a + step * n) 0) ≡ line_of src a step dst b gap (n + 1)
  unfolding line_of
  line_more n e = rw (add-one, e)

  pub line_long : {now : List ℕ} (n : ℕ) → now ≡ line_of src a step dst b gap n → length now ≡ length dst
  line_long n e = ap length e ∙ line_length n

  pub line_done : {now : List ℕ} (i n : ℕ) → i ≤ n → n ≤ i → now ≡ line_of src a step dst b gap i → now ≡ line_of src a step dst b gap n
  line_done i n h l e = let q : n ≡ i = omega arith in rw q e

  module _ (t : List ℕ) where
    abbrev FitsLine : ℕ → Type 0
    FitsLine n = (i : ℕ) → i < n → get_or t (b + gap * i) 0 ≡ get_or src (a + step * i) 0

    pub line_keep : (n : ℕ) → Line dst b gap n → FitsLine n → (k : ℕ) → get_or dst k 0 ≡ get_or t k 0 → get_or (line_of src a step dst b gap n) k 0 ≡ get_or t k 0
    unfolding line_of
    line_keep zero r f k e = e
    line_keep (suc n) r f k e =
        set_keep (line_of src a step dst b gap n) t (b + gap * n) (get_or src (a + step * n) 0) k (rw (line_length n) (r.at n (omega arith))) (f n (omega arith))
        (line_keep n (shorter r) (λ i h. f i (omega arith)) k e)

    pub line_gain : (n : ℕ) → Line dst b gap n → FitsLine n → (i : ℕ) → i < n → get_or (line_of src a step dst b gap n) (b + gap * i) 0 ≡ get_or t (b + gap * i) 0
    unfolding line_of
    line_gain zero r f i h = absurd (omega arith)
    line_gain (suc n) r f i h =
        below_suc i n h
        (λ l. set_keep (line_of src a step dst b gap n) t (b + gap * n) (get_or src (a + step * n) 0) (b + gap * i) (rw (line_length n) (r.at n (omega arith))) (f n (omega arith))
        (line_gain n (shorter r) (λ m q. f m (omega arith)) i l))
        (λ e. rw e (get_or-set_same (line_of src a step dst b gap n) (b + gap * n) (get_or src (a + step * n) 0) 0 (rw (line_length n) (r.at n (omega arith))) ∙ sym (f n (omega arith))))

-- a line is there in a list as long
pub line_there : (old new : List ℕ) (off step n : ℕ) → length new ≡ length old → Line old off step n → Line new off step n
line_there old new off step n e r = record { at = λ i h. rw e (r.at i h) }

-- ---- a band

module _ (src : List ℕ) (a step leap : ℕ) (dst : List ℕ) (b gap span n : ℕ) where
  pub band_length : (w : ℕ) → length (band_of src a step leap dst b gap span n w) ≡ length dst
  unfolding band_of
  band_length zero = refl
  band_length (suc w) = line_length src (a + leap * w) step (band_of src a step leap dst b gap span n w) (b + span * w) gap n ∙ band_length w

  pub band_start : dst ≡ band_of src a step leap dst b gap span n 0
  unfolding band_of
  band_start = refl

  pub band_long : {now : List ℕ} (w : ℕ) → now ≡ band_of src a step leap dst b gap span n w → length now ≡ length dst
  band_long w e = ap length e ∙ band_length w

  pub band_done : {now : List ℕ} (i w : ℕ) → i ≤ w → w ≤ i → now ≡ band_of src a step leap dst b gap span n i → now ≡ band_of src a step leap dst b gap span n w
  band_done i w h l e = let q : w ≡ i = omega arith in rw q e

  pub band_more : {now next : List ℕ} (w : ℕ) → now ≡ band_of src a step leap dst b gap span n w → next ≡ line_of src (a + leap * w) step now (b + span * w) gap n
      → next ≡ band_of src a step leap dst b gap span n (w + 1)
  unfolding band_of
  band_more w e p = p ∙ rw (add-one, e)

  module _ (t : List ℕ) where
    line-of : (w j : ℕ) → j < w → Lines dst b gap span n w → Line (band_of src a step leap dst b gap span n j) (b + span * j) gap n
    line-of w j h r = line_there dst (band_of src a step leap dst b gap span n j) (b + span * j) gap n (band_length j) (r.line j h)

    pub band_keep : (w : ℕ) → Lines dst b gap span n w → Fits src a step leap t b gap span n w → (k : ℕ) → get_or dst k 0 ≡ get_or t k 0 → get_or (band_of src a step leap dst b gap span n w) k 0 ≡ get_or t k 0
    unfolding band_of
    band_keep zero r f k e = e
    band_keep (suc w) r f k e =
        line_keep src (a + leap * w) step (band_of src a step leap dst b gap span n w) (b + span * w) gap t n (line-of (suc w) w (omega arith) r) (λ i h. f i w h (omega arith)) k
        (band_keep w (fewer r) (λ i j h l. f i j h (omega arith)) k e)

    pub band_gain : (w : ℕ) → Lines dst b gap span n w → Fits src a step leap t b gap span n w → (i j : ℕ) → i < n → j < w
        → get_or (band_of src a step leap dst b gap span n w) (b + span * j + gap * i) 0 ≡ get_or t (b + span * j + gap * i) 0
    unfolding band_of
    band_gain zero r f i j h l = absurd (omega arith)
    band_gain (suc w) r f i j h l =
        below_suc j w l
        (λ p. line_keep src (a + leap * w) step (band_of src a step leap dst b gap span n w) (b + span * w) gap t n (line-of (suc w) w (omega arith) r) (λ m q. f m w q (omega arith)) (b + span * j + gap * i)
        (band_gain w (fewer r) (λ m o q s. f m o q (omega arith)) i j h p))
        (λ e. rw e (line_gain src (a + leap * w) step (band_of src a step leap dst b gap span n w) (b + span * w) gap t n (line-of (suc w) w (omega arith) r) (λ m q. f m w q (omega arith)) i h))

-- ---- bands

-- a later record's place
later : (b step leap i k j : ℕ) → b + leap * j + step * (i + k) ≡ b + step * i + leap * j + step * k
later b step leap i k j = omega (arith, mul-add step i k)

pub lines_from : (bs : List ℕ) (b step leap n w i some : ℕ) → Lines bs b step leap n w → i + some ≤ n → Lines bs (b + step * i) step leap some w
lines_from bs b step leap n w i some r h = record { line = λ j l. record { at = λ k q. rw (← later b step leap i k j) ((r.line j l).at (i + k) (omega arith)) } }

pub lines_there : (old new : List ℕ) (b step leap n w : ℕ) → length new ≡ length old → Lines old b step leap n w → Lines new b step leap n w
lines_there old new b step leap n w e r = record { line = λ j l. line_there old new (b + leap * j) step n e (r.line j l) }

module _ (src : List ℕ) (a step leap : ℕ) (old : List ℕ) (b gap span w : ℕ) where
  pub moved_start : Moved src a step leap old old b gap span 0 w
  moved_start = record { long = refl; keep = λ t f k e. e; gain = λ t f i j h l. absurd (omega arith) }

  -- lines moved one by one
  pub moved_lines : {new : List ℕ} (n : ℕ) → Lines old b gap span n w → new ≡ band_of src a step leap old b gap span n w → Moved src a step leap old new b gap span n w
  moved_lines n r e =
      record {
        long = band_long src a step leap old b gap span n w e;
        keep = λ t f k s. ap (λ (l : List ℕ). get_or l k 0) e ∙ band_keep src a step leap old b gap span n t w r f k s;
        gain = λ t f i j h l. ap (λ (x : List ℕ). get_or x (b + span * j + gap * i) 0) e ∙ band_gain src a step leap old b gap span n t w r f i j h l;
      }

  -- i records were moved, and then some from k on: they may overlap
  module _ {new next : List ℕ} (i k some : ℕ) (from : k ≤ i) (reach : i ≤ k + some) (so_far : Moved src a step leap old new b gap span i w)
      (then : Moved src (a + step * k) step leap new next (b + gap * k) gap span some w) where
    fits-before : (t : List ℕ) → Fits src a step leap t b gap span (k + some) w → Fits src a step leap t b gap span i w
    fits-before t f m j h l = f m j (omega arith) l

    fits-now : (t : List ℕ) → Fits src a step leap t b gap span (k + some) w → Fits src (a + step * k) step leap t (b + gap * k) gap span some w
    fits-now t f m j h l = rw (← later b gap span k m j, ← later a step leap k m j) (f (k + m) j (omega arith) l)

    pub moved_more : Moved src a step leap old next b gap span (k + some) w
    moved_more =
        record {
          long = then.long ∙ so_far.long;
          keep = λ t f p e. then.keep t (fits-now t f) p (so_far.keep t (fits-before t f) p e);
          gain = λ t f m j h l.
              either (ltb m i)
              (λ p. then.keep t (fits-now t f) (b + span * j + gap * m) (so_far.gain t (fits-before t f) m j (omega tests) l))
              (λ p.
              let e : k + (m - k) ≡ m = omega tests in
              let at : b + span * j + gap * m ≡ b + gap * k + span * j + gap * (m - k) = rw e at (later b gap span k (m - k) j) in
              rw at (then.gain t (fits-now t f) (m - k) j (omega tests) l));
        }

  pub moved_done : {new : List ℕ} (i n : ℕ) → i ≤ n → n ≤ i → Moved src a step leap old new b gap span i w → Moved src a step leap old new b gap span n w
  moved_done i n h l m = let e : n ≡ i = omega arith in rw e m

-- ---- records and columns change places

swap : (b p q : ℕ) → b + p + q ≡ b + q + p
swap b p q = omega arith

pub lines_flip : {bs : List ℕ} {off step leap n w : ℕ} → Lines bs off step leap n w → Lines bs off leap step w n
lines_flip {bs} {off} {step} {leap} r = record { line = λ j l. record { at = λ i q. rw (swap off (step * j) (leap * i)) ((r.line i q).at j l) } }

fits_flip : (src t : List ℕ) (a step leap b gap span n w : ℕ) → Fits src a step leap t b gap span n w → Fits src a leap step t b span gap w n
fits_flip src t a step leap b gap span n w f i j h l = rw (swap b (gap * j) (span * i), swap a (step * j) (leap * i)) (f j i l h)

pub moved_flip : {src old new : List ℕ} {a step leap b gap span n w : ℕ} → Moved src a step leap old new b gap span n w → Moved src a leap step old new b span gap w n
moved_flip {src} {old} {new} {a} {step} {leap} {b} {gap} {span} {n} {w} m =
    record {
      long = m.long;
      keep = λ t f. m.keep t (fits_flip src t a leap step b span gap w n f);
      gain = λ t f i j h l. rw (swap b (gap * j) (span * i)) (m.gain t (fits_flip src t a leap step b span gap w n f) j i l h);
    }

-- some columns from k on
pub lines_beside : (bs : List ℕ) (b step leap n w k some : ℕ) → Lines bs b step leap n w → k + some ≤ w → Lines bs (b + leap * k) step leap n some
lines_beside bs b step leap n w k some r h = lines_flip (lines_from bs b leap step w n k some (lines_flip r) h)

pub moved_beside : (src : List ℕ) (a step leap : ℕ) (old : List ℕ) (b gap span n : ℕ) {new next : List ℕ} (j k some : ℕ) → k ≤ j → j ≤ k + some → Moved src a step leap old new b gap span n j
    → Moved src (a + leap * k) step leap new next (b + span * k) gap span n some → Moved src a step leap old next b gap span n (k + some)
moved_beside src a step leap old b gap span n j k some h l m t = moved_flip (moved_more src a leap step old b span gap n j k some h l (moved_flip m) (moved_flip t))

pub moved_none : (src : List ℕ) (a step leap : ℕ) (old : List ℕ) (b gap span n : ℕ) → Moved src a step leap old old b gap span n 0
moved_none src a step leap old b gap span n = moved_flip (moved_start src a leap step old b span gap n)

pub moved_width : (src : List ℕ) (a step leap : ℕ) (old : List ℕ) (b gap span n : ℕ) {new : List ℕ} (j w : ℕ) → j ≤ w → w ≤ j → Moved src a step leap old new b gap span n j → Moved src a step leap old new b gap span n w
moved_width src a step leap old b gap span n j w h l m = let e : w ≡ j = omega arith in rw e m
