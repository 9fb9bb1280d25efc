-- Means, no part of what is promised: bytes moved in lines, and what a list has then.
use Rattle.std.specs.Prelude.{ℕ, zero, suc, ◌+◌, ◌*◌, ◌≤◌, ◌<◌, ◌≡◌, List, length, get_or, set}

-- n bytes are there, from off on, each step behind the one before
pub record Line (bs : List ℕ) (off step n : ℕ) : Type 0 where
  pub at : (i : ℕ) → i < n → off + step * i < length bs

-- w lines are there, each leap behind the one before
pub record Lines (bs : List ℕ) (off step leap n w : ℕ) : Type 0 where
  pub line : (j : ℕ) → j < w → Line bs (off + leap * j) step n

-- a line is moved: n bytes of src, from a on and each step behind, go to b and each gap behind
unfoldable pub line_of : List ℕ → ℕ → ℕ → List ℕ → ℕ → ℕ → ℕ → List ℕ
line_of src a step dst b gap zero = dst
line_of src a step dst b gap (suc n) = set (line_of src a step dst b gap n) (b + gap * n) (get_or src (a + step * n) 0)

-- w lines are moved, one leap behind the other, to one span behind the other
unfoldable pub band_of : List ℕ → ℕ → ℕ → ℕ → List ℕ → ℕ → ℕ → ℕ → ℕ → ℕ → List ℕ
band_of src a step leap dst b gap span n zero = dst
band_of src a step leap dst b gap span n (suc w) = line_of src (a + leap * w) step (band_of src a step leap dst b gap span n w) (b + span * w) gap n

-- of two halves of 128 bytes, the first n of each stand in y in turns
pub record Shuffled (x y : List ℕ) (n : ℕ) : Type 0 where
  pub even : (i : ℕ) → i < n → get_or y (2 * i) 0 ≡ get_or x i 0
  pub odd : (i : ℕ) → i < n → get_or y (2 * i + 1) 0 ≡ get_or x (i + 128) 0

-- records become columns, or columns records: the bytes of a row stand side by side here, those of a column there
pub data Sides : ℕ → ℕ → ℕ → ℕ → Type 0 where
  records : {step span : ℕ} → Sides step 1 1 span
  columns : {leap gap : ℕ} → Sides 1 leap gap 1

-- list t has at each place what is moved there
abbrev pub Fits : List ℕ → ℕ → ℕ → ℕ → List ℕ → ℕ → ℕ → ℕ → ℕ → ℕ → Type 0
Fits src a step leap t b gap span n w = (i j : ℕ) → i < n → j < w → get_or t (b + span * j + gap * i) 0 ≡ get_or src (a + leap * j + step * i) 0

-- from old to new, n bytes of each of w lines were moved: whatever list has them at their places, new has as much of it as old, and those bytes
pub record Moved (src : List ℕ) (a step leap : ℕ) (old new : List ℕ) (b gap span n w : ℕ) : Type 0 where
  pub long : length new ≡ length old
  pub keep : (t : List ℕ) → Fits src a step leap t b gap span n w → (k : ℕ) → get_or old k 0 ≡ get_or t k 0 → get_or new k 0 ≡ get_or t k 0
  pub gain : (t : List ℕ) → Fits src a step leap t b gap span n w → (i j : ℕ) → i < n → j < w → get_or new (b + span * j + gap * i) 0 ≡ get_or t (b + span * j + gap * i) 0

-- a file of n trees and g ghosts, by its header and length, and room for as much
pub record Turnable (file out : List ℕ) (n g : ℕ) : Type 0 where
  pub long : length file ≡ 32 + (64 * n + 40 * g)
  pub room : 32 + (64 * n + 40 * g) ≤ length out
