-- The ghosts of a column file by their numbers: the laws of the index of records, over the cores one behind the other.
use Prim.Native.Nat.{ℕ, zero, suc, ◌-◌, ◌+◌, ◌*◌, ◌≤◌, ◌<◌}
use native.Mathlib.Omega.{arith}
use mathlib.Core.Path.{◌≡◌, sym, ap, ◌∙◌}
use mathlib.Core.List.{List}
use lib.Dec.{eqb, ltb}
use lib.ListN.{length, get_or}
use Rattle.encoding.specs.Below.{any_below, least_below}
use Rattle.encoding.specs.Numbers.{u32_at}
use Rattle.encoding.proofs.Below.{tests, either, any_same, least_same}
use Rattle.encoding.proofs.Numbers.{four_bytes}
use Rattle.bits.specs.Bits.{in_set}
use Rattle.records.specs.Record.{core_size, number_of}
use Rattle.part.specs.Means.{number_at, ghost_has}
use Rattle.positions.specs.Means.{has_number, some_has, position_of, member_position, Markable, Numbered, Indexed}
use Rattle.positions.proofs.Positions.{index_position}
use Rattle.part_check.proofs.Judging.{ghosts_ascend, ghost_below}
use Rattle.columns_read.specs.Columns.{spaced}
use Rattle.columns_read.specs.Means.{tree_column, ghost_column}
use Rattle.columns_read.proofs.Spaced.{spaced_length, spaced_at}
use Rattle.columns_read.proofs.Reading.{word_read}
use Rattle.columns_check.specs.Means.{ghost_rows, FileNumbered}
use Rattle.columns_check.proofs.Turned.{columns_length, columns_at, rows_are}

-- ascending numbers are no lower than their places
at_least : (f : ℕ → ℕ) (g : ℕ) → ((i j : ℕ) → i < j → j < g → f i < f j) → (i : ℕ) → i < g → i ≤ f i
at_least f g up zero h = omega arith
at_least f g up (suc i) h = omega (arith, at_least f g up i (omega arith), up i (suc i) (omega arith) h)

module _ (file : List ℕ) (n g : ℕ) where
  -- so there are no more than numbers
  pub ghosts_few : (first K : ℕ) → FileNumbered file first n g K → g ≤ K
  ghosts_few first K known =
      either (ltb 0 g)
      (λ p.
      let last : g - 1 < g = omega tests in
      omega (arith, at_least (λ i. number_of (ghost_column file n g i)) g (ghosts_ascend first n g K (tree_column file n) (ghost_column file n g) known.numbers) (g - 1) last, ghost_below first n g K (tree_column file n) (ghost_column file n g) known.numbers (g - 1) last))
      (λ p. omega tests)

  rows_length : length (ghost_rows file n g) ≡ 40 * g
  unfolding ghost_rows
  rows_length = ap length (rows_are file (32 + 64 * n) core_size g g) ∙ columns_length file (32 + 64 * n) g core_size g

  row-byte : (i b : ℕ) → i < g → b < 40 → get_or (ghost_rows file n g) (40 * i + b) 0 ≡ get_or (spaced file (32 + 64 * n + i) g core_size) b 0
  unfolding ghost_rows
  row-byte i b h l =
      ap (λ (r : List ℕ). get_or r (40 * i + b) 0) (rows_are file (32 + 64 * n) core_size g g)
      ∙ (columns_at file (32 + 64 * n) g core_size g b i l h ∙ sym (spaced_at file (32 + 64 * n + i) g core_size b l))

  row_word : (i : ℕ) → i < g → u32_at (ghost_rows file n g) (0 + 40 * i) ≡ u32_at (spaced file (32 + 64 * n + i) g core_size) 0
  row_word i h =
      let here : 0 + 40 * i ≡ 40 * i = omega arith in
      let first : 40 * i + 0 ≡ 40 * i = omega arith in
      let b0 : get_or (ghost_rows file n g) (40 * i) 0 ≡ get_or (spaced file (32 + 64 * n + i) g core_size) 0 0 = rw first at (row-byte i 0 h (omega arith)) in
      ap (λ (x : ℕ). u32_at (ghost_rows file n g) x) here
      ∙ (sym (four_bytes (ghost_rows file n g) (40 * i) (omega (arith, rows_length)))
      ∙ word_read (spaced file (32 + 64 * n + i) g core_size) 0 (omega (arith, spaced_length file (32 + 64 * n + i) g core_size)) b0 (row-byte i 1 h (omega arith)) (row-byte i 2 h (omega arith)) (row-byte i 3 h (omega arith)))

  -- each core there has the number of its ghost
  row_number : (i : ℕ) → i < g → number_at (ghost_rows file n g) 0 i ≡ number_of (ghost_column file n g i)
  unfolding number_at number_of ghost_column
  row_number i h = row_word i h

  -- what is read of a ghost is read of its core there
  pub row_read_lem : {k : ℕ} (i : ℕ) → i < g → k ≡ u32_at (spaced file (32 + 64 * n + i) g core_size) 0 → k ≡ u32_at (ghost_rows file n g) (0 + core_size * i)
  row_read_lem i h e = e ∙ sym (row_word i h)

  pub rows_numbered : (first K : ℕ) → FileNumbered file first n g K → Numbered (ghost_rows file n g) 0 g K
  rows_numbered first K known =
      record {
        ascending =
            record {
              fits = omega (arith, rows_length);
              ascends = λ i j h l. rw (row_number i (omega arith), row_number j l) (ghosts_ascend first n g K (tree_column file n) (ghost_column file n g) known.numbers i j h l);
            };
        low = λ i h. rw (row_number i h) (ghost_below first n g K (tree_column file n) (ghost_column file n g) known.numbers i h);
      }

  pub rows_markable : (first K : ℕ) → FileNumbered file first n g K → {ws : List ℕ} → K ≤ 64 * length ws → Markable (ghost_rows file n g) 0 g ws
  rows_markable first K known room =
      let rows : Numbered (ghost_rows file n g) 0 g K = rows_numbered first K known in
      record { fits = rows.ascending.fits; low = λ i h. omega (arith, rows.low i h) }

  -- members are the numbers of ghosts
  pub ghost_marked : {ws behind : List ℕ} → Indexed (ghost_rows file n g) 0 g ws behind → (k : ℕ) → in_set ws k ≡ any_below g (ghost_has (ghost_column file n g) k)
  unfolding some_has has_number ghost_has
  ghost_marked x k = x.members k ∙ any_same g (has_number (ghost_rows file n g) 0 k) (ghost_has (ghost_column file n g) k) (λ i h. ap (λ (y : ℕ). eqb y k) (row_number i h))

  -- the ghost that is looked up
  pub ghost_held : {ws behind : List ℕ} → Indexed (ghost_rows file n g) 0 g ws behind → (k : ℕ) {p : ℕ} → p ≡ member_position ws g k → p ≡ least_below g (ghost_has (ghost_column file n g) k)
  unfolding position_of has_number ghost_has
  ghost_held x k e =
      e ∙ index_position x k
      ∙ least_same g (has_number (ghost_rows file n g) 0 k) (ghost_has (ghost_column file n g) k) (λ i h. ap (λ (y : ℕ). eqb y k) (row_number i h))
