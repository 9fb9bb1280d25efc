-- Means, no part of what is promised: the numbers of ascending records as a set of bits, with counts, and what is looked up in it.
use Rattle.std.specs.Prelude.{ℕ, zero, suc, ◌+◌, ◌*◌, ◌^◌, ◌≤◌, ◌<◌, ◌≡◌, Bool, false, cond, ◌||◌, List, [], ◌++◌, eqb, length, get_or}
use Rattle.encoding.specs.Below.{any_below, count_below, least_below}
use Rattle.bits.specs.Bits.{in_set}
use Rattle.records.specs.Record.{core_size}
use Rattle.part.specs.Means.{number_at, Ascending}

-- core record i of those from byte at has number k
unfoldable pub has_number : List ℕ → ℕ → ℕ → ℕ → Bool
has_number bs at k i = eqb (number_at bs at i) k

-- one of the first count records has number k
unfoldable pub some_has : List ℕ → ℕ → ℕ → ℕ → Bool
some_has bs at count k = any_below count (has_number bs at k)

-- the position of the record with number k; count where none has it
unfoldable pub position_of : List ℕ → ℕ → ℕ → ℕ → ℕ
position_of bs at count k = least_below count (has_number bs at k)

-- count core records from byte at, whose numbers the set can hold
pub record Markable (bs : List ℕ) (at count : ℕ) (ws : List ℕ) : Type 0 where
  pub fits : at + core_size * count ≤ length bs
  pub low : (i : ℕ) → i < count → number_at bs at i < 64 * length ws

-- the members are those before and what passes the test
pub record Added (ws₀ : List ℕ) (test : ℕ → Bool) (ws : List ℕ) : Type 0 where
  pub same_length : length ws ≡ length ws₀
  pub members : (k : ℕ) → in_set ws k ≡ (in_set ws₀ k || test k)

-- the words that are counted are there, and a count has 32 bits
pub record Countable (ws : List ℕ) (words : ℕ) (behind : List ℕ) : Type 0 where
  pub marked : words ≤ length ws
  pub room : words ≤ length behind
  pub few : words ≤ 2 ^ 20

-- from word i on each of the first words has the count of the members in those behind it, and the others have what they had
pub record Counted (ws : List ℕ) (words : ℕ) (behind₀ : List ℕ) (i : ℕ) (behind : List ℕ) : Type 0 where
  pub same_length : length behind ≡ length behind₀
  pub counts : (j : ℕ) → i ≤ j → j < words → get_or behind j 0 + count_below (64 * (j + 1)) (in_set ws) ≡ count_below (64 * words) (in_set ws)
  pub others : (j : ℕ) → words ≤ j → get_or behind j 0 ≡ get_or behind₀ j 0

-- an empty set, and counts of 0
pub record Blank (ws behind : List ℕ) : Type 0 where
  pub same : length behind ≡ length ws
  pub few : length ws ≤ 2 ^ 20
  pub none : (k : ℕ) → in_set ws k ≡ false
  pub zeros : (i : ℕ) → get_or behind i 0 ≡ 0

-- records that ascend, with numbers below a bound
pub record Numbered (bs : List ℕ) (at count below : ℕ) : Type 0 where
  pub ascending : Ascending bs at count
  pub low : (i : ℕ) → i < count → number_at bs at i < below

-- how many members are in the words behind each word of a set of count numbers
pub record Counts (ws behind : List ℕ) (count : ℕ) : Type 0 where
  pub same : length behind ≡ length ws
  pub whole : count_below (64 * length ws) (in_set ws) ≡ count
  pub counts : (i : ℕ) → i < length ws → get_or behind i 0 + count_below (64 * (i + 1)) (in_set ws) ≡ count

-- the position of k among the members; count where it is none
unfoldable pub member_position : List ℕ → ℕ → ℕ → ℕ
member_position ws count k = cond (in_set ws k) (count_below k (in_set ws)) count

-- records that ascend and their index: a set of their numbers, and its counts
pub record Indexed (bs : List ℕ) (at count : ℕ) (ws behind : List ℕ) : Type 0 where
  pub ascending : Ascending bs at count
  pub members : (k : ℕ) → in_set ws k ≡ some_has bs at count k
  pub counted : Counts ws behind count

-- the cores of those below k that pass f, ascending
unfoldable pub cores_below : (ℕ → List ℕ) → (ℕ → Bool) → ℕ → List ℕ
cores_below core f zero = []
cores_below core f (suc k) = cores_below core f k ++ cond (f k) (core k) []
