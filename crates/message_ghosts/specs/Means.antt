-- Means, no part of what is promised: what the functions require, and values that mirror their code.
use Rattle.std.specs.Prelude.{ℕ, ◌+◌, ◌*◌, ◌≤◌, ◌<◌, ◌≡◌, Bool, true, false, cond, not, ◌&&◌, ◌||◌, List, leb, ltb, eqb, length}
use Rattle.encoding.specs.Below.{any_below}
use Rattle.encoding.specs.Pieces.{piece, Bytes}
use Rattle.bits.specs.Bits.{in_set}
use Rattle.offsets.specs.Table.{trees, holds}
use Rattle.pattern.specs.Means.{PairOf}
use Rattle.pattern.specs.Sender.{sent_first, sent_count}
use Rattle.records.specs.Shape.{face_count}
use Rattle.records.specs.Record.{core_size, number_of, shape_of, neighbour_of}
use Rattle.part.specs.Means.{in_range, record_place}
use Rattle.part.specs.Part.{part_count, part_ghost_count, part_holds, part_core, part_sound}
use Rattle.message.specs.Build.{part_record}
use Rattle.message.specs.Rule.{ghost_goes}

-- ---- the marks

-- one bit for each tree there may be
abbrev pub mark_words : ℕ
mark_words = 16384

-- a bit for each tree, in no more words than that
pub record Room (old marks : List ℕ) : Type 0 where
  pub enough : trees old ≤ 64 * length marks
  pub few : length marks ≤ mark_words

-- the set of the ghosts that go with p's message to q
pub record Marks (part old new : List ℕ) (p q : ℕ) (marks : List ℕ) : Type 0 where
  pub room : Room old marks
  pub member : (k : ℕ) → in_set marks k ≡ ghost_goes (part_core part) old new (part_holds part) (part_record part) p q k

-- ---- what the functions require

-- two tables that agree, two ranks of theirs, and a sound part of the first under the old table
pub record Sending (part old new : List ℕ) (p q : ℕ) : Type 0 where
  pub pair : PairOf old new p q
  pub sound : part_sound part old p ≡ true

-- and the trees that it sends: the first, and how many
pub record SendingRange (part old new : List ℕ) (p q low n : ℕ) : Type 0 where
  pub sending : Sending part old new p q
  pub begins : low ≡ sent_first old new p q
  pub many : n ≡ sent_count old new p q

-- the part's bytes and its number of trees
pub record Known (part old new : List ℕ) (p q count : ℕ) : Type 0 where
  pub sending : Sending part old new p q
  pub bytes : Bytes part
  pub counted : count ≡ part_count part

-- the local index of one of its records
pub record AtRecord (part old new : List ℕ) (p q count j : ℕ) : Type 0 where
  pub known : Known part old new p q count
  pub within : j < count + part_ghost_count part

-- a set of local indices of its records
pub record Near (part : List ℕ) (count : ℕ) (near : List ℕ) : Type 0 where
  pub few : length near ≤ mark_words
  pub low : (j : ℕ) → in_set near j ≡ true → j < count + part_ghost_count part

-- a set with a bit for each of its records, and no member
pub record Empty (part near : List ℕ) : Type 0 where
  pub enough : part_count part + part_ghost_count part ≤ 64 * length near
  pub few : length near ≤ mark_words
  pub none : (j : ℕ) → in_set near j ≡ false

-- a range of its trees, and a set with a bit for each of its records
pub record NearRoom (part old new : List ℕ) (p q count start end : ℕ) (near : List ℕ) : Type 0 where
  pub known : Known part old new p q count
  pub range : start ≤ end
  pub within : end ≤ count
  pub room : count + part_ghost_count part ≤ 64 * length near

-- ---- the records of a part by their local index: trees first, then ghosts

module _ (part : List ℕ) (n : ℕ) where
  -- its core as it stands
  unfoldable pub record_in : ℕ → List ℕ
  record_in j = piece part (record_place n j) core_size

  -- its number
  unfoldable pub number_in : ℕ → ℕ
  number_in j = number_of (record_in j)

  -- the number of the neighbour across face f: a tree stores a local index, a ghost the number
  unfoldable pub across_at : ℕ → ℕ → ℕ
  across_at j f = cond {A = ℕ} (ltb j n) (number_in (neighbour_of (record_in j) f)) (neighbour_of (record_in j) f)

-- the record is there, and so is the one that it stores the local index of
pub record AtFace (part : List ℕ) (n j f : ℕ) : Type 0 where
  pub face : f < 6
  pub here : record_place n j + core_size ≤ length part
  pub there : j < n → record_place n (neighbour_of (record_in part n j) f) + core_size ≤ length part

-- a record whose first faces can be read and lead to the neighbours of the core with its number
pub record Beside (part : List ℕ) (count j faces : ℕ) : Type 0 where
  pub there : (f : ℕ) → f < faces → AtFace part count j f
  pub across : (f : ℕ) → f < faces → across_at part count j f ≡ neighbour_of (part_core part (number_in part count j)) f

-- ---- what goes

-- tree h is in f'(q), and in f(q) or below low: where low is the first tree from p to q, q gets h from itself or from a rank below p
unfoldable pub sent_before : List ℕ → List ℕ → ℕ → ℕ → ℕ → Bool
sent_before old new q low h = holds new q h && (holds old q h || ltb h low)

-- k cuts the range from low to before high at r: what is below k, and what is not
pub record CutAt (low high k r : ℕ) : Type 0 where
  pub from : low ≤ r
  pub to : r ≤ high
  pub before : (x : ℕ) → in_range low r x ≡ (in_range low high x && ltb x k)
  pub behind : (x : ℕ) → in_range r high x ≡ (in_range low high x && leb k x)

-- the range of q under the new table, and the two in it of those trees
pub record Ranged (old new : List ℕ) (q low first end below kept until : ℕ) : Type 0 where
  pub forward : first ≤ end
  pub below_forward : first ≤ below
  pub kept_forward : kept ≤ until
  pub receives : (k : ℕ) → in_range first end k ≡ holds new q k
  pub before : (k : ℕ) → (in_range first below k || in_range kept until k) ≡ sent_before old new q low k

-- the number r of the first n trees from own on that come before b
pub record BoundAt (own n b r : ℕ) : Type 0 where
  pub few : r ≤ n
  pub reached : (i : ℕ) → i < n → r ≤ i → b ≤ own + i
  pub reaches : (i : ℕ) → i < n → b ≤ own + i → r ≤ i

-- the two ranges in which the part's first n trees are those trees, by their local index
pub record Localised (part old new : List ℕ) (q low n first below kept until : ℕ) : Type 0 where
  pub below_forward : first ≤ below
  pub kept_forward : kept ≤ until
  pub before : (i : ℕ) → i < n → (in_range first below i || in_range kept until i) ≡ sent_before old new q low (number_in part n i)

-- one of the first n face neighbours of g is such a tree
unfoldable pub beside_before : List ℕ → List ℕ → List ℕ → ℕ → ℕ → ℕ → ℕ → Bool
beside_before part old new q low g n = any_below n (λ f. sent_before old new q low (neighbour_of (part_core part g) f))

module _ (part old new : List ℕ) (p q low : ℕ) where
  -- g, beside a tree that p sends q, goes with the message
  unfoldable pub goes : ℕ → Bool
  goes g = not (holds new q g) && (eqb p q || not (beside_before part old new q low g (face_count (shape_of (part_core part g)))))

  -- k is across face f of tree t and goes
  unfoldable pub goes_across : ℕ → ℕ → ℕ → Bool
  goes_across t f k = eqb k (neighbour_of (part_core part t) f) && goes k

  -- the same for one of the first n faces
  unfoldable pub goes_beside : ℕ → ℕ → ℕ → Bool
  goes_beside t n k = any_below n (λ f. goes_across t f k)

  -- the same for all faces of one of the n trees from low on
  unfoldable pub goes_from : ℕ → ℕ → Bool
  goes_from n k = any_below n (λ i. goes_beside (low + i) (face_count (shape_of (part_core part (low + i)))) k)

  -- k is the number of one of the first n records of a part with count trees that is in a set, and goes
  unfoldable pub goes_near : ℕ → List ℕ → ℕ → ℕ → Bool
  goes_near count near n k = any_below n (λ i. in_set near i && (eqb (number_in part count i) k && goes k))
