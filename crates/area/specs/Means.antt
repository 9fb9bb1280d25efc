-- Means, no part of what is promised: what inner functions require, and places that they compute.
use Rattle.std.specs.Prelude.{ℕ, ◌+◌, ◌-◌, ◌*◌, ◌≤◌, ◌<◌, ◌≡◌, Bool, true, ◌&&◌, List, ltb, eqb, length}
use Rattle.encoding.specs.Pieces.{piece}
use Rattle.offsets.specs.Limits.{max_ranks, max_trees, rank_count_ok}
use Rattle.offsets.specs.Table.{table_length, ranks, ranks_ok, valid, trees, tree_count}
use Rattle.pattern.specs.Sender.{Tables, sent_first, sent_count}
use Rattle.records.specs.Record.{core_size, tree_size}
use Rattle.area.specs.Layout.{area_header, heard_words, slots_place, area_size}
use Rattle.area.specs.Area.{area_dimension, area_k, area_p, area_rank, area_count, area_old, area_new, area_first, area_bound}

-- where the tables of an area of P ranks end, and its words of heard senders
abbrev pub tables_end : ℕ → ℕ
tables_end P = area_header + table_length P + table_length P

abbrev pub words_end : ℕ → ℕ
words_end P = tables_end P + 8 * heard_words P

-- a valid table and a rank of it
pub record RankIn (t : List ℕ) (p : ℕ) : Type 0 where
  pub ranks_fit : ranks_ok t ≡ true
  pub is_valid : valid t ≡ true
  pub rank_below : p < ranks t

-- ---- the header of an area

-- an area that is long enough for its tables
pub record TablesRoom (a : List ℕ) : Type 0 where
  pub few : area_p a ≤ max_ranks
  pub tables_long : tables_end (area_p a) ≤ length a

-- an area that is long enough, and what stands where its tables are
pub record SizedArea (a old new : List ℕ) : Type 0 where
  pub ranks_fit : rank_count_ok (area_p a) ≡ true
  pub long : area_size (area_dimension a) (area_p a) (area_count a) ≤ length a
  pub is_old : old ≡ area_old a
  pub is_new : new ≡ area_new a

-- the tests of the tables before a count is read from them
unfoldable pub tables_fit : List ℕ → Bool
tables_fit a =
    valid (area_old a) && valid (area_new a) && eqb (trees (area_old a)) (area_k a) && eqb (trees (area_new a)) (area_k a) && ltb (area_rank a) (area_p a)

-- what a sound header tells
pub record HeaderHolds (a : List ℕ) : Type 0 where
  pub tables : Tables (area_old a) (area_new a)
  pub ranks_are : ranks (area_old a) ≡ area_p a
  pub trees_are : trees (area_old a) ≡ area_k a
  pub rank_below : area_rank a < area_p a
  pub count_is : area_count a ≡ tree_count (area_new a) (area_rank a)
  pub ranks_high : area_p a ≤ max_ranks
  pub count_high : area_count a ≤ max_trees
  pub words_enough : area_p a ≤ 64 * heard_words (area_p a)
  pub long : words_end (area_p a) + tree_size * area_count a + core_size * area_bound a ≤ length a

-- an area with a sound header, and its tables
pub record Tabled (a old new : List ℕ) : Type 0 where
  pub header : HeaderHolds a
  pub is_old : old ≡ area_old a
  pub is_new : new ≡ area_new a

-- ---- its slots

module _ (a : List ℕ) where
  -- the trees due from sender s: the first, how many, and where the first slot begins
  abbrev pub from_first : ℕ → ℕ
  from_first s = sent_first (area_old a) (area_new a) s (area_rank a)

  abbrev pub from_count : ℕ → ℕ
  from_count s = sent_count (area_old a) (area_new a) s (area_rank a)

  unfoldable pub from_place : ℕ → ℕ
  from_place s = slots_place (area_p a) + tree_size * (from_first s - area_first a)

-- core record j from byte `at` on
unfoldable pub core_at : List ℕ → ℕ → ℕ → List ℕ
core_at a at j = piece a (at + core_size * j) core_size
