-- What the code reads is what the definitions say.
use Prim.Native.Nat.{ℕ, ◌+◌, ◌≤◌, ◌<◌}
use native.Mathlib.Numerals.{add-one}
use native.Mathlib.Omega.{arith}
use mathlib.Core.Path.{◌≡◌, sym, ap, ◌∙◌}
use mathlib.Core.Bool.{Bool, ◌||◌}
use mathlib.Core.List.{List}
use lib.ListN.{length}
use borrow.Author.Tests.{lt-ltb, le-ltb}
use Rattle.encoding.specs.Below.{any_below}
use Rattle.encoding.specs.Pieces.{piece}
use Rattle.offsets.specs.Table.{table_length}
use Rattle.pattern.specs.Means.{RankOf}
use Rattle.pattern.proofs.Laws.{row_fits, receiver_in_new}
use Rattle.records.specs.Shape.{face_count}
use Rattle.records.specs.Record.{core_size, number_of, shape_of, neighbour_of}
use Rattle.part.specs.Means.{record_place}
use Rattle.part.specs.Part.{part_core}
use Rattle.message_ghosts.specs.Means.{number_in, AtRecord, AtFace, Beside, record_in, across_at, sent_before, beside_before}
use Rattle.message_ghosts.proofs.Records.{shape_is, across_is, at_face}

-- ---- records by their local index

module _ (part : List ℕ) (n j at : ℕ) (place : at ≡ record_place n j) where
  pub number_read : (r : ℕ) → r ≡ number_of (piece part at core_size) → r ≡ number_in part n j
  unfolding number_in record_in
  number_read r e = rw (← place) e

  module _ (f next : ℕ) (read : next ≡ neighbour_of (piece part at core_size) f) where
    next-is : next ≡ neighbour_of (record_in part n j) f
    unfolding record_in
    next-is = rw (← place) read

    pub next_fits : AtFace part n j f → j < n → record_place n next + core_size ≤ length part
    next_fits a h = rw next-is (a.there h)

    pub across_tree : (r : ℕ) → j < n → r ≡ number_in part n next → r ≡ across_at part n j f
    unfolding across_at
    across_tree r h e = rw (lt-ltb j n h, ← next-is) e

    pub across_ghost : n ≤ j → next ≡ across_at part n j f
    unfolding across_at
    across_ghost h = rw (le-ltb j n h) next-is

-- ---- a tree that q gets before the trees of p

module _ {old new : List ℕ} {q : ℕ} (r : RankOf old new q) where
  pub rank_row : table_length (q + 1) ≤ length old
  rank_row = row_fits old q r.tables.old_ranks r.rank_below

  pub rank_new_row : table_length (q + 1) ≤ length new
  rank_new_row = receiver_in_new old new r.tables q r.rank_below

-- a neighbour as it is read
pub neighbour_before : (part old new : List ℕ) (q low count j faces f : ℕ) → Beside part count j faces → f < faces → {h : ℕ} {b : Bool}
    → h ≡ across_at part count j f → b ≡ sent_before old new q low h → sent_before old new q low (neighbour_of (part_core part (number_in part count j)) f) ≡ b
neighbour_before part old new q low count j faces f k l d c = sym (c ∙ ap (sent_before old new q low) (d ∙ k.across f l))

module _ (part old new : List ℕ) (q low g : ℕ) where
  -- one face more
  pub beside_more : (n : ℕ) {a b : Bool} → a ≡ beside_before part old new q low g n → sent_before old new q low (neighbour_of (part_core part g) n) ≡ b → (a || b) ≡ beside_before part old new q low g (n + 1)
  unfolding beside_before any_below
  beside_more n e d = rw (add-one n, e, d)

  -- all faces
  pub beside_end : (n faces : ℕ) {a : Bool} → n ≤ faces → faces ≤ n → a ≡ beside_before part old new q low g n → a ≡ beside_before part old new q low g faces
  beside_end n faces h l e = let d : faces ≡ n = omega arith in rw d e

-- ---- a record that may go

module _ (part old new : List ℕ) (p q count j : ℕ) (a : AtRecord part old new p q count j) where
  -- its faces can be read, and lead to its neighbours
  pub beside_known : (faces : ℕ) → faces ≡ face_count (shape_of (part_core part (number_in part count j))) → Beside part count j faces
  beside_known faces e =
      record {
        there = λ f l. at_face part old new p q count a.known j f a.within (rw e at l);
        across = λ f l. across_is part old new p q count a.known j f a.within (rw e at l);
      }

  -- its faces as they are read
  pub faces_read : (at shape faces : ℕ) → at ≡ record_place count j → shape ≡ shape_of (piece part at core_size) → faces ≡ face_count shape
      → faces ≡ face_count (shape_of (part_core part (number_in part count j)))
  unfolding record_in
  faces_read at shape faces e d c = c ∙ ap face_count (d ∙ rw e (shape_is part old new p q count a.known j a.within))
