-- The checks of the call in their order, and what an accepted part has.
use Prim.Native.Nat.{ℕ, ◌+◌, ◌≤◌, ◌<◌}
use native.Mathlib.Omega.{arith}
use mathlib.Core.Path.{◌≡◌, refl, sym, ◌∙◌}
use mathlib.Core.Bool.{Bool, true, false, cond}
use mathlib.Core.List.{List}
use lib.Dec.{ltb, leb}
use lib.ListN.{length}
use borrow.Author.Tests.{le-leb, lt-leb, ne_eqb}
use Rattle.encoding.specs.Answer.{written}
use Rattle.encoding.specs.Pieces.{piece, splice}
use Rattle.encoding.proofs.Pieces.{piece_length}
use Rattle.encoding.specs.Refusal.{first_failed}
use Rattle.offsets.specs.Table.{ranks, ranks_ok, valid}
use Rattle.records.specs.Record.{core_size, region_limit, region_of}
use Rattle.records.specs.Shape.{faces_in}
use Rattle.records.proofs.Forms.{form_region, region_below}
use Rattle.part.specs.Layout.{tree_place}
use Rattle.part.specs.Part.{part_dimension, part_first, part_count, stored_tree, global_number, global_tree, part_sound}
use Rattle.part.specs.Checks.{rank_checks}
use Rattle.part.proofs.Global.{renamed_alike}
use Rattle.part_check.specs.Calls.{part_refusal}
use Rattle.part_theorems.proofs.SoundParts.{part_length, part_view}
use Rattle.part.proofs.Views.{view_trees}
use Rattle.regions.specs.Counts.{region_counts}
use Rattle.regions.specs.Calls.{regions_refusal, region_counts_of}
use Rattle.regions.specs.Means.{Countable}

-- four checks, with more behind them
four_fail : (a b d s : Bool) (n : ℕ) {r : ℕ} → r ≡ cond a (cond b (cond d (cond s 0 8) 5) 3) 2 → (r ≡ 0 → ⊥) → r ≡ cond a (cond b (cond d (cond s n 8) 5) 3) 2
four_fail true true true true n q h = absurd (h q)
four_fail true true true false n q h = q
four_fail true true false s n q h = q
four_fail true false d s n q h = q
four_fail false b d s n q h = q

four_pass : (a b d s : Bool) (n : ℕ) → ◌≡◌ {A = ℕ} (cond a (cond b (cond d (cond s 0 8) 5) 3) 2) 0 → (s ≡ true) × (◌≡◌ {A = ℕ} (cond a (cond b (cond d (cond s n 8) 5) 3) 2) n)
four_pass true true true true n e = (refl, refl)
four_pass true true true false n e = absurd (omega arith)
four_pass true true false s n e = absurd (omega arith)
four_pass true false d s n e = absurd (omega arith)
four_pass false b d s n e = absurd (omega arith)

-- ---- a sound part

module _ (part table : List ℕ) (rank : ℕ) (sound : part_sound part table rank ≡ true) where
  -- a tree has the same region with its neighbours as global numbers
  pub region_stored : (i : ℕ) → i < part_count part → region_of (global_tree part i) ≡ region_of (stored_tree part i)
  unfolding global_tree stored_tree
  region_stored i h =
      (renamed_alike (global_number part) (faces_in (part_dimension part)) (piece part (tree_place i) core_size)
      (piece_length part (tree_place i) core_size (omega (arith, part_length part table rank sound)))).region

  -- which is within its limit
  pub tree_region : (i : ℕ) → i < part_count part → region_of (stored_tree part i) < region_limit
  tree_region i h =
      let form = (view_trees _ _ _ _ _ _ _ (part_view part table rank sound) i h).form in
      omega (arith, region_stored i h, region_below (global_tree part i) (form_region (part_first part + i) (global_tree part i) form))

-- ---- the call

module _ (part table : List ℕ) (rank : ℕ) (out : List ℕ) {r : ℕ} (checked : r ≡ part_refusal part table rank) where
  -- a check of the part fails
  refusal-first : (r ≡ 0 → ⊥) → r ≡ regions_refusal part table rank out
  unfolding part_refusal regions_refusal first_failed rank_checks
  refusal-first h = four_fail (ranks_ok table) (valid table) (ltb rank (ranks table)) (part_sound part table rank) (cond (leb region_limit (length out)) 0 22) checked h

  pub counts_refused : (r ≡ 0 → ⊥) → (r, out) ≡ region_counts_of part table rank out
  unfolding region_counts_of written
  counts_refused h = rw (← refusal-first h, ne_eqb r 0 h)

  module _ (ok : r ≡ 0) where
    part_passes : part_sound part table rank ≡ true
    unfolding part_refusal first_failed rank_checks
    part_passes = (four_pass (ranks_ok table) (valid table) (ltb rank (ranks table)) (part_sound part table rank) 0 (sym checked ∙ ok)).0

    refusal-last : regions_refusal part table rank out ≡ cond (leb region_limit (length out)) 0 22
    unfolding part_refusal regions_refusal first_failed rank_checks
    refusal-last =
        (four_pass (ranks_ok table) (valid table) (ltb rank (ranks table)) (part_sound part table rank) (cond (leb region_limit (length out)) 0 22) (sym checked ∙ ok)).1

    -- the list is too short
    pub counts_short : length out < region_limit → (22, out) ≡ region_counts_of part table rank out
    unfolding region_counts_of written
    counts_short h = rw (refusal-last, lt-leb region_limit (length out) h)

    module _ (room : region_limit ≤ length out) where
      pub countable : Countable part out
      countable =
          record { fits = omega (arith, part_length part table rank part_passes); regions = tree_region part table rank part_passes; room = room }

      pub counts_written : {last : List ℕ} → last ≡ splice out 0 (region_counts part) → (0, last) ≡ region_counts_of part table rank out
      unfolding region_counts_of written
      counts_written e = rw (refusal-last, le-leb region_limit (length out) room, e)
