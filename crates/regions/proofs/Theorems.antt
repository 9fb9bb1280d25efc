-- The counts sum to n, and the regions of a cut part are the mesh's.
use Prim.Native.Nat.{ℕ, ◌+◌, ◌<◌}
use native.Mathlib.Nat.{le_refl}
use native.Mathlib.Omega.{arith}
use mathlib.Core.Path.{◌≡◌, refl, sym, ap, ◌∙◌}
use mathlib.Core.Bool.{Bool, true, false, cond}
use mathlib.Core.List.{List}
use lib.Dec.{eqb, leb, ltb}
use lib.ListN.{length, get_or}
use borrow.Author.Tests.{eqb-true, leb-true, lt-ltb}
use Rattle.encoding.specs.Answer.{length_answer, written}
use Rattle.encoding.specs.Below.{sum_below}
use Rattle.encoding.specs.Pieces.{Bytes}
use Rattle.encoding.specs.Refusal.{first_failed}
use Rattle.encoding.proofs.Below.{either, sum_same, count_initial, count_by_value}
use Rattle.offsets.specs.Table.{ranks, ranks_ok, valid, first_tree, tree_count}
use Rattle.records.specs.Record.{region_limit, region_of}
use Rattle.records.specs.Shape.{faces_in}
use Rattle.records.proofs.Forms.{form_region, region_below}
use Rattle.mesh.specs.Mesh.{mesh_dimension, mesh_core}
use Rattle.mesh.proofs.Soundness.{sound_core}
use Rattle.part.specs.Cut.{local_index, cut_part}
use Rattle.part.specs.Part.{part_count, part_core, stored_tree, part_sound}
use Rattle.part.specs.Checks.{rank_checks}
use Rattle.part.proofs.Global.{renamed_alike}
use Rattle.part_check.specs.Calls.{part_refusal}
use Rattle.part_cut.specs.Calls.{cut_checks, part_length_of}
use Rattle.part_cut.proofs.Cutting.{Cuttable, cuttable}
use Rattle.part_theorems.proofs.CutRead.{cut_tree, cut_ghost, cut_within}
use Rattle.part_theorems.proofs.CutSound.{cut_core}
use Rattle.part_theorems.proofs.SoundParts.{part_header_lem, part_form}
use Rattle.regions.specs.Counts.{region_count, region_counts}
use Rattle.regions.specs.Calls.{regions_refusal, region_counts_of}
use Rattle.regions.specs.Theorems.{CountsSum, RegionsWithin, RegionsOfMesh, CutRegions}
use Rattle.regions.proofs.Counting.{written_at}
use Rattle.regions.proofs.Answers.{tree_region}

-- ---- the counts sum to n

-- five checks that pass
five_pass : (a b d s l : Bool) → ◌≡◌ {A = ℕ} (cond a (cond b (cond d (cond s (cond l 0 22) 8) 5) 3) 2) 0 → (s ≡ true) × (l ≡ true)
five_pass true true true true true e = (refl, refl)
five_pass true true true true false e = absurd (omega arith)
five_pass true true true false l e = absurd (omega arith)
five_pass true true false s l e = absurd (omega arith)
five_pass true false d s l e = absurd (omega arith)
five_pass false b d s l e = absurd (omega arith)

module _ (part table : List ℕ) (rank : ℕ) (out : List ℕ) where
  accepted : regions_refusal part table rank out ≡ 0 → (part_sound part table rank ≡ true) × (leb region_limit (length out) ≡ true)
  unfolding regions_refusal first_failed rank_checks
  accepted e = five_pass (ranks_ok table) (valid table) (ltb rank (ranks table)) (part_sound part table rank) (leb region_limit (length out)) e

  -- each tree is counted once
  counts_all : part_sound part table rank ≡ true → sum_below region_limit (region_count part) ≡ tree_count table rank
  unfolding region_count
  counts_all s =
      sym (count_by_value (part_count part) region_limit (λ i. true) (λ i. region_of (stored_tree part i)) (tree_region part table rank s))
      ∙ (count_initial (part_count part) (λ i. true) (part_count part) (le_refl (part_count part)) (λ i h. refl) (λ i l h. absurd (omega arith))
      ∙ (part_header_lem part table rank s).tree_count_lem)

  -- entry b of the list written
  entry-written : regions_refusal part table rank out ≡ 0 → (b : ℕ) → b < region_limit → get_or (region_counts_of part table rank out).1 b 0 ≡ region_count part b
  unfolding region_counts_of written region_counts
  entry-written e b h =
      rw e (written_at out region_limit (region_count part) (leb-true _ _ (accepted e).1) b ∙ rw (lt-ltb b region_limit h))

  counts-sum-at : (region_counts_of part table rank out).0 ≡ 0 → sum_below region_limit (λ b. get_or (region_counts_of part table rank out).1 b 0) ≡ tree_count table rank
  unfolding region_counts_of
  counts-sum-at e =
      sum_same region_limit (λ b. get_or (region_counts_of part table rank out).1 b 0) (region_count part) (entry-written e) ∙ counts_all (accepted e).0

pub counts_sum : CountsSum
counts_sum part table rank out e = counts-sum-at part table rank out e

-- ---- within the limit

four_sound : (a b d s : Bool) → ◌≡◌ {A = ℕ} (cond a (cond b (cond d (cond s 0 8) 5) 3) 2) 0 → s ≡ true
four_sound true true true true e = refl
four_sound true true true false e = absurd (omega arith)
four_sound true true false s e = absurd (omega arith)
four_sound true false d s e = absurd (omega arith)
four_sound false b d s e = absurd (omega arith)

part_accepted : (part table : List ℕ) (rank : ℕ) → part_refusal part table rank ≡ 0 → part_sound part table rank ≡ true
unfolding part_refusal first_failed rank_checks
part_accepted part table rank e = four_sound (ranks_ok table) (valid table) (ltb rank (ranks table)) (part_sound part table rank) e

pub regions_within : RegionsWithin
regions_within part table rank e k has =
    region_below (part_core part k) (form_region k (part_core part k) (part_form part table rank (part_accepted part table rank e) k has))

-- ---- the regions of a cut part

answer_zero : (r n : ℕ) → (length_answer r n).refusal ≡ 0 → r ≡ 0
unfolding length_answer
answer_zero r n e = either (eqb r 0) (λ p. eqb-true r 0 p) (λ p. rw p at e)

module _ (mesh table : List ℕ) (rank : ℕ) (ok : Cuttable mesh table rank) (mesh_bytes : Bytes mesh) (bytes : Bytes table) where
  pub regions_of_mesh : RegionsOfMesh mesh table rank
  regions_of_mesh =
      record {
        of_trees =
            λ i h. ap region_of (cut_tree mesh table rank ok bytes i h)
            ∙ (renamed_alike (local_index mesh table rank) (faces_in (mesh_dimension mesh)) (mesh_core mesh (first_tree table rank + i))
            (sound_core mesh ok.mesh_sound_lem (first_tree table rank + i) (omega (arith, cut_within mesh table rank ok bytes)))).region;
        of_ghosts = λ j h. ap region_of (cut_ghost mesh table rank ok bytes j h);
        of_held = λ k h. ap region_of (cut_core mesh table rank ok mesh_bytes bytes k h);
      }

cut_cuttable : (mesh table : List ℕ) (rank : ℕ) → (part_length_of mesh table rank).refusal ≡ 0 → Cuttable mesh table rank
unfolding part_length_of
cut_cuttable mesh table rank e = cuttable mesh table rank (answer_zero (first_failed (cut_checks mesh table rank)) (length (cut_part mesh table rank)) e)

pub cut_regions : CutRegions
cut_regions mesh table rank mesh_bytes bytes e = regions_of_mesh mesh table rank (cut_cuttable mesh table rank e) mesh_bytes bytes
