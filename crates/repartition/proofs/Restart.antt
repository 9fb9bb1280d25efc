-- Restart on another number of ranks, from demand 3 alone.
use Prim.Native.Nat.{ℕ, ◌+◌, ◌≤◌, ◌<◌}
use native.Mathlib.Omega.{arith}
use mathlib.Core.Path.{◌≡◌, refl, sym, ap, ◌∙◌}
use mathlib.Core.Bool.{true, cond}
use mathlib.Core.List.{List}
use mathlib.Core.Logic.{◌⊎◌, inl, inr}
use lib.Dec.{leb, eqb}
use lib.ListN.{length, take, drop}
use lib.Seq.{take_at}
use borrow.Author.Tests.{eq-eqb}
use Rattle.encoding.specs.Answer.{length_answer, written, write_answer}
use Rattle.encoding.specs.Pieces.{splice, Bytes}
use Rattle.encoding.proofs.Below.{either, clash}
use Rattle.offsets.specs.Table.{ranks}
use Rattle.mesh.specs.Mesh.{dimension_ok, mesh_dimension}
use Rattle.mesh.proofs.Soundness.{sound_dimension}
use Rattle.part.specs.Cut.{cut_part}
use Rattle.part.specs.Means.{RankKnown}
use Rattle.part.specs.Part.{part_sound}
use Rattle.part_cut.proofs.Cutting.{Cuttable}
use Rattle.part_theorems.proofs.CutSound.{cut_sound}
use Rattle.restart.specs.Restart.{padded_table, same_trees}
use Rattle.restart.specs.Calls.{empty_part_of, relabel_part}
use Rattle.restart.specs.Theorems.{Padded, Relabels}
use Rattle.restart.proofs.Checks.{PadKnown, pad_known}
use Rattle.restart.proofs.Padding.{pads_tables}
use Rattle.restart.proofs.Empty.{empty_parts}
use Rattle.restart.proofs.Relabelling.{relabels_parts}
use Rattle.restart.proofs.Writing.{part_long, relabelled_length}
use Rattle.restart.proofs.Accepted.{pair_accepted, relabel_accepted, empty_none, empty_accepted, padded_rank, padded_same, same_padded, padded_bytes}
use Rattle.repartition.specs.Run.{Run, Setting}
use Rattle.repartition.specs.Lists.{Call, AllBuilt, all_due}
use Rattle.repartition.specs.Demand.{size, heard_by, close_after}
use Rattle.repartition.specs.Restart.{padded_run, Restartable, closed_part, Restarts}
use Rattle.repartition.proofs.Regions.{close_is}

-- ---- a call that wrote an object

-- its buffer begins with the object
written_front : (r : ℕ) (object out : List ℕ) → (write_answer r object out).0.refusal ≡ 0 → take (write_answer r object out).0.length (write_answer r object out).1 ≡ object
unfolding write_answer length_answer written splice
written_front r object out e =
    either (eqb r 0)
    (λ z. rw z (take_at object (drop (0 + length object) out) (length object) refl))
    (λ z. clash (eq-eqb r 0 (rw z at e)) z)

dimension_of_lem : (d : ℕ) → (d ≡ 2) ⊎ (d ≡ 3) → dimension_ok d ≡ true
unfolding dimension_ok
dimension_of_lem d (inl e) = rw e
dimension_of_lem d (inr e) = rw e

-- a part under another table and rank, where it is sound for the first
module _ (mesh t : List ℕ) (p : ℕ) (o : List ℕ) (q : ℕ) (mesh_bytes : Bytes mesh) (t-bytes : Bytes t) (o-bytes : Bytes o) (cut : Cuttable mesh t p) (there : RankKnown o q) (same : same_trees t p o q ≡ true) where
  here : RankKnown t p
  here = record { counted = cut.table_ranks; checked = cut.table_valid; below = cut.rank_below }

  sound : part_sound (cut_part mesh t p) t p ≡ true
  sound = cut_sound mesh t p cut mesh_bytes t-bytes

  relabels : Relabels t p o q
  relabels = relabels_parts t p o q t-bytes o-bytes (pair_accepted t p o q here there) same

  moved : (out : List ℕ) → relabel_part (cut_part mesh t p) t p o q out ≡ write_answer (cond (leb (length (cut_part mesh t p)) (length out)) 0 22) (cut_part mesh o q) out
  moved out =
      relabel_accepted (cut_part mesh t p) t p o q out here there sound same
      ∙ ap (λ (object : List ℕ). write_answer (cond (leb (length (cut_part mesh t p)) (length out)) 0 22) object out) (relabels.cuts mesh)

  as_long : length (cut_part mesh t p) ≡ length (cut_part mesh o q)
  as_long = sym (relabelled_length (cut_part mesh t p) o q (part_long (cut_part mesh t p) t p sound)) ∙ ap length (relabels.cuts mesh)

module _ (mesh old new : List ℕ) (M rank epoch : ℕ) (R : Restartable mesh old new M rank epoch) where
  abbrev run : Run
  run = padded_run mesh old new M rank epoch

  old-padded : Padded old M
  old-padded = pads_tables old M R.old_bytes R.old_pads

  new-padded : Padded new M
  new-padded = pads_tables new M R.new_bytes R.new_pads

  old-known : PadKnown old M
  old-known = pad_known old M R.old_pads

  new-known : PadKnown new M
  new-known = pad_known new M R.new_pads

  setting : Setting run
  setting =
      record {
        tables =
            record {
              old_bytes = padded_bytes old M;
              new_bytes = padded_bytes new M;
              old_ranks = old-padded.counted;
              new_ranks = new-padded.counted;
              old_valid = old-padded.checked;
              new_valid = new-padded.checked;
              same_ranks = new-padded.many ∙ sym old-padded.many;
              same_trees = new-padded.same_k ∙ sym R.new_trees ∙ R.old_trees ∙ sym old-padded.same_k;
            };
        rank_below = omega (arith, R.padded_below, old-padded.many);
        mesh_bytes = R.mesh_bytes;
        mesh_sound_lem = R.mesh_sound_lem;
        same_trees_lem = R.old_trees ∙ sym old-padded.same_k;
        epoch_word = R.epoch_word;
      }

  -- the ranks of a table and of the padded one
  old-cut : (p : ℕ) → p < ranks old → Cuttable mesh old p
  old-cut p h = record { table_ranks = old-known.is_table.counted; table_valid = old-known.is_table.checked; rank_below = h; mesh_sound_lem = R.mesh_sound_lem; same_trees_lem = R.old_trees }

  new-cut : Cuttable mesh (padded_table new M) rank
  new-cut =
      record {
        table_ranks = new-padded.counted;
        table_valid = new-padded.checked;
        rank_below = omega (arith, R.padded_below, new-padded.many);
        mesh_sound_lem = R.mesh_sound_lem;
        same_trees_lem = R.new_trees ∙ sym new-padded.same_k;
      }

  new-rank : RankKnown new rank
  new-rank = record { counted = new-known.is_table.counted; checked = new-known.is_table.checked; below = R.rank_below }

  begins : (p : ℕ) → p < ranks old → p < M → (out : List ℕ)
      → relabel_part (cut_part mesh old p) old p (padded_table old M) p out
      ≡ write_answer (cond (leb (length (cut_part mesh old p)) (length out)) 0 22) (cut_part mesh (padded_table old M) p) out
  begins p h l out =
      moved mesh old p (padded_table old M) p R.mesh_bytes R.old_bytes (padded_bytes old M) (old-cut p h) (padded_rank old-padded l) (same_padded old-padded h l) out

  dimension_ok_lem : dimension_ok (mesh_dimension mesh) ≡ true
  dimension_ok_lem = dimension_of_lem (mesh_dimension mesh) (sound_dimension mesh R.mesh_sound_lem)

  fills : (p : ℕ) → ranks old ≤ p → p < M → (out : List ℕ)
      → empty_part_of (padded_table old M) p (mesh_dimension mesh) out ≡ write_answer (cond (leb 32 (length out)) 0 22) (cut_part mesh (padded_table old M) p) out
  fills p h l out =
      let k : RankKnown (padded_table old M) p = padded_rank old-padded l in
      let z = old-padded.new_counts p h l in
      let e = empty_parts (padded_table old M) p (mesh_dimension mesh) (padded_bytes old M) (empty_none (padded_table old M) p (mesh_dimension mesh) k dimension_ok_lem z) in
      empty_accepted (padded_table old M) p (mesh_dimension mesh) out k dimension_ok_lem z
      ∙ ap (λ (object : List ℕ). write_answer (cond (leb 32 (length out)) 0 22) object out) (sym (e.cut mesh (R.old_trees ∙ sym old-padded.same_k) refl))

  module _ (b : List ℕ) (long : size run ≤ length b) (cs : List Call) (built : AllBuilt run cs) (closed : List ℕ) (ok : (close_after run b cs closed).0.refusal ≡ 0) where
    -- the close wrote the cut under the padded new table
    close-cut : closed_part mesh old new M rank epoch b cs closed ≡ cut_part mesh (padded_table new M) rank
    close-cut =
        let r : ℕ = cond (all_due run (heard_by run cs)) (cond (leb (length (cut_part mesh (padded_table new M) rank)) (length closed)) 0 22) 20 in
        let e = close_is run closed setting b long cs built in
        rw e (written_front r (cut_part mesh (padded_table new M) rank) closed (rw e at ok))

    ends : (out : List ℕ)
        → relabel_part (closed_part mesh old new M rank epoch b cs closed) (padded_table new M) rank new rank out
        ≡ write_answer (cond (leb (length (cut_part mesh new rank)) (length out)) 0 22) (cut_part mesh new rank) out
    ends out =
        let same = padded_same new-padded R.rank_below R.padded_below in
        ap (λ (part : List ℕ). relabel_part part (padded_table new M) rank new rank out) close-cut
        ∙ moved mesh (padded_table new M) rank new rank R.mesh_bytes (padded_bytes new M) R.new_bytes new-cut new-rank same out
        ∙ ap (λ (n : ℕ). write_answer (cond (leb n (length out)) 0 22) (cut_part mesh new rank) out)
        (as_long mesh (padded_table new M) rank new rank R.mesh_bytes (padded_bytes new M) R.new_bytes new-cut new-rank same)

pub restarts : Restarts
restarts mesh old new M rank epoch R =
    record {
      setting = setting mesh old new M rank epoch R;
      begins = begins mesh old new M rank epoch R;
      fills = fills mesh old new M rank epoch R;
      ends = ends mesh old new M rank epoch R;
    }
