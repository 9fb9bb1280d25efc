-- The regions of what closing writes, from demand 3 alone: a list with one close more at its end says what that close writes.
use Prim.Native.Nat.{ℕ, suc, ◌+◌, ◌≤◌, ◌<◌}
use native.Mathlib.Nat.{zero-add}
use native.Mathlib.Omega.{arith}
use mathlib.Core.Path.{◌≡◌, refl, sym, ap, ◌∙◌}
use mathlib.Core.Bool.{Bool, cond}
use mathlib.Core.List.{List, [], ◌∷◌, ◌++◌}
use lib.Dec.{leb}
use lib.ListN.{length, get_or, drop}
use Rattle.encoding.specs.Answer.{length_answer, written, write_answer}
use Rattle.encoding.specs.Below.{kept_below}
use Rattle.encoding.specs.Pieces.{piece, splice, Bytes}
use Rattle.encoding.specs.declared.answer.Length.{Length}
use Rattle.encoding.proofs.Below.{either, kept_found}
use Rattle.offsets.specs.Table.{first_tree, tree_count}
use Rattle.records.specs.Shape.{faces_in}
use Rattle.records.specs.Record.{core_size, number_of, region_of}
use Rattle.mesh.specs.Mesh.{mesh_dimension, mesh_trees, mesh_core}
use Rattle.mesh.proofs.Soundness.{sound_core, sound_number}
use Rattle.part.specs.Layout.{tree_place, ghost_place, part_size}
use Rattle.part.specs.Ghosts.{is_ghost, ghosts_of, ghost_position}
use Rattle.part.specs.Cut.{local_index, ghost_count, cut_part}
use Rattle.part.specs.Part.{part_count, part_ghost_count, stored_tree, stored_ghost}
use Rattle.part.proofs.Global.{renamed_alike}
use Rattle.part_cut.proofs.Cutting.{Cuttable}
use Rattle.part_theorems.proofs.CutRead.{cut_count, cut_ghosts, cut_within, cut_tree, cut_ghost}
use Rattle.part_theorems.proofs.CutSound.{cut_sound}
use Rattle.part_theorems.proofs.SoundParts.{part_length}
use Rattle.area.specs.Close.{close_of}
use Rattle.area_theorems.proofs.Joined.{piece_first}
use Rattle.repartition.specs.Run.{Run, Setting}
use Rattle.repartition.specs.Lists.{Call, close, deliver, Answer, delivery, closing, nobody, AllBuilt, area_after, area_after_all, answer_of, answers_of, hears_all, hears, all_due, new_part, due, due_all, opened}
use Rattle.repartition.specs.Demand.{size, heard_by, close_after}
use Rattle.repartition.specs.Regions.{RegionsKept, ClosedRegions}
use Rattle.repartition.proofs.Records.{front_count, front_ghosts, front_tree}
use Rattle.repartition.proofs.Closing.{new_cuttable}
use Rattle.repartition.proofs.Demand.{demand_3}

-- ---- the records of a cut part at the front of a buffer

module _ (mesh table : List ℕ) (rank : ℕ) (ok : Cuttable mesh table rank) (mesh_bytes : Bytes mesh) (bytes : Bytes table) (rest : List ℕ) where
  abbrev part : List ℕ
  part = cut_part mesh table rank

  part_long : length part ≡ part_size (tree_count table rank) (ghost_count mesh table rank)
  part_long =
      let l : length part ≡ part_size (part_count part) (part_ghost_count part) = part_length part table rank (cut_sound mesh table rank ok mesh_bytes bytes) in
      rw (cut_count mesh table rank ok bytes, cut_ghosts mesh table rank ok bytes) at l

  tree_region : (i : ℕ) → i < tree_count table rank → region_of (stored_tree (part ++ rest) i) ≡ region_of (mesh_core mesh (first_tree table rank + i))
  unfolding stored_tree
  tree_region i h =
      let k : ℕ = first_tree table rank + i in
      ap region_of (piece_first part rest (tree_place i) core_size (omega (arith, part_long)) ∙ cut_tree mesh table rank ok bytes i h)
      ∙ (renamed_alike (local_index mesh table rank) (faces_in (mesh_dimension mesh)) (mesh_core mesh k)
      (sound_core mesh ok.mesh_sound_lem k (omega (arith, cut_within mesh table rank ok bytes)))).region

  abbrev ghost_number : ℕ → ℕ
  ghost_number j = get_or (kept_below (mesh_trees mesh) (is_ghost (mesh_core mesh) table rank)) j 0

  ghost-record : (j : ℕ) → j < ghost_count mesh table rank → stored_ghost (part ++ rest) j ≡ mesh_core mesh (ghost_number j)
  unfolding stored_ghost ghosts_of
  ghost-record j h =
      ap (λ (n : ℕ). piece (part ++ rest) (ghost_place n j) core_size) (front_count mesh table rank ok mesh_bytes bytes rest)
      ∙ (piece_first part rest (ghost_place (tree_count table rank) j) core_size (omega (arith, part_long))
      ∙ (ap (λ (n : ℕ). piece part (ghost_place n j) core_size) (sym (cut_count mesh table rank ok bytes)) ∙ cut_ghost mesh table rank ok bytes j h))

  ghost-number : (j : ℕ) → j < ghost_count mesh table rank → number_of (mesh_core mesh (ghost_number j)) ≡ ghost_number j
  unfolding ghost_count ghost_position
  ghost-number j h = sound_number mesh ok.mesh_sound_lem (ghost_number j) (kept_found (mesh_trees mesh) (is_ghost (mesh_core mesh) table rank) j 0 h).0

  front-regions : RegionsKept mesh (part ++ rest)
  front-regions =
      record {
        of_trees = λ i h.
            let l : i < tree_count table rank = rw (front_count mesh table rank ok mesh_bytes bytes rest) at h in
            tree_region i l ∙ sym (ap (λ (k : ℕ). region_of (mesh_core mesh k)) (front_tree mesh table rank ok mesh_bytes bytes rest i l));
        of_ghosts = λ j h.
            let l : j < ghost_count mesh table rank = rw (front_ghosts mesh table rank ok mesh_bytes bytes rest) at h in
            ap region_of (ghost-record j l)
            ∙ sym (ap (λ (k : ℕ). region_of (mesh_core mesh k)) (ap number_of (ghost-record j l) ∙ ghost-number j l));
      }

-- ---- one close more

last_of : Answer → List Answer → Answer
last_of d [] = d
last_of d (x ∷ xs) = last_of x xs

last_is : (d : Answer) (xs : List Answer) (y : Answer) → last_of d (xs ++ (y ∷ [])) ≡ y
unfolding last_of
last_is d [] y = refl
last_is d (x ∷ xs) y = last_is x xs y

closed : Length × List ℕ → Answer → Length × List ℕ
closed d (delivery n) = d
closed d (closing x) = x

module _ (run : Run) (out : List ℕ) where
  built-more : (cs : List Call) → AllBuilt run cs → AllBuilt run (cs ++ (close out ∷ []))
  unfolding AllBuilt
  built-more [] h = h
  built-more (deliver p q ∷ cs) h = (h.0, built-more cs h.1)
  built-more (close o ∷ cs) h = built-more cs h

  answers-more : (a : List ℕ) (cs : List Call) → answers_of run a (cs ++ (close out ∷ [])) ≡ answers_of run a cs ++ (closing (close_of (area_after_all run a cs) out) ∷ [])
  unfolding answers_of area_after_all answer_of
  answers-more a [] = refl
  answers-more a (c ∷ cs) = rw (answers-more (area_after run a c) cs)

  due-more : (H : ℕ → Bool) (cs : List Call) → due_all run H (cs ++ (close out ∷ [])) ≡ due_all run H cs ++ (due run (hears_all run H cs) (close out) ∷ [])
  unfolding due_all hears_all
  due-more H [] = refl
  due-more H (c ∷ cs) = rw (due-more (hears run H c) cs)

  module _ (S : Setting run) (b : List ℕ) (long : size run ≤ length b) (cs : List Call) (built : AllBuilt run cs) where
    close-due : closing (close_after run b cs out) ≡ due run (heard_by run cs) (close out)
    close-due =
        let D = demand_3 run S b b long long (cs ++ (close out ∷ [])) cs (built-more cs built) built in
        let e = sym (answers-more (opened run b).1 cs) ∙ (D.answers ∙ due-more nobody cs) in
        sym (last_is (delivery 0) (answers_of run (opened run b).1 cs) (closing (close_after run b cs out)))
        ∙ (ap (last_of (delivery 0)) e ∙ last_is (delivery 0) (due_all run nobody cs) (due run (heard_by run cs) (close out)))

    -- a close after the list is as the calls say
    pub close_is : close_after run b cs out
        ≡ write_answer (cond (all_due run (heard_by run cs)) (cond (leb (length (new_part run)) (length out)) 0 22) 20) (new_part run) out
    unfolding due closed
    close_is = ap (closed (close_after run b cs out)) close-due

    -- an accepted close writes the new table's part
    close-writes : (close_after run b cs out).0.refusal ≡ 0 → (close_after run b cs out).1 ≡ new_part run ++ drop (length (new_part run)) out
    unfolding write_answer length_answer written splice
    close-writes e =
        either (all_due run (heard_by run cs))
        (λ t. either (leb (length (new_part run)) (length out))
        (λ u. ap (λ (x : Length × List ℕ). x.1) close_is ∙ rw (t, u) (ap (λ (m : ℕ). new_part run ++ drop m out) (zero-add (length (new_part run)))))
        (λ u. absurd (no_zero 21 (sym (ap (λ (x : Length × List ℕ). x.0.refusal) close_is ∙ rw (t, u)) ∙ e))))
        (λ t. absurd (no_zero 19 (sym (ap (λ (x : Length × List ℕ). x.0.refusal) close_is ∙ rw t) ∙ e)))
      where
        no_zero : (n : ℕ) → suc n ≡ 0 → ⊥
        no_zero n e = omega arith

pub closed_regions : ClosedRegions
closed_regions run S b long cs built out e =
    rw (close-writes run out S b long cs built e)
    (front-regions run.mesh run.new run.rank (new_cuttable run S) S.mesh_bytes S.tables.new_bytes (drop (length (new_part run)) out))
