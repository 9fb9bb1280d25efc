-- Document 01's examples in one theorem, and demand 3 applied to the three triangles.
use Prim.Native.Nat.{ℕ, ◌+◌, ◌<◌}
use native.Mathlib.Omega.{arith}
use mathlib.Core.Path.{◌≡◌, refl, ◌∙◌}
use mathlib.Core.Bool.{true, false, cond, ◌&&◌}
use mathlib.Core.List.{List, [], ◌∷◌, ◌++◌, map}
use lib.Dec.{leb, ltb, eqb}
use lib.ListN.{length, get_or, replicate, get_or-eq_default}
use borrow.Author.Tests.{ltb-true, leb-true}
use Rattle.encoding.specs.Answer.{length_answer, written, write_answer}
use Rattle.encoding.specs.Below.{all_below, any_below, count_below, kept_below, least_below, sum_below}
use Rattle.encoding.specs.Numbers.{le_value, le_bytes, le_at}
use Rattle.encoding.specs.Pieces.{piece, splice, Bytes}
use Rattle.encoding.specs.Refusal.{check, first_failed}
use Rattle.encoding.specs.declared.answer.Length.{Length}
use Rattle.encoding.proofs.Below.{either, tests, all_at}
use Rattle.offsets.specs.Limits.{rank_count_ok, tree_count_ok}
use Rattle.offsets.specs.Table.{ranks, ranks_ok, entry, negative, magnitude, first_of, trees, first_tree, end_tree, tree_count, holds, entries_within, counts_ok, valid, table_bytes}
use Rattle.offsets_write.specs.Partition.{non_empty, on_rank, last_tree, covers_all, covers_only, ascending, valid_partition, ranges_fit, end_below, entry_of, entries_below, table_of}
use Rattle.leaf_shares.specs.Leaves.{leaves_ok, leaf_start, leaf_total, cut, leaf_holds, leaf_first, leaf_count, equal_shares, leaf_table}
use Rattle.offsets.specs.Calls.{table_refusal, range_refusal, range_answer, table_range}
use Rattle.offsets_write.specs.Calls.{partition_ok, write_refusal, write_table}
use Rattle.leaves.specs.Calls.{leaves_refusal, table_from_leaves}
use Rattle.pattern.specs.Sender.{distance, nearest, sender, sends, sent_first, sent_count, Tables}
use Rattle.pattern.specs.Sets.{sends_to, gets_from}
use Rattle.records.specs.Shape.{shape_ok, dimension_of, face_count, faces_in, corners_of, corners}
use Rattle.records.specs.Record.{number_of, shape_of, neighbour_of, code_of, faces_of, face_of, orientation_of, region_of, region_ok, zeros_ok, unused_ok, to_itself, boundary_ok, in_form}
use Rattle.records.specs.Links.{row_of, rows_of, neighbour_bytes, code_bytes, with_rows}
use Rattle.mesh.specs.Link.{orientation_ok, same_corners, answered, link_ok}
use Rattle.mesh.specs.Mesh.{mesh_dimension, mesh_trees, dimension_ok, mesh_core, mesh_record, face_sound, tree_sound, header_sound, mesh_sound, mesh_refusal}
use Rattle.part.specs.Layout.{header_bytes}
use Rattle.part.specs.Ghosts.{is_ghost, ghosts_of, ghost_position}
use Rattle.part.specs.Cut.{rename_row, renamed, local_index, part_tree, part_trees, cores_of, part_ghosts, ghost_count, cut_part}
use Rattle.part.specs.Checks.{rank_checks}
use Rattle.part_cut.specs.Calls.{cut_checks, cut_part_of}
use Rattle.message.specs.Layout.{message_header_bytes}
use Rattle.message.specs.Rule.{sends_beside, considers, sends_ghost, trees_from, ghost_goes, ghosts_going, rule_message}
use Rattle.message.specs.Means.{mesh_message}
use Rattle.area.specs.Layout.{heard_words, ghost_bound, new_place, words_place, slots_place, ghost_slots_place, area_size}
use Rattle.repartition.specs.Run.{Setting}
use Rattle.repartition.specs.Demand.{size, heard_by, TwoLists}
use Rattle.repartition.specs.Lists.{nobody, Built, AllBuilt, hears, hears_all, all_due, due, due_all}
use Rattle.repartition.specs.Examples.{accepted, refused, minus, header, nine_tables, shared_table, words, core_bytes, tree_bytes, triangle, three, triangles, old_three, new_three, builds, part_two, part_one, solids, Examples, run_one, seven_calls, seven_answers, two_calls, SevenCalls}
use Rattle.repartition.proofs.Building.{message_of_lem, build_answer}
use Rattle.repartition.proofs.Demand.{demand_3}

-- ---- tables, by computation

the_tables : map table_refusal nine_tables ≡ 0 ∷ 0 ∷ 0 ∷ 0 ∷ 0 ∷ 3 ∷ 3 ∷ 3 ∷ 3 ∷ []
unfolding nine_tables table_refusal first_failed table_bytes le_bytes ranks_ok rank_count_ok ranks valid entry le_at piece le_value tree_count_ok trees entries_within counts_ok all_below magnitude negative first_of first_tree end_tree
the_tables = refl

the_shared : (table_range shared_table 0 ≡ range_answer 0 0 3) × (table_range shared_table 1 ≡ range_answer 0 3 0) × (table_range shared_table 2 ≡ range_answer 0 2 3)
unfolding shared_table table_range range_refusal range_answer tree_count first_failed table_bytes le_bytes ranks_ok rank_count_ok ranks valid entry le_at piece le_value tree_count_ok trees entries_within counts_ok all_below magnitude negative first_of first_tree end_tree
the_shared = (refl, refl, refl)

the_written : write_table 3 (0 ∷ 77 ∷ 2 ∷ []) (3 ∷ 0 ∷ 3 ∷ []) (replicate 40 9) ≡ accepted shared_table (replicate 8 9)
unfolding shared_table write_table write_refusal partition_ok ranges_fit valid_partition covers_all covers_only ascending last_tree on_rank non_empty end_below entry_of entries_below table_of write_answer length_answer written splice first_failed rank_count_ok tree_count_ok all_below any_below table_bytes le_bytes
the_written = refl

the_leaves : (table_from_leaves 3 (4 ∷ 4 ∷ []) (replicate 32 9) ≡ accepted (table_bytes (0 ∷ minus 1 ∷ minus 2 ∷ 2 ∷ [])) []) × (table_from_leaves 3 (1 ∷ 1 ∷ []) (replicate 32 9) ≡ accepted (table_bytes (0 ∷ 1 ∷ 2 ∷ 2 ∷ [])) [])
unfolding table_from_leaves leaves_refusal leaves_ok leaf_table table_of entries_below entry_of end_below non_empty leaf_first leaf_count leaf_holds equal_shares cut leaf_total leaf_start write_answer length_answer written splice first_failed rank_count_ok tree_count_ok all_below sum_below least_below count_below any_below table_bytes le_bytes
the_leaves = (refl, refl)

-- ---- meshes and a part, by computation

the_meshes : (mesh_sound triangles ≡ true) × (mesh_sound (solids 2) ≡ true) × (mesh_sound (solids 1) ≡ false)
unfolding mesh_sound header_sound mesh_dimension mesh_trees dimension_ok tree_count_ok mesh_core tree_sound face_sound link_ok orientation_ok same_corners answered shape_ok dimension_of face_count faces_in corners_of corners number_of shape_of neighbour_of code_of faces_of face_of orientation_of region_of region_ok zeros_ok unused_ok to_itself boundary_ok in_form all_below le_at le_value le_bytes piece words core_bytes tree_bytes triangle three triangles solids
the_meshes = (refl, refl, refl)

the_refusals : (mesh_refusal triangles ≡ 0) × (mesh_refusal (solids 2) ≡ 0) × (mesh_refusal (solids 1) ≡ 7)
unfolding mesh_refusal first_failed
the_refusals = (rw the_meshes.0, rw the_meshes.1, rw the_meshes.2)

the_parts : (cut_part triangles new_three 2 ≡ part_two) × (cut_part triangles new_three 1 ≡ part_one)
unfolding cut_part header_bytes part_trees part_tree part_ghosts cores_of ghosts_of kept_below ghost_count ghost_position local_index renamed rename_row row_of rows_of neighbour_bytes code_bytes with_rows is_ghost mesh_dimension mesh_trees mesh_core mesh_record face_count faces_in number_of shape_of neighbour_of code_of tree_count holds first_tree end_tree first_of magnitude negative trees ranks entry any_below count_below splice le_at piece le_value table_bytes le_bytes words core_bytes tree_bytes triangle three triangles new_three part_two part_one
the_parts = (refl, refl)

part_answer : write_answer (first_failed (check (ranks_ok new_three) 2 ∷ check (valid new_three) 3 ∷ check (ltb 2 (ranks new_three)) 5 ∷ check (true && eqb (mesh_trees triangles) (trees new_three)) 7
    ∷ check (leb (length part_two) 200) 22 ∷ [])) part_two (replicate 200 9) ≡ accepted part_two (replicate 24 9)
unfolding write_answer length_answer written splice first_failed mesh_trees ranks_ok rank_count_ok ranks valid entry le_at piece le_value tree_count_ok trees entries_within counts_ok all_below magnitude negative first_of first_tree end_tree table_bytes le_bytes words core_bytes tree_bytes triangle three triangles new_three part_two
part_answer = refl

the_part : cut_part_of triangles new_three 2 (replicate 200 9) ≡ accepted part_two (replicate 24 9)
unfolding cut_part_of cut_checks rank_checks
the_part = rw (the_parts.0, the_meshes.0) part_answer

-- ---- the run

-- bytes, by looking at each
checked_bytes : (bs : List ℕ) → all_below (length bs) (λ i. ltb (get_or bs i 0) 256) ≡ true → Bytes bs
checked_bytes bs e i =
    either (ltb i (length bs))
    (λ h. ltb-true _ _ (all_at (length bs) (λ i. ltb (get_or bs i 0) 256) e i (ltb-true i (length bs) h)))
    (λ h. let z : get_or bs i 0 ≡ 0 = get_or-eq_default bs 0 {n = i} (omega tests) in omega arith)

old_bytes : all_below (length old_three) (λ i. ltb (get_or old_three i 0) 256) ≡ true
unfolding old_three all_below table_bytes le_bytes
old_bytes = refl

new_bytes : all_below (length new_three) (λ i. ltb (get_or new_three i 0) 256) ≡ true
unfolding new_three all_below table_bytes le_bytes
new_bytes = refl

mesh_bytes : all_below (length triangles) (λ i. ltb (get_or triangles i 0) 256) ≡ true
unfolding triangles three triangle tree_bytes core_bytes words all_below le_bytes
mesh_bytes = refl

three_tables : Tables old_three new_three
unfolding old_three new_three ranks_ok rank_count_ok ranks valid entry le_at piece le_value tree_count_ok trees entries_within counts_ok all_below magnitude negative first_of first_tree end_tree table_bytes le_bytes
three_tables =
    record {
      old_bytes = checked_bytes old_three old_bytes;
      new_bytes = checked_bytes new_three new_bytes;
      old_ranks = refl;
      new_ranks = refl;
      old_valid = refl;
      new_valid = refl;
      same_ranks = refl;
      same_trees = refl;
    }

three_mesh : mesh_trees triangles ≡ trees old_three
unfolding mesh_trees triangles three triangle tree_bytes core_bytes words old_three trees ranks entry le_at piece le_value table_bytes le_bytes
three_mesh = refl

three_ranks : ranks old_three ≡ 3
unfolding old_three ranks table_bytes le_bytes
three_ranks = refl

setting : Setting run_one
unfolding run_one
setting =
    record {
      tables = three_tables;
      rank_below = omega (arith, three_ranks);
      mesh_bytes = checked_bytes triangles mesh_bytes;
      mesh_sound_lem = the_meshes.0;
      same_trees_lem = three_mesh;
      epoch_word = leb-true 8 4294967296 refl;
    }

-- ---- messages

-- the build call's answer, over the rule applied to the mesh
the_build : (p q : ℕ) → p < 3 → q < 3 → builds p q
    ≡ write_answer (cond (sends_to old_three new_three p q) (cond (leb (length (mesh_message triangles old_three new_three p q 7)) 250) 0 22) 9) (mesh_message triangles old_three new_three p q 7) (replicate 250 9)
unfolding builds run_one
the_build p q l h =
    let a : p < ranks old_three = omega (arith, three_ranks) in
    let b : q < ranks old_three = omega (arith, three_ranks) in
    build_answer run_one setting p q a b (replicate 250 9) ∙ rw (message_of_lem run_one setting p q a b)

unfolded : (p q : ℕ) → leb (p + 1) 3 ≡ true → leb (q + 1) 3 ≡ true → (x : Length × List ℕ)
    → write_answer (cond (sends_to old_three new_three p q) (cond (leb (length (mesh_message triangles old_three new_three p q 7)) 250) 0 22) 9) (mesh_message triangles old_three new_three p q 7) (replicate 250 9) ≡ x
    → builds p q ≡ x
unfolded p q l h x e = the_build p q (omega (arith, leb-true (p + 1) 3 l)) (omega (arith, leb-true (q + 1) 3 h)) ∙ e

-- 0 to 0, 0 to 1, 1 to 1, 1 to 2
the_messages : (builds 0 0 ≡ accepted (header 0 0 1 2 ++ (tree_bytes (three 0) 10 ++ (three 1 ++ three 2))) (replicate 74 9))
    × (builds 0 1 ≡ accepted (header 0 1 1 0 ++ tree_bytes (three 0) 10) (replicate 154 9))
    × (builds 1 1 ≡ accepted (header 1 1 1 1 ++ (tree_bytes (three 1) 11 ++ three 2)) (replicate 114 9))
    × (builds 1 2 ≡ accepted (header 1 2 1 2 ++ (tree_bytes (three 2) 12 ++ (three 0 ++ three 1))) (replicate 74 9))
unfolding mesh_message rule_message message_header_bytes trees_from ghost_goes ghosts_going sends_ghost considers sends_beside is_ghost sent_first sent_count sends_to sends sender nearest distance all_below write_answer length_answer written splice mesh_dimension mesh_trees mesh_core mesh_record face_count shape_of neighbour_of holds first_tree end_tree first_of magnitude negative trees ranks entry any_below count_below least_below le_at piece le_value table_bytes le_bytes words core_bytes tree_bytes triangle three triangles old_three new_three
the_messages = (unfolded 0 0 refl refl _ refl, unfolded 0 1 refl refl _ refl, unfolded 1 1 refl refl _ refl, unfolded 1 2 refl refl _ refl)

-- and no other
no_message : (p q : ℕ) → leb (p + 1) 3 ≡ true → leb (q + 1) 3 ≡ true → sends_to old_three new_three p q ≡ false → builds p q ≡ refused 9 (replicate 250 9)
unfolding write_answer length_answer written
no_message p q l h e = unfolded p q l h _ (rw e)

no_trees : (sends_to old_three new_three 0 2 ≡ false) × (sends_to old_three new_three 1 0 ≡ false) × (sends_to old_three new_three 2 0 ≡ false) × (sends_to old_three new_three 2 1 ≡ false) × (sends_to old_three new_three 2 2 ≡ false)
unfolding sends_to old_three new_three any_below least_below sender nearest distance all_below holds first_tree end_tree first_of magnitude negative trees ranks entry le_at piece le_value table_bytes le_bytes
no_trees = (refl, refl, refl, refl, refl)

-- document 01's examples
pub examples : Examples
examples =
    record {
      tables = the_tables;
      shared_0 = the_shared.0;
      shared_1 = the_shared.1;
      shared_2 = the_shared.2;
      shared_written = the_written;
      leaves_4_4 = the_leaves.0;
      leaves_1_1 = the_leaves.1;
      triangles_sound = the_refusals.0;
      solids_sound = the_refusals.1;
      solids_unsound = the_refusals.2;
      part_2 = the_part;
      message_0_0 = the_messages.0;
      message_0_1 = the_messages.1;
      message_1_1 = the_messages.2;
      message_1_2 = the_messages.3;
      message_0_2 = no_message 0 2 refl refl no_trees.0;
      message_1_0 = no_message 1 0 refl refl no_trees.1;
      message_2_0 = no_message 2 0 refl refl no_trees.2;
      message_2_1 = no_message 2 1 refl refl no_trees.3;
      message_2_2 = no_message 2 2 refl refl no_trees.4;
    }

-- ---- demand 3 on the triangles

built_00 : Built run_one 0 0
unfolding run_one sends_to old_three new_three any_below least_below sender nearest distance all_below holds first_tree end_tree first_of magnitude negative trees ranks entry le_at piece le_value table_bytes le_bytes
built_00 = record { sender_below = leb-true 1 3 refl; receiver_below = leb-true 1 3 refl; sends_tree = refl }

built_01 : Built run_one 0 1
unfolding run_one sends_to old_three new_three any_below least_below sender nearest distance all_below holds first_tree end_tree first_of magnitude negative trees ranks entry le_at piece le_value table_bytes le_bytes
built_01 = record { sender_below = leb-true 1 3 refl; receiver_below = leb-true 2 3 refl; sends_tree = refl }

built_11 : Built run_one 1 1
unfolding run_one sends_to old_three new_three any_below least_below sender nearest distance all_below holds first_tree end_tree first_of magnitude negative trees ranks entry le_at piece le_value table_bytes le_bytes
built_11 = record { sender_below = leb-true 2 3 refl; receiver_below = leb-true 2 3 refl; sends_tree = refl }

seven_built : AllBuilt run_one seven_calls
unfolding AllBuilt seven_calls
seven_built = (built_11, (built_00, (built_11, (built_01, tt))))

two_built : AllBuilt run_one two_calls
unfolding AllBuilt two_calls
two_built = (built_01, (built_11, tt))

-- the area has 672 bytes
size_is : size run_one ≡ 672
unfolding run_one mesh_dimension triangles three triangle tree_bytes core_bytes words area_size ghost_slots_place slots_place words_place new_place heard_words ghost_bound faces_in tree_count old_three new_three ranks entry le_at piece le_value trees magnitude negative first_of first_tree end_tree table_bytes le_bytes
size_is = refl

-- ranks 0 and 1 are heard by both lists
same_heard : (s : ℕ) → heard_by run_one seven_calls s ≡ heard_by run_one two_calls s
unfolding run_one seven_calls two_calls hears_all hears nobody
same_heard s =
    either (eqb s 0)
    (λ e. either (eqb s 1) (λ f. rw (e, f)) (λ f. rw (e, f)))
    (λ e. either (eqb s 1) (λ f. rw (e, f)) (λ f. rw (e, f)))

-- what the calls alone say
seven_due : due_all run_one nobody seven_calls ≡ seven_answers
unfolding run_one seven_calls seven_answers due_all due hears nobody all_due gets_from sender nearest distance write_answer length_answer written all_below least_below old_three cut_part header_bytes part_trees part_tree part_ghosts cores_of ghosts_of kept_below ghost_count ghost_position local_index renamed rename_row row_of rows_of neighbour_bytes code_bytes with_rows is_ghost mesh_dimension mesh_trees mesh_core mesh_record face_count faces_in number_of shape_of neighbour_of code_of tree_count holds first_tree end_tree first_of magnitude negative trees ranks entry any_below count_below splice le_at piece le_value table_bytes le_bytes words core_bytes tree_bytes triangle three triangles new_three part_one
seven_due = refl

-- the seven answers, and the same area in the other order
pub seven_calls_lem : SevenCalls
seven_calls_lem b c l h =
    let d : TwoLists run_one b c seven_calls two_calls = demand_3 run_one setting b c (omega (arith, size_is)) (omega (arith, size_is)) seven_calls two_calls seven_built two_built in
    (d.answers ∙ seven_due, rw size_is at (d.same_area same_heard))
