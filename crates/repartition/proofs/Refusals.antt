-- What a refused call leaves, what three refusals mean, and that a close writes none but sound parts.
use Prim.Native.Nat.{ℕ, zero, suc, ◌+◌, ◌<◌}
use native.Mathlib.Omega.{arith}
use mathlib.Core.Path.{◌≡◌, refl, sym, ap, ◌∙◌}
use mathlib.Core.Bool.{Bool, true, false, cond, not, ◌&&◌}
use mathlib.Core.List.{List, [], ◌∷◌, ◌++◌, append-nil}
use lib.Dec.{leb, ltb, eqb}
use lib.ListN.{length, get_or, take, drop, get_or-append}
use lib.Seq.{take_at}
use borrow.Author.Tests.{eqb-true, eq-eqb, not-false}
use Rattle.build_all.specs.Calls.{messages_answer, build_all_length_of, build_all_refusal, build_all_of}
use Rattle.deliver_all.specs.Messages.{messages_in, area_after_each, answers_of_each}
use Rattle.deliver_all.specs.Calls.{deliver_all_refusal, deliver_all_count, deliver_all_area, deliver_all_of}
use Rattle.encoding.specs.Answer.{length_answer, count_answer, written, write_answer}
use Rattle.encoding.specs.Below.{all_below, any_below}
use Rattle.encoding.specs.Pieces.{splice}
use Rattle.encoding.specs.Refusal.{Check, check, first_failed}
use Rattle.encoding.proofs.Below.{either, clash}
use Rattle.offsets.specs.Table.{ranks, ranks_ok, trees, valid}
use Rattle.offsets.specs.Calls.{range_answer, table_range}
use Rattle.offsets_write.specs.Calls.{table_length_answer, write_table}
use Rattle.leaves.specs.Calls.{table_from_leaves, table_from_weights, table_from_blocks}
use Rattle.plan_text.specs.Plan.{plan_answer, plan_output_answer}
use Rattle.refinement.specs.Calls.{leaves_answer, count_leaves}
use Rattle.refinement_list.specs.Calls.{leaf_counts}
use Rattle.ele_mesh.specs.Calls.{triangle_length, import_triangle}
use Rattle.faults.specs.declared.answer.Fault.{Fault}
use Rattle.faults.specs.Answer.{Wrong, wrong, is_fault, fault_at, first_fault}
use Rattle.faults.specs.Mesh.{tree_wrong}
use Rattle.faults.specs.Calls.{fault_answer, mesh_fault_of}
use Rattle.table_fault.specs.Table.{entry_wrong}
use Rattle.table_fault.specs.Calls.{table_fault_of}
use Rattle.part.specs.Checks.{rank_checks}
use Rattle.part_fault.specs.Wrong.{wrong_in}
use Rattle.part_fault.specs.Calls.{part_headed, part_fault_of}
use Rattle.headers.specs.Fields.{part_fields, mesh_fields}
use Rattle.headers.specs.Calls.{header_answer, part_header_of, mesh_header_of}
use Rattle.headers.proofs.Theorems.{wrong_refuses}
use Rattle.regions.specs.Calls.{region_counts_of}
use Rattle.probes.specs.Calls.{trees_near}
use Rattle.columns.specs.Calls.{part_to_columns, columns_to_part}
use Rattle.restart.specs.Calls.{pad_table, empty_part_of, relabel_part}
use Rattle.brick.specs.Calls.{brick_length_of, write_brick_of}
use Rattle.pattern.specs.Sets.{sends_to}
use lib.IntN.{pos}
use Rattle.pattern.specs.Calls.{table_checks, sender_refusal, sender_of, trees_sent, ranks_answer, set_answer, send_set_of, receive_set_of}
use Rattle.mesh.specs.Mesh.{mesh_dimension, mesh_trees, mesh_core, header_sound}
use Rattle.part.specs.Part.{part_count, part_ghost_count, view_of, part_sound}
use Rattle.part_cut.specs.Calls.{part_length_of, cut_part_of}
use Rattle.part_neighbour.specs.Neighbour.{link_kind, link_across, flat_answer}
use Rattle.part_neighbour.specs.Calls.{neighbour_checks, neighbour_answer}
use Rattle.message.specs.Layout.{message_sender, message_receiver, message_ghosts, in_layout}
use Rattle.message.specs.Build.{part_message}
use Rattle.message.specs.Calls.{message_refusal, reading_of, build_checks, message_length_of, build_message_of}
use Rattle.message_reader.specs.Handing.{begin_of}
use Rattle.area.specs.Area.{area_rank, area_new, heard, area_sound}
use Rattle.area_open.specs.Calls.{area_length_of, open_area_of, progress_of}
use Rattle.area.specs.Deliver.{same_run, sender_due, trees_due, ghost_due, ghost_new, deliver_checks, deliver_of}
use Rattle.area.specs.Close.{all_heard, joined_part, close_checks, close_length_of, close_of}
use Rattle.repartition.specs.Refusals.{Unchanged, SetUnchanged, RefusedUnchanged, LengthZero, RangeZero, FaultZero, WrongFieldZero, NeighbourZero, RefusedZero, RefusalsMean, ClosesSound}

-- ---- what a refused call leaves

-- a call that writes an object
refused_writes : (refusal : ℕ) (object out : List ℕ) → Unchanged (write_answer refusal object out) out
unfolding write_answer length_answer written
refused_writes refusal object out declined =
    either (eqb refusal 0)
    (λ e. absurd (declined (rw e)))
    (λ e. rw e (refl, refl))

refused_set : (refusal : ℕ) (set out : List ℕ) → SetUnchanged (set_answer refusal set out) out
unfolding set_answer ranks_answer written
refused_set refusal set out declined =
    either (eqb refusal 0)
    (λ e. absurd (declined (rw e)))
    (λ e. rw e (refl, refl, refl, refl))

refused_counts : (refusal n : ℕ) (counts out : List ℕ) → ((count_answer refusal n).refusal ≡ 0 → ⊥) → ((count_answer refusal n).count ≡ 0) × (written refusal counts out ≡ out)
unfolding count_answer written
refused_counts refusal n counts out declined =
    either (eqb refusal 0)
    (λ e. absurd (declined (rw e)))
    (λ e. rw e (refl, refl))

refused_list : (refusal : ℕ) (counts out : List ℕ) → (refusal ≡ 0 → ⊥) → written refusal counts out ≡ out
unfolding written
refused_list refusal counts out declined = either (eqb refusal 0) (λ e. absurd (declined (eqb-true refusal 0 e))) (λ e. rw e)

refused_build_all : (part old new : List ℕ) (p epoch : ℕ) (out : List ℕ) → ((build_all_of part old new p epoch out).0.refusal ≡ 0 → ⊥)
    → ((build_all_of part old new p epoch out).0.count ≡ 0) × ((build_all_of part old new p epoch out).0.length ≡ 0) × ((build_all_of part old new p epoch out).1 ≡ out)
unfolding build_all_of messages_answer written
refused_build_all part old new p epoch out declined =
    either (eqb (build_all_refusal part old new p epoch out) 0)
    (λ e. absurd (declined (rw e)))
    (λ e. rw e (refl, refl, refl))

refused_deliver_all : (area bs answers : List ℕ) → ((deliver_all_of area bs answers).0.refusal ≡ 0 → ⊥)
    → ((deliver_all_of area bs answers).0.count ≡ 0) × ((deliver_all_of area bs answers).1.0 ≡ area) × ((deliver_all_of area bs answers).1.1 ≡ answers)
unfolding deliver_all_of deliver_all_count count_answer deliver_all_area written
refused_deliver_all area bs answers declined =
    either (eqb (deliver_all_refusal area bs answers) 0)
    (λ e. absurd (declined (rw e)))
    (λ e. rw e (refl, refl, refl))

refused_deliver : (area m : List ℕ) → ((deliver_of area m).0 ≡ 0 → ⊥) → (deliver_of area m).1 ≡ area
unfolding deliver_of
refused_deliver area m declined =
    either (eqb (first_failed (deliver_checks area m)) 0)
    (λ e. absurd (declined (eqb-true _ _ e)))
    (λ e. rw e)

pub refused_unchanged : RefusedUnchanged
unfolding write_table table_from_leaves table_from_weights table_from_blocks plan_answer plan_output_answer leaf_counts import_triangle trees_near part_to_columns columns_to_part pad_table empty_part_of relabel_part region_counts_of write_brick_of cut_part_of build_message_of open_area_of close_of send_set_of receive_set_of
refused_unchanged =
    record {
      write_table_lem = λ P first count out. refused_writes _ _ out;
      table_from_leaves_lem = λ P ls out. refused_writes _ _ out;
      table_from_weights_lem = λ ws ls out. refused_writes _ _ out;
      table_from_blocks_lem = λ P ls sums out. refused_writes _ _ out;
      plan = λ text out. refused_writes _ _ out;
      plan_output = λ text out. refused_writes _ _ out;
      write_brick = λ a b c p q r out. refused_writes _ _ out;
      cut_part = λ mesh table rank out. refused_writes _ _ out;
      build_message = λ part old new p q epoch out. refused_writes _ _ out;
      open_area = λ old new rank dimension epoch out. refused_writes _ _ out;
      close_area = λ area out. refused_writes _ _ out;
      deliver = refused_deliver;
      build_all = refused_build_all;
      deliver_all = refused_deliver_all;
      send_set = λ old new p out. refused_set _ _ out;
      receive_set = λ old new q out. refused_set _ _ out;
      leaf_counts_lem = λ shapes lengths bits out. refused_counts _ _ _ out;
      import_triangle_lem = λ text out. refused_writes _ _ out;
      region_counts_lem = λ part table rank out. refused_list _ _ out;
      trees_near_lem = λ part table rank probe out. refused_counts _ _ _ out;
      part_to_columns_lem = λ part table rank out. refused_writes _ _ out;
      columns_to_part_lem = λ file table rank out. refused_writes _ _ out;
      pad_table_lem = λ table n out. refused_writes _ _ out;
      empty_part = λ table rank dimension out. refused_writes _ _ out;
      relabel_part_lem = λ part table rank other q out. refused_writes _ _ out;
    }

-- ---- what a number means

-- the refusal of a call that measures, and of one that writes
answer_refusal : (refusal n : ℕ) → (length_answer refusal n).refusal ≡ refusal
unfolding length_answer
answer_refusal refusal n = either (eqb refusal 0) (λ e. rw e (sym (eqb-true refusal 0 e))) (λ e. rw e)

pub refusal_is : (refusal : ℕ) (object out : List ℕ) → (write_answer refusal object out).0.refusal ≡ refusal
unfolding write_answer
refusal_is refusal object out = answer_refusal refusal (length object)

-- a check with another number passed
passed : (b : Bool) (rest n m : ℕ) → (n ≡ m → ⊥) → cond b rest n ≡ m → rest ≡ m
passed true rest n m other e = e
passed false rest n m other e = absurd (other e)

-- the check with that number failed
failed : (b : Bool) (rest n : ℕ) → (rest ≡ n → ⊥) → cond b rest n ≡ n → b ≡ false
failed true rest n other e = absurd (other e)
failed false rest n other e = refl

-- neither of two answers
neither : (b : Bool) (rest n m : ℕ) → (rest ≡ m → ⊥) → (n ≡ m → ⊥) → cond b rest n ≡ m → ⊥
neither true rest n m a c e = a e
neither false rest n m a c e = c e

-- a list with the checks of a build in front, and none of number 9 after them
nothing_sent : (part old new : List ℕ) (p q : ℕ) (cs : List Check) → (first_failed cs ≡ 9 → ⊥) → first_failed (build_checks part old new p q ++ cs) ≡ 9 → sends_to old new p q ≡ false
unfolding build_checks table_checks first_failed
nothing_sent part old new p q cs other e =
    let e3 = passed (ranks_ok old && ranks_ok new) _ 2 9 (λ z. omega arith) e in
    let e4 = passed (valid old && valid new) _ 3 9 (λ z. omega arith) e3 in
    let e5 = passed (eqb (ranks old) (ranks new) && eqb (trees old) (trees new)) _ 4 9 (λ z. omega arith) e4 in
    let e8 = passed (ltb p (ranks old) && ltb q (ranks old)) _ 5 9 (λ z. omega arith) e5 in
    let e9 = passed (part_sound part old p) _ 8 9 (λ z. omega arith) e8 in
    failed (sends_to old new p q) _ 9 other e9

-- the check of the buffer has its own number
room_other : (b : Bool) (n : ℕ) → (0 ≡ n → ⊥) → (22 ≡ n → ⊥) → first_failed (check b 22 ∷ []) ≡ n → ⊥
unfolding first_failed
room_other b n none other = neither b 0 22 n none other

not_sent : (part old new : List ℕ) (p q epoch : ℕ) (out : List ℕ) → (build_message_of part old new p q epoch out).0.refusal ≡ 9 → sends_to old new p q ≡ false
unfolding build_message_of
not_sent part old new p q epoch out e =
    nothing_sent part old new p q _ (room_other (leb (length (part_message part old new p q epoch)) (length out)) 9 (λ z. omega arith) (λ z. omega arith))
    (sym (refusal_is _ (part_message part old new p q epoch) out) ∙ e)

not_measured : (part old new : List ℕ) (p q : ℕ) → (message_length_of part old new p q).refusal ≡ 9 → sends_to old new p q ≡ false
unfolding message_length_of first_failed
not_measured part old new p q e =
    nothing_sent part old new p q [] (λ z. omega arith) (ap first_failed (append-nil (build_checks part old new p q)) ∙ sym (answer_refusal _ (length (part_message part old new p q 0))) ∙ e)

was_heard : (area m : List ℕ) → (deliver_of area m).0 ≡ 15 → heard area (message_sender m) ≡ true
unfolding deliver_of deliver_checks first_failed
was_heard area m e =
    let e11 = passed (area_sound area) _ 10 15 (λ z. omega arith) e in
    let e12 = passed (in_layout m) _ 11 15 (λ z. omega arith) e11 in
    let e13 = passed (same_run area m) _ 12 15 (λ z. omega arith) e12 in
    let e14 = passed (eqb (message_receiver m) (area_rank area)) _ 13 15 (λ z. omega arith) e13 in
    let e15 = passed (sender_due area m) _ 14 15 (λ z. omega arith) e14 in
    not-false (heard area (message_sender m))
    (failed (not (heard area (message_sender m))) _ 15
    (neither (trees_due area m) _ 16 15
    (neither (all_below (message_ghosts m) (ghost_due area m)) _ 17 15
    (neither (all_below (message_ghosts m) (ghost_new area m)) 0 18 15 (λ z. omega arith) (λ z. omega arith))
    (λ z. omega arith)) (λ z. omega arith)) e15)

-- entry i of the answers to several deliveries is the delivery of message i to the area after those before it
entry_is : (ms : List (List ℕ)) (area : List ℕ) (i : ℕ) → i < length ms → get_or (answers_of_each area ms) i 0 ≡ (deliver_of (area_after_each area (take i ms)) (get_or ms i [])).0
unfolding answers_of_each area_after_each
entry_is [] area i h = absurd (omega arith)
entry_is (m ∷ ms) area zero h = refl
entry_is (m ∷ ms) area (suc i) h = entry_is ms (deliver_of area m).1 i (omega arith)

answers_long : (ms : List (List ℕ)) (area : List ℕ) → length (answers_of_each area ms) ≡ length ms
unfolding answers_of_each
answers_long [] area = refl
answers_long (m ∷ ms) area = ap suc (answers_long ms (deliver_of area m).1)

-- what stands in a list that an object was written into, as far as the object goes
front_at : (object out : List ℕ) (i : ℕ) → i < length object → get_or (splice out 0 object) i 0 ≡ get_or object i 0
unfolding splice
front_at object out i h = get_or-append object (drop (0 + length object) out) 0 i h

was_listed : (area bs answers : List ℕ) (i : ℕ) → i < (deliver_all_of area bs answers).0.count → get_or (deliver_all_of area bs answers).1.1 i 0 ≡ 15
    → heard (area_after_each area (take i (messages_in bs))) (message_sender (get_or (messages_in bs) i [])) ≡ true
unfolding deliver_all_of deliver_all_count count_answer written
was_listed area bs answers i h e =
    let ms : List (List ℕ) = messages_in bs in
    either (eqb (deliver_all_refusal area bs answers) 0)
    (λ t.
    let l : i < length ms = rw t at h in
    let f : get_or (splice answers 0 (answers_of_each area ms)) i 0 ≡ 15 = rw t at e in
    was_heard (area_after_each area (take i ms)) (get_or ms i []) (sym (entry_is ms area i l) ∙ sym (front_at (answers_of_each area ms) answers i (omega (arith, answers_long ms area))) ∙ f))
    (λ t. let l : i < 0 = rw t at h in absurd (omega arith))

-- the checks of a close, and none of number 20 after them
some_missing : (area : List ℕ) (cs : List Check) → (first_failed cs ≡ 20 → ⊥) → first_failed (close_checks area ++ cs) ≡ 20 → all_heard area ≡ false
unfolding close_checks first_failed
some_missing area cs other e =
    let e20 = passed (area_sound area) _ 10 20 (λ z. omega arith) e in
    failed (all_heard area) _ 20 (neither (part_sound (joined_part area) (area_new area) (area_rank area)) _ 21 20 other (λ z. omega arith)) e20

some_unheard : (area out : List ℕ) → (close_of area out).0.refusal ≡ 20 → all_heard area ≡ false
unfolding close_of
some_unheard area out e =
    some_missing area _ (room_other (leb (length (joined_part area)) (length out)) 20 (λ z. omega arith) (λ z. omega arith)) (sym (refusal_is _ (joined_part area) out) ∙ e)

some_unmeasured : (area : List ℕ) → (close_length_of area).refusal ≡ 20 → all_heard area ≡ false
unfolding close_length_of first_failed
some_unmeasured area e = some_missing area [] (λ z. omega arith) (ap first_failed (append-nil (close_checks area)) ∙ sym (answer_refusal _ (length (joined_part area))) ∙ e)

pub refusals_mean : RefusalsMean
refusals_mean =
    record {
      nothing_for_you = not_sent;
      nothing_to_measure = not_measured;
      already_heard = was_heard;
      already_heard_listed = was_listed;
      not_all_heard = some_unheard;
      not_all_heard_to_measure = some_unmeasured;
    }

-- ---- a close

part_unsound : (area out : List ℕ) → (close_of area out).0.refusal ≡ 21 → part_sound (joined_part area) (area_new area) (area_rank area) ≡ false
unfolding close_of close_checks first_failed
part_unsound area out e =
    let e10 = sym (refusal_is _ (joined_part area) out) ∙ e in
    let e20 = passed (area_sound area) _ 10 21 (λ z. omega arith) e10 in
    let e21 = passed (all_heard area) _ 20 21 (λ z. omega arith) e20 in
    failed (part_sound (joined_part area) (area_new area) (area_rank area)) _ 21 (neither (leb (length (joined_part area)) (length out)) 0 22 21 (λ z. omega arith) (λ z. omega arith)) e21

-- a check that passed
holds_true : (b : Bool) (rest n : ℕ) → cond b rest (suc n) ≡ 0 → b ≡ true
holds_true true rest n e = refl
holds_true false rest n e = absurd (omega arith)

part_sound_lem : (area out : List ℕ) → (close_of area out).0.refusal ≡ 0 → part_sound (joined_part area) (area_new area) (area_rank area) ≡ true
unfolding close_of close_checks first_failed
part_sound_lem area out e =
    let e10 = sym (refusal_is _ (joined_part area) out) ∙ e in
    let e20 = passed (area_sound area) _ 10 0 (λ z. omega arith) e10 in
    let e21 = passed (all_heard area) _ 20 0 (λ z. omega arith) e20 in
    holds_true (part_sound (joined_part area) (area_new area) (area_rank area)) _ 20 e21

-- what an accepted call wrote
written_front : (refusal : ℕ) (object out : List ℕ) → (write_answer refusal object out).0.refusal ≡ 0 → take (write_answer refusal object out).0.length (write_answer refusal object out).1 ≡ object
unfolding write_answer length_answer written splice
written_front refusal object out e =
    either (eqb refusal 0)
    (λ t. rw t (take_at object (drop (0 + length object) out) (length object) refl))
    (λ t. clash (eq-eqb refusal 0 (rw t at e)) t)

closed_part_lem : (area out : List ℕ) → (close_of area out).0.refusal ≡ 0 → take (close_of area out).0.length (close_of area out).1 ≡ joined_part area
unfolding close_of
closed_part_lem area out = written_front _ (joined_part area) out

pub close_writes_sound : ClosesSound
close_writes_sound = record { accepted = λ area out e. rw (closed_part_lem area out e) (part_sound_lem area out e); declined = part_unsound }

-- ---- the other fields of a refused call that writes nothing

zero_length : (refusal n : ℕ) → LengthZero (length_answer refusal n)
unfolding length_answer
zero_length refusal n declined = either (eqb refusal 0) (λ e. absurd (declined (rw e))) (λ e. rw e)

zero_range : (refusal first count : ℕ) → RangeZero (range_answer refusal first count)
unfolding range_answer
zero_range refusal first count declined = either (eqb refusal 0) (λ e. absurd (declined (rw e))) (λ e. rw e (refl, refl))

zero_sender : (old new : List ℕ) (k q : ℕ) → ((sender_of old new k q).refusal ≡ 0 → ⊥) → (sender_of old new k q).sender ≡ pos 0
unfolding sender_of
zero_sender old new k q declined = either (eqb (sender_refusal old new k q) 0) (λ e. absurd (declined (rw e))) (λ e. rw e)

-- a fault that is found is no refusal
zero_fault : (refusal : ℕ) (fault : Fault) → fault.refusal ≡ 0 → FaultZero (fault_answer refusal fault)
unfolding fault_answer
zero_fault refusal fault none declined = either (eqb refusal 0) (λ e. absurd (declined (rw e none))) (λ e. rw e (refl, refl, refl, refl))

found_refuses : (fault n : ℕ) (at : ℕ → Wrong) → (first_fault fault n at).refusal ≡ 0
unfolding first_fault
found_refuses fault n at = either (any_below n (λ i. is_fault (at i).kind)) (λ e. rw e) (λ e. rw e)

zero_table_fault : (table : List ℕ) → FaultZero (table_fault_of table)
unfolding table_fault_of
zero_table_fault table = zero_fault _ (first_fault 3 (ranks table + 1) (entry_wrong table)) (found_refuses 3 (ranks table + 1) (entry_wrong table))

none_mesh_fault : (mesh : List ℕ) → (mesh_fault_of mesh).refusal ≡ 0
unfolding mesh_fault_of
none_mesh_fault mesh =
    either (header_sound mesh) (λ e. rw e (found_refuses 7 (mesh_trees mesh) (tree_wrong (mesh_core mesh) (mesh_dimension mesh) (mesh_trees mesh)))) (λ e. rw e)

zero_part_fault : (part table : List ℕ) (rank : ℕ) → FaultZero (part_fault_of part table rank)
unfolding part_fault_of
zero_part_fault part table rank =
    let found : Fault = first_fault 8 (part_count part + part_ghost_count part) (wrong_in (view_of part)) in
    zero_fault _ (cond (part_headed part table rank) found (fault_at 8 0 (wrong 6 0)))
    (either (part_headed part table rank) (λ e. rw e (found_refuses 8 (part_count part + part_ghost_count part) (wrong_in (view_of part)))) (λ e. rw e))

zero_part_header : (part table : List ℕ) (rank : ℕ) → WrongFieldZero (part_header_of part table rank)
unfolding part_header_of header_answer
zero_part_header part table rank declined =
    either (eqb (first_failed (rank_checks table rank)) 0) (λ e. absurd (declined (rw e (wrong_refuses (part_fields part table rank))))) (λ e. rw e (refl, refl, refl))

none_mesh_header : (mesh : List ℕ) → (mesh_header_of mesh).refusal ≡ 0
unfolding mesh_header_of
none_mesh_header mesh = wrong_refuses (mesh_fields mesh)

zero_neighbour : (part table : List ℕ) (rank i f : ℕ) → NeighbourZero (flat_answer (neighbour_answer part table rank i f))
unfolding neighbour_answer link_kind link_across
zero_neighbour part table rank i f declined =
    either (eqb (first_failed (neighbour_checks part table rank i f)) 0)
    (λ e. absurd (declined (rw e)))
    (λ e. rw e (refl, refl, refl, refl, refl))

zero_begin : (m : List ℕ) → ((begin_of m).0.refusal ≡ 0 → ⊥) → ((begin_of m).0.length ≡ 0) × ((begin_of m).1.0 ≡ []) × ((begin_of m).1.1 ≡ 0)
unfolding begin_of reading_of message_refusal first_failed length_answer
zero_begin m declined = either (in_layout m) (λ e. absurd (declined (rw e))) (λ e. rw e (refl, refl, refl))

zero_messages : (refusal count n : ℕ) → ((messages_answer refusal count n).refusal ≡ 0 → ⊥) → ((messages_answer refusal count n).count ≡ 0) × ((messages_answer refusal count n).length ≡ 0)
unfolding messages_answer
zero_messages refusal count n declined = either (eqb refusal 0) (λ e. absurd (declined (rw e))) (λ e. rw e (refl, refl))

zero_progress : (area : List ℕ) → ((progress_of area).refusal ≡ 0 → ⊥) → ((progress_of area).heard ≡ 0) × ((progress_of area).due ≡ 0)
unfolding progress_of
zero_progress area declined = either (area_sound area) (λ e. absurd (declined (rw e))) (λ e. rw e (refl, refl))

zero_leaves : (refusal u i : ℕ) → ((leaves_answer refusal u i).refusal ≡ 0 → ⊥) → ((leaves_answer refusal u i).upright ≡ 0) × ((leaves_answer refusal u i).inverted ≡ 0) × ((leaves_answer refusal u i).leaves ≡ 0)
unfolding leaves_answer
zero_leaves refusal u i declined = either (eqb refusal 0) (λ e. absurd (declined (rw e))) (λ e. rw e (refl, refl, refl))

pub refused_zero : RefusedZero
unfolding table_range table_length_answer trees_sent brick_length_of part_length_of reading_of message_length_of build_all_length_of area_length_of close_length_of count_leaves triangle_length
refused_zero =
    record {
      table_range_lem = λ table p. zero_range _ _ _;
      table_length_lem = λ P. zero_length _ _;
      sender_of_lem = zero_sender;
      trees_sent_lem = λ old new p q. zero_range _ _ _;
      brick_length = λ a b c. zero_length _ _;
      part_length = λ mesh table rank. zero_length _ _;
      table_fault = zero_table_fault;
      mesh_fault = none_mesh_fault;
      part_fault = zero_part_fault;
      part_header_lem = zero_part_header;
      mesh_header = none_mesh_header;
      neighbour_of_lem = zero_neighbour;
      begin_reading = λ m. zero_length _ _;
      begin = zero_begin;
      message_length = λ part old new p q. zero_length _ _;
      build_all_length = λ part old new p. zero_messages _ _ _;
      area_length = λ old new rank dimension. zero_length _ _;
      progress_of_lem = zero_progress;
      part_of_area_length = λ area. zero_length _ _;
      count_leaves_lem = λ shape bits. zero_leaves _ _ _;
      triangle_length_lem = λ text. zero_length _ _;
    }
