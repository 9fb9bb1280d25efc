-- What the calls show of tree data: C-24.
use Prim.Native.Nat.{ℕ, zero, suc, ◌+◌, ◌-◌, ◌*◌, ◌≤◌, ◌<◌}
use native.Mathlib.Nat.{zero-add, add-zero, le_refl}
use native.Mathlib.Omega.{arith}
use mathlib.Core.Path.{◌≡◌, refl, sym, ap, ap₂, fun_ext, ◌∙◌}
use mathlib.Core.Bool.{Bool, true, false, cond, not, ◌&&◌, and-false}
use mathlib.Core.List.{List, [], ◌∷◌, ◌++◌}
use lib.Dec.{leb, ltb, eqb}
use lib.ListN.{length, get_or, take, drop, length-append, length-take, length-drop}
use lib.Seq.{ext_get_or}
use borrow.Author.Tests.{ltb-true, leb-true, eqb-true, ne_eqb, eq-eqb, le-leb, lt-ltb}
use Rattle.encoding.specs.Pieces.{piece, splice, Bytes}
use Rattle.encoding.proofs.Below.{either, clash, and_fst, and_snd, and_intro, any_intro, any_none, sum_same, count_same}
use Rattle.encoding.specs.Numbers.{le_at}
use Rattle.encoding.proofs.Pieces.{piece_most, piece_at, length_splice}
use Rattle.records.specs.Shape.{faces_in}
use Rattle.records.specs.Record.{core_size, tree_size, region_limit, region_of}
use Rattle.records.proofs.Forms.{at_agree}
use Rattle.records.proofs.Rows.{splice_get}
use Rattle.encoding.specs.Answer.{length_answer, written, write_answer}
use Rattle.encoding.specs.Refusal.{check, first_failed}
use Rattle.offsets.specs.Table.{ranks, ranks_ok, trees, valid, first_tree, end_tree, tree_count, holds}
use Rattle.pattern.specs.Sender.{Tables}
use Rattle.pattern.specs.Sets.{sends_to}
use Rattle.pattern.specs.Calls.{table_checks}
use Rattle.pattern.proofs.Answers.{tables_agree}
use Rattle.part.specs.Layout.{part_header, tree_place, ghost_place}
use Rattle.part.specs.View.{View}
use Rattle.part.specs.Part.{part_dimension, part_k, part_first, part_count, part_ghost_count, stored_tree, stored_ghost, global_tree, view_of, part_header_sound, part_sound}
use Rattle.part.specs.Checks.{rank_checks}
use Rattle.faults.specs.Answer.{wrong, fault_at, first_fault}
use Rattle.faults.specs.Calls.{fault_answer}
use Rattle.part_fault.specs.Wrong.{wrong_in}
use Rattle.part_fault.specs.Calls.{part_headed, part_fault_of}
use Rattle.headers.specs.Fields.{part_fields}
use Rattle.headers.specs.Calls.{part_header_of}
use Rattle.columns_read.specs.Columns.{part_columns}
use Rattle.columns_check.proofs.Turned.{columns_length}
use Rattle.columns.specs.Calls.{to_columns_refusal, part_to_columns}
use Rattle.part_check.specs.Calls.{part_refusal}
use Rattle.part_neighbour.specs.Neighbour.{link_of}
use Rattle.part_neighbour.specs.Calls.{neighbour_checks, neighbour_answer}
use Rattle.part_theorems.proofs.SoundParts.{part_header_lem, dimension_same, first_same, index_same, part_cores}
use Rattle.regions.specs.Counts.{values_below, region_count, region_counts}
use Rattle.regions.specs.Calls.{regions_refusal, region_counts_of}
use Rattle.message.specs.Build.{part_message}
use Rattle.message.specs.Calls.{build_checks, message_length_of, build_message_of}
use Rattle.build_all.specs.Messages.{all_messages}
use Rattle.build_all.specs.Means.{message_to, messages_below}
use Rattle.build_all.specs.Calls.{build_all_checks, messages_answer, build_all_length_of, build_all_refusal, build_all_of}
use Rattle.build_all.proofs.Rows.{messages_are}
use Rattle.repartition.proofs.Checks.{first_stays, pass_first}
use Rattle.repartition.proofs.Lengths.{messages_refusal}
use Rattle.repartition.proofs.AllMessages.{piece_is_message}
use Rattle.repartition.proofs.PartMessages.{sent_own, length_cores, message_data}
use Rattle.encoding.specs.declared.answer.Length.{Length}
use Rattle.mesh.specs.Mesh.{mesh_header, mesh_dimension, mesh_trees, mesh_core, mesh_record}
use Rattle.part.specs.Cut.{renamed, local_index, part_tree, part_trees, part_ghosts, ghost_count, cut_part}
use Rattle.part_theorems.proofs.CutSound.{holds_range}
use Rattle.area.specs.Layout.{area_with}
use Rattle.area_open.specs.Calls.{open_area_of}
use Rattle.area_theorems.proofs.Joined.{slots_same}
use Rattle.repartition.specs.Run.{Run, Setting}
use Rattle.repartition.specs.Lists.{Call, deliver, close, AllBuilt, opened, answers_of, hears, hears_all, nobody, all_due, due, due_all, new_part}
use Rattle.repartition.specs.Demand.{size, heard_by, bytes_after, close_after}
use Rattle.repartition.specs.Words.{slot_heard}
use Rattle.repartition.proofs.Canonical.{ghost_heard, ghosts_heard, canonical}
use Rattle.repartition.proofs.Demand.{state_after, answers_are, close_is, demand_3}
use Rattle.repartition.specs.TreeData.{data_place, data_at, data_of, SameBut, PartsDiffer, MeshesDiffer, unsent, place_to, piece_to, SameAnswers, DataUnread, UnsentHidden, with_mesh, outside_new, OutsideHidden}

-- ---- bytes that may differ

piece_long : (a b : List ℕ) → length a ≡ length b → (off n : ℕ) → length (piece a off n) ≡ length (piece b off n)
unfolding piece
piece_long a b l off n = simp (length-take, length-drop, l)

-- the same bytes at the same places are the same piece
piece_agree : (a b : List ℕ) → length a ≡ length b → (off n : ℕ) → ((i : ℕ) → i < n → get_or a (off + i) 0 ≡ get_or b (off + i) 0) → piece a off n ≡ piece b off n
piece_agree a b l off n same =
    ext_get_or 0 (piece a off n) (piece b off n) (piece_long a b l off n)
    (λ i h. let k : i < n = omega (arith, piece_most a off n) in piece_at a off n i k ∙ same i k ∙ sym (piece_at b off n i k))

data_range : (start u i : ℕ) → data_at start u i ≡ true → (start + tree_size * u + data_place ≤ i) × (i < start + tree_size * u + tree_size)
unfolding data_at
data_range start u i e =
    let low : Bool = leb (start + tree_size * u + data_place) i in
    let high : Bool = ltb i (start + tree_size * u + tree_size) in
    (leb-true _ _ (and_fst low high e), ltb-true _ _ (and_snd low high e))

module _ (start first n : ℕ) (test : ℕ → Bool) (i : ℕ) where
  not-data : ((u : ℕ) → test (first + u) ≡ true → data_at start u i ≡ true → ⊥) → data_of start first n test i ≡ false
  unfolding data_of
  not-data never =
      any_none n (λ u. test (first + u) && data_at start u i)
      (λ u h. either (test (first + u) && data_at start u i) (λ e. absurd (never u (and_fst (test (first + u)) (data_at start u i) e) (and_snd (test (first + u)) (data_at start u i) e))) (λ e. e))

  -- no byte in front of the records is
  in-front : i < start → data_of start first n test i ≡ false
  in-front h = not-data (λ u e d. let r = data_range start u i d in omega arith)

  -- nor one behind them
  behind : start + tree_size * n ≤ i → data_of start first n test i ≡ false
  unfolding data_of
  behind h =
      any_none n (λ u. test (first + u) && data_at start u i)
      (λ u l. either (data_at start u i) (λ d. let r = data_range start u i d in absurd (omega arith)) (λ d. rw (d, and-false)))

  module _ (t : ℕ) (low : start + tree_size * t ≤ i) where
    -- nor one of a core
    in-core : i < start + tree_size * t + core_size → data_of start first n test i ≡ false
    in-core high = not-data (λ u e d. let r = data_range start u i d in omega arith)

    -- nor one of a tree that doesn't pass
    in-other : i < start + tree_size * t + tree_size → test (first + t) ≡ false → data_of start first n test i ≡ false
    in-other high f = not-data (λ u e d. let r = data_range start u i d in let is : u ≡ t = omega arith in clash (rw is at e) f)

-- two buffers that differ only there
module _ (start first n : ℕ) (test : ℕ → Bool) (a b : List ℕ) (same : SameBut (data_of start first n test) a b) where
  front_same : (off w : ℕ) → off + w ≤ start → piece a off w ≡ piece b off w
  front_same off w h = piece_agree a b same.same_length off w (λ i l. same.same_bytes (off + i) (in-front start first n test (off + i) (omega arith)))

  word_same : (w off : ℕ) → off + w ≤ start → le_at w a off ≡ le_at w b off
  word_same w off h = at_agree w a b off (λ i l. same.same_bytes (off + i) (in-front start first n test (off + i) (omega arith)))

  core_same : (t : ℕ) → piece a (start + tree_size * t) core_size ≡ piece b (start + tree_size * t) core_size
  core_same t =
      piece_agree a b same.same_length (start + tree_size * t) core_size
      (λ i l. same.same_bytes (start + tree_size * t + i) (in-core start first n test (start + tree_size * t + i) t (omega arith) (omega arith)))

  behind-same : (off w : ℕ) → start + tree_size * n ≤ off → piece a off w ≡ piece b off w
  behind-same off w h = piece_agree a b same.same_length off w (λ i l. same.same_bytes (off + i) (behind start first n test (off + i) (omega arith)))

  other-same : (t j w : ℕ) → test (first + t) ≡ false → j + w ≤ tree_size → piece a (start + tree_size * t + j) w ≡ piece b (start + tree_size * t + j) w
  other-same t j w f h =
      piece_agree a b same.same_length (start + tree_size * t + j) w
      (λ i l. same.same_bytes (start + tree_size * t + j + i) (in-other start first n test (start + tree_size * t + j + i) t (omega arith) (omega arith) f))

-- ---- parts

-- an answer with a length, and one with a buffer, whose object matters only where the call is accepted
length_where : (refusal n m : ℕ) → (refusal ≡ 0 → n ≡ m) → length_answer refusal n ≡ length_answer refusal m
unfolding length_answer
length_where refusal n m same = either (eqb refusal 0) (λ t. rw (same (eqb-true refusal 0 t))) (λ t. rw t)

-- what a build call that declines nothing has looked at
record Passed (part old new : List ℕ) (p q : ℕ) : Type 0 where
  tables : Tables old new
  sender_below : p < ranks old
  receiver_below : q < ranks old
  sound : part_sound part old p ≡ true

checks_passed : (part old new : List ℕ) (p q : ℕ) → Bytes old → Bytes new → first_failed (build_checks part old new p q) ≡ 0 → Passed part old new p q
unfolding build_checks table_checks first_failed
checks_passed part old new p q bo bn e =
    let c2 = pass_first (ranks_ok old && ranks_ok new) _ 1 e in
    let c3 = pass_first (valid old && valid new) _ 2 c2.1 in
    let c4 = pass_first (eqb (ranks old) (ranks new) && eqb (trees old) (trees new)) _ 3 c3.1 in
    let c5 = pass_first (ltb p (ranks old) && ltb q (ranks old)) _ 4 c4.1 in
    let c8 = pass_first (part_sound part old p) _ 7 c5.1 in
    record {
      tables = tables_agree old new (first_failed (table_checks old new)) refl bo bn (rw (c2.0, c3.0, c4.0));
      sender_below = ltb-true _ _ (and_fst (ltb p (ranks old)) (ltb q (ranks old)) c5.0);
      receiver_below = ltb-true _ _ (and_snd (ltb p (ranks old)) (ltb q (ranks old)) c5.0);
      sound = c8.0;
    }

checks_sent : (part old new : List ℕ) (p q : ℕ) → first_failed (build_checks part old new p q) ≡ 0 → sends_to old new p q ≡ true
unfolding build_checks table_checks first_failed
checks_sent part old new p q e =
    let c2 = pass_first (ranks_ok old && ranks_ok new) _ 1 e in
    let c3 = pass_first (valid old && valid new) _ 2 c2.1 in
    let c4 = pass_first (eqb (ranks old) (ranks new) && eqb (trees old) (trees new)) _ 3 c3.1 in
    let c5 = pass_first (ltb p (ranks old) && ltb q (ranks old)) _ 4 c4.1 in
    let c8 = pass_first (part_sound part old p) _ 7 c5.1 in
    (pass_first (sends_to old new p q) 0 8 c8.1).0

none_measured : (part old new : List ℕ) (p q : ℕ) → (first_failed (build_checks part old new p q) ≡ 0 → ⊥) → (message_length_of part old new p q).length ≡ 0
unfolding message_length_of length_answer
none_measured part old new p q z = rw (ne_eqb _ 0 z)

-- and what a build_all that declines nothing has
record AllPassed (part old new : List ℕ) (p : ℕ) : Type 0 where
  tables : Tables old new
  sender_below : p < ranks old
  sound : part_sound part old p ≡ true

all_checks_passed : (part old new : List ℕ) (p : ℕ) → Bytes old → Bytes new → first_failed (build_all_checks part old new p) ≡ 0 → AllPassed part old new p
unfolding build_all_checks table_checks first_failed
all_checks_passed part old new p bo bn e =
    let c2 = pass_first (ranks_ok old && ranks_ok new) _ 1 e in
    let c3 = pass_first (valid old && valid new) _ 2 c2.1 in
    let c4 = pass_first (eqb (ranks old) (ranks new) && eqb (trees old) (trees new)) _ 3 c3.1 in
    let c5 = pass_first (ltb p (ranks old)) _ 4 c4.1 in
    let c8 = pass_first (part_sound part old p) _ 7 c5.1 in
    record {
      tables = tables_agree old new (first_failed (table_checks old new)) refl bo bn (rw (c2.0, c3.0, c4.0));
      sender_below = ltb-true _ _ c5.0;
      sound = c8.0;
    }

messages_where : (refusal count n m : ℕ) → (refusal ≡ 0 → n ≡ m) → messages_answer refusal count n ≡ messages_answer refusal count m
unfolding messages_answer
messages_where refusal count n m same = either (eqb refusal 0) (λ t. rw (same (eqb-true refusal 0 t))) (λ t. rw t)

module _ (a b : List ℕ) (test : ℕ → Bool) (same : PartsDiffer test a b) where
  header_same : piece a 0 part_header ≡ piece b 0 part_header
  header_same = front_same part_header (part_first a) (part_count a) test a b same 0 part_header (omega arith)

  count_is : part_count a ≡ part_count b
  unfolding part_count
  count_is = word_same part_header (part_first a) (part_count a) test a b same 4 20 (omega arith)

  tree-same : (t : ℕ) → stored_tree a t ≡ stored_tree b t
  unfolding stored_tree
  tree-same t = core_same part_header (part_first a) (part_count a) test a b same t

  ghost-same : (j : ℕ) → stored_ghost a j ≡ stored_ghost b j
  unfolding stored_ghost
  ghost-same j =
      behind-same part_header (part_first a) (part_count a) test a b same (ghost_place (part_count a) j) core_size (omega arith)
      ∙ ap (λ (n : ℕ). piece b (ghost_place n j) core_size) count_is

  sound-same : (table : List ℕ) (rank : ℕ) → part_sound a table rank ≡ part_sound b table rank
  sound-same = part_cores a b header_same (λ t h. tree-same t) (λ j h. ghost-same j) same.same_length

  check-same : (table : List ℕ) (rank : ℕ) → part_refusal a table rank ≡ part_refusal b table rank
  unfolding part_refusal
  check-same table rank = rw (sound-same table rank)

  neighbour-same : (table : List ℕ) (rank i f : ℕ) → neighbour_answer a table rank i f ≡ neighbour_answer b table rank i f
  unfolding neighbour_answer neighbour_checks link_of
  neighbour-same table rank i f = rw (sound-same table rank, tree-same i, count_is)

  region-same : (r : ℕ) → region_count a r ≡ region_count b r
  unfolding region_count
  region-same r =
      rw (← count_is)
      (count_same (part_count a) (λ i. eqb (region_of (stored_tree a i)) r) (λ i. eqb (region_of (stored_tree b i)) r) (λ i h. ap (λ (t : List ℕ). eqb (region_of t) r) (tree-same i)))

  regions-same : region_counts a ≡ region_counts b
  unfolding region_counts
  regions-same = ap (values_below region_limit) (fun_ext region-same)

  region-counts-same : (table : List ℕ) (rank : ℕ) (out : List ℕ) → region_counts_of a table rank out ≡ region_counts_of b table rank out
  unfolding region_counts_of regions_refusal
  region-counts-same table rank out = rw (sound-same table rank, regions-same)

  -- ---- the first fault

  ghosts-is : part_ghost_count a ≡ part_ghost_count b
  unfolding part_ghost_count
  ghosts-is = word_same part_header (part_first a) (part_count a) test a b same 4 24 (omega arith)

  global-same : (t : ℕ) → global_tree a t ≡ global_tree b t
  unfolding global_tree
  global-same t =
      rw (dimension_same a b header_same, tree-same t)
      (ap (λ (rename : ℕ → ℕ). renamed rename (faces_in (part_dimension b)) (stored_tree b t)) (fun_ext (index_same a b header_same (λ i h. tree-same i) (λ j h. ghost-same j))))

  -- the two parts say the same
  view_same : view_of a ≡ view_of b
  unfolding part_k
  view_same = λ i.
      record {
        dimension = dimension_same a b header_same i;
        K = word_same part_header (part_first a) (part_count a) test a b same 4 4 (omega arith) i;
        first = first_same a b header_same i;
        n = count_is i;
        g = ghosts-is i;
        stored = fun_ext tree-same i;
        tree = fun_ext global-same i;
        ghost = fun_ext ghost-same i;
      }

  headed-same : (table : List ℕ) (rank : ℕ) → part_headed a table rank ≡ part_headed b table rank
  unfolding part_header_sound part_k
  headed-same table rank =
      let w : (off : ℕ) → off + 4 ≤ part_header → le_at 4 a off ≡ le_at 4 b off = word_same part_header (part_first a) (part_count a) test a b same 4 in
      rw (dimension_same a b header_same, w 4 (omega arith), w 8 (omega arith), w 12 (omega arith), first_same a b header_same, count_is, w 28 (omega arith), same.same_length, ghosts-is)

  fault-same : (table : List ℕ) (rank : ℕ) → part_fault_of a table rank ≡ part_fault_of b table rank
  unfolding part_fault_of
  fault-same table rank =
      ap₂ (λ (h : Bool) (v : View). fault_answer (first_failed (rank_checks table rank)) (cond h (first_fault 8 (v.n + v.g) (wrong_in v)) (fault_at 8 0 (wrong 6 0))))
      (headed-same table rank) view_same

  field-same : (table : List ℕ) (rank : ℕ) → part_header_of a table rank ≡ part_header_of b table rank
  unfolding part_header_of part_fields part_k
  field-same table rank =
      let w : (off : ℕ) → off + 4 ≤ part_header → le_at 4 a off ≡ le_at 4 b off = word_same part_header (part_first a) (part_count a) test a b same 4 in
      rw (dimension_same a b header_same, w 4 (omega arith), w 8 (omega arith), w 12 (omega arith), first_same a b header_same, count_is, w 28 (omega arith), same.same_length, ghosts-is)

  -- ---- columns

  columns_long : length (part_columns a) ≡ length (part_columns b)
  unfolding part_columns
  columns_long =
      simp (length-append, columns_length, piece_long a b same.same_length 0 part_header, count_is, ghosts-is)

  columns-same : (table : List ℕ) (rank : ℕ) (out : List ℕ) → (part_to_columns a table rank out).0 ≡ (part_to_columns b table rank out).0
  unfolding part_to_columns to_columns_refusal write_answer
  columns-same table rank out = rw (sound-same table rank, same.same_length, columns_long)

  -- ---- messages

  module _ (old new : List ℕ) (p q : ℕ) (bo : Bytes old) (bn : Bytes new) where
    checks-same : build_checks a old new p q ≡ build_checks b old new p q
    unfolding build_checks
    checks-same = rw (sound-same old p)

    abbrev refused : ℕ
    refused = first_failed (build_checks b old new p q)

    passed : refused ≡ 0 → Passed b old new p q
    passed e = checks_passed b old new p q bo bn e

    lengths-same : (epoch : ℕ) → refused ≡ 0 → length (part_message a old new p q epoch) ≡ length (part_message b old new p q epoch)
    lengths-same epoch e =
        let w = passed e in
        length_cores a b old new p q w.tables w.sender_below w.receiver_below (sound-same old p ∙ w.sound) w.sound header_same (λ t h. tree-same t) (λ j h. ghost-same j) epoch

    message-length-same : message_length_of a old new p q ≡ message_length_of b old new p q
    unfolding message_length_of
    message-length-same = rw checks-same (length_where refused _ _ (lengths-same 0))

    module _ (epoch : ℕ) (out : List ℕ) where
      abbrev refusal : List ℕ → ℕ
      refusal m = first_failed (build_checks b old new p q ++ (check (leb (length m) (length out)) 22 ∷ []))

      abbrev ma : List ℕ
      ma = part_message a old new p q epoch

      abbrev mb : List ℕ
      mb = part_message b old new p q epoch

      build-a : build_message_of a old new p q epoch out ≡ write_answer (refusal ma) ma out
      unfolding build_message_of
      build-a = rw checks-same

      build-b : write_answer (refusal mb) mb out ≡ build_message_of b old new p q epoch out
      unfolding build_message_of
      build-b = refl

      -- refused by the checks in front of 22, both leave the buffer
      refused-same : (refused ≡ 0 → ⊥) → write_answer (refusal ma) ma out ≡ write_answer (refusal mb) mb out
      unfolding write_answer length_answer written
      refused-same declined =
          rw (
            first_stays (build_checks b old new p q) (check (leb (length ma) (length out)) 22 ∷ []) declined,
            first_stays (build_checks b old new p q) (check (leb (length mb) (length out)) 22 ∷ []) declined,
            ne_eqb refused 0 declined,
          )

      length-only : length ma ≡ length mb → (write_answer (refusal ma) ma out).0 ≡ (write_answer (refusal mb) mb out).0
      unfolding write_answer
      length-only l = rw l

      -- the answer, where the messages have the same length
      answer-same : (build_message_of a old new p q epoch out).0 ≡ (build_message_of b old new p q epoch out).0
      answer-same = ap (λ (x : Length × List ℕ). x.0) build-a ∙ middle ∙ ap (λ (x : Length × List ℕ). x.0) build-b
        where
          middle : (write_answer (refusal ma) ma out).0 ≡ (write_answer (refusal mb) mb out).0
          middle =
              either (eqb refused 0)
              (λ t. length-only (lengths-same epoch (eqb-true refused 0 t)))
              (λ t. ap (λ (x : Length × List ℕ). x.0) (refused-same (λ e. clash (eq-eqb refused 0 e) t)))

      -- the whole, where the messages are the same
      build-same : (refused ≡ 0 → ma ≡ mb) → build_message_of a old new p q epoch out ≡ build_message_of b old new p q epoch out
      build-same equal =
          either (eqb refused 0)
          (λ t. build-a ∙ ap (λ (m : List ℕ). write_answer (refusal m) m out) (equal (eqb-true refused 0 t)) ∙ build-b)
          (λ t. build-a ∙ refused-same (λ e. clash (eq-eqb refused 0 e) t) ∙ build-b)

  -- ---- the messages to all receivers

  module _ (old new : List ℕ) (p : ℕ) (bo : Bytes old) (bn : Bytes new) where
    all-checks-same : build_all_checks a old new p ≡ build_all_checks b old new p
    unfolding build_all_checks
    all-checks-same = rw (sound-same old p)

    abbrev refused_all : ℕ
    refused_all = first_failed (build_all_checks b old new p)

    module _ (epoch : ℕ) (ok : refused_all ≡ 0) where
      to_same : (q : ℕ) → q < ranks old → length (message_to a old new p epoch q) ≡ length (message_to b old new p epoch q)
      unfolding message_to
      to_same q h =
          let w = all_checks_passed b old new p bo bn ok in
          either (sends_to old new p q)
          (λ t. rw t (length_cores a b old new p q w.tables w.sender_below h (sound-same old p ∙ w.sound) w.sound header_same (λ t h. tree-same t) (λ j h. ghost-same j) epoch))
          (λ t. rw t)

      below-long : (q : ℕ) → q ≤ ranks old → length (messages_below a old new p epoch q) ≡ length (messages_below b old new p epoch q)
      unfolding messages_below
      below-long zero h = refl
      below-long (suc q) h =
          length-append (messages_below a old new p epoch q) _ ∙ (ap₂ ◌+◌ (below-long q (omega arith)) (to_same q (omega arith)) ∙ sym (length-append (messages_below b old new p epoch q) _))

      all-long : length (all_messages a old new p epoch) ≡ length (all_messages b old new p epoch)
      all-long = ap length (sym (messages_are a old new p epoch)) ∙ (below-long (ranks old) (le_refl _) ∙ ap length (messages_are b old new p epoch))

    all-length-same : build_all_length_of a old new p ≡ build_all_length_of b old new p
    unfolding build_all_length_of
    all-length-same = rw all-checks-same (messages_where refused_all _ _ _ (all-long 0))

    module _ (epoch : ℕ) (out : List ℕ) where
      abbrev refusal_all : List ℕ → ℕ
      refusal_all m = first_failed (build_all_checks b old new p ++ (check (leb (length m) (length out)) 22 ∷ []))

      abbrev all_a : List ℕ
      all_a = all_messages a old new p epoch

      abbrev all_b : List ℕ
      all_b = all_messages b old new p epoch

      refusal-is-a : build_all_refusal a old new p epoch out ≡ refusal_all all_a
      unfolding build_all_refusal
      refusal-is-a = rw all-checks-same

      refusal-all : build_all_refusal a old new p epoch out ≡ build_all_refusal b old new p epoch out
      unfolding build_all_refusal
      refusal-all =
          refusal-is-a
          ∙ either (eqb refused_all 0)
          (λ t. rw (all-long epoch (eqb-true refused_all 0 t)))
          (λ t. let z : refused_all ≡ 0 → ⊥ = λ e. clash (eq-eqb refused_all 0 e) t in first_stays (build_all_checks b old new p) _ z ∙ sym (first_stays (build_all_checks b old new p) _ z))

      -- where it is accepted, none of the checks before 22 declined
      accepted_all : build_all_refusal b old new p epoch out ≡ 0 → refused_all ≡ 0
      unfolding build_all_refusal
      accepted_all e = either (eqb refused_all 0) (λ t. eqb-true refused_all 0 t) (λ t. let z : refused_all ≡ 0 → ⊥ = λ e. clash (eq-eqb refused_all 0 e) t in sym (first_stays (build_all_checks b old new p) _ z) ∙ e)

      all_same : (build_all_of a old new p epoch out).0 ≡ (build_all_of b old new p epoch out).0
      unfolding build_all_of
      all_same = rw refusal-all (messages_where (build_all_refusal b old new p epoch out) _ _ _ (λ e. all-long epoch (accepted_all e)))

  answers-same : SameAnswers a b
  answers-same =
      record {
        check_part = check-same;
        part_fault = fault-same;
        part_header_lem = field-same;
        neighbour_of_lem = neighbour-same;
        region_counts_lem = region-counts-same;
        part_to_columns_lem = columns-same;
        message_length = message-length-same;
        build_message = λ old new p q epoch out bo bn. answer-same old new p q bo bn epoch out;
        build_all_length = all-length-same;
        build_all = λ old new p epoch out bo bn. all_same old new p bo bn epoch out;
      }

pub data_unread : DataUnread
data_unread a b same = answers-same a b (λ k. true) same

-- the message's bytes, where it is built
piece_hidden : (a b old new : List ℕ) (p q epoch : ℕ) → Bytes old → Bytes new → PartsDiffer (unsent old new p q) a b
    → first_failed (build_checks b old new p q) ≡ 0 → part_message a old new p q epoch ≡ part_message b old new p q epoch
unfolding unsent
piece_hidden a b old new p q epoch bo bn same e =
    let test : ℕ → Bool = unsent old new p q in
    let w : Passed b old new p q = checks_passed b old new p q bo bn e in
    let T = w.tables in
    let header = header_same a b test same in
    let sound-a : part_sound a old p ≡ true = sound-same a b test same old p ∙ w.sound in
    message_data a b old new p q T w.sender_below w.receiver_below sound-a w.sound header (λ t h. tree-same a b test same t) (λ j h. ghost-same a b test same j)
    (λ k s.
    let r = holds_range old p k (sent_own a old new p q T w.sender_below w.receiver_below sound-a k s) in
    let first : part_first a ≡ first_tree old p = (part_header_lem a old p sound-a).first_tree_lem in
    let back : part_first a + (k - part_first a) ≡ k = omega (arith, r.0) in
    other-same part_header (part_first a) (part_count a) test a b same (k - part_first a) core_size 24 (ap test back ∙ ap not s) (omega arith)
    ∙ ap (λ (n : ℕ). piece b (tree_place (k - n) + core_size) 24) (first_same a b header))
    epoch

-- the bytes for q in what build_all writes
module _ (a b old new : List ℕ) (p q : ℕ) (bo : Bytes old) (bn : Bytes new) (same : PartsDiffer (unsent old new p q) a b) where
  abbrev test : ℕ → Bool
  test = unsent old new p q

  lengths-to : (r : ℕ) → (message_length_of a old new p r).length ≡ (message_length_of b old new p r).length
  lengths-to r = ap (λ (x : Length). x.length) (message-length-same a b test same old new p r bo bn)

  place_same : place_to a old new p q ≡ place_to b old new p q
  unfolding place_to
  place_same = sum_same q (λ r. (message_length_of a old new p r).length) (λ r. (message_length_of b old new p r).length) (λ r h. lengths-to r)

  module _ (epoch : ℕ) (out : List ℕ) where
    -- the same bytes, where both have the same buffer
    same_buffer : (build_all_of a old new p epoch out).1 ≡ (build_all_of b old new p epoch out).1 → piece_to a old new p q (build_all_of a old new p epoch out).1 ≡ piece_to b old new p q (build_all_of b old new p epoch out).1
    unfolding piece_to
    same_buffer e = rw (e, place_same, lengths-to q)

    -- refused, both leave the buffer
    both-refused : (build_all_refusal b old new p epoch out ≡ 0 → ⊥) → (build_all_of a old new p epoch out).1 ≡ (build_all_of b old new p epoch out).1
    unfolding build_all_of written
    both-refused z = rw (refusal-all a b test same old new p bo bn epoch out, ne_eqb (build_all_refusal b old new p epoch out) 0 z)

    -- accepted, with no message for q, there are none
    none_to : (message_length_of b old new p q).length ≡ 0 → piece_to a old new p q (build_all_of a old new p epoch out).1 ≡ piece_to b old new p q (build_all_of b old new p epoch out).1
    unfolding piece_to piece
    none_to z = rw (lengths-to q, z)

    accepted-of : (part : List ℕ) → build_all_refusal part old new p epoch out ≡ 0 → (build_all_of part old new p epoch out).0.refusal ≡ 0
    unfolding build_all_of
    accepted-of part e = messages_refusal _ _ _ ∙ e

    pieces-same : piece_to a old new p q (build_all_of a old new p epoch out).1 ≡ piece_to b old new p q (build_all_of b old new p epoch out).1
    pieces-same =
        let R : ℕ = build_all_refusal b old new p epoch out in
        let r : ℕ = first_failed (build_checks b old new p q) in
        either (eqb R 0)
        (λ t.
        let ok : R ≡ 0 = eqb-true R 0 t in
        either (eqb r 0)
        (λ u.
        let built : r ≡ 0 = eqb-true r 0 u in
        let w = checks_passed b old new p q bo bn built in
        let sends = checks_sent b old new p q built in
        piece_is_message a old new p q epoch out (accepted-of a (refusal-all a b test same old new p bo bn epoch out ∙ ok)) w.receiver_below sends
        ∙ (piece_hidden a b old new p q epoch bo bn same built ∙ sym (piece_is_message b old new p q epoch out (accepted-of b ok) w.receiver_below sends)))
        (λ u. none_to (none_measured b old new p q (λ e. clash (eq-eqb r 0 e) u))))
        (λ t. same_buffer (both-refused (λ e. clash (eq-eqb R 0 e) t)))

pub unsent_hidden : UnsentHidden
unsent_hidden a b old new p q bo bn same =
    let test : ℕ → Bool = unsent old new p q in
    record {
      build_message = λ epoch out. build-same a b test same old new p q bo bn epoch out (piece_hidden a b old new p q epoch bo bn same);
      place = place_same a b old new p q bo bn same;
      piece_for_q = pieces-same a b old new p q bo bn same;
      answers = answers-same a b test same;
    }

-- ---- areas

module _ (run : Run) (mesh : List ℕ) (same : MeshesDiffer (outside_new run) run.mesh mesh) where
  abbrev hidden : ℕ → Bool
  hidden = outside_new run

  abbrev other : Run
  other = with_mesh run mesh

  dimension_is : mesh_dimension run.mesh ≡ mesh_dimension mesh
  unfolding mesh_dimension
  dimension_is = word_same mesh_header 0 (mesh_trees run.mesh) hidden run.mesh mesh same 4 0 (omega arith)

  trees_are : mesh_trees run.mesh ≡ mesh_trees mesh
  unfolding mesh_trees
  trees_are = word_same mesh_header 0 (mesh_trees run.mesh) hidden run.mesh mesh same 4 4 (omega arith)

  -- the cores are the same, as a function of the tree's number
  cores-are : mesh_core run.mesh ≡ mesh_core mesh
  unfolding mesh_core
  cores-are = fun_ext (λ k. core_same mesh_header 0 (mesh_trees run.mesh) hidden run.mesh mesh same k)

  -- and so is the record of each tree of the new range
  record_is : (i : ℕ) → i < tree_count run.new run.rank → mesh_record run.mesh (first_tree run.new run.rank + i) ≡ mesh_record mesh (first_tree run.new run.rank + i)
  unfolding mesh_record outside_new holds tree_count
  record_is i h =
      let k : ℕ = first_tree run.new run.rank + i in
      let low : ℕ = first_tree run.new run.rank in
      let high : ℕ = end_tree run.new run.rank in
      let inside : holds run.new run.rank k ≡ true = and_intro (leb low k) (ltb k high) (le-leb low k (omega arith)) (lt-ltb k high (omega arith)) in
      rw add-zero at (other-same mesh_header 0 (mesh_trees run.mesh) hidden run.mesh mesh same k 0 tree_size (rw (zero-add k) (ap not inside)) (omega arith))

  size_is : size run ≡ size other
  size_is = rw dimension_is

  -- ---- the area of a heard set

  module _ (H : ℕ → Bool) where
    slot_is : (i : ℕ) → i < tree_count run.new run.rank → slot_heard run H i ≡ slot_heard other H i
    unfolding slot_heard
    slot_is i h = rw (record_is i h)

    ghost_is_lem : (g : ℕ) → ghost_heard run H g ≡ ghost_heard other H g
    unfolding ghost_heard
    ghost_is_lem g = rw cores-are

    ghosts-are : (k : ℕ) → ghosts_heard run H k ≡ ghosts_heard other H k
    unfolding ghosts_heard
    ghosts-are zero = refl
    ghosts-are (suc k) = rw (ghosts-are k, ghost_is_lem k, cores-are)

    canonical-same : canonical run H ≡ canonical other H
    unfolding canonical area_with
    canonical-same =
        rw (dimension_is, trees_are, fun_ext ghost_is_lem, ghosts-are (mesh_trees mesh), slots_same (slot_heard run H) (slot_heard other H) (tree_count run.new run.rank) slot_is)

  -- ---- what closing gives

  index_is : local_index run.mesh run.new run.rank ≡ local_index mesh run.new run.rank
  unfolding local_index
  index_is = fun_ext (λ k. rw cores-are)

  trees-cut : (n : ℕ) → n ≤ tree_count run.new run.rank → part_trees run.mesh run.new run.rank n ≡ part_trees mesh run.new run.rank n
  unfolding part_trees part_tree
  trees-cut zero h = refl
  trees-cut (suc n) h = rw (trees-cut n (omega arith), record_is n (omega arith), index_is, dimension_is)

  part_is : new_part run ≡ new_part other
  unfolding cut_part part_ghosts ghost_count
  part_is = rw (dimension_is, trees_are, cores-are, trees-cut (tree_count run.new run.rank) (le_refl _))

  -- ---- lists of calls

  heard_all : (cs : List Call) (H : ℕ → Bool) → hears_all run H cs ≡ hears_all other H cs
  unfolding hears_all hears
  heard_all [] H = refl
  heard_all (c ∷ cs) H = heard_all cs (hears run H c)

  due_all_lem : (cs : List Call) (H : ℕ → Bool) → due_all run H cs ≡ due_all other H cs
  unfolding due_all due hears all_due
  due_all_lem [] H = refl
  due_all_lem (deliver p q ∷ cs) H = rw (due_all_lem cs (hears run H (deliver p q)))
  due_all_lem (close out ∷ cs) H = rw (part_is, due_all_lem cs (hears run H (close out)))

  built-all : (cs : List Call) → AllBuilt run cs → AllBuilt other cs
  unfolding AllBuilt
  built-all [] h = h
  built-all (deliver p q ∷ cs) h = (record { sender_below = h.0.sender_below; receiver_below = h.0.receiver_below; sends_tree = h.0.sends_tree }, built-all cs h.1)
  built-all (close out ∷ cs) h = built-all cs h

  -- the open call reads of the mesh its dimension alone
  open_is : (b : List ℕ) → opened run b ≡ opened other b
  unfolding opened
  open_is b = rw dimension_is

  module _ (S : Setting run) (S' : Setting other) (cs : List Call) (built : AllBuilt run cs) (b : List ℕ) (long : size run ≤ length b) where
    long-too : size other ≤ length b
    long-too = omega (arith, size_is)

    buffer-is : bytes_after run b cs ≡ bytes_after other b cs
    buffer-is =
        state_after run S b long cs built
        ∙ ap₂ (λ (x : List ℕ) (n : ℕ). x ++ drop n b) (canonical-same (heard_by run cs) ∙ ap (canonical other) (heard_all cs nobody)) size_is
        ∙ sym (state_after other S' b long-too cs (built-all cs built))

    answers-is : (c : List ℕ) → size run ≤ length c → answers_of run (opened run b).1 cs ≡ answers_of other (opened other c).1 cs
    answers-is c l = answers_are run S b long cs built ∙ due_all_lem cs nobody ∙ sym (answers_are other S' c (omega (arith, size_is)) cs (built-all cs built))

    close-same : (c : List ℕ) → size run ≤ length c → (out : List ℕ) → close_after run b cs out ≡ close_after other c cs out
    unfolding all_due
    close-same c l out =
        close_is run S b long cs built out
        ∙ rw (part_is, heard_all cs nobody) (sym (close_is other S' c (omega (arith, size_is)) cs (built-all cs built) out))

-- the length that an accepted call answers
accepted_length : (refusal n : ℕ) → (length_answer refusal n).refusal ≡ 0 → length_answer refusal n ≡ length_answer 0 n
unfolding length_answer
accepted_length refusal n e = either (eqb refusal 0) (λ t. rw t) (λ t. clash (eq-eqb refusal 0 (rw t at e)) t)

opened_length : (run : Run) (b c : List ℕ) → (opened run b).0.refusal ≡ 0 → (opened run c).0.refusal ≡ 0 → (opened run b).0 ≡ (opened run c).0
unfolding opened open_area_of write_answer
opened_length run b c e f = accepted_length _ _ e ∙ sym (accepted_length _ _ f)

pub outside_hidden : OutsideHidden
outside_hidden run mesh S S' same b c long-b long-c cs built =
    let D = demand_3 run S b c long-b long-c cs cs built built in
    let E = demand_3 run S c b long-c long-b cs cs built built in
    record {
      same_open = opened_length run b c D.opens E.opens ∙ ap (λ (x : Length × List ℕ). x.0) (open_is run mesh same c);
      same_area = D.same_area (λ s. refl) ∙ ap (take (size run)) (buffer-is run mesh same S S' cs built c long-c);
      same_buffer = buffer-is run mesh same S S' cs built b long-b;
      same_answers = answers-is run mesh same S S' cs built b long-b c long-c;
      same_part = close-same run mesh same S S' cs built b long-b c long-c;
    }

-- ---- the hypotheses are met

-- a buffer with any other data in a tree that passes differs only there
module _ (start first n : ℕ) (test : ℕ → Bool) (a d : List ℕ) (t : ℕ) (below : t < n) (passes : test (first + t) ≡ true) (long : length d ≡ 24) (fits : start + tree_size * t + tree_size ≤ length a) where
  abbrev place : ℕ
  place = start + tree_size * t + data_place

  hidden-there : (i : ℕ) → place ≤ i → i < place + length d → data_of start first n test i ≡ true
  unfolding data_of data_at
  hidden-there i low high =
      let here : data_at start t i ≡ true = and_intro (leb place i) (ltb i (start + tree_size * t + tree_size)) (le-leb place i low) (lt-ltb i (start + tree_size * t + tree_size) (omega arith)) in
      any_intro n (λ u. test (first + u) && data_at start u i) t below (and_intro (test (first + t)) (data_at start t i) passes here)

  pub data_written : SameBut (data_of start first n test) a (splice a place d)
  data_written =
      record {
        same_length = sym (length_splice a place d (omega arith));
        same_bytes = λ i h.
            sym (splice_get a place d i (omega arith)
            ∙ either (leb place i && ltb i (place + length d))
            (λ t. clash (hidden-there i (leb-true place i (and_fst (leb place i) _ t)) (ltb-true i (place + length d) (and_snd (leb place i) _ t))) h)
            (λ t. rw t));
      }
