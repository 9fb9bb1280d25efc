-- Building from the cut of a sound mesh is the rule applied to the mesh.
use Prim.Native.Nat.{ℕ, ◌+◌, ◌-◌, ◌*◌, ◌≤◌, ◌<◌}
use native.Mathlib.Nat.{zero-add, add-zero}
use native.Mathlib.Omega.{arith}
use mathlib.Core.Path.{◌≡◌, sym, ap, ap₂, ◌∙◌}
use mathlib.Core.Bool.{true, cond}
use mathlib.Core.List.{List, ◌++◌, map}
use lib.Dec.{leb}
use lib.ListN.{length}
use lib.Seq.{take-add, take_all}
use borrow.Author.Tests.{lt-ltb, eq-eqb, le-leb}
use Rattle.encoding.specs.Pieces.{piece, splice, Bytes}
use Rattle.encoding.specs.Answer.{write_answer}
use Rattle.encoding.specs.Refusal.{first_failed}
use Rattle.encoding.proofs.Pieces.{piece_length, piece_same, piece_above, length_splice}
use Rattle.offsets.specs.Table.{ranks, trees, first_tree, tree_count, holds}
use Rattle.pattern.specs.Sets.{sends_to}
use Rattle.pattern.specs.Calls.{table_checks}
use Rattle.records.specs.Links.{rows_of, neighbour_bytes, code_bytes, with_rows}
use Rattle.records.specs.Record.{core_size, tree_size}
use Rattle.records.specs.Shape.{faces_in}
use Rattle.records.proofs.Forms.{piece_piece}
use Rattle.records.proofs.Rows.{splice_inside}
use Rattle.mesh.specs.Mesh.{mesh_header, mesh_dimension, mesh_trees, mesh_core, mesh_record}
use Rattle.mesh.proofs.Soundness.{sound_fits}
use Rattle.part.specs.Layout.{tree_place}
use Rattle.part.specs.Cut.{rename_row, renamed, local_index, part_tree, cut_part}
use Rattle.part.specs.Part.{stored_tree, global_number, global_tree, part_holds, part_core}
use Rattle.part_cut.proofs.Cutting.{Cuttable}
use Rattle.part.proofs.Records.{links_length, rows_length, rows_core}
use Rattle.part_theorems.proofs.CutRead.{cut_dimension, cut_first, cut_end, cut_record, cut_stored, cut_data}
use Rattle.part_theorems.proofs.CutSound.{holds_range, local_below, cut_global, cut_holds, cut_core, cut_sound}
use Rattle.message.specs.Build.{part_record, part_message}
use Rattle.message.specs.Means.{mesh_message}
use Rattle.message.specs.Calls.{build_checks, build_message_of}
use Rattle.message.proofs.Messages.{HasPart, rule_from_part}
use Rattle.repartition.specs.Run.{Run, Setting}
use Rattle.repartition.specs.Lists.{message_of}

-- ---- renaming the neighbours of a tree record

-- the whole of a list
whole : (r : List ℕ) (n : ℕ) → length r ≡ n → piece r 0 n ≡ r
unfolding piece
whole r n l = take_all n r (omega arith)

-- a tree record is its core and its tree data
pub halves : (r : List ℕ) → length r ≡ tree_size → piece r 0 core_size ++ piece r core_size 24 ≡ r
unfolding piece
halves r l = sym (take-add core_size 24 r) ∙ take_all tree_size r (omega arith)

module _ (rename : ℕ → ℕ) (F : ℕ) (r : List ℕ) (long : length r ≡ tree_size) where
  abbrev links : List ℕ
  links = let rows : List (List ℕ) = map (rename_row rename) (rows_of r F) in neighbour_bytes rows 6 ++ code_bytes rows F 6

  links-long : length links ≡ 30
  links-long = links_length (map (rename_row rename) (rows_of r F)) F

  same_rows : rows_of r F ≡ rows_of (piece r 0 core_size) F
  same_rows = ap (λ (x : List ℕ). rows_of x F) (sym (whole r tree_size long)) ∙ rows_core r 0 F

  -- its core is the core renamed, and its tree data stays
  pub wide_core : piece (renamed rename F r) 0 core_size ≡ renamed rename F (piece r 0 core_size)
  unfolding renamed with_rows
  wide_core =
      let P : List ℕ = splice (piece r 0 core_size) 8 links in
      let h : length (piece r 0 core_size) ≡ core_size = piece_length r 0 core_size (omega arith) in
      let l : length P ≡ core_size = length_splice (piece r 0 core_size) 8 links (omega (arith, links-long)) ∙ h in
      let e : splice r 0 P ≡ splice r 8 links = rw zero-add at (splice_inside r 0 core_size 8 links (omega (arith, links-long)) (omega arith)) in
      ap (λ (s : List ℕ). piece s 0 core_size) (sym e) ∙ ap (λ (m : ℕ). piece (splice r 0 P) 0 m) (sym l) ∙ piece_same r 0 P (omega arith) ∙ rw same_rows

  pub wide_data : piece (renamed rename F r) core_size 24 ≡ piece r core_size 24
  unfolding renamed with_rows
  wide_data = piece_above r 8 links core_size 24 (omega (arith, links-long)) (omega (arith, links-long))

  pub wide_long : length (renamed rename F r) ≡ tree_size
  unfolding renamed
  wide_long = rows_length (map (rename_row rename) (rows_of r F)) F r (omega arith) ∙ long

-- two tree records with the same core and the same tree data
pub same_halves : (r s : List ℕ) → length r ≡ tree_size → length s ≡ tree_size → piece r 0 core_size ≡ piece s 0 core_size → piece r core_size 24 ≡ piece s core_size 24 → r ≡ s
same_halves r s l m a b = sym (halves r l) ∙ ap₂ (λ (x y : List ℕ). x ++ y) a b ∙ halves s m

-- ---- the part of a rank

module _ (mesh old : List ℕ) (p : ℕ) (ok : Cuttable mesh old p) (mesh_bytes : Bytes mesh) (bytes : Bytes old) where
  abbrev part : List ℕ
  part = cut_part mesh old p

  module _ (k : ℕ) (here : holds old p k ≡ true) where
    below : k < mesh_trees mesh
    below = local_below mesh old p ok mesh_bytes bytes k here

    fits : mesh_header + tree_size * k + tree_size ≤ length mesh
    fits = sound_fits mesh ok.mesh_sound_lem k below

    record_long : length (mesh_record mesh k) ≡ tree_size
    unfolding mesh_record
    record_long = piece_length mesh (mesh_header + tree_size * k) tree_size fits

    record_core : piece (mesh_record mesh k) 0 core_size ≡ mesh_core mesh k
    unfolding mesh_record mesh_core
    record_core = piece_piece mesh (mesh_header + tree_size * k) tree_size 0 core_size (omega arith) ∙ ap (λ (o : ℕ). piece mesh o core_size) (add-zero (mesh_header + tree_size * k))

    record_data : piece (mesh_record mesh k) core_size 24 ≡ piece mesh (mesh_header + tree_size * k + core_size) 24
    unfolding mesh_record
    record_data = piece_piece mesh (mesh_header + tree_size * k) tree_size core_size 24 (omega arith)

    abbrev index : ℕ
    index = k - first_tree old p

    index_below : index < tree_count old p
    index_below = let h = holds_range old p k here in omega (arith, cut_end mesh old p ok bytes)

    index_back : first_tree old p + index ≡ k
    index_back = let h = holds_range old p k here in omega arith

    -- the record that the part stores
    abbrev stored : List ℕ
    stored = piece part (tree_place index) tree_size

    stored-long : length stored ≡ tree_size
    unfolding part_tree
    stored-long = ap length (cut_record mesh old p ok bytes index index_below) ∙ wide_long (local_index mesh old p) (faces_in (mesh_dimension mesh)) (mesh_record mesh (first_tree old p + index)) (rw index_back record_long)

    stored_core : piece stored 0 core_size ≡ stored_tree part index
    stored_core = ap (λ (r : List ℕ). piece r 0 core_size) (cut_record mesh old p ok bytes index index_below) ∙ sym (cut_stored mesh old p ok bytes index index_below)

    stored-data : piece stored core_size 24 ≡ piece mesh (mesh_header + tree_size * k + core_size) 24
    stored-data =
        piece_piece part (tree_place index) tree_size core_size 24 (omega arith)
        ∙ cut_data mesh old p ok bytes index index_below
        ∙ ap (λ (j : ℕ). piece mesh (mesh_header + tree_size * j + core_size) 24) index_back

    global-core : renamed (global_number part) (faces_in (mesh_dimension mesh)) (stored_tree part index) ≡ mesh_core mesh k
    unfolding global_tree
    global-core =
        let g = cut_global mesh old p ok mesh_bytes bytes index index_below in
        rw (cut_dimension mesh old p ok bytes, index_back) at g

    -- with neighbours as global numbers it is the mesh's
    pub own_record : part_record (cut_part mesh old p) k ≡ mesh_record mesh k
    unfolding part_record
    own_record =
        rw (cut_dimension mesh old p ok bytes, cut_first mesh old p ok bytes)
        (same_halves (renamed (global_number part) (faces_in (mesh_dimension mesh)) stored) (mesh_record mesh k) (wide_long (global_number part) (faces_in (mesh_dimension mesh)) stored stored-long) record_long
        (wide_core (global_number part) (faces_in (mesh_dimension mesh)) stored stored-long ∙ ap (renamed (global_number part) (faces_in (mesh_dimension mesh))) stored_core ∙ global-core ∙ sym record_core)
        (wide_data (global_number part) (faces_in (mesh_dimension mesh)) stored stored-long ∙ stored-data ∙ sym record_data))

  -- the part has what the rule reads
  has_part : mesh_trees mesh ≡ trees old → HasPart (part_core part) (part_holds part) (part_record part) mesh old p
  has_part same =
      record {
        own_records = λ k h e. own_record k e;
        has_held = λ k h e. cut_holds mesh old p ok mesh_bytes bytes k (rw same h) ∙ e;
        same_cores = λ k h e. cut_core mesh old p ok mesh_bytes bytes k e;
      }

-- ---- the message

module _ (run : Run) (S : Setting run) where
  -- an old rank has a part
  pub old_cuttable : (p : ℕ) → p < ranks run.old → Cuttable run.mesh run.old p
  old_cuttable p l =
      record { table_ranks = S.tables.old_ranks; table_valid = S.tables.old_valid; rank_below = l; mesh_sound_lem = S.mesh_sound_lem; same_trees_lem = S.same_trees_lem }

  module _ (p q : ℕ) (l : p < ranks run.old) (r : q < ranks run.old) where
    abbrev here : List ℕ
    here = cut_part run.mesh run.old p

    -- building from the cut of the mesh is the rule applied to the mesh
    pub build_is_rule : part_message (cut_part run.mesh run.old p) run.old run.new p q run.epoch ≡ mesh_message run.mesh run.old run.new p q run.epoch
    unfolding part_message
    build_is_rule =
        rw (cut_dimension run.mesh run.old p (old_cuttable p l) S.tables.old_bytes)
        (rule_from_part (part_core here) (part_holds here) (part_record here) run.mesh run.old p run.new q S.tables l r S.same_trees_lem (has_part run.mesh run.old p (old_cuttable p l) S.mesh_bytes S.tables.old_bytes S.same_trees_lem) run.epoch)

    pub message_of_lem : message_of run p q ≡ mesh_message run.mesh run.old run.new p q run.epoch
    unfolding message_of
    message_of_lem = build_is_rule

    -- for parts of a sound mesh, the build call answers 9 exactly where p sends q no tree
    pub build_refusal : first_failed (build_checks (cut_part run.mesh run.old p) run.old run.new p q) ≡ cond (sends_to run.old run.new p q) 0 9
    unfolding build_checks table_checks first_failed
    build_refusal =
        let T = S.tables in
        rw (
          T.old_ranks,
          T.new_ranks,
          T.old_valid,
          T.new_valid,
          eq-eqb (ranks run.old) (ranks run.new) (sym T.same_ranks),
          eq-eqb (trees run.old) (trees run.new) (sym T.same_trees),
          lt-ltb p (ranks run.old) l,
          lt-ltb q (ranks run.old) r,
          cut_sound run.mesh run.old p (old_cuttable p l) S.mesh_bytes T.old_bytes,
        )

    -- its whole answer: 9 where p sends q no tree, 22 where the buffer is shorter than the message, else the message
    pub build_answer : (out : List ℕ) → build_message_of (cut_part run.mesh run.old p) run.old run.new p q run.epoch out
        ≡ write_answer (cond (sends_to run.old run.new p q) (cond (leb (length (message_of run p q)) (length out)) 0 22) 9) (message_of run p q) out
    unfolding build_message_of build_checks table_checks first_failed message_of
    build_answer out =
        let T = S.tables in
        rw (
          T.old_ranks,
          T.new_ranks,
          T.old_valid,
          T.new_valid,
          eq-eqb (ranks run.old) (ranks run.new) (sym T.same_ranks),
          eq-eqb (trees run.old) (trees run.new) (sym T.same_trees),
          lt-ltb p (ranks run.old) l,
          lt-ltb q (ranks run.old) r,
          cut_sound run.mesh run.old p (old_cuttable p l) S.mesh_bytes T.old_bytes,
        )

    -- where p sends q a tree, it writes that message into any buffer that is long enough
    pub built_bytes : sends_to run.old run.new p q ≡ true → (out : List ℕ) → length (message_of run p q) ≤ length out
        → build_message_of (cut_part run.mesh run.old p) run.old run.new p q run.epoch out ≡ write_answer 0 (message_of run p q) out
    built_bytes sent out room = build_answer out ∙ rw (sent, le-leb (length (message_of run p q)) (length out) room)
