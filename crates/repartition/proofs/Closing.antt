-- A close on the canonical area.
use Prim.Native.Nat.{ℕ, zero, suc, ◌+◌, ◌*◌, ◌≤◌, ◌<◌}
use native.Mathlib.Nat.{le_refl}
use native.Mathlib.Omega.{arith}
use mathlib.Core.Path.{◌≡◌, refl, sym, ap, ap₂, ◌∙◌}
use mathlib.Core.Bool.{Bool, true, cond}
use mathlib.Core.List.{List, [], ◌++◌}
use lib.Dec.{leb, eqb}
use lib.ListN.{length, get_or, take}
use lib.Seq.{take-add, take_all}
use borrow.Author.Tests.{eq-eqb, ne_eqb}
use Rattle.encoding.specs.Answer.{length_answer, written, write_answer}
use Rattle.encoding.specs.Below.{all_below, count_below, least_below, kept_below}
use Rattle.encoding.specs.Pieces.{piece}
use Rattle.encoding.specs.Refusal.{first_failed}
use Rattle.encoding.proofs.Below.{either, all_at, all_same, count_same, count_lt, least_is, kept_same, kept_at, kept_found, kept_ascends}
use Rattle.offsets.specs.Table.{ranks, first_tree, tree_count}
use Rattle.pattern.specs.Sender.{sender, sends}
use Rattle.pattern.specs.Sets.{sends_to, gets_from}
use Rattle.pattern.proofs.Senders.{sends_in}
use Rattle.pattern.proofs.Sets.{gets_sends}
use Rattle.records.specs.Links.{row_of, rows_of}
use Rattle.records.specs.Record.{core_size, tree_size, unused, number_of, neighbour_of}
use Rattle.records.specs.Shape.{faces_in}
use Rattle.records.proofs.Forms.{at_piece}
use Rattle.mesh.specs.Mesh.{mesh_header, mesh_dimension, mesh_trees, mesh_core, mesh_record}
use Rattle.part.specs.Ghosts.{is_ghost, ghost_position}
use Rattle.part.specs.Cut.{rename_row, renamed, local_index, part_tree, part_trees, part_ghosts, ghost_count, cut_part}
use Rattle.part.specs.Part.{part_sound}
use Rattle.part.proofs.Ghosts.{ghosts_none, ghosts_next}
use Rattle.part_cut.proofs.Cutting.{Cuttable, cores_length}
use Rattle.part_theorems.proofs.CutSound.{neighbour_cases, range_local, cut_sound}
use Rattle.message.specs.Means.{ghost_sender}
use Rattle.message.proofs.Ghosts.{sender_below, sends_some, ghost_sender_lt, ghost_sender_sends}
use Rattle.area.specs.Layout.{slots_of}
use Rattle.area.specs.Area.{area_dimension, area_rank, area_ghosts, area_old, area_new, heard, tree_slot, ghost_slot}
use Rattle.area.specs.Close.{all_heard, join_index, joined_part, close_checks, close_of}
use Rattle.area_theorems.proofs.Zones.{Reads}
use Rattle.repartition.specs.Words.{slot_heard}
use Rattle.repartition.proofs.Canonical.{ghost_heard, ghosts_heard, canonical}
use Rattle.repartition.specs.Run.{Run, Setting}
use Rattle.repartition.specs.Lists.{all_due}
use Rattle.repartition.proofs.Receive.{InReceive}
use Rattle.repartition.proofs.Heard.{rank_bit, canonical_reads, heard_kept, canonical_sound}

-- records whose neighbours get the same names
same_names : (a b : ℕ → ℕ) (F : ℕ) (r : List ℕ) → ((f : ℕ) → f < 6 → a (neighbour_of r f) ≡ b (neighbour_of r f)) → renamed a F r ≡ renamed b F r
unfolding renamed rename_row rows_of row_of
same_names a b F r e = rw (e 0 (omega arith), e 1 (omega arith), e 2 (omega arith), e 3 (omega arith), e 4 (omega arith), e 5 (omega arith))

-- the neighbours of a tree's record are those of its core
record_neighbour : (mesh : List ℕ) (k f : ℕ) → f < 6 → neighbour_of (mesh_record mesh k) f ≡ neighbour_of (mesh_core mesh k) f
unfolding neighbour_of mesh_record mesh_core
record_neighbour mesh k f h =
    at_piece 4 mesh (mesh_header + tree_size * k) tree_size (8 + 4 * f) (omega arith) ∙ sym (at_piece 4 mesh (mesh_header + tree_size * k) core_size (8 + 4 * f) (omega arith))

-- slots one after the other are the bytes that they are pieces of
slots_are : (slot : ℕ → List ℕ) (bs : List ℕ) (n : ℕ) → ((j : ℕ) → j < n → slot j ≡ piece bs (core_size * j) core_size) → slots_of slot n ≡ take (core_size * n) bs
unfolding slots_of piece
slots_are slot bs zero e = refl
slots_are slot bs (suc n) e =
    let more : core_size * n + core_size ≡ core_size * suc n = omega arith in
    ap₂ (λ (x y : List ℕ). x ++ y) (slots_are slot bs n (λ j h. e j (omega arith))) (e n (omega arith))
    ∙ sym (take-add (core_size * n) core_size bs)
    ∙ ap (λ (m : ℕ). take m bs) more

module _ (run : Run) (S : Setting run) where
  -- the rank has a new part
  pub new_cuttable : Cuttable run.mesh run.new run.rank
  new_cuttable =
      let e = S.tables.same_ranks in
      record { table_ranks = S.tables.new_ranks; table_valid = S.tables.new_valid; rank_below = omega (arith, S.rank_below); mesh_sound_lem = S.mesh_sound_lem; same_trees_lem = S.same_trees_lem ∙ sym S.tables.same_trees }

  abbrev K : ℕ
  K = mesh_trees run.mesh

  abbrev core : ℕ → List ℕ
  core = mesh_core run.mesh

  abbrev first : ℕ
  first = first_tree run.new run.rank

  abbrev n : ℕ
  n = tree_count run.new run.rank

  abbrev ghostly : ℕ → Bool
  ghostly = is_ghost (mesh_core run.mesh) run.new run.rank

  module _ (H : ℕ → Bool) (tail : List ℕ) where
    abbrev a : List ℕ
    a = canonical run H ++ tail

    abbrev g : ℕ
    g = count_below K (ghost_heard run H)

    reads : Reads a run.epoch (mesh_dimension run.mesh) run.old run.new run.rank H (slot_heard run H) g (ghosts_heard run H K) tail
    reads = canonical_reads run S H tail

    -- all are heard where the calls say so
    pub all_heard_lem : all_heard a ≡ all_due run H
    unfolding all_heard all_due
    all_heard_lem =
        ap (λ (P : ℕ). all_below P (λ s. cond (gets_from (area_old a) (area_new a) (area_rank a) s) (heard a s) true)) reads.at_p
        ∙ all_same (ranks run.old) (λ s. cond (gets_from (area_old a) (area_new a) (area_rank a) s) (heard a s) true) (λ s. cond (gets_from run.old run.new run.rank s) (H s) true)
        (λ s h. rw (reads.at_old, reads.at_new, reads.at_rank, reads.at_heard s (rank_bit run S H s h)))

    module _ (full : all_due run H ≡ true) where
      -- ---- every tree and ghost is there

      due-heard : (s : ℕ) → s < ranks run.old → sends_to run.old run.new s run.rank ≡ true → H s ≡ true
      unfolding all_due
      due-heard s h e =
          let t = all_at (ranks run.old) (λ s. cond (gets_from run.old run.new run.rank s) (H s) true) full s h in
          rw (gets_sends run.old run.new S.tables s run.rank h S.rank_below ∙ e) at t

      tree-heard : (i : ℕ) → i < n → H (sender run.old (first + i) run.rank) ≡ true
      tree-heard i h =
          let k : ℕ = first + i in
          let e : sends run.old run.new (sender run.old k run.rank) run.rank k ≡ true = sends_in run.old run.new S.tables run.rank k (range_local run.mesh run.new run.rank new_cuttable S.mesh_bytes S.tables.new_bytes i h) in
          due-heard (sender run.old k run.rank) (sender_below run.old run.new S.tables (sender run.old k run.rank) run.rank k S.rank_below e) (sends_some run.old run.new S.tables (sender run.old k run.rank) run.rank k S.rank_below e)

      ghost-there : (k : ℕ) → ghost_heard run H k ≡ ghostly k
      unfolding ghost_heard
      ghost-there k =
          either (ghostly k)
          (λ e. let s : H (ghost_sender core run.old run.new run.rank k) ≡ true = due-heard (ghost_sender core run.old run.new run.rank k) (ghost_sender_lt core run.old run.new S.tables run.rank k S.rank_below e) (ghost_sender_sends core run.old run.new S.tables run.rank k S.rank_below e) in
          rw (e, s))
          (λ e. rw e)

      slot-there : (i : ℕ) → i < n → tree_slot a i ≡ mesh_record run.mesh (first + i)
      unfolding slot_heard
      slot-there i h = reads.at_slot i h ∙ rw (tree-heard i h)

      ghosts-there : (k : ℕ) → ghosts_heard run H k ≡ part_ghosts run.mesh run.new run.rank k
      unfolding ghosts_heard
      ghosts-there zero = sym (ghosts_none run.mesh run.new run.rank)
      ghosts-there (suc k) =
          ap₂ (λ (x : List ℕ) (b : Bool). x ++ cond b (mesh_core run.mesh k) []) (ghosts-there k) (ghost-there k) ∙ sym (ghosts_next run.mesh run.new run.rank k)

      many : g ≡ ghost_count run.mesh run.new run.rank
      unfolding ghost_count ghost_position
      many = count_same K (ghost_heard run H) ghostly (λ k h. ghost-there k)

      -- ghost j
      abbrev number : ℕ → ℕ
      number j = get_or (kept_below K ghostly) j 0

      slot_core : (j : ℕ) → j < g → ghost_slot a j ≡ core (number j)
      slot_core j h =
          (heard_kept run S H tail).at_place j h
          ∙ ap (λ (l : List ℕ). core (get_or l j 0)) (kept_same K (ghost_heard run H) ghostly (λ k l. ghost-there k))

      count-there : g ≡ count_below K ghostly
      count-there = count_same K (ghost_heard run H) ghostly (λ k h. ghost-there k)

      slot-number : (j : ℕ) → j < count_below K ghostly → number_of (ghost_slot a j) ≡ number j
      slot-number j h =
          ap number_of (slot_core j (omega (arith, count-there))) ∙ (heard_kept run S H tail).number (number j) (kept_found K ghostly j 0 h).0

      -- its position
      place : (k : ℕ) → k < K → ghostly k ≡ true → least_below (area_ghosts a) (λ j. eqb (number_of (ghost_slot a j)) k) ≡ ghost_position core run.new run.rank k
      unfolding ghost_position
      place k h e =
          let l : count_below k ghostly < count_below K ghostly = count_lt k K ghostly h e in
          let c : area_ghosts a ≡ count_below K ghostly = reads.at_ghosts ∙ count-there in
          rw c
          (least_is (count_below K ghostly) (λ j. eqb (number_of (ghost_slot a j)) k) (count_below k ghostly) l
          (eq-eqb _ _ (slot-number (count_below k ghostly) l ∙ kept_at K ghostly k h e 0))
          (λ j p. ne_eqb _ _
          (λ q. let w = kept_ascends K ghostly j (count_below k ghostly) 0 p l in
          let x : number (count_below k ghostly) ≡ k = kept_at K ghostly k h e 0 in
          let y : number j ≡ k = sym (slot-number j (omega arith)) ∙ q in
          omega arith)))

      -- ---- the part

      module _ (i : ℕ) (tree : i < n) where
        abbrev neighbour : ℕ → ℕ
        neighbour f = neighbour_of (mesh_core run.mesh (first + i)) f

        same_index : (f : ℕ) → f < 6 → join_index a (neighbour f) ≡ local_index run.mesh run.new run.rank (neighbour f)
        unfolding join_index local_index
        same_index f h =
            neighbour_cases run.mesh run.new run.rank new_cuttable S.mesh_bytes S.tables.new_bytes (first + i) (range_local run.mesh run.new run.rank new_cuttable S.mesh_bytes S.tables.new_bytes i tree) f h
            (λ e. rw (eq-eqb (neighbour f) unused e))
            (λ l e. rw (reads.at_new, reads.at_rank, reads.at_first, e))
            (λ l e b. rw (reads.at_new, reads.at_rank, reads.at_first, reads.at_count, place (neighbour f) l b))

        joined-tree : renamed (join_index a) (faces_in (area_dimension a)) (tree_slot a i) ≡ part_tree run.mesh run.new run.rank i
        unfolding part_tree
        joined-tree =
            rw (reads.at_dimension, slot-there i tree)
            (same_names (join_index a) (local_index run.mesh run.new run.rank) (faces_in (mesh_dimension run.mesh)) (mesh_record run.mesh (first + i))
            (λ f h. rw (record_neighbour run.mesh (first + i) f h) (same_index f h)))

      joined-trees : (m : ℕ) → m ≤ n → slots_of (λ i. renamed (join_index a) (faces_in (area_dimension a)) (tree_slot a i)) m ≡ part_trees run.mesh run.new run.rank m
      unfolding slots_of part_trees
      joined-trees zero h = refl
      joined-trees (suc m) h = ap₂ (λ (x y : List ℕ). x ++ y) (joined-trees m (omega arith)) (joined-tree m (omega arith))

      joined-ghosts : slots_of (ghost_slot a) g ≡ part_ghosts run.mesh run.new run.rank K
      unfolding ghost_position
      joined-ghosts =
          let l : length (part_ghosts run.mesh run.new run.rank K) ≡ core_size * count_below K ghostly = cores_length run.mesh run.new run.rank S.mesh_sound_lem K (le_refl K) in
          slots_are (ghost_slot a) (part_ghosts run.mesh run.new run.rank K) g (λ j h. reads.at_ghost j h ∙ ap (λ (b : List ℕ). piece b (core_size * j) core_size) (ghosts-there K))
          ∙ take_all (core_size * g) (part_ghosts run.mesh run.new run.rank K) (omega (arith, l, count-there))

      -- the joined part is the cut of the mesh by the new table
      pub join_is_cut : joined_part a ≡ cut_part run.mesh run.new run.rank
      unfolding joined_part cut_part
      join_is_cut =
          let e = S.tables.same_ranks in
          rw (reads.at_count, reads.at_ghosts, joined-trees n (le_refl n), joined-ghosts, reads.at_dimension, reads.at_k, reads.at_p, reads.at_rank, reads.at_first, many, S.same_trees_lem, e)

      -- and so is sound
      pub join_sound_lem : part_sound (joined_part a) (area_new a) (area_rank a) ≡ true
      join_sound_lem = rw (join_is_cut, reads.at_new, reads.at_rank) (cut_sound run.mesh run.new run.rank new_cuttable S.mesh_bytes S.tables.new_bytes)

    -- a close: 20 until the receive set is heard, then 22 if the buffer is shorter than the part, else the part
    pub close_step : InReceive run H → (out : List ℕ)
        → close_of (canonical run H ++ tail) out
        ≡ write_answer (cond (all_due run H) (cond (leb (length (cut_part run.mesh run.new run.rank)) (length out)) 0 22) 20) (cut_part run.mesh run.new run.rank) out
    unfolding close_of close_checks first_failed write_answer length_answer written
    close_step r out =
        either (all_due run H)
        (λ t. rw (canonical_sound run S H tail r, all_heard_lem, t, join_sound_lem t, join_is_cut t))
        (λ t. rw (canonical_sound run S H tail r, all_heard_lem, t))
