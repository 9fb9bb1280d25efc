-- The theorem of demand 3.
use Prim.Native.Nat.{ℕ, ◌+◌, ◌<◌, suc, ◌≤◌}
use native.Mathlib.Nat.{zero-add}
use native.Mathlib.Omega.{arith}
use mathlib.Core.Path.{◌≡◌, sym, ap, ap₂, ◌∙◌}
use mathlib.Core.Bool.{Bool, true, false, cond}
use mathlib.Core.List.{List, [], ◌∷◌, ◌++◌}
use lib.Dec.{leb, ltb, eqb}
use lib.ListN.{length, take, drop}
use lib.Seq.{take_at, drop_at}
use borrow.Author.Tests.{ltb-true, eq-eqb, lt-ltb, le-leb}
use Rattle.encoding.specs.Answer.{length_answer, written, write_answer}
use Rattle.encoding.specs.Below.{count_below}
use Rattle.encoding.specs.Pieces.{splice}
use Rattle.encoding.specs.Refusal.{check, first_failed}
use Rattle.encoding.proofs.Below.{either, clash, tests, all_at}
use Rattle.offsets.specs.Table.{ranks, trees, tree_count, holds, first_tree}
use Rattle.pattern.specs.Sender.{sends, Tables}
use Rattle.pattern.specs.Sets.{sends_to, gets_from}
use Rattle.pattern.proofs.Sets.{gets_sends}
use Rattle.records.specs.Record.{number_of}
use Rattle.mesh.specs.Mesh.{mesh_dimension, mesh_trees, mesh_core, mesh_record}
use Rattle.part.specs.Ghosts.{is_ghost}
use Rattle.message.specs.Build.{part_record}
use Rattle.message.specs.Rule.{ghost_goes}
use Rattle.message.proofs.Ghosts.{tree_one_message, ghost_one_message}
use Rattle.area_open.specs.Calls.{open_checks, open_area_of}
use Rattle.area.specs.Open.{fresh_area}
use Rattle.area_theorems.proofs.Zones.{area_length}
use Rattle.repartition.specs.Words.{slot_heard}
use Rattle.repartition.proofs.Canonical.{ghost_heard, ghosts_heard, canonical}
use Rattle.encoding.specs.declared.answer.Length.{Length}
use Rattle.pattern.specs.Calls.{table_checks}
use Rattle.mesh.proofs.Soundness.{header_parts, sound_header}
use Rattle.part.specs.Cut.{ghost_count}
use Rattle.part.specs.Part.{part_count, part_ghost_count, stored_tree, stored_ghost}
use Rattle.part_theorems.proofs.CutSound.{range_local}
use Rattle.area.specs.Close.{close_of}
use Rattle.repartition.specs.Run.{Run, Setting}
use Rattle.repartition.specs.Lists.{deliver, Call, close, count_in, AllIn, tree_in, ghost_with, TreeIs, GhostIs, Built, AllBuilt, message_of, opened, hears, hears_all, nobody, all_due, area_after_all, answers_of, due_all, accepted_by, new_part}
use Rattle.repartition.specs.Demand.{Demand3, size, heard_by, bytes_after, came_in, close_after}
use Rattle.repartition.proofs.Receive.{InReceive, nobody_receive, hears_receive}
use Rattle.repartition.proofs.Sequences.{Steps, accepted_all, after_all, answers_all, accepted_times}
use Rattle.repartition.proofs.Building.{message_of_lem}
use Rattle.repartition.proofs.Heard.{canonical_zones, canonical_agree, canonical_apart, fresh_canonical}
use Rattle.repartition.proofs.Delivering.{deliver_step}
use Rattle.repartition.proofs.RuleMessages.{trees_in, goes_in, follows_rule}
use Rattle.repartition.proofs.Records.{front_count, front_ghosts, front_tree, front_ghost, front_ghost_core, front_record}
use Rattle.repartition.proofs.Closing.{close_step, new_cuttable}

module _ (run : Run) (S : Setting run) where
  -- what one call does
  pub steps : Steps run S
  steps =
      record {
        delivers = λ H r tail p q b. rw (message_of_lem run S p q b.sender_below b.receiver_below) (deliver_step run S H r tail p q b);
        closes = λ H r tail out. close_step run S H tail r out;
      }

  -- ---- who is heard

  pub receive_all : (cs : List Call) → AllBuilt run cs → (H : ℕ → Bool) → InReceive run H → InReceive run (hears_all run H cs)
  unfolding AllBuilt hears_all hears
  receive_all [] b H r = r
  receive_all (deliver p q ∷ cs) b H r = receive_all cs b.1 (hears run H (deliver p q)) (hears_receive run S H r p q b.0)
  receive_all (close out ∷ cs) b H r = receive_all cs b H r

  -- no number from P on is heard
  unheard : (H : ℕ → Bool) → InReceive run H → (s : ℕ) → ltb s (ranks run.old) ≡ false → H s ≡ false
  unheard H r s e = either (H s) (λ h. let l = r.below s h in absurd (omega tests)) (λ h. h)

  -- ---- the area

  canonical-long : (H : ℕ → Bool) → length (canonical run H) ≡ size run
  unfolding canonical
  canonical-long H =
      area_length run.epoch (mesh_dimension run.mesh) run.old run.new run.rank H (slot_heard run H) (count_below (mesh_trees run.mesh) (ghost_heard run H))
      (ghosts_heard run H (mesh_trees run.mesh)) [] (canonical_zones run S H)

  -- the open call accepts a buffer that is long enough
  open-accepts : (b : List ℕ) → size run ≤ length b → (opened run b).0.refusal ≡ 0
  unfolding opened open_area_of open_checks table_checks first_failed write_answer length_answer
  open-accepts b long =
      let T = S.tables in
      let d = (header_parts run.mesh (sound_header run.mesh S.mesh_sound_lem)).0 in
      rw (T.old_ranks, T.new_ranks, T.old_valid, T.new_valid, eq-eqb (ranks run.old) (ranks run.new) (sym T.same_ranks), eq-eqb (trees run.old) (trees run.new) (sym T.same_trees), lt-ltb run.rank (ranks run.old) S.rank_below, d, le-leb (size run) (length b) long)

  -- the open call wrote the area in which nobody is heard, and left the bytes behind it
  open-start : (b : List ℕ) → size run ≤ length b → (opened run b).1 ≡ canonical run nobody ++ drop (size run) b
  unfolding opened open_area_of write_answer length_answer written splice
  open-start b long =
      let e : (opened run b).0.refusal ≡ 0 = open-accepts b long in
      let R : ℕ = first_failed (open_checks run.old run.new run.rank (mesh_dimension run.mesh) ++ (check (leb (size run) (length b)) 22 ∷ [])) in
      let fresh : List ℕ = fresh_area run.old run.new run.rank (mesh_dimension run.mesh) run.epoch in
      let f : fresh ≡ canonical run nobody = fresh_canonical run in
      let l : length fresh ≡ size run = ap length f ∙ canonical-long nobody in
      either (eqb R 0)
      (λ t. rw t (ap₂ (λ (x : List ℕ) (m : ℕ). x ++ drop m b) f (zero-add (length fresh) ∙ l)))
      (λ t. let z : R ≡ 0 = rw t at e in clash (eq-eqb R 0 z) t)

  module _ (b : List ℕ) (long : size run ≤ length b) (cs : List Call) (built : AllBuilt run cs) where
    abbrev rest : List ℕ
    rest = drop (size run) b

    abbrev none : ℕ → Bool
    none = nobody

    -- the state after a list
    pub state_after : bytes_after run b cs ≡ canonical run (heard_by run cs) ++ rest
    state_after =
        ap (λ (a : List ℕ). area_after_all run a cs) (open-start b long)
        ∙ after_all run S steps cs built none (nobody_receive run) rest

    pub area_is : take (size run) (bytes_after run b cs) ≡ canonical run (heard_by run cs)
    area_is = ap (take (size run)) state_after ∙ take_at (canonical run (heard_by run cs)) rest _ (canonical-long (heard_by run cs))

    behind-is : drop (size run) (bytes_after run b cs) ≡ rest
    behind-is = ap (drop (size run)) state_after ∙ drop_at (canonical run (heard_by run cs)) rest _ (canonical-long (heard_by run cs))

    -- the answers to a list
    pub answers_are : answers_of run (opened run b).1 cs ≡ due_all run none cs
    answers_are =
        ap (λ (a : List ℕ). answers_of run a cs) (open-start b long)
        ∙ answers_all run S steps cs built none (nobody_receive run) rest

    -- ---- each item in exactly one accepted message

    module _ (full : all_due run (heard_by run cs) ≡ true) where
      sender-heard : (p : ℕ) → p < ranks run.old → sends_to run.old run.new p run.rank ≡ true → heard_by run cs p ≡ true
      unfolding all_due
      sender-heard p l e =
          let t = all_at (ranks run.old) (λ s. cond (gets_from run.old run.new run.rank s) (heard_by run cs s) true) full p l in
          rw (gets_sends run.old run.new S.tables p run.rank l S.rank_below ∙ e) at t

      -- a test that of the messages to the rank passes one sender's alone
      once : (test : List ℕ → Bool) (p : ℕ) → p < ranks run.old → sends_to run.old run.new p run.rank ≡ true → test (message_of run p run.rank) ≡ true
          → ((r : ℕ) → Built run r run.rank → (r ≡ p → ⊥) → test (message_of run r run.rank) ≡ false)
          → count_in test (came_in run b cs) ≡ 1
      unfolding nobody
      once test p l e at only =
          ap (λ (a : List ℕ). count_in test (accepted_by run a cs)) (open-start b long)
          ∙ accepted_times run S steps p test at only cs built none (nobody_receive run) rest
          ∙ rw (sender-heard p l e)

  -- ---- what the parts of demand 3 rest on

  module _ (b : List ℕ) (long : size run ≤ length b) (cs : List Call) (built : AllBuilt run cs) where
    abbrev H : ℕ → Bool
    H = heard_by run cs

    trees-once : all_due run (heard_by run cs) ≡ true → (k : ℕ) → holds run.new run.rank k ≡ true → count_in (tree_in k) (came_in run b cs) ≡ 1
    trees-once full k h =
        let w = tree_one_message run.old run.new S.tables run.rank k S.rank_below h in
        let from : Built run w.0 run.rank = record { sender_below = w.1; receiver_below = S.rank_below; sends_tree = w.3 } in
        once b long cs built full (tree_in k) w.0 w.1 w.3 (trees_in run S w.0 run.rank from k ∙ w.2)
        (λ r br ne. trees_in run S r run.rank br k ∙ either (sends run.old run.new r run.rank k) (λ e. absurd (ne (w.4 r e))) (λ e. e))

    ghosts-once : all_due run (heard_by run cs) ≡ true → (k : ℕ) → k < mesh_trees run.mesh → is_ghost (mesh_core run.mesh) run.new run.rank k ≡ true → count_in (ghost_with k) (came_in run b cs) ≡ 1
    ghosts-once full k l h =
        let w = ghost_one_message run.mesh run.old run.new S.tables run.rank k S.rank_below l h in
        let from : Built run w.0 run.rank = record { sender_below = w.1; receiver_below = S.rank_below; sends_tree = w.3 } in
        let t : k < trees run.old = rw S.same_trees_lem at l in
        once b long cs built full (ghost_with k) w.0 w.1 w.3 (goes_in run S w.0 run.rank from k t ∙ w.2)
        (λ r br ne. goes_in run S r run.rank br k t ∙ either (ghost_goes (mesh_core run.mesh) run.old run.new (λ k. ltb k (mesh_trees run.mesh)) (mesh_record run.mesh) r run.rank k) (λ e. absurd (ne (w.4 r e))) (λ e. e))

    -- a close after the list
    pub close_is : (out : List ℕ) → close_after run b cs out ≡ write_answer (cond (all_due run H) (cond (leb (length (new_part run)) (length out)) 0 22) 20) (new_part run) out
    close_is out =
        ap (λ (a : List ℕ). close_of a out) (state_after b long cs built)
        ∙ close_step run S H (drop (size run) b) (receive_all cs built nobody (nobody_receive run)) out

    -- one that is accepted: all are heard, and the buffer begins with the part
    accepted-close : (out : List ℕ) → (close_after run b cs out).0.refusal ≡ 0
        → (all_due run (heard_by run cs) ≡ true) × ((close_after run b cs out).1 ≡ new_part run ++ drop (length (new_part run)) out)
    unfolding write_answer length_answer written splice
    accepted-close out e =
        either (all_due run H)
        (λ t. either (leb (length (new_part run)) (length out))
        (λ u. (t, ap (λ (x : Length × List ℕ). x.1) (close_is out) ∙ rw (t, u) (ap (λ (m : ℕ). new_part run ++ drop m out) (zero-add (length (new_part run))))))
        (λ u. absurd (no_zero 21 (sym (ap (λ (x : Length × List ℕ). x.0.refusal) (close_is out) ∙ rw (t, u)) ∙ e))))
        (λ t. absurd (no_zero 19 (sym (ap (λ (x : Length × List ℕ). x.0.refusal) (close_is out) ∙ rw t) ∙ e)))
      where
        no_zero : (n : ℕ) → suc n ≡ 0 → ⊥
        no_zero n e = omega arith

    abbrev T : Tables run.old run.new
    T = S.tables

    tree_records_lem : (out : List ℕ) → (close_after run b cs out).0.refusal ≡ 0 → (i : ℕ) → i < part_count (close_after run b cs out).1
        → count_in (tree_in (number_of (stored_tree (close_after run b cs out).1 i))) (came_in run b cs) ≡ 1
    tree_records_lem out e i h =
        let ok = new_cuttable run S in
        let c = accepted-close out e in
        let rest : List ℕ = drop (length (new_part run)) out in
        let l : i < tree_count run.new run.rank = rw (c.1, front_count run.mesh run.new run.rank ok S.mesh_bytes T.new_bytes rest) at h in
        rw (c.1, front_tree run.mesh run.new run.rank ok S.mesh_bytes T.new_bytes rest i l)
        (trees-once c.0 (first_tree run.new run.rank + i) (range_local run.mesh run.new run.rank ok S.mesh_bytes T.new_bytes i l))

    ghost_records_lem : (out : List ℕ) → (close_after run b cs out).0.refusal ≡ 0 → (j : ℕ) → j < part_ghost_count (close_after run b cs out).1
        → count_in (ghost_with (number_of (stored_ghost (close_after run b cs out).1 j))) (came_in run b cs) ≡ 1
    ghost_records_lem out e j h =
        let ok = new_cuttable run S in
        let c = accepted-close out e in
        let rest : List ℕ = drop (length (new_part run)) out in
        let l : j < ghost_count run.mesh run.new run.rank = rw (c.1, front_ghosts run.mesh run.new run.rank ok S.mesh_bytes T.new_bytes rest) at h in
        let g = front_ghost run.mesh run.new run.rank ok S.mesh_bytes T.new_bytes rest j l in
        rw c.1 (ghosts-once c.0 (number_of (stored_ghost (new_part run ++ rest) j)) g.0 g.1)

    -- the records of messages that are built are the mesh's, and so are the part's
    trees-whole : (out : List ℕ) → (close_after run b cs out).0.refusal ≡ 0 → (i : ℕ) → i < part_count (close_after run b cs out).1
        → AllIn (TreeIs (number_of (stored_tree (close_after run b cs out).1 i)) (part_record (close_after run b cs out).1 (number_of (stored_tree (close_after run b cs out).1 i)))) (came_in run b cs)
    unfolding TreeIs
    trees-whole out e i h =
        let ok = new_cuttable run S in
        let c = accepted-close out e in
        let rest : List ℕ = drop (length (new_part run)) out in
        let l : i < tree_count run.new run.rank = rw (c.1, front_count run.mesh run.new run.rank ok S.mesh_bytes T.new_bytes rest) at h in
        let k : ℕ = first_tree run.new run.rank + i in
        let r : part_record (new_part run ++ rest) k ≡ mesh_record run.mesh k = front_record run.mesh run.new run.rank ok S.mesh_bytes T.new_bytes rest i l in
        rw (c.1, front_tree run.mesh run.new run.rank ok S.mesh_bytes T.new_bytes rest i l)
        (accepted_all run S (TreeIs k (part_record (new_part run ++ rest) k)) (λ p q f m j u. (follows_rule run S p q f).tree_records_lem m j ∙ ap (mesh_record run.mesh) u ∙ sym r) cs built (opened run b).1)

    ghosts-whole : (out : List ℕ) → (close_after run b cs out).0.refusal ≡ 0 → (j : ℕ) → j < part_ghost_count (close_after run b cs out).1
        → AllIn (GhostIs (number_of (stored_ghost (close_after run b cs out).1 j)) (stored_ghost (close_after run b cs out).1 j)) (came_in run b cs)
    unfolding GhostIs
    ghosts-whole out e j h =
        let ok = new_cuttable run S in
        let c = accepted-close out e in
        let rest : List ℕ = drop (length (new_part run)) out in
        let l : j < ghost_count run.mesh run.new run.rank = rw (c.1, front_ghosts run.mesh run.new run.rank ok S.mesh_bytes T.new_bytes rest) at h in
        let g : List ℕ = stored_ghost (new_part run ++ rest) j in
        let r : g ≡ mesh_core run.mesh (number_of g) = front_ghost_core run.mesh run.new run.rank ok S.mesh_bytes T.new_bytes rest j l in
        rw c.1
        (accepted_all run S (GhostIs (number_of g) g) (λ p q f m i u. (follows_rule run S p q f).ghost_records_lem m i ∙ ap (mesh_core run.mesh) u ∙ sym r) cs built (opened run b).1)

-- the theorem of demand 3
pub demand_3 : Demand3
demand_3 run S b c long-b long-c cs ds built-c built-d =
    let Hc : ℕ → Bool = heard_by run cs in
    let Hd : ℕ → Bool = heard_by run ds in
    let rc : InReceive run Hc = receive_all run S cs built-c nobody (nobody_receive run) in
    let rd : InReceive run Hd = receive_all run S ds built-d nobody (nobody_receive run) in
    let ac = area_is run S b long-b cs built-c in
    let ad = area_is run S c long-c ds built-d in
    record {
      opens = open-accepts run S b long-b;
      same_area = λ e. ac ∙ canonical_agree run Hc Hd e ∙ sym ad;
      same_heard = λ e s.
          either (ltb s (ranks run.old))
          (λ l. canonical_apart run S Hc Hd (sym ac ∙ e ∙ ad) s (ltb-true s (ranks run.old) l))
          (λ l. unheard run S Hc rc s l ∙ sym (unheard run S Hd rd s l));
      behind = behind-is run S b long-b cs built-c;
      answers = answers_are run S b long-b cs built-c;
      tree_once = trees-once run S b long-b cs built-c;
      ghost_once = ghosts-once run S b long-b cs built-c;
      tree_record_once = tree_records_lem run S b long-b cs built-c;
      ghost_record_once = ghost_records_lem run S b long-b cs built-c;
      tree_record_whole = trees-whole run S b long-b cs built-c;
      ghost_record_whole = ghosts-whole run S b long-b cs built-c;
    }
