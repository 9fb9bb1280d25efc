-- One delivery to the canonical area: what is checked of the message, and the area after it.
use Prim.Native.Nat.{ℕ, zero, suc, ◌+◌, ◌-◌, ◌≤◌, ◌<◌}
use native.Mathlib.Nat.{le_refl}
use native.Mathlib.Omega.{arith}
use mathlib.Core.Path.{◌≡◌, refl, sym, ap, ap₂, ◌∙◌}
use mathlib.Core.Bool.{Bool, true, false, cond, not, ◌||◌, and-false, or-false, or-true}
use mathlib.Core.List.{List, [], ◌++◌}
use lib.Dec.{ltb, eqb, eqb-suc-zero}
use lib.ListN.{get_or}
use borrow.Author.Tests.{eqb-true, lt-ltb, eq-eqb, not-true}
use Rattle.encoding.specs.Below.{all_below, any_below, count_below, kept_below}
use Rattle.encoding.specs.Pieces.{piece}
use Rattle.encoding.specs.Refusal.{first_failed}
use Rattle.encoding.proofs.Below.{either, clash, and_fst, and_snd, and_intro, iff_eq, all_intro, any_intro, count_same, kept_found}
use Rattle.offsets.specs.Table.{ranks, trees, first_tree, tree_count, holds}
use Rattle.offsets.proofs.Tables.{count_add}
use Rattle.records.specs.Shape.{face_count}
use Rattle.records.specs.Record.{tree_size, number_of, shape_of, neighbour_of}
use Rattle.pattern.specs.Sender.{Tables, sender, sends, sent_first, sent_count}
use Rattle.pattern.proofs.Counting.{range_true}
use Rattle.pattern.proofs.Senders.{holds_in, sends_true}
use Rattle.pattern.proofs.Sets.{new_below, one_range, sent_below}
use Rattle.mesh.specs.Mesh.{mesh_dimension, mesh_trees, mesh_core, mesh_record}
use Rattle.mesh.proofs.Soundness.{header_parts, sound_header, sound_number}
use Rattle.part.specs.Ghosts.{is_ghost}
use Rattle.message.specs.Layout.{message_tree_place, message_epoch, message_dimension, message_k, message_p, message_sender, message_receiver, message_trees, message_ghosts, message_tree, message_ghost, in_layout}
use Rattle.message.specs.Rule.{sends_beside, considers, sends_ghost, ghost_goes}
use Rattle.message.specs.Means.{ghost_sender, mesh_message}
use Rattle.message.proofs.Ghosts.{beside_at, no_ghost_sender, one_ghost_sender, sends_considers, considers_ghost}
use Rattle.message.proofs.Messages.{RecordsLong, mesh_records_long, mesh_in_layout, message_epoch_lem, message_dimension_lem, message_k_lem, message_p_lem, message_sender_lem, message_receiver_lem, message_trees_lem, message_ghosts_lem, message_record, message_tree_lem, message_ghost_lem}
use Rattle.area.specs.Layout.{area_with}
use Rattle.area.specs.Area.{area_rank, area_ghosts, heard, ghost_slot, area_sound}
use Rattle.area.specs.Deliver.{among, one_of, same_run, sender_due, trees_due, beside_trees, ghost_due, ghost_new, deliver_checks, slot_after, ghosts_after, delivered, deliver_of}
use Rattle.area_theorems.proofs.Zones.{Reads, dimension_small, area_same}
use Rattle.repartition.specs.Words.{slot_heard}
use Rattle.repartition.proofs.Canonical.{ghost_heard, ghosts_heard, canonical}
use Rattle.repartition.specs.Run.{Run, Setting}
use Rattle.repartition.specs.Lists.{deliver, Built, hears}
use Rattle.repartition.proofs.Receive.{InReceive, built_due}
use Rattle.area_theorems.proofs.Counting.{count_apart}
use Rattle.repartition.proofs.Counting.{neighbour_beside}
use Rattle.repartition.proofs.Heard.{Kept, among_kept, one_kept, record_core, canonical_reads, rank_bit, among_heard, one_heard, canonical_sound, canonical_agree}

eqb_sym : (a b : ℕ) → eqb a b ≡ eqb b a
eqb_sym a b = iff_eq (eqb a b) (eqb b a) (λ e. eq-eqb b a (sym (eqb-true a b e))) (λ e. eq-eqb a b (sym (eqb-true b a e)))

-- the refusal as a chain of tests
refusal_chain : (a m : List ℕ) → first_failed (deliver_checks a m)
    ≡ cond (area_sound a) (cond (in_layout m) (cond (same_run a m) (cond (eqb (message_receiver m) (area_rank a)) (cond (sender_due a m) (cond (not (heard a (message_sender m))) (cond (trees_due a m)
    (cond (all_below (message_ghosts m) (ghost_due a m)) (cond (all_below (message_ghosts m) (ghost_new a m)) 0 18) 17) 16) 15) 14) 13) 12) 11) 10
unfolding deliver_checks first_failed
refusal_chain a m = refl

deliver_refused : (a m : List ℕ) (n : ℕ) → first_failed (deliver_checks a m) ≡ suc n → deliver_of a m ≡ (suc n, a)
unfolding deliver_of
deliver_refused a m n e = rw (e, eqb-suc-zero n)

deliver_accepted : (a m : List ℕ) → first_failed (deliver_checks a m) ≡ 0 → deliver_of a m ≡ (0, delivered a m)
unfolding deliver_of
deliver_accepted a m e = rw e

module _ (run : Run) (S : Setting run) where
  abbrev core : ℕ → List ℕ
  core = mesh_core run.mesh

  abbrev T : Tables run.old run.new
  T = S.tables

  -- ---- the message from p to q, read back

  module _ (p q : ℕ) (b : Built run p q) where
    abbrev hand : ℕ → Bool
    hand = λ k. ltb k (mesh_trees run.mesh)

    abbrev goes : ℕ → Bool
    goes = ghost_goes (mesh_core run.mesh) run.old run.new (λ k. ltb k (mesh_trees run.mesh)) (mesh_record run.mesh) p q

    long : RecordsLong (mesh_core run.mesh) run.old run.new (λ k. ltb k (mesh_trees run.mesh)) (mesh_record run.mesh) p q
    long = mesh_records_long run.mesh run.old run.new S.mesh_sound_lem S.same_trees_lem T p q b.receiver_below

    pub built_epoch : message_epoch (mesh_message run.mesh run.old run.new p q run.epoch) ≡ run.epoch
    unfolding mesh_message
    built_epoch = message_epoch_lem core run.old run.new hand (mesh_record run.mesh) p q T b.sender_below b.receiver_below run.epoch (mesh_dimension run.mesh) S.epoch_word

    pub built_dimension : message_dimension (mesh_message run.mesh run.old run.new p q run.epoch) ≡ mesh_dimension run.mesh
    unfolding mesh_message
    built_dimension =
        message_dimension_lem core run.old run.new hand (mesh_record run.mesh) p q T b.sender_below b.receiver_below run.epoch (mesh_dimension run.mesh)
        (dimension_small (mesh_dimension run.mesh) (header_parts run.mesh (sound_header run.mesh S.mesh_sound_lem)).0)

    pub built_k : message_k (mesh_message run.mesh run.old run.new p q run.epoch) ≡ trees run.old
    unfolding mesh_message
    built_k = message_k_lem core run.old run.new hand (mesh_record run.mesh) p q T b.sender_below b.receiver_below run.epoch (mesh_dimension run.mesh)

    pub built_p : message_p (mesh_message run.mesh run.old run.new p q run.epoch) ≡ ranks run.old
    unfolding mesh_message
    built_p = message_p_lem core run.old run.new hand (mesh_record run.mesh) p q T b.sender_below b.receiver_below run.epoch (mesh_dimension run.mesh)

    pub built_sender : message_sender (mesh_message run.mesh run.old run.new p q run.epoch) ≡ p
    unfolding mesh_message
    built_sender = message_sender_lem core run.old run.new hand (mesh_record run.mesh) p q T b.sender_below b.receiver_below run.epoch (mesh_dimension run.mesh)

    pub built_receiver : message_receiver (mesh_message run.mesh run.old run.new p q run.epoch) ≡ q
    unfolding mesh_message
    built_receiver = message_receiver_lem core run.old run.new hand (mesh_record run.mesh) p q T b.sender_below b.receiver_below run.epoch (mesh_dimension run.mesh)

    pub built_trees_lem : message_trees (mesh_message run.mesh run.old run.new p q run.epoch) ≡ sent_count run.old run.new p q
    unfolding mesh_message
    built_trees_lem = message_trees_lem core run.old run.new hand (mesh_record run.mesh) p q T b.sender_below b.receiver_below run.epoch (mesh_dimension run.mesh)

    pub built_ghosts : message_ghosts (mesh_message run.mesh run.old run.new p q run.epoch) ≡ count_below (trees run.old) (ghost_goes (mesh_core run.mesh) run.old run.new (λ k. ltb k (mesh_trees run.mesh)) (mesh_record run.mesh) p q)
    unfolding mesh_message
    built_ghosts = message_ghosts_lem core run.old run.new hand (mesh_record run.mesh) p q T b.sender_below b.receiver_below run.epoch (mesh_dimension run.mesh)

    -- it is in layout
    pub built_laid : in_layout (mesh_message run.mesh run.old run.new p q run.epoch) ≡ true
    built_laid = mesh_in_layout run.mesh run.old run.new S.mesh_sound_lem S.same_trees_lem T p q b.receiver_below run.epoch b.sender_below

    -- tree i is the mesh's, with its data, and its core
    pub built_record : (i : ℕ) → i < sent_count run.old run.new p q → piece (mesh_message run.mesh run.old run.new p q run.epoch) (message_tree_place i) tree_size ≡ mesh_record run.mesh (sent_first run.old run.new p q + i)
    unfolding mesh_message
    built_record i h = message_record core run.old run.new hand (mesh_record run.mesh) p q T b.sender_below b.receiver_below run.epoch (mesh_dimension run.mesh) long i h

    pub built_tree : (i : ℕ) → i < sent_count run.old run.new p q → message_tree (mesh_message run.mesh run.old run.new p q run.epoch) i ≡ mesh_core run.mesh (sent_first run.old run.new p q + i)
    unfolding mesh_message
    built_tree i h =
        message_tree_lem core run.old run.new hand (mesh_record run.mesh) p q T b.sender_below b.receiver_below run.epoch (mesh_dimension run.mesh) long i h
        ∙ record_core run (sent_first run.old run.new p q + i)

    -- so its trees have the numbers of the range due
    pub built_number : (i : ℕ) → i < sent_count run.old run.new p q → number_of (message_tree (mesh_message run.mesh run.old run.new p q run.epoch) i) ≡ sent_first run.old run.new p q + i
    built_number i h =
        ap number_of (built_tree i h)
        ∙ sound_number run.mesh S.mesh_sound_lem (sent_first run.old run.new p q + i) (omega (arith, S.same_trees_lem, sent_below run.old run.new T p q b.sender_below b.receiver_below))

    -- its ghosts are those that go
    pub built_kept : Kept (trees run.old) (ghost_goes (mesh_core run.mesh) run.old run.new (λ k. ltb k (mesh_trees run.mesh)) (mesh_record run.mesh) p q) (mesh_core run.mesh)
        (message_ghosts (mesh_message run.mesh run.old run.new p q run.epoch)) (message_ghost (mesh_message run.mesh run.old run.new p q run.epoch))
    unfolding mesh_message
    built_kept =
        record {
          many = built_ghosts;
          at_place = message_ghost_lem core run.old run.new hand (mesh_record run.mesh) p q T b.sender_below b.receiver_below run.epoch (mesh_dimension run.mesh) long;
          number = λ k h. sound_number run.mesh S.mesh_sound_lem k (omega (arith, S.same_trees_lem));
        }

    pub built_ghost_number : (j : ℕ) → j < count_below (trees run.old) (ghost_goes (mesh_core run.mesh) run.old run.new (λ k. ltb k (mesh_trees run.mesh)) (mesh_record run.mesh) p q)
        → number_of (message_ghost (mesh_message run.mesh run.old run.new p q run.epoch) j) ≡ get_or (kept_below (trees run.old) (ghost_goes (mesh_core run.mesh) run.old run.new (λ k. ltb k (mesh_trees run.mesh)) (mesh_record run.mesh) p q)) j 0
    built_ghost_number j h = ap number_of (built_kept.at_place j h) ∙ built_kept.number (get_or (kept_below (trees run.old) goes) j 0) (kept_found (trees run.old) goes j 0 h).0

    -- a ghost that goes is one that p considers for q
    pub goes_considers : (g : ℕ) → ghost_goes (mesh_core run.mesh) run.old run.new (λ k. ltb k (mesh_trees run.mesh)) (mesh_record run.mesh) p q g ≡ true → considers (mesh_core run.mesh) run.old run.new p q g ≡ true
    unfolding ghost_goes
    goes_considers g e = sends_considers core run.old run.new p q g (and_snd (ltb g (mesh_trees run.mesh)) (sends_ghost core run.old run.new p q g) e)

    goes-beside : (g : ℕ) → goes g ≡ true → sends_beside core run.old run.new p q g ≡ true
    unfolding considers
    goes-beside g e = and_fst (sends_beside core run.old run.new p q g) _ (goes_considers g e)

    -- it is across a face of a tree of the message
    pub built_beside : (area : List ℕ) (g : ℕ) → g < trees run.old → ghost_goes (mesh_core run.mesh) run.old run.new (λ k. ltb k (mesh_trees run.mesh)) (mesh_record run.mesh) p q g ≡ true
        → beside_trees area (mesh_message run.mesh run.old run.new p q run.epoch) g ≡ true
    unfolding beside_trees
    built_beside area g h e =
        let m : List ℕ = mesh_message run.mesh run.old run.new p q run.epoch in
        let a = beside_at core run.old run.new p q g (goes-beside g e) in
        let k : ℕ = neighbour_of (core g) a.0 in
        let l : k < trees run.old = new_below run.old run.new T q k b.receiver_below (sends_true run.old run.new T p q k a.2).0 in
        let r = range_true (sent_first run.old run.new p q) (sent_first run.old run.new p q + sent_count run.old run.new p q) k (sym (one_range run.old run.new T p q b.sender_below b.receiver_below k l) ∙ a.2) in
        let i : ℕ = k - sent_first run.old run.new p q in
        let same : sent_first run.old run.new p q + i ≡ k = omega arith in
        let t : message_tree m i ≡ core k = built_tree i (omega arith) ∙ ap core same in
        any_intro (message_trees m) (λ i. any_below (face_count (shape_of (message_tree m i))) (λ f. eqb (neighbour_of (message_tree m i) f) g)) i
        (omega (arith, built_trees_lem))
        (rw t (neighbour_beside run.mesh S.mesh_sound_lem g a.0 (omega (arith, S.same_trees_lem)) a.1))

  -- ---- the area that gets it

  module _ (H : ℕ → Bool) (r : InReceive run H) (tail : List ℕ) where
    abbrev a : List ℕ
    a = canonical run H ++ tail

    R : Reads (canonical run H ++ tail) run.epoch (mesh_dimension run.mesh) run.old run.new run.rank H (slot_heard run H)
        (count_below (mesh_trees run.mesh) (ghost_heard run H)) (ghosts_heard run H (mesh_trees run.mesh)) tail
    R = canonical_reads run S H tail

    -- 12
    pub step_run : (p q : ℕ) → Built run p q → same_run (canonical run H ++ tail) (mesh_message run.mesh run.old run.new p q run.epoch) ≡ true
    unfolding same_run
    step_run p q b =
        rw (built_epoch p q b, built_dimension p q b, built_k p q b, built_p p q b, R.at_epoch, R.at_dimension, R.at_k, R.at_p)
        (rw (eq-eqb run.epoch run.epoch refl, eq-eqb (mesh_dimension run.mesh) (mesh_dimension run.mesh) refl, eq-eqb (trees run.old) (trees run.old) refl, eq-eqb (ranks run.old) (ranks run.old) refl))

    -- 13
    pub step_receiver : (p q : ℕ) → Built run p q → eqb (message_receiver (mesh_message run.mesh run.old run.new p q run.epoch)) (area_rank (canonical run H ++ tail)) ≡ eqb q run.rank
    step_receiver p q b = rw (built_receiver p q b, R.at_rank)

    -- a message for another rank
    step_other : (p q : ℕ) → Built run p q → eqb q run.rank ≡ false → first_failed (deliver_checks a (mesh_message run.mesh run.old run.new p q run.epoch)) ≡ 13
    step_other p q b e =
        rw (refusal_chain a (mesh_message run.mesh run.old run.new p q run.epoch), canonical_sound run S H tail r, built_laid p q b, step_run p q b, step_receiver p q b, e)

    hears-other : (p q : ℕ) → eqb q run.rank ≡ false → (s : ℕ) → H s ≡ hears run H (deliver p q) s
    unfolding hears
    hears-other p q e s = rw e (sym (or-false (H s)))

    -- a message for this rank
    module _ (p : ℕ) (b : Built run p run.rank) where
      abbrev m : List ℕ
      m = mesh_message run.mesh run.old run.new p run.rank run.epoch

      abbrev after : ℕ → Bool
      after = hears run H (deliver p run.rank)

      abbrev come : ℕ → Bool
      come = ghost_goes (mesh_core run.mesh) run.old run.new (λ k. ltb k (mesh_trees run.mesh)) (mesh_record run.mesh) p run.rank

      abbrev had : ℕ → Bool
      had = ghost_heard run H

      abbrev have : ℕ → Bool
      have = ghost_heard run (hears run H (deliver p run.rank))

      hears-now : (s : ℕ) → after s ≡ (H s || eqb s p)
      unfolding hears
      hears-now s = rw (eq-eqb run.rank run.rank refl)

      hears-again : H p ≡ true → (s : ℕ) → H s ≡ after s
      hears-again t s =
          sym (hears-now s
          ∙ either (eqb s p)
          (λ e. let i : s ≡ p = eqb-true s p e in rw (i, t))
          (λ e. rw e (or-false (H s))))

      -- 14
      step-due : sender_due a m ≡ true
      unfolding sender_due
      step-due =
          rw (built_sender p run.rank b, R.at_p, R.at_old, R.at_new, R.at_rank)
          (rw (lt-ltb p (ranks run.old) b.sender_below, built_due run S H r p run.rank b refl))

      -- 15
      step-heard : heard a (message_sender m) ≡ H p
      step-heard = rw (built_sender p run.rank b) (R.at_heard p (rank_bit run S H p b.sender_below))

      -- 16
      step-trees : trees_due a m ≡ true
      unfolding trees_due
      step-trees =
          rw (built_sender p run.rank b, R.at_old, R.at_new, R.at_rank, built_trees_lem p run.rank b)
          (rw (eq-eqb (sent_count run.old run.new p run.rank) (sent_count run.old run.new p run.rank) refl)
          (all_intro (sent_count run.old run.new p run.rank) (λ i. eqb (number_of (message_tree m i)) (sent_first run.old run.new p run.rank + i))
          (λ i h. eq-eqb (number_of (message_tree m i)) (sent_first run.old run.new p run.rank + i) (built_number p run.rank b i h))))

      -- of ghost j of the message
      come-at : (j : ℕ) → j < message_ghosts m → j < count_below (trees run.old) come
      come-at j h = omega (arith, built_ghosts p run.rank b)

      come-out : (g : ℕ) → come g ≡ true → holds run.new run.rank g ≡ false
      unfolding is_ghost
      come-out g e = not-true (holds run.new run.rank g) (and_fst (not (holds run.new run.rank g)) _ (considers_ghost core run.old run.new p run.rank g (goes_considers p run.rank b g e)))

      -- 17
      step-ghosts : all_below (message_ghosts m) (ghost_due a m) ≡ true
      unfolding ghost_due
      step-ghosts =
          all_intro (message_ghosts m) (ghost_due a m)
          (λ j h. let l = come-at j h in
          let g : ℕ = get_or (kept_below (trees run.old) come) j 0 in
          let f = kept_found (trees run.old) come j 0 l in
          rw (R.at_new, R.at_rank, built_ghost_number p run.rank b j l, come-out g f.1, built_beside p run.rank b a g f.0 f.1))

      -- the ghosts heard after it: those heard before, and those that came
      pub heard_more : (k : ℕ) → k < mesh_trees run.mesh → ghost_heard run (hears run H (deliver p run.rank)) k
          ≡ (ghost_heard run H k || ghost_goes (mesh_core run.mesh) run.old run.new (λ k. ltb k (mesh_trees run.mesh)) (mesh_record run.mesh) p run.rank k)
      unfolding ghost_heard ghost_goes
      heard_more k h =
          let s : ℕ = ghost_sender core run.old run.new run.rank k in
          either (is_ghost core run.new run.rank k)
          (λ t. rw (t, one_ghost_sender core run.old run.new T run.rank k S.rank_below t p, lt-ltb k (mesh_trees run.mesh) h, hears-now s, eqb_sym s p))
          (λ t. rw (t, no_ghost_sender core run.old run.new p run.rank k t) (sym (and-false (ltb k (mesh_trees run.mesh)))))

      -- where the sender is new, none came that was heard
      pub heard_apart : H p ≡ false → (k : ℕ) → k < mesh_trees run.mesh → ghost_heard run H k ≡ true
          → ghost_goes (mesh_core run.mesh) run.old run.new (λ k. ltb k (mesh_trees run.mesh)) (mesh_record run.mesh) p run.rank k ≡ false
      unfolding ghost_heard ghost_goes
      heard_apart new-sender k h e =
          let s : ℕ = ghost_sender core run.old run.new run.rank k in
          let t : is_ghost core run.new run.rank k ≡ true = and_fst (is_ghost core run.new run.rank k) (H s) e in
          let u : H s ≡ true = and_snd (is_ghost core run.new run.rank k) (H s) e in
          rw (one_ghost_sender core run.old run.new T run.rank k S.rank_below t p, lt-ltb k (mesh_trees run.mesh) h)
          (either (eqb p s) (λ d. let i : p ≡ s = eqb-true p s d in clash u (rw i at new-sender)) (λ d. d))

      -- 18
      step-new : H p ≡ false → all_below (message_ghosts m) (ghost_new a m) ≡ true
      unfolding ghost_new
      step-new new-sender =
          all_intro (message_ghosts m) (ghost_new a m)
          (λ j h. let l = come-at j h in
          let g : ℕ = get_or (kept_below (trees run.old) come) j 0 in
          let f = kept_found (trees run.old) come j 0 l in
          let k : g < mesh_trees run.mesh = omega (arith, S.same_trees_lem, f.0) in
          let z : had g ≡ false = either (had g) (λ t. clash f.1 (heard_apart new-sender g k t)) (λ t. t) in
          rw (built_ghost_number p run.rank b j l, among_heard run S H tail g k, z))

      -- how many ghosts are held after it
      step-many : H p ≡ false → area_ghosts a + message_ghosts m ≡ count_below (mesh_trees run.mesh) have
      step-many new-sender =
          rw (R.at_ghosts, built_ghosts p run.rank b, ← S.same_trees_lem)
          (sym (count_same (mesh_trees run.mesh) have (λ k. had k || come k) heard_more ∙ count_apart (mesh_trees run.mesh) had come (heard_apart new-sender)))

      step-again : H p ≡ true → first_failed (deliver_checks a m) ≡ 15
      step-again t =
          rw (refusal_chain a m, canonical_sound run S H tail r, built_laid p run.rank b, step_run p run.rank b, step_receiver p run.rank b, eq-eqb run.rank run.rank refl, step-due, step-heard, t)

      step-passes : H p ≡ false → first_failed (deliver_checks a m) ≡ 0
      step-passes t =
          rw (refusal_chain a m, canonical_sound run S H tail r, built_laid p run.rank b, step_run p run.rank b, step_receiver p run.rank b, eq-eqb run.rank run.rank refl, step-due, step-heard, t)
          (rw (step-trees, step-ghosts, step-new t))

      -- ---- the area after it

      -- the ghosts
      step-ghost : (k : ℕ) → k < mesh_trees run.mesh → cond (among (area_ghosts a) (ghost_slot a) k) (one_of (area_ghosts a) (ghost_slot a) k)
          (cond (among (message_ghosts m) (message_ghost m) k) (one_of (message_ghosts m) (message_ghost m) k) []) ≡ cond (have k) (core k) []
      step-ghost k h =
          let l : k < trees run.old = omega (arith, S.same_trees_lem) in
          let kept : Kept (trees run.old) come core (message_ghosts m) (message_ghost m) = built_kept p run.rank b in
          rw (heard_more k h, among_heard run S H tail k h, among_kept (trees run.old) come core (message_ghosts m) (message_ghost m) kept k l)
          (either (had k)
          (λ t. rw (t, one_heard run S H tail k h t))
          (λ t. rw t (either (come k) (λ u. rw (u, one_kept (trees run.old) come core (message_ghosts m) (message_ghost m) kept k l u)) (λ u. rw u))))

      ghosts-after : (k : ℕ) → k ≤ mesh_trees run.mesh → ghosts_after a m k ≡ ghosts_heard run after k
      unfolding ghosts_after ghosts_heard
      ghosts-after zero h = refl
      ghosts-after (suc k) h = ap₂ (λ (x y : List ℕ). x ++ y) (ghosts-after k (omega arith)) (step-ghost k h)

      -- the slots
      own-holds : (i : ℕ) → i < tree_count run.new run.rank → holds run.new run.rank (first_tree run.new run.rank + i) ≡ true
      own-holds i h =
          let s = T.same_ranks in
          let l = S.rank_below in
          let c = count_add run.new T.new_bytes T.new_ranks T.new_valid run.rank (omega arith) in
          holds_in run.new run.rank (first_tree run.new run.rank + i) (omega arith) (omega arith)

      step-record : (k : ℕ) → sends run.old run.new p run.rank k ≡ true → piece m (message_tree_place (k - sent_first run.old run.new p run.rank)) tree_size ≡ mesh_record run.mesh k
      step-record k e =
          let l : k < trees run.old = new_below run.old run.new T run.rank k S.rank_below (sends_true run.old run.new T p run.rank k e).0 in
          let f = range_true (sent_first run.old run.new p run.rank) (sent_first run.old run.new p run.rank + sent_count run.old run.new p run.rank) k (sym (one_range run.old run.new T p run.rank b.sender_below S.rank_below k l) ∙ e) in
          let same : sent_first run.old run.new p run.rank + (k - sent_first run.old run.new p run.rank) ≡ k = omega arith in
          built_record p run.rank b (k - sent_first run.old run.new p run.rank) (omega arith) ∙ ap (mesh_record run.mesh) same

      slots-after : (i : ℕ) → i < tree_count run.new run.rank → slot_after a m i ≡ slot_heard run after i
      unfolding slot_after slot_heard sends
      slots-after i h =
          let k : ℕ = first_tree run.new run.rank + i in
          let s : ℕ = sender run.old k run.rank in
          rw (built_sender p run.rank b, R.at_old, R.at_new, R.at_rank, R.at_first, R.at_slot i h, hears-now s, own-holds i h)
          (either (eqb s p)
          (λ t. let e : sends run.old run.new p run.rank k ≡ true = and_intro (holds run.new run.rank k) (eqb s p) (own-holds i h) t in
          rw (t, or-true (H s)) (step-record k e))
          (λ t. rw (t, or-false (H s))))

      canonical-is : canonical run after
          ≡ area_with run.epoch (mesh_dimension run.mesh) run.old run.new run.rank after (slot_heard run after) (count_below (mesh_trees run.mesh) have) (ghosts_heard run after (mesh_trees run.mesh))
      unfolding canonical
      canonical-is = refl

      -- the whole
      step-delivered : H p ≡ false → delivered a m ≡ canonical run after ++ tail
      unfolding delivered
      step-delivered t =
          rw (R.at_epoch, R.at_dimension, R.at_old, R.at_new, R.at_rank, R.at_k, R.at_behind, step-many t, ← S.same_trees_lem, ghosts-after (mesh_trees run.mesh) (le_refl (mesh_trees run.mesh)), canonical-is)
          (ap (λ (l : List ℕ). l ++ tail)
          (area_same run.epoch (mesh_dimension run.mesh) run.old run.new run.rank (λ s. heard a s || eqb s (message_sender m)) after (slot_after a m) (slot_heard run after)
          (count_below (mesh_trees run.mesh) have) (ghosts_heard run after (mesh_trees run.mesh))
          (λ s h. rw (R.at_heard s h, built_sender p run.rank b) (sym (hears-now s))) slots-after))

      step-own : deliver_of a m ≡ (cond (H p) 15 0, canonical run after ++ tail)
      step-own =
          either (H p)
          (λ t. rw t (deliver_refused a m 14 (step-again t) ∙ ap (λ (l : List ℕ). (15, l ++ tail)) (canonical_agree run H after (hears-again t))))
          (λ t. rw t (deliver_accepted a m (step-passes t) ∙ ap (λ (l : List ℕ). (0, l)) (step-delivered t)))

    -- a delivery to the canonical area: the first of a message for the rank is accepted, every other refused, and the area is again the canonical one
    pub deliver_step : (p q : ℕ) → Built run p q
        → deliver_of (canonical run H ++ tail) (mesh_message run.mesh run.old run.new p q run.epoch)
        ≡ (cond (eqb q run.rank) (cond (H p) 15 0) 13, canonical run (hears run H (deliver p q)) ++ tail)
    deliver_step p q b =
        either (eqb q run.rank)
        (λ e. let i : q ≡ run.rank = eqb-true q run.rank e in
        let own : Built run p run.rank = rw i at b in
        rw (i, eq-eqb run.rank run.rank refl) (step-own p own))
        (λ e. rw e
        (deliver_refused a (mesh_message run.mesh run.old run.new p q run.epoch) 12 (step_other p q b e)
        ∙ ap (λ (l : List ℕ). (13, l ++ tail)) (canonical_agree run H (hears run H (deliver p q)) (hears-other p q e))))
