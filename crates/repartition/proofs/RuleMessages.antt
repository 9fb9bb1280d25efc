-- The trees and ghosts of a message that a rank builds.
use Prim.Native.Nat.{ℕ, ◌+◌, ◌-◌, ◌<◌}
use native.Mathlib.Omega.{arith}
use mathlib.Core.Path.{◌≡◌, sym, ap, ◌∙◌}
use mathlib.Core.Bool.{Bool, true, ◌&&◌}
use mathlib.Core.List.{List}
use lib.Dec.{leb, ltb, eqb}
use lib.ListN.{get_or}
use borrow.Author.Tests.{ltb-true, leb-true, lt-ltb, eqb-true, eq-eqb}
use Rattle.encoding.specs.Below.{any_below, count_below, kept_below}
use Rattle.encoding.proofs.Below.{either, clash, and_fst, and_snd, iff_eq, any_at, any_intro, kept_found}
use Rattle.offsets.specs.Table.{trees}
use Rattle.pattern.specs.Sender.{sends, sent_first, sent_count}
use Rattle.pattern.proofs.Senders.{sends_true}
use Rattle.pattern.proofs.Sets.{one_range, sent_in, new_below}
use Rattle.records.specs.Record.{number_of}
use Rattle.mesh.specs.Mesh.{mesh_trees, mesh_core, mesh_record}
use Rattle.message.specs.Layout.{message_trees, message_tree, message_ghosts, message_ghost}
use Rattle.message.specs.Rule.{sends_ghost, ghost_goes}
use Rattle.message.specs.Means.{mesh_message}
use Rattle.area.specs.Deliver.{among}
use Rattle.repartition.specs.Run.{Run, Setting}
use Rattle.repartition.specs.Lists.{tree_in, ghost_with, Built, message_of}
use Rattle.repartition.specs.Promises.{FollowsRule}
use Rattle.repartition.proofs.Building.{message_of_lem}
use Rattle.repartition.proofs.Heard.{among_kept}
use Rattle.repartition.proofs.Delivering.{built_epoch, built_dimension, built_k, built_p, built_sender, built_receiver, built_trees_lem, built_ghosts, built_laid, built_record, built_number, built_kept, built_ghost_number}

module _ (run : Run) (S : Setting run) (p q : ℕ) (b : Built run p q) where
  abbrev m : List ℕ
  m = mesh_message run.mesh run.old run.new p q run.epoch

  abbrev first : ℕ
  first = sent_first run.old run.new p q

  abbrev count : ℕ
  count = sent_count run.old run.new p q

  abbrev goes : ℕ → Bool
  goes = ghost_goes (mesh_core run.mesh) run.old run.new (λ k. ltb k (mesh_trees run.mesh)) (mesh_record run.mesh) p q

  is-message : message_of run p q ≡ m
  is-message = message_of_lem run S p q b.sender_below b.receiver_below

  many : message_trees m ≡ count
  many = built_trees_lem run S p q b

  -- its trees are those that p sends q
  pub trees_in : (k : ℕ) → tree_in k (message_of run p q) ≡ sends run.old run.new p q k
  unfolding tree_in among
  trees_in k =
      let T = S.tables in
      let f : ℕ → Bool = λ i. eqb (number_of (message_tree m i)) k in
      rw (is-message, many)
      (iff_eq (any_below count f) (sends run.old run.new p q k)
      (λ e. let a = any_at count f e in
      let is : first + a.0 ≡ k = sym (built_number run S p q b a.0 a.1) ∙ eqb-true _ _ a.2 in
      sent_in run.old run.new T p q b.sender_below b.receiver_below k (omega arith) (omega arith))
      (λ e. let w = sends_true run.old run.new T p q k e in
      let l : k < trees run.old = new_below run.old run.new T q k b.receiver_below w.0 in
      let r : (leb first k && ltb k (first + count)) ≡ true = sym (one_range run.old run.new T p q b.sender_below b.receiver_below k l) ∙ e in
      let low = leb-true first k (and_fst (leb first k) _ r) in
      let high = ltb-true k (first + count) (and_snd (leb first k) _ r) in
      let i : k - first < count = omega arith in
      any_intro count f (k - first) i (eq-eqb _ _ (built_number run S p q b (k - first) i ∙ omega arith))))

  -- its ghosts are those that go
  pub goes_in : (k : ℕ) → k < trees run.old
      → ghost_with k (message_of run p q) ≡ ghost_goes (mesh_core run.mesh) run.old run.new (λ k. ltb k (mesh_trees run.mesh)) (mesh_record run.mesh) p q k
  unfolding ghost_with
  goes_in k h = rw is-message (among_kept (trees run.old) goes (mesh_core run.mesh) (message_ghosts m) (message_ghost m) (built_kept run S p q b) k h)

  abbrev number : ℕ → ℕ
  number j = get_or (kept_below (trees run.old) goes) j 0

  ghost_below : (k : ℕ) → ghost_with k (message_of run p q) ≡ true → k < trees run.old
  unfolding ghost_with among
  ghost_below k e =
      let f : ℕ → Bool = λ j. eqb (number_of (message_ghost m j)) k in
      let t : any_below (message_ghosts m) f ≡ true = rw is-message at e in
      let a = any_at (message_ghosts m) f t in
      let l : a.0 < count_below (trees run.old) goes = omega (arith, a.1, built_ghosts run S p q b) in
      let is : number a.0 ≡ k = sym (built_ghost_number run S p q b a.0 l) ∙ eqb-true _ _ a.2 in
      rw (← is) (kept_found (trees run.old) goes a.0 0 l).0

  ghosts_in : (k : ℕ) → ghost_with k (message_of run p q) ≡ (ltb k (mesh_trees run.mesh) && sends_ghost (mesh_core run.mesh) run.old run.new p q k)
  unfolding ghost_goes
  ghosts_in k =
      either (ltb k (trees run.old))
      (λ l. goes_in k (ltb-true k (trees run.old) l))
      (λ l. either (ghost_with k (message_of run p q))
      (λ e. clash (lt-ltb k (trees run.old) (ghost_below k e)) l)
      (λ e. e ∙ rw (S.same_trees_lem, l)))

  -- the message is the one that the rule names
  pub follows_rule : FollowsRule run p q (message_of run p q)
  follows_rule =
      record {
        in_layout_lem = rw is-message (built_laid run S p q b);
        epoch_is = rw is-message (built_epoch run S p q b);
        dimension_is = rw is-message (built_dimension run S p q b);
        trees_all = rw is-message (built_k run S p q b);
        ranks_all = rw is-message (built_p run S p q b);
        sender_is = rw is-message (built_sender run S p q b);
        receiver_is = rw is-message (built_receiver run S p q b);
        trees_in = trees_in;
        ghosts_in = ghosts_in;
        tree_records_lem = λ i h. rw is-message
            (let l : i < count = omega (arith, rw is-message at h, many) in
            built_record run S p q b i l ∙ ap (mesh_record run.mesh) (sym (built_number run S p q b i l)));
        ghost_records_lem = λ j h. rw is-message
            (let l : j < count_below (trees run.old) goes = omega (arith, rw is-message at h, built_ghosts run S p q b) in
            (built_kept run S p q b).at_place j l ∙ ap (mesh_core run.mesh) (sym (built_ghost_number run S p q b j l)));
      }
