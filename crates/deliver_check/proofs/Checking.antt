-- What the checks of a delivery find is what the definitions say.
use Prim.Native.Nat.{ℕ, ◌+◌, ◌≤◌, ◌<◌, ◌*◌}
use native.Mathlib.Omega.{arith}
use mathlib.Core.Path.{◌≡◌, sym, ap, ap₂, ◌∙◌}
use mathlib.Core.Bool.{Bool, true, false, ◌&&◌}
use mathlib.Core.List.{List}
use lib.Dec.{ltb, eqb}
use borrow.Author.Tests.{lt-ltb, le-ltb, ltb-true, eqb-true, eq-eqb, ne_eqb}
use Rattle.encoding.specs.Below.{all_below}
use Rattle.encoding.specs.Pieces.{piece, Bytes}
use Rattle.encoding.specs.Refusal.{first_failed}
use Rattle.encoding.proofs.Below.{and_fst, and_snd}
use Rattle.pattern.specs.Sender.{sent_first, sent_count}
use Rattle.pattern.specs.Sets.{sends_to, gets_from}
use Rattle.pattern.proofs.Sets.{gets_sends}
use Rattle.records.specs.Record.{core_size, number_of}
use Rattle.message.specs.Layout.{message_tree_place, message_epoch, message_dimension, message_k, message_p, message_sender, message_receiver, message_trees, message_ghosts, message_tree, in_layout}
use Rattle.area.specs.Layout.{heard_words}
use Rattle.area.specs.Area.{area_epoch, area_dimension, area_k, area_p, area_rank, area_old, area_new, area_sound, heard}
use Rattle.area.specs.Means.{Tabled}
use Rattle.area.specs.Deliver.{same_run, sender_due, trees_due, ghost_due, ghost_new, deliver_checks}
use Rattle.area.proofs.Soundness.{sound_holds}
use Rattle.deliver_ghosts.specs.Means.{Checkable}
use Rattle.deliver_ghosts.proofs.Rooms.{layout_header}
use Rattle.deliver_check.specs.Means.{Headed, due_checks}

-- ---- a check each

module _ (a m : List ℕ) where
  pub run_read : {e d k p e' d' k' p' : ℕ} → e ≡ message_epoch m → e' ≡ area_epoch a → d ≡ message_dimension m → d' ≡ area_dimension a → k ≡ message_k m → k' ≡ area_k a → p ≡ message_p m → p' ≡ area_p a
      → (eqb e e' && eqb d d' && eqb k k' && eqb p p') ≡ same_run a m
  unfolding same_run
  run_read x1 x2 x3 x4 x5 x6 x7 x8 = rw (x1, x2, x3, x4, x5, x6, x7, x8)

  pub receiver_read : {r rank : ℕ} → r ≡ message_receiver m → rank ≡ area_rank a → eqb r rank ≡ eqb (message_receiver m) (area_rank a)
  receiver_read e d = rw (e, d)

  -- a sender that is due is a rank
  pub sender_rank : sender_due a m ≡ true → message_sender m < area_p a
  unfolding sender_due
  sender_rank e = ltb-true (message_sender m) (area_p a) (and_fst (ltb (message_sender m) (area_p a)) (gets_from (area_old a) (area_new a) (area_rank a) (message_sender m)) e)

  module _ {s : ℕ} (is-s : s ≡ message_sender m) where
    pub sender_past : {P : ℕ} → P ≡ area_p a → P ≤ s → false ≡ sender_due a m
    unfolding sender_due
    sender_past e h = rw (le-ltb (message_sender m) (area_p a) (omega arith))

    module _ {old new : List ℕ} (t : Tabled a old new) {rank : ℕ} (is_rank : rank ≡ area_rank a) where
      pub sender_read : {P : ℕ} {r : Bool} → P ≡ area_p a → s < P → r ≡ sends_to old new s rank → r ≡ sender_due a m
      unfolding sender_due
      sender_read e h q =
          let g = gets_sends (area_old a) (area_new a) t.header.tables (message_sender m) (area_rank a) (omega (arith, t.header.ranks_are)) (omega (arith, t.header.ranks_are, t.header.rank_below)) in
          q ∙ rw (lt-ltb (message_sender m) (area_p a) (omega arith), g, is-s, is_rank, t.is_old, t.is_new)

      module _ {n count : ℕ} (is_n : n ≡ message_trees m) (is_count : count ≡ sent_count old new s rank) where
        count_is : count ≡ sent_count (area_old a) (area_new a) (message_sender m) (area_rank a)
        count_is = is_count ∙ rw (is-s, is_rank, t.is_old, t.is_new)

        pub trees_other : (n ≡ count → ⊥) → false ≡ trees_due a m
        unfolding trees_due
        trees_other f = rw (← count_is, ← is_n, ne_eqb n count f)

        pub trees_read : n ≡ count → {first : ℕ} {r : Bool} → first ≡ sent_first old new s rank → r ≡ all_below count (λ i. eqb (number_of (message_tree m i)) (first + i)) → r ≡ trees_due a m
        unfolding trees_due
        trees_read e {first} f q =
            let g : first ≡ sent_first (area_old a) (area_new a) (message_sender m) (area_rank a) = f ∙ rw (is-s, is_rank, t.is_old, t.is_new) in
            let k : count ≡ message_trees m = sym e ∙ is_n in
            let same : eqb (message_trees m) (sent_count (area_old a) (area_new a) (message_sender m) (area_rank a)) ≡ true = eq-eqb (message_trees m) (sent_count (area_old a) (area_new a) (message_sender m) (area_rank a)) (sym k ∙ count_is) in
            q ∙ ap₂ (λ (c f : ℕ). all_below c (λ i. eqb (number_of (message_tree m i)) (f + i))) k g ∙ rw same

pub numbered_is : (m : List ℕ) (first i : ℕ) {at v : ℕ} → at ≡ message_tree_place i → v ≡ number_of (piece m at core_size) → eqb (number_of (message_tree m i)) (first + i) ≡ eqb v (first + i)
unfolding message_tree
numbered_is m first i e q = rw (← e, q)

module _ {a m : List ℕ} (R : Checkable a m) where
  -- the sender's bit is in the words
  pub sender_low : {d : Bool} {s : ℕ} → d ≡ sender_due a m → d ≡ true → s ≡ message_sender m → s < 64 * heard_words (area_p a)
  sender_low e ok q = omega (arith, sender_rank a m (sym e ∙ ok), R.header.words_enough)

-- ---- the first check that fails

module _ (a m : List ℕ) where
  module _ {s : Bool} (is-s : s ≡ sender_due a m) where
    pub fails_sender : s ≡ false → 14 ≡ first_failed (due_checks a m)
    unfolding due_checks first_failed
    fails_sender f = rw (← is-s, f)

    module _ (ok-s : s ≡ true) {h : Bool} {p : ℕ} (is-p : p ≡ message_sender m) (is-h : h ≡ heard a p) where
      heard-is : heard a (message_sender m) ≡ h
      heard-is = sym (is-h ∙ ap (heard a) is-p)

      pub fails_heard : h ≡ true → 15 ≡ first_failed (due_checks a m)
      unfolding due_checks first_failed
      fails_heard f = rw (← is-s, ok-s, heard-is, f)

      module _ (ok-h : h ≡ false) {t : Bool} (is-t : t ≡ trees_due a m) where
        pub fails_trees : t ≡ false → 16 ≡ first_failed (due_checks a m)
        unfolding due_checks first_failed
        fails_trees f = rw (← is-s, ok-s, heard-is, ok-h, ← is-t, f)

        module _ (ok-t : t ≡ true) {g : Bool} (is_g : g ≡ all_below (message_ghosts m) (ghost_due a m)) where
          pub fails_ghosts : g ≡ false → 17 ≡ first_failed (due_checks a m)
          unfolding due_checks first_failed
          fails_ghosts f = rw (← is-s, ok-s, heard-is, ok-h, ← is-t, ok-t, ← is_g, f)

          module _ (ok-g : g ≡ true) {n : Bool} (is_n : n ≡ all_below (message_ghosts m) (ghost_new a m)) where
            pub fails_new : n ≡ false → 18 ≡ first_failed (due_checks a m)
            unfolding due_checks first_failed
            fails_new f = rw (← is-s, ok-s, heard-is, ok-h, ← is-t, ok-t, ← is_g, ok-g, ← is_n, f)

            pub none_fails : n ≡ true → 0 ≡ first_failed (due_checks a m)
            unfolding due_checks first_failed
            none_fails f = rw (← is-s, ok-s, heard-is, ok-h, ← is-t, ok-t, ← is_g, ok-g, ← is_n, f)

module _ (a m : List ℕ) (sound : area_sound a ≡ true) {l : Bool} (is-l : l ≡ in_layout m) where
  pub fails_layout : l ≡ false → 11 ≡ first_failed (deliver_checks a m)
  unfolding deliver_checks first_failed
  fails_layout f = rw (sound, ← is-l, f)

  module _ (ok-l : l ≡ true) where
    pub headed : Bytes a → Headed a m
    headed b = record { area = omega (arith, (sound_holds a sound b).long); message = layout_header m (sym is-l ∙ ok-l) }

    module _ {r : Bool} (is-r : r ≡ same_run a m) where
      pub fails_run : r ≡ false → 12 ≡ first_failed (deliver_checks a m)
      unfolding deliver_checks first_failed
      fails_run f = rw (sound, ← is-l, ok-l, ← is-r, f)

      module _ (ok-r : r ≡ true) where
        pub ready : Bytes a → Checkable a m
        unfolding same_run
        ready b =
            let e : (eqb (message_epoch m) (area_epoch a) && eqb (message_dimension m) (area_dimension a) && eqb (message_k m) (area_k a)) ≡ true = and_fst _ _ (sym is-r ∙ ok-r) in
            record {
              header = sound_holds a sound b;
              sound = sound;
              laid = sym is-l ∙ ok-l;
              same_trees = eqb-true _ _ (and_snd (eqb (message_epoch m) (area_epoch a) && eqb (message_dimension m) (area_dimension a)) (eqb (message_k m) (area_k a)) e);
            }

        module _ {q : Bool} (is-q : q ≡ eqb (message_receiver m) (area_rank a)) where
          pub fails_receiver : q ≡ false → 13 ≡ first_failed (deliver_checks a m)
          unfolding deliver_checks first_failed
          fails_receiver f = rw (sound, ← is-l, ok-l, ← is-r, ok-r, ← is-q, f)

          pub rest_checks : q ≡ true → {x : ℕ} → x ≡ first_failed (due_checks a m) → x ≡ first_failed (deliver_checks a m)
          unfolding deliver_checks due_checks first_failed
          rest_checks f e = e ∙ rw (sound, ← is-l, ok-l, ← is-r, ok-r, ← is-q, f)
