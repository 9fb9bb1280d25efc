-- Messages from any sound part, also one that comes from no mesh.
use Prim.Native.Nat.{ℕ, ◌+◌, ◌-◌, ◌≤◌, ◌<◌}
use native.Mathlib.Nat.{add-zero}
use native.Mathlib.Omega.{arith}
use mathlib.Core.Path.{◌≡◌, sym, ap, ◌∙◌}
use mathlib.Core.Bool.{true}
use mathlib.Core.List.{List}
use lib.ListN.{length}
use Rattle.encoding.specs.Below.{count_below}
use Rattle.encoding.specs.Pieces.{piece}
use Rattle.encoding.proofs.Below.{either, and_fst, count_same}
use Rattle.encoding.proofs.Pieces.{piece_length}
use Rattle.offsets.specs.Table.{ranks, trees, first_tree, tree_count, end_tree, holds}
use Rattle.pattern.specs.Sender.{Tables, sends, sent_count}
use Rattle.pattern.proofs.Senders.{sender_holds, sends_true}
use Rattle.pattern.proofs.Sets.{new_below}
use Rattle.records.specs.Record.{core_size, tree_size}
use Rattle.records.specs.Shape.{faces_in}
use Rattle.records.proofs.Forms.{piece_piece}
use Rattle.part.specs.Layout.{part_header, tree_place}
use Rattle.part.specs.Cut.{renamed}
use Rattle.part.specs.Part.{part_dimension, part_k, part_first, part_count, part_ghost_count, stored_tree, stored_ghost, global_number, global_tree, part_holds, part_core, part_sound}
use Rattle.part_theorems.proofs.SoundParts.{part_header_lem, part_length, part_tree_lem, part_number, part_form, part_shape, part_core_tree, part_core_long, part_neighbour_below, dimension_same, holds_same, cores_same}
use Rattle.part_theorems.proofs.CutSound.{holds_range}
use Rattle.message.specs.Layout.{message_size, in_layout}
use Rattle.message.specs.Rule.{ghost_goes, sends_ghost}
use Rattle.message.specs.Build.{part_record, part_message}
use Rattle.message.proofs.Messages.{CoreLaid, RecordsLong, RuleLaid, message_length, rule_in_layout, same_core, rule_agrees}
use Rattle.repartition.proofs.Building.{wide_core, wide_data, wide_long, same_halves}

module _ (part old new : List ℕ) (p q : ℕ) (T : Tables old new) (is_sender : p < ranks old) (is-receiver : q < ranks old) (sound : part_sound part old p ≡ true) where
  abbrev record_of : ℕ → List ℕ
  record_of k = piece part (tree_place (k - part_first part)) tree_size

  -- a tree that p sends is one of its own
  pub sent_own : (k : ℕ) → sends old new p q k ≡ true → holds old p k ≡ true
  sent_own k e =
      let s = sends_true old new T p q k e in
      rw s.1 at (sender_holds old new T k q (new_below old new T q k is-receiver s.0) is-receiver)

  module _ (k : ℕ) (own : holds old p k ≡ true) where
    in-part : (part_first part ≤ k) × (k - part_first part < part_count part)
    unfolding tree_count
    in-part =
        let r = holds_range old p k own in
        let first : part_first part ≡ first_tree old p = (part_header_lem part old p sound).first_tree_lem in
        let count : part_count part ≡ end_tree old p - first_tree old p = (part_header_lem part old p sound).tree_count_lem in
        (omega (arith, r.0), omega (arith, r.0, r.1))

    own-long : length (record_of k) ≡ tree_size
    own-long = piece_length part (tree_place (k - part_first part)) tree_size (omega (arith, in-part.1, part_length part old p sound))

    own-stored : piece (record_of k) 0 core_size ≡ stored_tree part (k - part_first part)
    unfolding stored_tree
    own-stored = piece_piece part (tree_place (k - part_first part)) tree_size 0 core_size (omega arith) ∙ ap (λ (at : ℕ). piece part at core_size) (add-zero (tree_place (k - part_first part)))

    -- its record in a message is its core with global numbers and its data
    pub record_core : piece (part_record part k) 0 core_size ≡ part_core part k
    unfolding part_record global_tree
    record_core =
        let back : part_first part + (k - part_first part) ≡ k = omega (arith, in-part.0) in
        wide_core (global_number part) (faces_in (part_dimension part)) (record_of k) own-long
        ∙ ap (renamed (global_number part) (faces_in (part_dimension part))) own-stored
        ∙ sym (part_core_tree part old p sound (k - part_first part) in-part.1)
        ∙ ap (part_core part) back

    pub record_long : length (part_record part k) ≡ tree_size
    unfolding part_record
    record_long = wide_long (global_number part) (faces_in (part_dimension part)) (record_of k) own-long

    pub record_data : piece (part_record part k) core_size 24 ≡ piece part (tree_place (k - part_first part) + core_size) 24
    unfolding part_record
    record_data =
        wide_data (global_number part) (faces_in (part_dimension part)) (record_of k) own-long
        ∙ piece_piece part (tree_place (k - part_first part)) tree_size core_size 24 (omega arith)

  -- the records of its message have their sizes and are laid out
  core-laid : (k : ℕ) → part_holds part k ≡ true → CoreLaid (part_dimension part) (trees old) k (part_core part k)
  core-laid k e =
      let all : part_k part ≡ trees old = (part_header_lem part old p sound).all_trees in
      record {
        form = part_form part old p sound k e;
        number = part_number part old p sound k e;
        shape = part_shape part old p sound k e;
        below = λ f h. omega (arith, part_neighbour_below part old p sound T.old_bytes T.old_ranks T.old_valid is_sender k e f h);
      }

  pub part_records_long : RecordsLong (part_core part) old new (part_holds part) (part_record part) p q
  unfolding ghost_goes
  part_records_long =
      record {
        trees_long = λ k e. record_long k (sent_own k e);
        ghosts_long = λ g h e. part_core_long part old p sound g (and_fst (part_holds part g) (sends_ghost (part_core part) old new p q g) e);
      }

  part-rule-laid : RuleLaid (part_core part) old new (part_holds part) (part_record part) p q (part_dimension part)
  unfolding ghost_goes
  part-rule-laid =
      record {
        long = part_records_long;
        trees_laid = λ k e. rw (record_core k (sent_own k e)) (core-laid k (part_tree_lem part old p sound k (sent_own k e)));
        ghosts_laid = λ g h e. core-laid g (and_fst (part_holds part g) (sends_ghost (part_core part) old new p q g) e);
      }

  -- the message from a sound part is in layout
  pub part_in_layout : (epoch : ℕ) → in_layout (part_message part old new p q epoch) ≡ true
  unfolding part_message
  part_in_layout epoch =
      rule_in_layout (part_core part) old new (part_holds part) (part_record part) p q T is_sender is-receiver epoch (part_dimension part) (part_header_lem part old p sound).dimension part-rule-laid

  -- its length
  pub part_message_length : (epoch : ℕ)
      → length (part_message part old new p q epoch) ≡ message_size (sent_count old new p q) (count_below (trees old) (ghost_goes (part_core part) old new (part_holds part) (part_record part) p q))
  unfolding part_message
  part_message_length epoch =
      message_length (part_core part) old new (part_holds part) (part_record part) p q T is_sender is-receiver epoch (part_dimension part) part_records_long

-- ---- two sound parts with the same header and the same cores

module _ (a b old new : List ℕ) (p q : ℕ) (T : Tables old new) (is_sender : p < ranks old) (is-receiver : q < ranks old)
    (sound-a : part_sound a old p ≡ true) (sound-b : part_sound b old p ≡ true) (same_header : piece a 0 part_header ≡ piece b 0 part_header)
    (same_trees_lem : (i : ℕ) → i < part_count a → stored_tree a i ≡ stored_tree b i) (same_ghosts : (j : ℕ) → j < part_ghost_count a → stored_ghost a j ≡ stored_ghost b j) where
  goes_same : (g : ℕ) → ghost_goes (part_core a) old new (part_holds a) (part_record a) p q g ≡ ghost_goes (part_core b) old new (part_holds b) (part_record b) p q g
  unfolding ghost_goes
  goes_same g =
      rw (← holds_same a b same_header same_trees_lem same_ghosts g)
      (either (part_holds a g)
      (λ e. rw e (same_core (part_core a) (part_core b) old new p q g (cores_same a b same_header same_trees_lem same_ghosts g e)))
      (λ e. rw e))

  -- their messages have the same length
  pub length_cores : (epoch : ℕ) → length (part_message a old new p q epoch) ≡ length (part_message b old new p q epoch)
  length_cores epoch =
      part_message_length a old new p q T is_sender is-receiver sound-a epoch
      ∙ ap (message_size (sent_count old new p q)) (count_same (trees old) (ghost_goes (part_core a) old new (part_holds a) (part_record a) p q) (ghost_goes (part_core b) old new (part_holds b) (part_record b) p q) (λ g h. goes_same g))
      ∙ sym (part_message_length b old new p q T is_sender is-receiver sound-b epoch)

  -- and are equal where the data of the trees sent is: no other tree's data is in a message
  pub message_data : ((k : ℕ) → sends old new p q k ≡ true → piece a (tree_place (k - part_first a) + core_size) 24 ≡ piece b (tree_place (k - part_first b) + core_size) 24)
      → (epoch : ℕ) → part_message a old new p q epoch ≡ part_message b old new p q epoch
  unfolding part_message ghost_goes
  message_data same-data epoch =
      rw (dimension_same a b same_header)
      (rule_agrees (part_core a) (part_core b) (part_holds a) (part_holds b) (part_record a) (part_record b) old new p q T is_sender is-receiver epoch (part_dimension b)
      same-record (λ g h. goes_same g) (λ g h e. cores_same a b same_header same_trees_lem same_ghosts g (and_fst (part_holds a g) (sends_ghost (part_core a) old new p q g) e)))
    where
      same-record : (k : ℕ) → sends old new p q k ≡ true → part_record a k ≡ part_record b k
      same-record k e =
          let own : holds old p k ≡ true = sent_own a old new p q T is_sender is-receiver sound-a k e in
          same_halves (part_record a k) (part_record b k)
          (record_long a old new p q T is_sender is-receiver sound-a k own) (record_long b old new p q T is_sender is-receiver sound-b k own)
          (record_core a old new p q T is_sender is-receiver sound-a k own ∙ cores_same a b same_header same_trees_lem same_ghosts k (part_tree_lem a old p sound-a k own) ∙ sym (record_core b old new p q T is_sender is-receiver sound-b k own))
          (record_data a old new p q T is_sender is-receiver sound-a k own ∙ same-data k e ∙ sym (record_data b old new p q T is_sender is-receiver sound-b k own))
