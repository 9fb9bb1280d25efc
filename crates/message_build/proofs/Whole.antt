-- The message that the code writes is the message of the definition.
use Prim.Native.Nat.{ℕ, zero, suc, ◌+◌, ◌-◌, ◌*◌, ◌≤◌, ◌<◌}
use native.Mathlib.Omega.{arith}
use mathlib.Core.Path.{◌≡◌, refl, sym, ap, ap₂, ◌∙◌}
use mathlib.Core.Bool.{Bool, true, false}
use mathlib.Core.List.{List, ◌++◌}
use lib.ListN.{length}
use Rattle.encoding.specs.Below.{count_below}
use Rattle.encoding.specs.Numbers.{u32_at}
use Rattle.encoding.specs.Pieces.{piece, splice}
use Rattle.encoding.proofs.Below.{either, and_fst, count_same}
use Rattle.encoding.proofs.Pieces.{piece_length, length_splice, splice_then}
use Rattle.bits.specs.Bits.{in_set}
use Rattle.offsets.specs.Table.{ranks, trees, end_tree, holds}
use Rattle.offsets.proofs.Tables.{count_add, end_trees, trees_high}
use Rattle.pattern.specs.Sender.{Tables, sends, sent_first, sent_count}
use Rattle.pattern.proofs.Senders.{holds_true, sender_holds, sends_true}
use Rattle.pattern.proofs.Sets.{new_below, sent_below, sent_in}
use Rattle.records.specs.Shape.{faces_in}
use Rattle.records.specs.Record.{core_size, tree_size, number_of}
use Rattle.records.proofs.Forms.{number_at_lem}
use Rattle.records.proofs.Shapes.{faces_positive}
use Rattle.part.specs.Layout.{part_header, tree_place, ghost_place}
use Rattle.part.specs.Cut.{renamed}
use Rattle.part.specs.Part.{part_dimension, part_k, part_first, part_count, part_ghost_count, stored_ghost, part_holds, part_core}
use Rattle.part.specs.Means.{number_at}
use Rattle.part.proofs.Records.{rows_length}
use Rattle.part_theorems.proofs.SoundParts.{PartSays, part_header_lem, part_length, part_ascends, part_core_long, part_below}
use Rattle.message.specs.Layout.{message_header, message_size, message_header_bytes}
use Rattle.message.specs.Rule.{trees_from, ghost_goes, ghosts_going, rule_message}
use Rattle.message.specs.Build.{part_record, part_message}
use Rattle.message.proofs.Messages.{header_length, RecordsLong, message_length}
use Rattle.message_ghosts.specs.Means.{Sending, Marks}
use Rattle.positions.specs.Means.{cores_below}
use Rattle.positions.proofs.Members.{cores_gap, count_gap}
use Rattle.message_build.specs.Means.{Searchable, records_from, TreesRoom, GhostsRoom, RecordsRoom, MessageRoom}
use Rattle.message_build.proofs.Trees.{records_long}

-- ---- the records

module _ (part marks : List ℕ) (low n : ℕ) (out : List ℕ) (room : RecordsRoom part marks out low n) where
  module _ {count ghosts faces first dimension : ℕ} (is_count : count ≡ part_count part) (is_ghosts : ghosts ≡ part_ghost_count part) (is_first : first ≡ part_first part)
      (is_dimension : dimension ≡ part_dimension part) (is-faces : faces ≡ faces_in dimension) where
    known : Searchable part count ghosts faces first
    known = rw (is_count, is_ghosts, is-faces, is_dimension, is_first) room.known

    pub trees_room : TreesRoom part out count ghosts faces first low n
    trees_room =
        record {
          known = known;
          inside = λ k h l. rw (is_first, is_count) (room.inside k h l);
          within = room.within;
          room = omega (arith, room.room);
        }

    trees_long : length (records_from (part_record part) low n) ≡ tree_size * n
    trees_long = records_long part count ghosts faces first low n out trees_room n (omega arith)

    module _ {at : ℕ} (is_at : at ≡ message_header + tree_size * n) {mid : List ℕ} (written : mid ≡ splice out message_header (records_from (part_record part) low n)) where
      same_length : length mid ≡ length out
      same_length = ap length written ∙ length_splice out message_header (records_from (part_record part) low n) (omega (arith, trees_long, room.room))

      pub ghosts_room : GhostsRoom part marks mid count ghosts faces first at
      ghosts_room =
          record { known = known; members = room.members; room = omega (arith, room.room, same_length) }

      pub records_written : {last : List ℕ} → last ≡ splice mid at (cores_below (part_core part) (in_set marks) (64 * length marks))
          → last ≡ splice out message_header (records_from (part_record part) low n ++ cores_below (part_core part) (in_set marks) (64 * length marks))
      records_written e =
          splice_then out message_header (tree_size * n) (records_from (part_record part) low n) (cores_below (part_core part) (in_set marks) (64 * length marks)) trees_long
          (omega (arith, room.room)) written (e ∙ ap (λ (o : ℕ). splice mid o (cores_below (part_core part) (in_set marks) (64 * length marks))) is_at)

-- ---- a sound part

module _ (part old new : List ℕ) (p q : ℕ) (from : Sending part old new p q) where
  T : Tables old new
  T = from.pair.tables

  says : PartSays part old p
  says = part_header_lem part old p from.sound

  range_end : part_first part + part_count part ≡ end_tree old p
  range_end = rw (says.first_tree_lem, says.tree_count_lem) (count_add old T.old_bytes T.old_ranks T.old_valid p from.pair.sender_below)

  number_there : (i : ℕ) → number_at part (ghost_place (part_count part) 0) i ≡ number_of (stored_ghost part i)
  unfolding number_at stored_ghost
  number_there i =
      let e : ghost_place (part_count part) 0 + core_size * i ≡ ghost_place (part_count part) i = omega arith in
      ap (u32_at part) e ∙ sym (number_at_lem part (ghost_place (part_count part) i))

  searchable : Searchable part (part_count part) (part_ghost_count part) (faces_in (part_dimension part)) (part_first part)
  searchable =
      record {
        opened = record { is_count = refl; is_ghosts = refl; long = part_length part old p from.sound };
        faced = faces_positive (part_dimension part);
        is_faces = refl;
        is_first = refl;
        small = omega (arith, range_end, end_trees old T.old_bytes T.old_ranks T.old_valid p from.pair.sender_below, trees_high old T.old_bytes T.old_ranks T.old_valid);
        ascending = record {
          fits = omega (arith, part_length part old p from.sound);
          ascends = λ i j h l. rw (number_there i, number_there j) (part_ascends part old p from.sound i j h l);
        };
      }

  -- a tree that p sends is one of the part's
  sent-here : (k : ℕ) → sends old new p q k ≡ true → (part_first part ≤ k) × (k < part_first part + part_count part)
  sent-here k e =
      let s = sends_true old new T p q k e in
      let below : k < trees old = new_below old new T q k from.pair.receiver_below s.0 in
      let h : holds old p k ≡ true = rw s.1 at (sender_holds old new T k q below from.pair.receiver_below) in
      let r = holds_true old p k h in
      (omega (arith, r.0, says.first_tree_lem), omega (arith, r.1, range_end))

  sent-inside : (k : ℕ) → sent_first old new p q ≤ k → k < sent_first old new p q + sent_count old new p q → (part_first part ≤ k) × (k < part_first part + part_count part)
  sent-inside k h l = sent-here k (sent_in old new T p q from.pair.sender_below from.pair.receiver_below k h l)

  abbrev goes : ℕ → Bool
  goes = ghost_goes (part_core part) old new (part_holds part) (part_record part) p q

  -- a ghost that goes is held
  goes-held : (k : ℕ) → goes k ≡ true → part_holds part k ≡ true
  unfolding ghost_goes
  goes-held k e = and_fst (part_holds part k) _ e

  goes-long : (k : ℕ) → goes k ≡ true → length (part_core part k) ≡ core_size
  goes-long k e = part_core_long part old p from.sound k (goes-held k e)

  -- and below K
  goes-below : (k : ℕ) → goes k ≡ true → k < trees old
  goes-below k e = omega (arith, says.all_trees, part_below part old p from.sound T.old_bytes T.old_ranks T.old_valid from.pair.sender_below k (goes-held k e))

  records-fit : RecordsLong (part_core part) old new (part_holds part) (part_record part) p q
  unfolding part_record renamed
  records-fit =
      record {
        trees_long = λ k e.
            let h = sent-here k e in
            let l : length (piece part (tree_place (k - part_first part)) tree_size) ≡ tree_size =
            piece_length part (tree_place (k - part_first part)) tree_size (omega (arith, part_length part old p from.sound, h.0, h.1)) in
            rows_length _ (faces_in (part_dimension part)) (piece part (tree_place (k - part_first part)) tree_size) (omega arith) ∙ l;
        ghosts_long = λ k h e. goes-long k e;
      }

  -- the length of the message
  pub built_length : (epoch : ℕ) → length (part_message part old new p q epoch) ≡ message_size (sent_count old new p q) (count_below (trees old) goes)
  unfolding part_message
  built_length epoch =
      message_length (part_core part) old new (part_holds part) (part_record part) p q T from.pair.sender_below from.pair.receiver_below epoch (part_dimension part) records-fit

  trees_are : (low n : ℕ) → records_from (part_record part) low n ≡ trees_from (part_core part) old new (part_holds part) (part_record part) p q low n
  unfolding records_from trees_from
  trees_are low zero = refl
  trees_are low (suc n) = rw (trees_are low n)

  module _ (marks : List ℕ) (ghosts : Marks part old new p q marks) where
    abbrev N : ℕ
    N = 64 * length marks

    enough : trees old ≤ N
    enough = ghosts.room.enough

    past : (k : ℕ) → trees old ≤ k → in_set marks k ≡ false
    past k h = either (in_set marks k) (λ e. absurd (omega (arith, goes-below k (sym (ghosts.member k) ∙ e)))) (λ e. e)

    reach : trees old + (N - trees old) ≡ N
    reach = omega (arith, enough)

    pub count_is : count_below (64 * length marks) (in_set marks) ≡ count_below (trees old) goes
    count_is =
        ap (λ (m : ℕ). count_below m (in_set marks)) (sym reach)
        ∙ count_gap (part_core part) (in_set marks) (trees old) (N - trees old) (λ k h l. past k h)
        ∙ count_same (trees old) (in_set marks) goes (λ k h. ghosts.member k)

    cores-are : (k : ℕ) → cores_below (part_core part) (in_set marks) k ≡ ghosts_going (part_core part) old new (part_holds part) (part_record part) p q k
    unfolding cores_below ghosts_going
    cores-are zero = refl
    cores-are (suc k) = rw (cores-are k, ghosts.member k)

    ghosts-are : cores_below (part_core part) (in_set marks) N ≡ ghosts_going (part_core part) old new (part_holds part) (part_record part) p q (trees old)
    ghosts-are =
        ap (cores_below (part_core part) (in_set marks)) (sym reach)
        ∙ cores_gap (part_core part) (in_set marks) (trees old) (N - trees old) (λ k h l. past k h)
        ∙ cores-are (trees old)

-- ---- the message

module _ (part old new : List ℕ) (p q low n g epoch : ℕ) (marks out : List ℕ) (ok : MessageRoom part old new p q low n g epoch marks out) where
  abbrev from : Sending part old new p q
  from = ok.range.sending

  abbrev is_low : low ≡ sent_first old new p q
  is_low = ok.range.begins

  abbrev is_n : n ≡ sent_count old new p q
  is_n = ok.range.many

  pub header_held : part_header ≤ length part
  header_held = omega (arith, part_length part old p from.sound)

  size : message_size (sent_count old new p q) (count_below (64 * length marks) (in_set marks)) ≤ length out
  size = rw (count_is part old new p q from marks ok.ghosts, ← built_length part old new p q from epoch) ok.room

  pub header_room : message_header ≤ length out
  header_room = omega (arith, size)

  module _ {dimension K P : ℕ} (is_dimension : dimension ≡ part_dimension part) (is-K : K ≡ part_k part) (is_p : P ≡ ranks old)
      {mid : List ℕ} (header : mid ≡ splice out 0 (message_header_bytes epoch dimension K P p q n g)) where
    header-long : length (message_header_bytes epoch dimension K P p q n g) ≡ 32
    header-long = header_length epoch dimension K P p q n g

    same : length mid ≡ length out
    same = ap length header ∙ length_splice out 0 (message_header_bytes epoch dimension K P p q n g) (omega (arith, header-long, header_room))

    pub records_room : RecordsRoom part marks mid low n
    records_room =
        record {
          known = searchable part old new p q from;
          inside = rw (is_low, is_n) (sent-inside part old new p q from);
          within = rw (is_low, is_n) (omega (arith, sent_below old new from.pair.tables p q from.pair.sender_below from.pair.receiver_below, trees_high old from.pair.tables.old_bytes from.pair.tables.old_ranks from.pair.tables.old_valid));
          members = record {
            words = ok.ghosts.room.few;
            has = λ k e. goes-held part old new p q from k (sym (ok.ghosts.member k) ∙ e);
            long = λ k e. goes-long part old new p q from k (sym (ok.ghosts.member k) ∙ e);
          };
          room = rw (is_n, same) size;
        }

    header_is : message_header_bytes epoch dimension K P p q n g
        ≡ message_header_bytes epoch (part_dimension part) (trees old) (ranks old) p q (sent_count old new p q) (count_below (trees old) (goes part old new p q from))
    header_is = rw (is_dimension, is-K, is_p, is_n, ok.counted, (says part old new p q from).all_trees, count_is part old new p q from marks ok.ghosts)

    pub message_written : {last : List ℕ} → last ≡ splice mid message_header (records_from (part_record part) low n ++ cores_below (part_core part) (in_set marks) (64 * length marks))
        → last ≡ splice out 0 (part_message part old new p q epoch)
    unfolding part_message rule_message
    message_written e =
        let H : List ℕ = message_header_bytes epoch dimension K P p q n g in
        let R : List ℕ = records_from (part_record part) low n ++ cores_below (part_core part) (in_set marks) (64 * length marks) in
        let t : records_from (part_record part) low n ≡ trees_from (part_core part) old new (part_holds part) (part_record part) p q (sent_first old new p q) (sent_count old new p q) =
        rw (is_low, is_n) (trees_are part old new p q from (sent_first old new p q) (sent_count old new p q)) in
        let r : R ≡ trees_from (part_core part) old new (part_holds part) (part_record part) p q (sent_first old new p q) (sent_count old new p q) ++ ghosts_going (part_core part) old new (part_holds part) (part_record part) p q (trees old) =
        ap₂ (λ (a b : List ℕ). a ++ b) t (ghosts-are part old new p q from marks ok.ghosts) in
        splice_then out 0 message_header H R header-long (omega (arith, header_room)) header e ∙ ap₂ (λ (a b : List ℕ). splice out 0 (a ++ b)) header_is r
