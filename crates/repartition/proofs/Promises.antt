-- The promises of demand 2.
use Prim.Native.Nat.{ℕ, suc, ◌+◌, ◌≤◌, ◌<◌}
use native.Mathlib.Nat.{zero-add}
use native.Mathlib.Omega.{arith}
use mathlib.Core.Path.{◌≡◌, refl, sym, ap, ◌∙◌}
use mathlib.Core.Bool.{Bool, true, false}
use mathlib.Core.List.{List, [], ◌∷◌}
use lib.Dec.{eqb}
use lib.IntN.{ℤ, pos, negsuc}
use lib.ListN.{length}
use borrow.Author.Tests.{lt-ltb, le-leb, eq-eqb}
use Rattle.offsets_write.proofs.Refusals.{six_means, table_written}
use Rattle.plan_write.proofs.Listing.{moves_printed}
use Rattle.plan_text.proofs.Texts.{plan_texts}
use Rattle.encoding.specs.Answer.{written, write_answer}
use Rattle.encoding.specs.Pieces.{Bytes, splice}
use Rattle.encoding.specs.Refusal.{check, first_failed}
use Rattle.encoding.proofs.Below.{either, and_fst, and_snd, and_intro}
use Rattle.offsets.specs.Limits.{rank_count_ok, tree_count_ok}
use Rattle.offsets.specs.Table.{table_length, ranks, ranks_ok, trees, first_tree, tree_count, holds, entries_within, counts_ok, valid, entry}
use Rattle.offsets_write.specs.Partition.{valid_partition, end_below, ranges_fit, table_of, IsTable}
use Rattle.offsets.specs.Calls.{table_refusal, range_refusal, range_answer, table_range}
use Rattle.offsets_write.specs.Calls.{each, partition_ok, write_refusal, write_table}
use Rattle.offsets.proofs.Tables.{size}
use Rattle.offsets_write.proofs.Partitions.{trees_are, Agree, same_end, same_ranges, same_partition, table_of_lem, table_unique, table_fits, shared_means}
use Rattle.leaves.proofs.LeafTables.{ranks_counted, ranks_fit_lem, leaf_tables}
use Rattle.std.specs.Prelude.{Some, None, Ok}
use Rattle.pattern.specs.Sender.{Tables, sender, sender_to, sender_number, sent_first, sent_count}
use Rattle.pattern.specs.Sets.{send_set, receive_set}
use Rattle.pattern.specs.Calls.{table_checks, sender_refusal, sender_of, sent_refusal, trees_sent, set_refusal, ranks_answer, set_answer, send_set_of, receive_set_of}
use Rattle.pattern.proofs.Senders.{sender_defined, sender_nobody, sends_true, sends_in}
use Rattle.pattern.proofs.Counting.{range_true, range_in}
use Rattle.pattern.proofs.Sets.{send_ascends, receive_ascends, symmetric, one_sender, one_range, received_disjoint, received_covers, received_only, send_ends, receive_ends}
use Rattle.mesh.specs.Mesh.{mesh_trees, mesh_sound, mesh_refusal}
use Rattle.part.specs.Cut.{cut_part}
use Rattle.part.specs.Part.{part_sound}
use Rattle.part.specs.Checks.{rank_checks}
use Rattle.part_cut.specs.Calls.{cut_checks, cut_part_of}
use Rattle.part_check.specs.Calls.{part_refusal}
use Rattle.part_cut.proofs.Cutting.{Cuttable}
use Rattle.part_neighbour.specs.Neighbour.{flat_answer}
use Rattle.part_theorems.proofs.CutLinks.{cut_answer}
use Rattle.part_theorems.proofs.CutSound.{cut_holds, held_below_lem, cut_core, cut_sound}
use Rattle.message.proofs.Layouts.{layout_size}
use Rattle.message.proofs.Reading.{count_all}
use Rattle.message.proofs.Ghosts.{tree_one_message, ghost_one_message}
use Rattle.message_reader.specs.Handing.{begin_of, begun_seen}
use Rattle.message_reader.specs.declared.Begun.{Begun}
use Rattle.message_reader.proofs.Whole.{reads_records, reads_bytes, reads_remains, reads_end, reads_begin, reads_count, reads_refused, reads_nothing}
use Rattle.repartition.specs.Lists.{Built}
use Rattle.repartition.specs.Promises.{ReadToEnd, BecomesTable, OneTable, OnlyValid, TableAgain, FirstUnread, SharedFirst, Symmetric, OneSender, OneRange, Received, SetsAscend, SetsEnd, listed, SetsAnswered, RangesAnswered, SenderAnswered, SendersAnswered, CutParts, Messages, BuiltInLayout, ReadsMessages, TreeOneMessage, GhostOneMessage, Demand2}
use Rattle.repartition.proofs.Building.{own_record, build_answer}
use Rattle.repartition.proofs.PartMessages.{part_in_layout}
use Rattle.repartition.proofs.RuleMessages.{trees_in, goes_in, follows_rule}

-- ---- tables

-- two checks that pass
both_pass : (a b : Bool) (m n : ℕ) → first_failed (check a (suc m) ∷ check b (suc n) ∷ []) ≡ 0 → (a ≡ true) × (b ≡ true)
unfolding first_failed
both_pass true true m n e = (refl, refl)
both_pass true false m n e = absurd (omega arith)
both_pass false b m n e = absurd (omega arith)

table_passes : (t : List ℕ) → table_refusal t ≡ 0 → (ranks_ok t ≡ true) × (valid t ≡ true)
unfolding table_refusal
table_passes t e = both_pass (ranks_ok t) (valid t) 1 2 e

rank_count : (t : List ℕ) → ranks_ok t ≡ true → rank_count_ok (ranks t) ≡ true
unfolding ranks_ok
rank_count t e = and_snd (eqb (length t) (table_length (ranks t))) (rank_count_ok (ranks t)) e

tree_count_lem : (t : List ℕ) → valid t ≡ true → tree_count_ok (trees t) ≡ true
unfolding valid
tree_count_lem t v = and_snd (eqb (entry t 0) 0) (tree_count_ok (trees t)) (and_fst _ (entries_within t) (and_fst _ (counts_ok t) v))

-- a rank's range
range_is : (t : List ℕ) → ranks_ok t ≡ true → valid t ≡ true → (p : ℕ) → p < ranks t → ((table_range t p).first ≡ first_tree t p) × ((table_range t p).count ≡ tree_count t p)
unfolding table_range range_refusal range_answer first_failed
range_is t ok v p h = rw (ok, v, lt-ltb p (ranks t) h) (refl, refl)

-- a valid partition fits
ranges_fit_lem : (first count : ℕ → ℕ) (P K : ℕ) → tree_count_ok K ≡ true → valid_partition first count P K ≡ true → ranges_fit first count P ≡ true
unfolding ranges_fit
ranges_fit_lem first count P K ko v = rw (← trees_are first count P K v) (and_intro (tree_count_ok K) (valid_partition first count P K) ko v)

module _ (P K : ℕ) (first count : List ℕ) (ro : rank_count_ok P ≡ true) (ko : tree_count_ok K ≡ true) (lf : length first ≡ P) (lc : length count ≡ P) where
  -- the call writes the table of a valid partition
  writes-table : valid_partition (each first) (each count) P K ≡ true → (out : List ℕ) → table_length P ≤ length out
      → write_table P first count out ≡ write_answer 0 (table_of (each first) (each count) P) out
  unfolding write_table write_refusal partition_ok first_failed
  writes-table v out room =
      rw (ro, lf, lc, eq-eqb P P refl, ranges_fit_lem (each first) (each count) P K ko v, le-leb (table_length P) (length out) room)

  becomes : valid_partition (each first) (each count) P K ≡ true → BecomesTable P K first count (table_of (each first) (each count) P)
  becomes v =
      let t : List ℕ = table_of (each first) (each count) P in
      let i : IsTable (each first) (each count) P K t = table_of_lem (each first) (each count) P K ro ko v in
      let ok : ranks_ok t ≡ true = ranks_fit_lem (each first) (each count) P K t i ro in
      let r : ranks t ≡ P = ranks_counted (each first) (each count) P K t i in
      record {
        is_table = i;
        no_other = table_unique (each first) (each count) P ro K;
        writes = writes-table v;
        reads_count = λ p h. (range_is t ok i.is_valid p (omega (arith, r))).1 ∙ i.counts p h;
        reads_first = λ p h c. (range_is t ok i.is_valid p (omega (arith, r))).0 ∙ i.firsts p h c;
      }

pub one_table_written : OneTable
one_table_written P K first count ro ko lf lc v = (table_of (each first) (each count) P, becomes P K first count ro ko lf lc v)

pub only_valid : OnlyValid
only_valid P K first count ro t i = table_fits first count P ro K t i

pub table_written_again : TableAgain
table_written_again t b passes first count lf lc agree out room =
    let k = table_passes t passes in
    let ro : rank_count_ok (ranks t) ≡ true = rank_count t k.0 in
    let ko : tree_count_ok (trees t) ≡ true = tree_count_lem t k.1 in
    let i : IsTable (each first) (each count) (ranks t) (trees t) t =
    record {
      bytes = b;
      size = size t b k.0 k.1;
      is_valid = k.1;
      trees_are = refl;
      counts = λ p h. sym ((agree p h).1 ∙ (range_is t k.0 k.1 p h).1);
      firsts = λ p h c. sym ((agree p h).0 ∙ (range_is t k.0 k.1 p h).0);
    } in
    writes-table (ranks t) (trees t) first count ro ko lf lc (table_fits (each first) (each count) (ranks t) ro (trees t) t i) out (omega (arith, size t b k.0 k.1))
    ∙ ap (λ (u : List ℕ). write_answer 0 u out) (sym (table_unique (each first) (each count) (ranks t) ro (trees t) t i))

pub shared_first : SharedFirst
shared_first t b passes = let k = table_passes t passes in shared_means t b k.0 k.1

-- what the write call asks of two lists of firsts that agree wherever there are trees
module _ (P : ℕ) (first other count : List ℕ) (many : length first ≡ length other) (agree : (p : ℕ) → p < P → 0 < each count p → each first p ≡ each other p) where
  alike : Agree (each first) (each count) (each other) (each count) P
  alike p h = (refl, agree p h)

  same-checked : partition_ok P first count ≡ partition_ok P other count
  unfolding partition_ok ranges_fit
  same-checked =
      rw (
        many,
        same_end (each first) (each count) (each other) (each count) P alike,
        same_partition (each first) (each count) (each other) (each count) P (end_below (each other) (each count) P) alike,
      )

  same-written : (out : List ℕ) → write_table P first count out ≡ write_table P other count out
  unfolding write_table write_refusal
  same-written out = rw (same-checked, same_ranges (each first) (each count) (each other) (each count) P alike)

pub first_unread : FirstUnread
first_unread P first other count out many agree = same-written P first other count many agree out

-- ---- who sends

pub sets_symmetric : Symmetric
sets_symmetric = symmetric

pub tree_one_sender : OneSender
tree_one_sender = one_sender

pub trees_one_range : OneRange
trees_one_range = one_range

pub received : Received
received old new T q l =
    record {
      disjoint = λ p r k lp lr a b.
          let c = range_true (sent_first old new p q) (sent_first old new p q + sent_count old new p q) k a in
          let d = range_true (sent_first old new r q) (sent_first old new r q + sent_count old new r q) k b in
          received_disjoint old new T p r q k lp lr l c.0 c.1 d.0 d.1;
      covers = λ k h.
          let w = received_covers old new T q k l h in
          (w.0, w.1, range_in (sent_first old new w.0 q) (sent_first old new w.0 q + sent_count old new w.0 q) k w.2 w.3);
      no_more = λ p k lp a.
          let c = range_true (sent_first old new p q) (sent_first old new p q + sent_count old new p q) k a in
          received_only old new T p q k lp l c.0 c.1;
    }

pub sets_ascend : SetsAscend
sets_ascend old new rank = ((λ i j. send_ascends old new rank i j 0), (λ i j. receive_ascends old new rank i j 0))

pub sets_end : SetsEnd
sets_end old new rank = (send_ends old new rank, receive_ends old new rank)

-- the calls of two tables that agree
module _ (old new : List ℕ) (T : Tables old new) where
  list-answered : (rank : ℕ) → rank < ranks old → (set out : List ℕ) → length set ≤ length out → set_answer (set_refusal old new rank set out) set out ≡ listed set out
  unfolding set_answer set_refusal table_checks ranks_answer written splice first_failed
  list-answered rank h set out room =
      rw (T.old_ranks, T.new_ranks, T.old_valid, T.new_valid, T.same_ranks, T.same_trees, eq-eqb (ranks old) (ranks old) refl, eq-eqb (trees old) (trees old) refl, lt-ltb rank (ranks old) h, le-leb (length set) (length out) room, zero-add)

  range-answered : (p q : ℕ) → p < ranks old → q < ranks old → trees_sent old new p q ≡ record { refusal = 0; first = sent_first old new p q; count = sent_count old new p q }
  unfolding trees_sent sent_refusal table_checks range_answer first_failed
  range-answered p q l r =
      rw (T.old_ranks, T.new_ranks, T.old_valid, T.new_valid, T.same_ranks, T.same_trees, eq-eqb (ranks old) (ranks old) refl, eq-eqb (trees old) (trees old) refl, lt-ltb p (ranks old) l, lt-ltb q (ranks old) r)

  sender-answered : (k q : ℕ) → k < trees old → q < ranks old → sender_of old new k q ≡ record { refusal = 0; sender = sender_number (sender_to old new k q) }
  unfolding sender_of sender_refusal table_checks first_failed
  sender-answered k q h l =
      rw (T.old_ranks, T.new_ranks, T.old_valid, T.new_valid, T.same_ranks, T.same_trees, eq-eqb (ranks old) (ranks old) refl, eq-eqb (trees old) (trees old) refl, lt-ltb k (trees old) h, lt-ltb q (ranks old) l)

pub sets_answered : SetsAnswered
unfolding send_set_of receive_set_of
sets_answered old new T rank h out = (list-answered old new T rank h (send_set old new rank) out, list-answered old new T rank h (receive_set old new rank) out)

pub ranges_answered : RangesAnswered
ranges_answered = range-answered

-- an integer's number and sign
abbrev plain : ℤ → ℕ
plain (pos n) = n
plain (negsuc n) = n

abbrev sign : ℤ → ℕ
sign (pos n) = 1
sign (negsuc n) = 0

-- the number of a sender says who it is
number_rank : (p q : ℕ) → sender_number (Some p) ≡ sender_number (Some q) → p ≡ q
unfolding sender_number
number_rank p q e = ap plain e

number_nobody : (p : ℕ) → sender_number (Some p) ≡ sender_number None → ⊥
unfolding sender_number
number_nobody p e = let z : ◌≡◌ {A = ℕ} 1 0 = ap sign e in omega arith

module _ (old new : List ℕ) (T : Tables old new) (k q : ℕ) (h : k < trees old) (l : q < ranks old) where
  to-rank : holds new q k ≡ true → (sender_of old new k q).sender ≡ sender_number (Some (sender old k q))
  to-rank e = rw (sender-answered old new T k q h l, sender_defined old new T k q e)

  to-nobody : holds new q k ≡ false → (sender_of old new k q).sender ≡ sender_number None
  to-nobody e = rw (sender-answered old new T k q h l, sender_nobody old new T k q e)

  sender-told : SenderAnswered old new k q
  sender-told =
      record {
        answer = sender-answered old new T k q h l;
        if_sends = λ p s. let w = sends_true old new T p q k s in to-rank w.0 ∙ ap (λ (r : ℕ). sender_number (Some r)) w.1;
        only_sends = λ p e.
            either (holds new q k)
            (λ t. rw (number_rank p (sender old k q) (sym e ∙ to-rank t)) (sends_in old new T q k t))
            (λ t. absurd (number_nobody p (sym e ∙ to-nobody t)));
        if_outside = to-nobody;
        only_outside = λ e. either (holds new q k) (λ t. absurd (number_nobody (sender old k q) (sym (to-rank t) ∙ e))) (λ t. t);
      }

pub senders_answered : SendersAnswered
senders_answered = sender-told

-- ---- parts

mesh_passes : (mesh : List ℕ) → mesh_refusal mesh ≡ 0 → mesh_sound mesh ≡ true
unfolding mesh_refusal first_failed
mesh_passes mesh e = either (mesh_sound mesh) (λ t. t) (λ t. absurd (seven (rw t at e)))
  where
    seven : ◌≡◌ {A = ℕ} 7 0 → ⊥
    seven z = omega arith

module _ (mesh table : List ℕ) (rank : ℕ) (ok : Cuttable mesh table rank) (mesh_bytes : Bytes mesh) (bytes : Bytes table) where
  writes-part : (out : List ℕ) → length (cut_part mesh table rank) ≤ length out → cut_part_of mesh table rank out ≡ write_answer 0 (cut_part mesh table rank) out
  unfolding cut_part_of cut_checks rank_checks first_failed
  writes-part out room =
      rw (ok.table_ranks, ok.table_valid, lt-ltb rank (ranks table) ok.rank_below, ok.mesh_sound_lem, eq-eqb (mesh_trees mesh) (trees table) ok.same_trees_lem, le-leb (length (cut_part mesh table rank)) (length out) room)

  accepts-part : part_refusal (cut_part mesh table rank) table rank ≡ 0
  unfolding part_refusal rank_checks first_failed
  accepts-part = rw (ok.table_ranks, ok.table_valid, lt-ltb rank (ranks table) ok.rank_below, cut_sound mesh table rank ok mesh_bytes bytes)

pub cut_parts : CutParts
cut_parts mesh table rank mb tb passes below sound same =
    let k = table_passes table passes in
    let ok : Cuttable mesh table rank = record { table_ranks = k.0; table_valid = k.1; rank_below = below; mesh_sound_lem = mesh_passes mesh sound; same_trees_lem = same } in
    record {
      writes = writes-part mesh table rank ok mb tb;
      sound = accepts-part mesh table rank ok mb tb;
      held = cut_holds mesh table rank ok mb tb;
      held_below_lem = held_below_lem mesh table rank ok mb tb;
      cores = cut_core mesh table rank ok mb tb;
      records = own_record mesh table rank ok mb tb;
      links = λ i f h l. cut_answer mesh table rank ok mb tb i h f l;
      link_numbers = λ i f h l. ap flat_answer (cut_answer mesh table rank ok mb tb i h f l);
    }

-- ---- messages

pub messages : Messages
messages run S p q l r = (build_answer run S p q l r, λ e. follows_rule run S p q (record { sender_below = l; receiver_below = r; sends_tree = e }))

part_passes : (part table : List ℕ) (rank : ℕ) → ranks_ok table ≡ true → valid table ≡ true → rank < ranks table → part_refusal part table rank ≡ 0 → part_sound part table rank ≡ true
unfolding part_refusal rank_checks first_failed
part_passes part table rank ok v below e =
    let f = rw (ok, v, lt-ltb rank (ranks table) below) at e in
    either (part_sound part table rank) (λ t. t) (λ t. absurd (eight (rw t at f)))
  where
    eight : ◌≡◌ {A = ℕ} 8 0 → ⊥
    eight z = omega arith

pub built_in_layout : BuiltInLayout
built_in_layout part old new p q epoch T l r e = part_in_layout part old new p q T l r (part_passes part old p T.old_ranks T.old_valid l e) epoch

-- a message in layout, read to its end
read_to_end : (m : List ℕ) (b : Begun) → begun_seen (Ok b) ≡ begin_of m → ReadToEnd m b
read_to_end m b begun = record {
  records = reads_records m b begun;
  bytes = reads_bytes m b begun;
  remain = reads_remains m b begun;
  end = reads_end m b begun;
}

pub reads_messages : ReadsMessages
reads_messages = (
  λ m r begun. (
    (λ laid.
        let o = reads_begin m r begun laid in
        let made : begun_seen (Ok o.0) ≡ begin_of m = sym (ap begun_seen o.1) ∙ begun in
        (o.0, o.1, reads_count m o.0 made ∙ count_all m (layout_size m laid), read_to_end m o.0 made)),
    (λ unlaid. reads_refused m r begun unlaid),
  ),
  λ r none first. reads_nothing r none first,
)

pub tree_in_one : TreeOneMessage
tree_in_one run S q k l h =
    let w = tree_one_message run.old run.new S.tables q k l h in
    let from : Built run w.0 q = record { sender_below = w.1; receiver_below = l; sends_tree = w.3 } in
    (w.0, from, trees_in run S w.0 q from k ∙ w.2, λ r b e. w.4 r (sym (trees_in run S r q b k) ∙ e))

pub ghost_in_one : GhostOneMessage
ghost_in_one run S q k l below h =
    let w = ghost_one_message run.mesh run.old run.new S.tables q k l below h in
    let from : Built run w.0 q = record { sender_below = w.1; receiver_below = l; sends_tree = w.3 } in
    let t : k < trees run.old = rw S.same_trees_lem at below in
    (w.0, from, goes_in run S w.0 q from k t ∙ w.2, λ r b e. w.4 r (sym (goes_in run S r q b k t) ∙ e))

-- the theorem of demand 2
pub demand_2 : Demand2
demand_2 =
    record {
      one_table = one_table_written;
      only_valid = only_valid;
      table_again = table_written_again;
      first_unread = first_unread;
      six_means = six_means;
      table_written = table_written;
      shared_first = shared_first;
      leaf_tables = leaf_tables;
      symmetric = sets_symmetric;
      one_sender = tree_one_sender;
      one_range = trees_one_range;
      received = received;
      sets_ascend = sets_ascend;
      sets_end = sets_end;
      sets_answered = sets_answered;
      ranges_answered = ranges_answered;
      senders_answered = senders_answered;
      plan_texts = plan_texts;
      plan_moves = moves_printed;
      cut_parts = cut_parts;
      messages = messages;
      built_in_layout = built_in_layout;
      reads_messages = reads_messages;
      tree_one_message = tree_in_one;
      ghost_one_message = ghost_in_one;
    }
