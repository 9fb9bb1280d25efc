-- What a length call answers is what the call that writes answers.
use Prim.Native.Nat.{ℕ, ◌+◌, ◌*◌, ◌≤◌, ◌<◌}
use native.Mathlib.Omega.{arith}
use mathlib.Core.Path.{◌≡◌, refl, sym, ap, ap₂, ◌∙◌}
use mathlib.Core.Bool.{Bool, true, false, cond, not, ◌&&◌, and-false}
use mathlib.Core.List.{List, [], ◌∷◌, ◌++◌}
use lib.Dec.{leb, eqb}
use lib.ListN.{length, length-append, length-replicate}
use borrow.Author.Tests.{eqb-true, ne_eqb, le-leb, lt-leb}
use Rattle.encoding.specs.declared.answer.Length.{Length}
use Rattle.encoding.specs.Answer.{length_answer, write_answer}
use Rattle.encoding.specs.Refusal.{Check, check, first_failed}
use Rattle.encoding.proofs.Below.{either, and_fst, and_snd}
use Rattle.encoding.proofs.Numbers.{bytes_length}
use Rattle.offsets.specs.Limits.{rank_count_ok}
use Rattle.offsets.specs.Table.{table_length, ranks, ranks_ok, trees, tree_count, valid}
use Rattle.offsets.proofs.OnePass.{ranks_known}
use Rattle.offsets_write.specs.Partition.{table_of}
use Rattle.offsets_write.specs.Calls.{table_length_answer, each, partition_ok, write_refusal, write_table}
use Rattle.offsets_write.proofs.Partitions.{table_length_lem}
use Rattle.leaf_shares.specs.Leaves.{leaves_ok, leaf_table}
use Rattle.leaves.specs.Weighted.{weights_ok, weighted_table}
use Rattle.leaves.specs.Blocks.{sums_ok, block_table}
use Rattle.leaves.specs.Calls.{leaves_refusal, table_from_leaves, weights_refusal, table_from_weights, blocks_refusal, table_from_blocks}
use Rattle.pattern.specs.Sets.{send_set}
use Rattle.pattern.specs.Calls.{table_checks}
use Rattle.records.specs.Record.{tree_size}
use Rattle.mesh.specs.Mesh.{mesh_header}
use Rattle.mesh_build.proofs.Building.{built_length}
use Rattle.brick.specs.Brick.{brick_mesh}
use Rattle.brick.specs.Calls.{extents_ok, yes, brick_length_of, write_brick_of}
use Rattle.ele_text.specs.Text.{text_ok, vertices}
use Rattle.ele_faces.specs.Faces.{vertices_differ, three_faces}
use Rattle.ele_mesh.specs.Calls.{triangle_mesh, triangle_bytes, triangle_refusal, import_refusal, triangle_length, import_triangle}
use Rattle.part.specs.Checks.{rank_checks}
use Rattle.part.specs.Cut.{cut_part}
use Rattle.part_cut.specs.Calls.{cut_checks, part_length_of, cut_part_of}
use Rattle.restart.specs.Restart.{padded_table, left_out_empty}
use Rattle.restart.specs.Calls.{pad_checks, pad_table}
use Rattle.restart.proofs.Writing.{padded_length}
use Rattle.message.specs.Layout.{message_header_bytes}
use Rattle.message.specs.Rule.{rule_message}
use Rattle.message.specs.Build.{part_message}
use Rattle.message.specs.Calls.{build_checks, message_length_of, build_message_of}
use Rattle.build_all.specs.declared.Messages.{Messages}
use Rattle.build_all.specs.Messages.{joined_messages, all_messages}
use Rattle.build_all.specs.Calls.{build_all_checks, messages_answer, build_all_length_of, build_all_refusal, build_all_of}
use Rattle.area.specs.Layout.{new_place, words_place, slots_place, ghost_slots_place, area_size}
use Rattle.area.specs.Open.{fresh_area}
use Rattle.area.specs.Close.{close_checks, joined_part, close_length_of, close_of}
use Rattle.area_open.specs.Calls.{open_checks, area_length_of, open_area_of}
use Rattle.area_open.proofs.Opening.{area_header_length, fresh_is}
use Rattle.repartition.proofs.Checks.{numbered, room_last, pass_first}
use Rattle.repartition.specs.Lengths.{Tells, LengthTells, MessagesTell, TableTells, LengthsAgree}

-- ---- over any answer that has a refusal and a length

module _ {A : Type 0} (refusal size : A → ℕ) (answer : ℕ → ℕ → A) (refusal_is : (r n : ℕ) → refusal (answer r n) ≡ r) (size_is : (n : ℕ) → size (answer 0 n) ≡ n)
    (length_lost : (r n m : ℕ) → (r ≡ 0 → ⊥) → answer r n ≡ answer r m) where
  -- r is the refusal of the length call, n its length; the other asks for m bytes after the same checks, and writes as many as `long`
  tells : (r n m long : ℕ) (last : List ℕ → ℕ) → ((out : List ℕ) → last out ≡ cond (eqb r 0) (cond (leb m (length out)) 0 22) r) → (r ≡ 0 → m ≡ n) → (r ≡ 0 → long ≡ n)
      → Tells refusal size (answer 22 0) (answer r n) (λ out. answer (last out) long)
  tells r n m long last is asked written =
      record {
        accepted = λ e out l.
            let z : r ≡ 0 = sym (refusal_is r n) ∙ e in
            let fits : n ≤ length out = omega (arith, sym (ap (λ (x : ℕ). size (answer x n)) z ∙ size_is n), l) in
            let f : last out ≡ r = is out ∙ rw (z, asked z, le-leb n (length out) fits) in
            ap₂ answer f (written z);
        too_short = λ e out l.
            let z : r ≡ 0 = sym (refusal_is r n) ∙ e in
            let lacks : length out < n = omega (arith, ap (λ (x : ℕ). size (answer x n)) z ∙ size_is n, l) in
            let f : last out ≡ 22 = is out ∙ rw (z, asked z, lt-leb n (length out) lacks) in
            ap (λ (x : ℕ). answer x long) f ∙ length_lost 22 long 0 (λ x. omega arith);
        refused = λ declined out.
            let z : r ≡ 0 → ⊥ = λ x. declined (refusal_is r n ∙ x) in
            let f : last out ≡ r = is out ∙ rw (ne_eqb r 0 z) in
            ap (λ (x : ℕ). answer x long) f ∙ length_lost r long n z;
      }

length_refusal : (r n : ℕ) → (length_answer r n).refusal ≡ r
unfolding length_answer
length_refusal r n = either (eqb r 0) (λ t. rw t (sym (eqb-true r 0 t))) (λ t. rw t)

length_lost : (r n m : ℕ) → (r ≡ 0 → ⊥) → length_answer r n ≡ length_answer r m
unfolding length_answer
length_lost r n m z = rw (ne_eqb r 0 z)

length_tells : (r n m : ℕ) (object : List ℕ) (last : List ℕ → ℕ) → ((out : List ℕ) → last out ≡ cond (eqb r 0) (cond (leb m (length out)) 0 22) r) → (r ≡ 0 → m ≡ n) → (r ≡ 0 → length object ≡ n)
    → LengthTells (length_answer r n) (λ out. write_answer (last out) object out)
unfolding length_answer write_answer
length_tells r n m object last = tells (λ (a : Length). a.refusal) (λ (a : Length). a.length) length_answer length_refusal (λ n. refl) length_lost r n m (length object) last

-- ---- messages

module _ (part old new : List ℕ) (p : ℕ) where
  build-numbered : (q : ℕ) → numbered (build_checks part old new p q) ≡ true
  unfolding numbered build_checks table_checks
  build-numbered q = refl

  -- a message of every epoch is as long
  pub message_epochs : (q e f : ℕ) → length (part_message part old new p q e) ≡ length (part_message part old new p q f)
  unfolding part_message rule_message message_header_bytes
  message_epochs q e f = simp (length-append, bytes_length)

  message-tells : (q epoch : ℕ) → LengthTells (message_length_of part old new p q) (build_message_of part old new p q epoch)
  unfolding message_length_of build_message_of
  message-tells q epoch =
      length_tells (first_failed (build_checks part old new p q)) (length (part_message part old new p q 0)) (length (part_message part old new p q epoch)) (part_message part old new p q epoch)
      (λ out. first_failed (build_checks part old new p q ++ (check (leb (length (part_message part old new p q epoch)) (length out)) 22 ∷ [])))
      (λ out. room_last (build_checks part old new p q) (build-numbered q) _) (λ z. message_epochs q epoch 0) (λ z. message_epochs q epoch 0)

  -- and so are those to the ranks of a list, end to end
  joined-epochs : (qs : List ℕ) (e f : ℕ) → length (joined_messages (λ q. part_message part old new p q e) qs) ≡ length (joined_messages (λ q. part_message part old new p q f) qs)
  unfolding joined_messages
  joined-epochs [] e f = refl
  joined-epochs (q ∷ qs) e f =
      length-append (part_message part old new p q e) _ ∙ ap₂ ◌+◌ (message_epochs q e f) (joined-epochs qs e f) ∙ sym (length-append (part_message part old new p q f) _)

  pub all_epochs : (e f : ℕ) → length (all_messages part old new p e) ≡ length (all_messages part old new p f)
  unfolding all_messages
  all_epochs e f = joined-epochs (send_set old new p) e f

  pub all_numbered : numbered (build_all_checks part old new p) ≡ true
  unfolding numbered build_all_checks table_checks
  all_numbered = refl

pub messages_refusal : (r c n : ℕ) → (messages_answer r c n).refusal ≡ r
unfolding messages_answer
messages_refusal r c n = either (eqb r 0) (λ t. rw t (sym (eqb-true r 0 t))) (λ t. rw t)

messages_lost : (r c n m : ℕ) → (r ≡ 0 → ⊥) → messages_answer r c n ≡ messages_answer r c m
unfolding messages_answer
messages_lost r c n m z = rw (ne_eqb r 0 z)

messages_tell : (part old new : List ℕ) (p epoch : ℕ) → MessagesTell (build_all_length_of part old new p) (build_all_of part old new p epoch)
unfolding build_all_length_of build_all_of build_all_refusal messages_answer
messages_tell part old new p epoch =
    let c : ℕ = length (send_set old new p) in
    tells (λ (a : Messages). a.refusal) (λ (a : Messages). a.length) (λ r n. messages_answer r c n) (λ r n. messages_refusal r c n) (λ n. refl) (λ r n m. messages_lost r c n m)
    (first_failed (build_all_checks part old new p)) (length (all_messages part old new p 0)) (length (all_messages part old new p epoch)) (length (all_messages part old new p epoch))
    (λ out. first_failed (build_all_checks part old new p ++ (check (leb (length (all_messages part old new p epoch)) (length out)) 22 ∷ [])))
    (λ out. room_last (build_all_checks part old new p) (all_numbered part old new p) _) (λ z. all_epochs part old new p epoch 0) (λ z. all_epochs part old new p epoch 0)

-- ---- areas

module _ (old new : List ℕ) (rank dimension : ℕ) where
  open_numbered : numbered (open_checks old new rank dimension) ≡ true
  unfolding numbered open_checks table_checks
  open_numbered = refl

  -- a fresh area is as long as the checks that pass say
  fresh-long : (epoch : ℕ) → first_failed (open_checks old new rank dimension) ≡ 0 → length (fresh_area old new rank dimension epoch) ≡ area_size dimension (ranks old) (tree_count new rank)
  unfolding open_checks table_checks first_failed area_size ghost_slots_place slots_place words_place new_place
  fresh-long epoch e =
      let c2 = pass_first (ranks_ok old && ranks_ok new) _ 1 e in
      let c3 = pass_first (valid old && valid new) _ 2 c2.1 in
      let c4 = pass_first (eqb (ranks old) (ranks new) && eqb (trees old) (trees new)) _ 3 c3.1 in
      let same : ranks old ≡ ranks new = eqb-true _ _ (and_fst (eqb (ranks old) (ranks new)) (eqb (trees old) (trees new)) c4.0) in
      let lo : length old ≡ 8 * (ranks old + 1) = (ranks_known old (and_fst (ranks_ok old) (ranks_ok new) c2.0)).size in
      let ln : length new ≡ 8 * (ranks old + 1) = (ranks_known new (and_snd (ranks_ok old) (ranks_ok new) c2.0)).size ∙ ap (λ (P : ℕ). 8 * (P + 1)) (sym same) in
      rw (fresh_is old new rank dimension epoch, length-append, area_header_length _ _ _ _ _ _ _, length-append, lo, length-append, ln, length-replicate) (omega arith)

  open-tells : (epoch : ℕ) → LengthTells (area_length_of old new rank dimension) (open_area_of old new rank dimension epoch)
  unfolding area_length_of open_area_of
  open-tells epoch =
      length_tells (first_failed (open_checks old new rank dimension)) (area_size dimension (ranks old) (tree_count new rank)) (area_size dimension (ranks old) (tree_count new rank)) (fresh_area old new rank dimension epoch)
      (λ out. first_failed (open_checks old new rank dimension ++ (check (leb (area_size dimension (ranks old) (tree_count new rank)) (length out)) 22 ∷ [])))
      (λ out. room_last (open_checks old new rank dimension) open_numbered _) (λ z. refl) (fresh-long epoch)

close_numbered : (area : List ℕ) → numbered (close_checks area) ≡ true
unfolding numbered close_checks
close_numbered area = refl

close_tells : (area : List ℕ) → LengthTells (close_length_of area) (close_of area)
unfolding close_length_of close_of
close_tells area =
    length_tells (first_failed (close_checks area)) (length (joined_part area)) (length (joined_part area)) (joined_part area)
    (λ out. first_failed (close_checks area ++ (check (leb (length (joined_part area)) (length out)) 22 ∷ [])))
    (λ out. room_last (close_checks area) (close_numbered area) _) (λ z. refl) (λ z. refl)

-- ---- parts

cut_numbered : (mesh table : List ℕ) (rank : ℕ) → numbered (cut_checks mesh table rank) ≡ true
unfolding numbered cut_checks rank_checks
cut_numbered mesh table rank = refl

cut_tells : (mesh table : List ℕ) (rank : ℕ) → LengthTells (part_length_of mesh table rank) (cut_part_of mesh table rank)
unfolding part_length_of cut_part_of
cut_tells mesh table rank =
    length_tells (first_failed (cut_checks mesh table rank)) (length (cut_part mesh table rank)) (length (cut_part mesh table rank)) (cut_part mesh table rank)
    (λ out. first_failed (cut_checks mesh table rank ++ (check (leb (length (cut_part mesh table rank)) (length out)) 22 ∷ [])))
    (λ out. room_last (cut_checks mesh table rank) (cut_numbered mesh table rank) _) (λ z. refl) (λ z. refl)

-- ---- meshes made here

brick_long : (a b c : ℕ) (p q r : Bool) → length (brick_mesh a b c p q r) ≡ mesh_header + tree_size * (a * b * c)
unfolding brick_mesh
brick_long a b c p q r = built_length _ _ (a * b * c)

brick_tells : (a b c p q r : ℕ) → LengthTells (brick_length_of a b c) (write_brick_of a b c p q r)
unfolding brick_length_of write_brick_of numbered
brick_tells a b c p q r =
    let mesh : List ℕ = brick_mesh a b c (yes p) (yes q) (yes r) in
    let long : length mesh ≡ mesh_header + tree_size * (a * b * c) = brick_long a b c (yes p) (yes q) (yes r) in
    length_tells (first_failed (check (extents_ok a b c) 26 ∷ [])) (mesh_header + tree_size * (a * b * c)) (length mesh) mesh
    (λ out. first_failed (check (extents_ok a b c) 26 ∷ check (leb (length mesh) (length out)) 22 ∷ []))
    (λ out. room_last (check (extents_ok a b c) 26 ∷ []) refl (leb (length mesh) (length out))) (λ z. long) (λ z. long)

triangle_long : (text : List ℕ) → length (triangle_mesh text) ≡ triangle_bytes text
unfolding triangle_mesh triangle_bytes
triangle_long text = built_length _ _ _

triangle_tells : (text : List ℕ) → LengthTells (triangle_length text) (import_triangle text)
unfolding triangle_length triangle_refusal import_triangle import_refusal numbered
triangle_tells text =
    let cs : List Check = check (text_ok text) 27 ∷ check (vertices_differ (vertices text)) 28 ∷ check (not (three_faces (vertices text))) 29 ∷ [] in
    length_tells (first_failed cs) (triangle_bytes text) (triangle_bytes text) (triangle_mesh text) (import_refusal text) (λ out. room_last cs refl (leb (triangle_bytes text) (length out))) (λ z. refl) (λ z. triangle_long text)

-- ---- tables

rank_last : (ok b : Bool) → ◌≡◌ {A = ℕ} (cond ok (cond b 0 22) 2) (cond (eqb (cond ok 0 2) 0) (cond b 0 22) (cond ok 0 2))
rank_last true b = refl
rank_last false b = refl

table_tells : (P : ℕ) (passes : Bool) (object : List ℕ) (last : List ℕ → ℕ) → length object ≡ table_length P
    → ((out : List ℕ) → passes ≡ true → last out ≡ cond (rank_count_ok P) (cond (leb (table_length P) (length out)) 0 22) 2) → ((out : List ℕ) → rank_count_ok P ≡ false → last out ≡ 2)
    → TableTells P passes (λ out. write_answer (last out) object out)
unfolding table_length_answer first_failed write_answer length_answer
table_tells P passes object last long given none =
    record {
      tells = λ t. length_tells (cond (rank_count_ok P) 0 2) (table_length P) (table_length P) object last (λ out. given out t ∙ rank_last (rank_count_ok P) (leb (table_length P) (length out))) (λ z. refl) (λ z. long);
      no_table = λ declined out. either (rank_count_ok P) (λ t. absurd (declined (rw t))) (λ t. rw (none out t, t));
    }

write_tells : (P : ℕ) (first count : List ℕ) → TableTells P (partition_ok P first count) (write_table P first count)
unfolding write_table write_refusal first_failed
write_tells P first count =
    table_tells P (partition_ok P first count) (table_of (each first) (each count) P) (write_refusal P first count) (table_length_lem (each first) (each count) P) (λ out t. rw t) (λ out t. rw t)

leaves_tell : (P : ℕ) (ls : List ℕ) → TableTells P (leaves_ok ls) (table_from_leaves P ls)
unfolding table_from_leaves leaves_refusal first_failed leaf_table
leaves_tell P ls = table_tells P (leaves_ok ls) (leaf_table P ls) (leaves_refusal P ls) (table_length_lem _ _ P) (λ out t. rw t) (λ out t. rw t)

blocks_tell : (P : ℕ) (ls sums : List ℕ) → TableTells P (leaves_ok ls && sums_ok ls sums) (table_from_blocks P ls sums)
unfolding table_from_blocks blocks_refusal first_failed block_table
blocks_tell P ls sums = table_tells P (leaves_ok ls && sums_ok ls sums) (block_table P ls sums) (blocks_refusal P ls sums) (table_length_lem _ _ P) (λ out t. rw t) (λ out t. rw t)

weights_tell : (ws ls : List ℕ) → TableTells (length ws) (weights_ok ws && leaves_ok ls) (table_from_weights ws ls)
unfolding table_from_weights weights_refusal first_failed weighted_table
weights_tell ws ls =
    table_tells (length ws) (weights_ok ws && leaves_ok ls) (weighted_table ws ls) (weights_refusal ws ls) (table_length_lem _ _ (length ws))
    (λ out t. rw (and_fst (weights_ok ws) (leaves_ok ls) t, and_snd (weights_ok ws) (leaves_ok ls) t)) (λ out t. rw t)

pads_tell : (t : List ℕ) (P : ℕ) → TableTells P (ranks_ok t && (valid t && left_out_empty t P)) (pad_table t P)
unfolding pad_table pad_checks first_failed
pads_tell t P =
    table_tells P (ranks_ok t && (valid t && left_out_empty t P)) (padded_table t P) (λ out. first_failed (pad_checks t P ++ (check (leb (table_length P) (length out)) 22 ∷ []))) (padded_length t P)
    (λ out e.
    let rest = and_snd (ranks_ok t) (valid t && left_out_empty t P) e in
    rw (and_fst (ranks_ok t) (valid t && left_out_empty t P) e, and_fst (valid t) (left_out_empty t P) rest, and_snd (valid t) (left_out_empty t P) rest))
    (λ out e. rw (e, and-false (ranks_ok t)))

pub lengths_agree : LengthsAgree
lengths_agree =
    record {
      message = message-tells;
      all_messages_lem = messages_tell;
      area = open-tells;
      part_of_area = close_tells;
      part = cut_tells;
      triangle_mesh_lem = triangle_tells;
      brick = brick_tells;
      table = write_tells;
      table_by_leaves = leaves_tell;
      table_by_blocks = blocks_tell;
      table_by_weights = weights_tell;
      table_padded = pads_tell;
    }
