-- Where each message stands in what build_all writes.
use Prim.Native.Nat.{ℕ, zero, suc, ◌+◌, ◌≤◌, ◌<◌}
use native.Mathlib.Omega.{arith}
use mathlib.Core.Path.{◌≡◌, refl, sym, ap, ap₂, ◌∙◌}
use mathlib.Core.Bool.{Bool, true, cond, ◌&&◌}
use mathlib.Core.List.{List, [], ◌++◌, append-nil, append_assoc}
use lib.Dec.{leb, ltb, eqb}
use lib.ListN.{length, drop, length-append}
use lib.Seq.{take_at, drop_at}
use borrow.Author.Tests.{eqb-true, lt-ltb}
use Rattle.encoding.specs.Answer.{length_answer, written}
use Rattle.encoding.specs.Below.{sum_below}
use Rattle.encoding.specs.Pieces.{piece, splice}
use Rattle.encoding.specs.Refusal.{first_failed}
use Rattle.encoding.proofs.Below.{either, below_suc}
use Rattle.offsets.specs.Table.{ranks, ranks_ok, trees, valid}
use Rattle.pattern.specs.Sets.{sends_to}
use Rattle.pattern.specs.Calls.{table_checks}
use Rattle.part.specs.Part.{part_sound}
use Rattle.message.specs.Build.{part_message}
use Rattle.message.specs.Calls.{build_checks, message_length_of}
use Rattle.build_all.specs.Messages.{all_messages}
use Rattle.build_all.specs.Means.{message_to, messages_below}
use Rattle.build_all.specs.Calls.{build_all_checks, build_all_refusal, build_all_of}
use Rattle.build_all.proofs.Rows.{messages_are}
use Rattle.repartition.specs.TreeData.{place_to, piece_to, PieceIsMessage}
use Rattle.repartition.proofs.Checks.{room_last, pass_first}
use Rattle.repartition.proofs.Lengths.{message_epochs, all_numbered, messages_refusal}

module _ (part old new : List ℕ) (p : ℕ) where
  module _ (passed : first_failed (build_all_checks part old new p) ≡ 0) (epoch : ℕ) where
    -- of the checks of a message, those of build_all pass
    to-checks : (q : ℕ) → q < ranks old → first_failed (build_checks part old new p q) ≡ cond (sends_to old new p q) 0 9
    unfolding build_all_checks build_checks table_checks first_failed
    to-checks q h =
        let c2 = pass_first (ranks_ok old && ranks_ok new) _ 1 passed in
        let c3 = pass_first (valid old && valid new) _ 2 c2.1 in
        let c4 = pass_first (eqb (ranks old) (ranks new) && eqb (trees old) (trees new)) _ 3 c3.1 in
        let c5 = pass_first (ltb p (ranks old)) _ 4 c4.1 in
        let c8 = pass_first (part_sound part old p) _ 7 c5.1 in
        rw (c2.0, c3.0, c4.0, c5.0, lt-ltb q (ranks old) h, c8.0)

    -- the length call gives the length of the message to q, 0 where there is none
    measured : (q : ℕ) → q < ranks old → (message_length_of part old new p q).length ≡ length (message_to part old new p epoch q)
    unfolding message_length_of message_to length_answer
    measured q h = rw (to-checks q h) (either (sends_to old new p q) (λ t. rw t (message_epochs part old new p q 0 epoch)) (λ t. rw t))

    -- so the message to q begins after those to the ranks below it
    place_is : (q : ℕ) → q ≤ ranks old → place_to part old new p q ≡ length (messages_below part old new p epoch q)
    unfolding place_to sum_below messages_below
    place_is zero h = refl
    place_is (suc q) h =
        ap₂ ◌+◌ (place_is q (omega arith)) (measured q (omega arith)) ∙ sym (length-append (messages_below part old new p epoch q) (message_to part old new p epoch q))

  -- the messages to the ranks below n begin with those to the ranks below m
  below-front : (epoch m n : ℕ) → m ≤ n → (rest : List ℕ) × (messages_below part old new p epoch n ≡ messages_below part old new p epoch m ++ rest)
  unfolding messages_below
  below-front epoch zero n h = (messages_below part old new p epoch n, refl)
  below-front epoch (suc m) zero h = absurd (omega arith)
  below-front epoch (suc m) (suc n) h =
      below_suc (suc m) (suc n) (omega arith)
      (λ l.
      let f = below-front epoch (suc m) n (omega arith) in
      (f.0 ++ message_to part old new p epoch n, ap (λ (l : List ℕ). l ++ message_to part old new p epoch n) f.1 ∙ append_assoc (messages_below part old new p epoch (suc m)) f.0 (message_to part old new p epoch n)))
      (λ e. ([], ap (messages_below part old new p epoch) (sym e) ∙ sym (append-nil (messages_below part old new p epoch (suc m)))))

  -- the message to a rank that is sent a tree, after those to the ranks below it
  to-sent : (epoch q : ℕ) → sends_to old new p q ≡ true → message_to part old new p epoch q ≡ part_message part old new p q epoch
  unfolding message_to
  to-sent epoch q t = rw t

  below-sent : (epoch q : ℕ) → sends_to old new p q ≡ true → messages_below part old new p epoch (suc q) ≡ messages_below part old new p epoch q ++ part_message part old new p q epoch
  unfolding messages_below
  below-sent epoch q t = ap (λ (l : List ℕ). messages_below part old new p epoch q ++ l) (to-sent epoch q t)

-- what an accepted build_all has looked at, and left
module _ (part old new : List ℕ) (p epoch : ℕ) (out : List ℕ) (accepted : (build_all_of part old new p epoch out).0.refusal ≡ 0) where
  none-refused : build_all_refusal part old new p epoch out ≡ 0
  unfolding build_all_of
  none-refused = sym (messages_refusal _ _ _) ∙ accepted

  all-passed : first_failed (build_all_checks part old new p) ≡ 0
  unfolding build_all_refusal
  all-passed =
      let r : ℕ = first_failed (build_all_checks part old new p) in
      let b : Bool = leb (length (all_messages part old new p epoch)) (length out) in
      let e : cond (eqb r 0) (cond b 0 22) r ≡ 0 = sym (room_last (build_all_checks part old new p) (all_numbered part old new p) b) ∙ none-refused in
      either (eqb r 0) (λ t. eqb-true r 0 t) (λ t. rw t at e)

  all_left : (build_all_of part old new p epoch out).1 ≡ all_messages part old new p epoch ++ drop (0 + length (all_messages part old new p epoch)) out
  unfolding build_all_of written splice
  all_left = rw none-refused

pub piece_is_message : PieceIsMessage
unfolding piece_to piece
piece_is_message part old new p q epoch out accepted below sends =
    let passed = all-passed part old new p epoch out accepted in
    let M : List ℕ = messages_below part old new p epoch q in
    let T : List ℕ = part_message part old new p q epoch in
    let tail : List ℕ = drop (0 + length (all_messages part old new p epoch)) out in
    let f = below-front part old new p epoch (suc q) (ranks old) below in
    let all : all_messages part old new p epoch ≡ (M ++ T) ++ f.0 = sym (messages_are part old new p epoch) ∙ (f.1 ∙ ap (λ (l : List ℕ). l ++ f.0) (below-sent part old new p epoch q sends)) in
    let whole : (build_all_of part old new p epoch out).1 ≡ M ++ (T ++ (f.0 ++ tail)) =
    all_left part old new p epoch out accepted ∙ (ap (λ (l : List ℕ). l ++ tail) all ∙ (append_assoc (M ++ T) f.0 tail ∙ append_assoc M T (f.0 ++ tail))) in
    let at : place_to part old new p q ≡ length M = place_is part old new p passed epoch q (omega arith) in
    let long : (message_length_of part old new p q).length ≡ length T = measured part old new p passed epoch q below ∙ ap length (to-sent part old new p epoch q sends) in
    rw (whole, at, long, drop_at M (T ++ (f.0 ++ tail)) (length M) refl) (take_at T (f.0 ++ tail) (length T) refl)
