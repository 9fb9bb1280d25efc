-- The messages in the order of the ranks are those to the send set, end to end.
use Prim.Native.Nat.{ℕ, zero, suc, ◌+◌, ◌-◌, ◌*◌, ◌≤◌, ◌<◌}
use native.Mathlib.Nat.{zero-add}
use native.Mathlib.Numerals.{add-one}
use native.Mathlib.Omega.{arith}
use mathlib.Core.Path.{◌≡◌, refl, sym, ap, ap₂, ◌∙◌}
use mathlib.Core.Bool.{Bool, true, false, cond, ◌&&◌}
use mathlib.Core.List.{List, [], ◌∷◌, ◌++◌, append_assoc, append-nil}
use lib.Dec.{leb, eqb}
use lib.ListN.{length, take, drop, length-append, length-drop}
use lib.Seq.{take_all, drop-drop, drop-length}
use borrow.Author.Tests.{leb-true}
use borrow.Rule.Slice.PartMut.{put_mid, Post-is}
use Rattle.encoding.specs.Below.{sum_below, kept_below}
use Rattle.encoding.specs.Pieces.{splice}
use Rattle.encoding.proofs.Below.{tests, either, sum_mono, count_zero, count_none, any_none, any_false}
use Rattle.encoding.proofs.Pieces.{length_splice, splice_none, splice_then}
use Rattle.offsets.specs.Limits.{max_trees}
use Rattle.offsets.specs.Table.{ranks, trees, holds}
use Rattle.pattern.specs.Means.{PairNear, WindowOf, lower_rank, upper_rank, exchanges_tree}
use Rattle.pattern.specs.Sender.{sender, sends, sent_first, sent_count}
use Rattle.pattern.specs.Sets.{sends_to, send_set}
use Rattle.message.specs.Build.{part_message}
use Rattle.message.specs.Layout.{message_size}
use Rattle.message_ghosts.specs.Means.{SendingRange}
use Rattle.message_ghosts.proofs.Marking.{room_kept}
use Rattle.message_build.specs.Means.{Going, MessageRoom}
use Rattle.message_build.proofs.Answers.{message_room}
use Rattle.build_all.specs.Messages.{joined_messages, all_messages}
use Rattle.build_all.specs.Means.{message_to, messages_below, BuildFrom, BuildTo}

-- ---- the definition

end_append : (message : ℕ → List ℕ) (xs ys : List ℕ) → joined_messages message (xs ++ ys) ≡ joined_messages message xs ++ joined_messages message ys
unfolding joined_messages
end_append message [] ys = refl
end_append message (q ∷ qs) ys = ap (λ (l : List ℕ). message q ++ l) (end_append message qs ys) ∙ sym (append_assoc (message q) (joined_messages message qs) (joined_messages message ys))

module _ (part old new : List ℕ) (p epoch : ℕ) where
  abbrev message : ℕ → List ℕ
  message q = part_message part old new p q epoch

  one_more : (q : ℕ) → joined_messages message (cond (sends_to old new p q) (q ∷ []) []) ≡ message_to part old new p epoch q
  unfolding joined_messages message_to
  one_more q = either (sends_to old new p q) (λ t. rw t (append-nil (message q))) (λ t. rw t)

  below-kept : (n : ℕ) → messages_below part old new p epoch n ≡ joined_messages message (kept_below n (sends_to old new p))
  unfolding messages_below kept_below joined_messages
  below-kept zero = refl
  below-kept (suc n) =
      ap₂ (λ (a b : List ℕ). a ++ b) (below-kept n) (sym (one_more n))
      ∙ sym (end_append message (kept_below n (sends_to old new p)) (cond (sends_to old new p n) (n ∷ []) []))

  -- the messages that the loop writes are those of the definition
  pub messages_are : messages_below part old new p epoch (ranks old) ≡ all_messages part old new p epoch
  unfolding all_messages send_set
  messages_are = below-kept (ranks old)

  pub below_more : (q : ℕ) → messages_below part old new p epoch (q + 1) ≡ messages_below part old new p epoch q ++ message_to part old new p epoch q
  unfolding messages_below
  below_more q = ap (messages_below part old new p epoch) (add-one q)

  pub length_more : (q : ℕ) → length (messages_below part old new p epoch (q + 1)) ≡ length (messages_below part old new p epoch q) + length (message_to part old new p epoch q)
  length_more q = ap length (below_more q) ∙ length-append (messages_below part old new p epoch q) (message_to part old new p epoch q)

  pub below_none : messages_below part old new p epoch 0 ≡ []
  unfolding messages_below
  below_none = refl

  below-sum : (n : ℕ) → length (messages_below part old new p epoch n) ≡ sum_below n (λ i. length (message_to part old new p epoch i))
  unfolding messages_below sum_below
  below-sum zero = refl
  below-sum (suc n) = length-append (messages_below part old new p epoch n) (message_to part old new p epoch n) ∙ ap (λ (k : ℕ). k + length (message_to part old new p epoch n)) (below-sum n)

  -- those to more ranks are no shorter
  pub below_rises : (m n : ℕ) → m ≤ n → length (messages_below part old new p epoch m) ≤ length (messages_below part old new p epoch n)
  below_rises m n h = omega (arith, below-sum m, below-sum n, sum_mono m n (λ i. length (message_to part old new p epoch i)) h)

  -- p exchanges nothing with q: there is no message
  to-nobody : (q : ℕ) → exchanges_tree old new p true q ≡ false → message_to part old new p epoch q ≡ []
  unfolding exchanges_tree message_to
  to-nobody q e = let s : sends_to old new p q ≡ false = e in rw s

  -- nor any from n on
  below-past : (n m : ℕ) → n ≤ m → ((i : ℕ) → n ≤ i → i < m → exchanges_tree old new p true i ≡ false) → messages_below part old new p epoch m ≡ messages_below part old new p epoch n
  unfolding messages_below
  below-past n zero h none = let e : n ≡ 0 = omega arith in ap (messages_below part old new p epoch) (sym e)
  below-past n (suc m) h none =
      either (leb n m)
      (λ e.
      ap₂ (λ (a b : List ℕ). a ++ b) (below-past n m (leb-true n m e) (λ i l u. none i l (omega arith))) (to-nobody m (none m (leb-true n m e) (omega arith)))
      ∙ append-nil (messages_below part old new p epoch n))
      (λ e. let d : n ≡ suc m = omega tests in ap (messages_below part old new p epoch) (sym d))

  module _ {first end : ℕ} (w : WindowOf old new p true first end) where
    -- there is no message to a rank before the window
    pub below_first : messages_below part old new p epoch first ≡ []
    below_first = below-past 0 first (omega arith) (λ i l h. w.before i h) ∙ below_none

    -- nor to one after it
    pub below_end : messages_below part old new p epoch end ≡ messages_below part old new p epoch (ranks old)
    below_end = sym (below-past end (ranks old) w.within w.after)

-- ---- one receiver

module _ {part old new : List ℕ} {p q lower upper : ℕ} {marks : List ℕ} (to : BuildTo part old new p q lower upper marks) where
  pub near_to : PairNear old new p q lower upper
  near_to =
      let r = to.sender.rank in
      record { pair = record { tables = r.tables; sender_below = r.rank_below; receiver_below = to.below }; is_lower = to.is_lower; is_upper = to.is_upper }

  pub range_to : {low n : ℕ} → low ≡ sent_first old new p q → n ≡ sent_count old new p q → SendingRange part old new p q low n
  range_to e f = record { sending = record { pair = near_to.pair; sound = to.sender.sound }; begins = e; many = f }

  abbrev sent : ℕ → Bool
  sent = λ k. holds new q k && eqb (sender old k q) p

  none_sent : sent_count old new p q ≡ 0 → sends_to old new p q ≡ false
  unfolding sent_count sends sends_to
  none_sent z = any_none (trees old) sent (λ i h. count_zero (trees old) sent z i h)

  some-sent : (sent_count old new p q ≡ 0 → ⊥) → sends_to old new p q ≡ true
  unfolding sent_count sends sends_to
  some-sent f = either (sends_to old new p q) (λ t. t) (λ t. absurd (f (count_none (trees old) sent (λ i h. any_false (trees old) sent t i h))))

  module _ (epoch : ℕ) where
    -- p sends q nothing
    pub to_none : {n : ℕ} → n ≡ sent_count old new p q → n ≡ 0 → message_to part old new p epoch q ≡ []
    unfolding message_to
    to_none e z = rw (none_sent (sym e ∙ z))

    -- p sends q a message
    pub to_some : {n : ℕ} → n ≡ sent_count old new p q → (n ≡ 0 → ⊥) → message_to part old new p epoch q ≡ part_message part old new p q epoch
    unfolding message_to
    to_some e f = rw (some-sent (λ z. f (e ∙ z)))

    pub none_length : {n : ℕ} → n ≡ sent_count old new p q → n ≡ 0 → 0 ≡ length (message_to part old new p epoch q)
    none_length e z = sym (ap length (to_none e z))

    pub some_length : {n g s : ℕ} {after : List ℕ} → n ≡ sent_count old new p q → (n ≡ 0 → ⊥) → Going part old new p q n g after → s ≡ message_size n g → s ≡ length (message_to part old new p epoch q)
    some_length e f go l = l ∙ go.long epoch ∙ sym (ap length (to_some e f))

    module _ (out : List ℕ) where
      pub none_written : {n : ℕ} → n ≡ sent_count old new p q → n ≡ 0 → out ≡ splice out 0 (message_to part old new p epoch q)
      none_written e z = sym (splice_none out 0) ∙ ap (splice out 0) (sym (to_none e z))

      pub some_written : {n : ℕ} {last : List ℕ} → n ≡ sent_count old new p q → (n ≡ 0 → ⊥) → last ≡ splice out 0 (part_message part old new p q epoch) → last ≡ splice out 0 (message_to part old new p epoch q)
      some_written e f w = w ∙ ap (splice out 0) (sym (to_some e f))

      pub some_room : {low n g : ℕ} {after : List ℕ} → length (message_to part old new p epoch q) ≤ length out → low ≡ sent_first old new p q → n ≡ sent_count old new p q → (n ≡ 0 → ⊥)
          → Going part old new p q n g after → MessageRoom part old new p q low n g epoch after out
      some_room {low} {n} {g} {after} room e f z go =
          message_room part old new p q low n (range_to e f) after out g epoch go refl (omega (arith, room, some_length f z go refl))

-- ---- all receivers

-- with the marks of another message
pub from_kept : {part old new : List ℕ} {p : ℕ} {marks after : List ℕ} → BuildFrom part old new p marks → length after ≡ length marks → BuildFrom part old new p after
from_kept f e = record { rank = f.rank; sound = f.sound; bytes = f.bytes; room = room_kept f.room e }

pub room_of : {n m k : ℕ} → n ≡ m → n ≤ k → m ≤ k
room_of e h = omega arith

-- the next of them
pub to_next : {part old new : List ℕ} {p q first end lower upper : ℕ} {marks₀ marks : List ℕ} → BuildFrom part old new p marks₀ → length marks ≡ length marks₀ → WindowOf old new p true first end → q < end → lower ≡ lower_rank old p → upper ≡ upper_rank old p
    → BuildTo part old new p q lower upper marks
to_next f e w h l u = record { sender = from_kept f e; below = omega (arith, w.within); is_lower = l; is_upper = u }

-- the bytes of those to the ranks below q
pub record Adding (part old new : List ℕ) (p : ℕ) (marks₀ marks : List ℕ) (total q : ℕ) : Type 0 where
  pub same_length : length marks ≡ length marks₀
  pub most : total ≤ q * message_size max_trees max_trees
  pub long : (epoch : ℕ) → total ≡ length (messages_below part old new p epoch q)

module _ (part old new : List ℕ) (p : ℕ) (marks₀ : List ℕ) where
  pub add_start : {first end : ℕ} → WindowOf old new p true first end → Adding part old new p marks₀ marks₀ 0 first
  add_start w = record { same_length = refl; most = omega arith; long = λ epoch. sym (ap length (below_first part old new p epoch w)) }

  pub add_next : {marks after : List ℕ} {total q n : ℕ} → Adding part old new p marks₀ marks total q → length after ≡ length marks → ((epoch : ℕ) → n ≡ length (message_to part old new p epoch q)) → n ≤ message_size max_trees max_trees
      → Adding part old new p marks₀ after (total + n) (q + 1)
  add_next {marks} {after} {total} {q} {n} A e l m =
      record {
        same_length = e ∙ A.same_length;
        most = omega (arith, A.most);
        long = λ epoch. omega (arith, A.long epoch, l epoch, length_more part old new p epoch q);
      }

  pub add_done : {marks : List ℕ} {total q first end : ℕ} → Adding part old new p marks₀ marks total q → q ≤ end → end ≤ q → WindowOf old new p true first end → (epoch : ℕ) → total ≡ length (messages_below part old new p epoch (ranks old))
  add_done {marks} {total} {q} {first} {end} A h l w epoch =
      let d : q ≡ end = omega arith in
      A.long epoch ∙ ap (λ (k : ℕ). length (messages_below part old new p epoch k)) d ∙ ap length (below_end part old new p epoch w)

-- those to the ranks below q are written
pub record Writing (part old new : List ℕ) (p epoch : ℕ) (out₀ out : List ℕ) (at q : ℕ) : Type 0 where
  pub place : at ≡ length (messages_below part old new p epoch q)
  pub same_length : length out ≡ length out₀
  pub done : out ≡ splice out₀ 0 (messages_below part old new p epoch q)

-- the bytes from `at` on, as a slice of them is made
pub rest_is : (out : List ℕ) (at : ℕ) → take (length out - at) (drop at out) ≡ drop at out
rest_is out at = take_all (length out - at) (drop at out) (omega (arith, length-drop at out))

more : (a b : ℕ) → a + (0 + b) ≡ a + b
more a b = omega arith

-- written behind what is written already
splice_at : (out m : List ℕ) (at : ℕ) → take at out ++ splice (drop at out) 0 m ≡ splice out at m
unfolding splice
splice_at out m at = ap (λ (l : List ℕ). take at out ++ (m ++ l)) (drop-drop (0 + length m) at out ∙ ap (λ (k : ℕ). drop k out) (more at (length m)))

module _ (part old new : List ℕ) (p epoch : ℕ) (out₀ : List ℕ) where
  pub write_start : {first end : ℕ} → WindowOf old new p true first end → Writing part old new p epoch out₀ out₀ 0 first
  write_start w =
      record {
        place = sym (ap length (below_first part old new p epoch w));
        same_length = refl;
        done = sym (splice_none out₀ 0) ∙ ap (splice out₀ 0) (sym (below_first part old new p epoch w));
      }

  module _ {out : List ℕ} {at q first end : ℕ} (W : Writing part old new p epoch out₀ out at q) (h : q < end) (w : WindowOf old new p true first end) (room : length (messages_below part old new p epoch (ranks old)) ≤ length out₀) where
    abbrev m : List ℕ
    m = message_to part old new p epoch q

    pub write_room : at + length m ≤ length out
    write_room = omega (arith, W.place, W.same_length, length_more part old new p epoch q, below_rises part old new p epoch (q + 1) (ranks old) (omega (arith, w.within)))

    pub rest_room : length m ≤ length (take (length out - at) (drop at out))
    rest_room = rw (rest_is out at) (omega (arith, write_room, length-drop at out))

    -- the message put into the rest of the buffer
    pub put_written : {last : List ℕ} → last ≡ splice (take (length out - at) (drop at out)) 0 m → put_mid at (length out - at) out last ≡ splice out at m
    put_written {last} is_last =
        ap (λ (l : List ℕ). take at out ++ (last ++ l)) (Post-is at (length out) out (omega (arith, write_room)) ∙ drop-length out)
        ∙ ap (λ (l : List ℕ). take at out ++ l) (append-nil last ∙ is_last ∙ ap (λ (l : List ℕ). splice l 0 m) (rest_is out at))
        ∙ splice_at out m at

    pub write_next : {after : List ℕ} {n : ℕ} → n ≡ length m → after ≡ splice out at m → Writing part old new p epoch out₀ after (at + n) (q + 1)
    write_next {after} {n} e is-after =
        record {
          place = omega (arith, W.place, length_more part old new p epoch q);
          same_length = ap length is-after ∙ length_splice out at m write_room ∙ W.same_length;
          done =
              splice_then out₀ 0 at (messages_below part old new p epoch q) m (sym W.place) (omega (arith, write_room, W.same_length)) W.done (is-after ∙ ap (λ (k : ℕ). splice out k m) (sym (zero-add at)))
              ∙ ap (splice out₀ 0) (sym (below_more part old new p epoch q));
        }

  pub write_done : {out : List ℕ} {at q first end : ℕ} → Writing part old new p epoch out₀ out at q → q ≤ end → end ≤ q → WindowOf old new p true first end → out ≡ splice out₀ 0 (messages_below part old new p epoch (ranks old))
  write_done {out} {at} {q} {first} {end} W h l w =
      let d : q ≡ end = omega arith in
      W.done ∙ ap (λ (k : ℕ). splice out₀ 0 (messages_below part old new p epoch k)) d ∙ ap (splice out₀ 0) (below_end part old new p epoch w)
