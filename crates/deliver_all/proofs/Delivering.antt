-- One delivery after the other into an area that stays sound.
use Prim.Native.Nat.{ℕ, ◌+◌, ◌-◌, ◌≤◌, ◌<◌}
use native.Mathlib.Numerals.{add-one}
use native.Mathlib.Omega.{arith}
use mathlib.Core.Path.{◌≡◌, refl, sym, ap, ap₂, ◌∙◌}
use mathlib.Core.Bool.{Bool, true, false, not, ◌&&◌, ◌||◌}
use mathlib.Core.List.{List, [], ◌∷◌}
use lib.Dec.{leb, ltb}
use lib.ListN.{length, take, drop, set, length-set}
use borrow.Author.Tests.{ltb-true, ltb-false, le-leb, lt-leb}
use Rattle.encoding.specs.Answer.{written, count_answer}
use Rattle.encoding.specs.Pieces.{splice, Bytes}
use Rattle.encoding.specs.Refusal.{first_failed}
use Rattle.encoding.proofs.Below.{either, clash}
use Rattle.encoding.proofs.Pieces.{splice_none, splice_cons}
use Rattle.area.specs.Area.{area_sound}
use Rattle.area.specs.Deliver.{deliver_of}
use Rattle.area_theorems.proofs.Deliveries.{deliver_sound}
use Rattle.deliver_all.specs.Messages.{front_length, messages_in, area_after_each, answers_of_each}
use Rattle.deliver_all.specs.Calls.{max_messages, deliver_all_refusal, deliver_all_count, deliver_all_area, deliver_all_of}
use Rattle.deliver_all.specs.Means.{Receivable, Received}
use Rattle.deliver_all.proofs.Parting.{messages_next, messages_end, front_is, next_most}

-- ---- the loop

module _ (a : List ℕ) where
  area-none : area_after_each a [] ≡ a
  unfolding area_after_each
  area-none = refl

  answers-none : answers_of_each a [] ≡ []
  unfolding answers_of_each
  answers-none = refl

  module _ (m : List ℕ) (ms : List (List ℕ)) where
    area-more : area_after_each a (m ∷ ms) ≡ area_after_each (deliver_of a m).1 ms
    unfolding area_after_each
    area-more = refl

    answers-more : answers_of_each a (m ∷ ms) ≡ (deliver_of a m).0 ∷ answers_of_each (deliver_of a m).1 ms
    unfolding answers_of_each
    answers-more = refl

-- before the message at byte `at`, the one numbered i: what is left to do gives what is to be had
pub record Turn (a₀ bs answers₀ : List ℕ) (at i : ℕ) (a answers : List ℕ) : Type 0 where
  pub within : at ≤ length bs
  pub bytes : Bytes a
  pub sound : area_sound a ≡ true
  pub same_length : length answers ≡ length answers₀
  pub room : i + length (messages_in (drop at bs)) ≤ length answers
  pub area : area_after_each a (messages_in (drop at bs)) ≡ area_after_each a₀ (messages_in bs)
  pub told : splice answers i (answers_of_each a (messages_in (drop at bs))) ≡ splice answers₀ 0 (answers_of_each a₀ (messages_in bs))

module _ (a₀ bs answers₀ : List ℕ) where
  pub turn_start : Bytes a₀ → Receivable a₀ bs answers₀ → Turn a₀ bs answers₀ 0 0 a₀ answers₀
  turn_start b R = record { within = omega arith; bytes = b; sound = R.sound; same_length = refl; room = omega (arith, R.room); area = refl; told = refl }

  module _ {at i n : ℕ} {a answers : List ℕ} (T : Turn a₀ bs answers₀ at i a answers) (h : at < length bs) (is_n : n ≡ front_length (take (length bs - at) (drop at bs))) where
    abbrev message : List ℕ
    message = take n (drop at bs)

    rest : messages_in (drop at bs) ≡ message ∷ messages_in (drop (at + n) bs)
    rest = messages_next bs at n h (front_is bs h is_n)

    pub answer_room : i < length answers
    answer_room = omega (arith, T.room, ap length rest)

    pub turn_next : {r : ℕ} {m a' answers' : List ℕ} → Bytes a' → m ≡ message → (r, a') ≡ deliver_of a m → answers' ≡ set answers i r → Turn a₀ bs answers₀ (at + n) (i + 1) a' answers'
    turn_next {r} {m} {a'} {answers'} b is_m e w =
        let left : List (List ℕ) = messages_in (drop (at + n) bs) in
        let d : (r, a') ≡ deliver_of a message = e ∙ ap (deliver_of a) is_m in
        let r-is : r ≡ (deliver_of a message).0 = ap (λ (x : ℕ × List ℕ). x.0) d in
        let a-is : a' ≡ (deliver_of a message).1 = ap (λ (x : ℕ × List ℕ). x.1) d in
        let l : length answers' ≡ length answers = ap length w ∙ length-set answers i r in
        record {
          within = next_most bs h is_n;
          bytes = b;
          sound = ap area_sound a-is ∙ deliver_sound a message T.bytes T.sound;
          same_length = l ∙ T.same_length;
          room = omega (arith, T.room, ap length rest);
          area = ap (λ (x : List ℕ). area_after_each x left) a-is ∙ sym (area-more a message left) ∙ sym (ap (area_after_each a) rest) ∙ T.area;
          told =
              ap₂ (λ (x y : List ℕ). splice x (i + 1) (answers_of_each y left)) w a-is
              ∙ ap (λ (k : ℕ). splice (set answers i r) k (answers_of_each (deliver_of a message).1 left)) (add-one i)
              ∙ sym (splice_cons answers i r (answers_of_each (deliver_of a message).1 left) answer_room)
              ∙ ap (λ (k : ℕ). splice answers i (k ∷ answers_of_each (deliver_of a message).1 left)) r-is
              ∙ ap (splice answers i) (sym (answers-more a message left))
              ∙ ap (λ (ms : List (List ℕ)). splice answers i (answers_of_each a ms)) (sym rest)
              ∙ T.told;
        }

  pub turn_done : {at i : ℕ} {a answers : List ℕ} → Turn a₀ bs answers₀ at i a answers → length bs ≤ at → Received a₀ bs answers₀ a answers
  turn_done {at} {i} {a} {answers} T h =
      let e : messages_in (drop at bs) ≡ [] = messages_end bs at h in
      record {
        area = sym (area-none a) ∙ ap (area_after_each a) (sym e) ∙ T.area;
        told = sym (splice_none answers i) ∙ ap (splice answers i) (sym (answers-none a)) ∙ ap (λ (ms : List (List ℕ)). splice answers i (answers_of_each a ms)) (sym e) ∙ T.told;
      }

-- ---- the call

-- room for an answer to each, and no more than a count tells
room_is : (n l m : ℕ) → (leb n l && leb n m) ≡ not (ltb l n || ltb m n)
room_is n l m =
    either (ltb l n)
    (λ t. rw (t, lt-leb n l (ltb-true l n t)))
    (λ t. either (ltb m n)
    (λ u. rw (t, u, le-leb n l (ltb-false l n t), lt-leb n m (ltb-true m n u)))
    (λ u. rw (t, u, le-leb n l (ltb-false l n t), le-leb n m (ltb-false m n u))))

or_true : (b : Bool) → (b || true) ≡ true
or_true true = refl
or_true false = refl

module _ (a bs answers : List ℕ) {s : Bool} (is-s : s ≡ area_sound a) where
  pub all_unsound : s ≡ false → (record { refusal = 10; count = 0 }, (a, answers)) ≡ deliver_all_of a bs answers
  unfolding deliver_all_of deliver_all_count count_answer deliver_all_area deliver_all_refusal written first_failed
  all_unsound f = rw (← is-s, f)

  module _ (ok : s ≡ true) {n : ℕ} (is_n : n ≡ length (messages_in bs)) where
    abbrev short : Bool
    short = ltb (length answers) n || ltb max_messages n

    fits : (leb (length (messages_in bs)) (length answers) && leb (length (messages_in bs)) max_messages) ≡ not short
    fits = rw (← is_n) (room_is n (length answers) max_messages)

    pub all_short : short ≡ true → (record { refusal = 22; count = 0 }, (a, answers)) ≡ deliver_all_of a bs answers
    unfolding deliver_all_of deliver_all_count count_answer deliver_all_area deliver_all_refusal written first_failed
    all_short t = rw (← is-s, ok, fits, t)

    pub all_receivable : short ≡ false → Receivable a bs answers
    all_receivable t = record { sound = sym is-s ∙ ok; room = either (ltb (length answers) n) (λ u. clash {b = true} refl (rw u at t)) (λ u. omega (arith, ltb-false (length answers) n u)) }

    pub all_small : short ≡ false → n ≤ max_messages
    all_small t = either (ltb max_messages n) (λ u. clash {b = short} (rw u (or_true (ltb (length answers) n))) t) (λ u. ltb-false max_messages n u)

    pub all_done : {a' answers' : List ℕ} → short ≡ false → Received a bs answers a' answers' → (record { refusal = 0; count = n }, (a', answers')) ≡ deliver_all_of a bs answers
    unfolding deliver_all_of deliver_all_count count_answer deliver_all_area deliver_all_refusal written first_failed
    all_done t R = rw (← is-s, ok, fits, t, R.area, R.told, is_n)
