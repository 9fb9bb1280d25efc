-- How bytes are parted into messages.
use Prim.Native.Nat.{ℕ, zero, suc, ◌+◌, ◌-◌, ◌≤◌, ◌<◌}
use native.Mathlib.Omega.{arith}
use mathlib.Core.Path.{◌≡◌, refl, sym, ap, ◌∙◌}
use mathlib.Core.Bool.{Bool, ◌&&◌}
use mathlib.Core.List.{List, [], ◌∷◌}
use lib.Dec.{leb, eqb}
use lib.ListN.{length, take, drop, length-drop}
use lib.Seq.{take_all, drop-drop}
use borrow.Author.Tests.{leb-true, eqb-false, eq-eqb, ne_eqb, le-leb, lt-leb}
use Rattle.encoding.proofs.Below.{either, and_snd}
use Rattle.message.specs.Layout.{message_header, message_size, message_trees, message_ghosts}
use Rattle.deliver_all.specs.Messages.{front_length, first_pieces, messages_in}

-- ---- the message in front

module _ (bs : List ℕ) where
  abbrev size : ℕ
  size = message_size (message_trees bs) (message_ghosts bs)

  abbrev whole : Bool
  whole = leb message_header (length bs) && leb size (length bs)

  pub front_most : front_length bs ≤ length bs
  unfolding front_length
  front_most = either whole (λ t. rw t (leb-true size (length bs) (and_snd (leb message_header (length bs)) (leb size (length bs)) t))) (λ t. rw t (omega arith))

  pub front_some : 0 < length bs → 0 < front_length bs
  unfolding front_length
  front_some h = either whole (λ t. rw t (omega arith)) (λ t. rw t h)

  -- a rest under a header, one shorter than its header says, and a message that is there whole
  pub front_rest : length bs < 32 → length bs ≡ front_length bs
  unfolding front_length
  front_rest h = rw (lt-leb message_header (length bs) h)

  pub front_short : {n g s : ℕ} → 32 ≤ length bs → n ≡ message_trees bs → g ≡ message_ghosts bs → s ≡ message_size n g → length bs < s → length bs ≡ front_length bs
  unfolding front_length
  front_short l e f z h = rw (le-leb message_header (length bs) l, lt-leb size (length bs) (omega (arith, e, f, z)))

  pub front_whole : {n g s : ℕ} → 32 ≤ length bs → n ≡ message_trees bs → g ≡ message_ghosts bs → s ≡ message_size n g → s ≤ length bs → s ≡ front_length bs
  unfolding front_length
  front_whole l e f z h = rw (le-leb message_header (length bs) l, le-leb size (length bs) (omega (arith, e, f, z))) (z ∙ rw (e, f))

-- ---- one message after the other

-- as many pieces as there are bytes are enough
pieces_enough : (n m : ℕ) (bs : List ℕ) → length bs ≤ n → length bs ≤ m → first_pieces n bs ≡ first_pieces m bs
unfolding first_pieces
pieces_enough zero zero bs h k = refl
pieces_enough zero (suc m) bs h k = rw (eq-eqb (length bs) 0 (omega arith))
pieces_enough (suc n) zero bs h k = rw (eq-eqb (length bs) 0 (omega arith))
pieces_enough (suc n) (suc m) bs h k =
    either (eqb (length bs) 0)
    (λ t. rw t)
    (λ t. let s = front_some bs (omega (arith, eqb-false (length bs) 0 t)) in
    let d = length-drop (front_length bs) bs in
    rw t (ap (λ (r : List (List ℕ)). take (front_length bs) bs ∷ r) (pieces_enough n m (drop (front_length bs) bs) (omega arith) (omega arith))))

-- there are no more than are asked for
pieces_few : (n : ℕ) (bs : List ℕ) → length (first_pieces n bs) ≤ n
unfolding first_pieces
pieces_few zero bs = omega arith
pieces_few (suc n) bs = either (eqb (length bs) 0) (λ t. rw t (omega arith)) (λ t. rw t (omega (arith, pieces_few n (drop (front_length bs) bs))))

module _ (bs : List ℕ) where
  pub messages_none : length bs ≡ 0 → messages_in bs ≡ []
  unfolding messages_in first_pieces
  messages_none e = ap (λ (n : ℕ). first_pieces n bs) e

  pub messages_step : 0 < length bs → messages_in bs ≡ take (front_length bs) bs ∷ messages_in (drop (front_length bs) bs)
  unfolding messages_in first_pieces
  messages_step h =
      let d = length-drop (front_length bs) bs in
      pieces_enough (length bs) (suc (length bs)) bs (omega arith) (omega arith)
      ∙ rw (ne_eqb (length bs) 0 (omega arith))
      (ap (λ (r : List (List ℕ)). take (front_length bs) bs ∷ r) (pieces_enough (length bs) (length (drop (front_length bs) bs)) (drop (front_length bs) bs) (omega arith) (omega arith)))

  -- there are no more than bytes
  pub messages_few : length (messages_in bs) ≤ length bs
  unfolding messages_in
  messages_few = pieces_few (length bs) bs

module _ (bs : List ℕ) where
  -- the message at byte `at`, and those behind it
  pub messages_next : (at n : ℕ) → at < length bs → n ≡ front_length (drop at bs) → messages_in (drop at bs) ≡ take n (drop at bs) ∷ messages_in (drop (at + n) bs)
  messages_next at n h e =
      let d = length-drop at bs in
      messages_step (drop at bs) (omega arith)
      ∙ ap (λ (k : ℕ). take k (drop at bs) ∷ messages_in (drop k (drop at bs))) (sym e)
      ∙ ap (λ (r : List ℕ). take n (drop at bs) ∷ messages_in r) (drop-drop n at bs)

  -- no byte is left
  pub messages_end : (at : ℕ) → length bs ≤ at → messages_in (drop at bs) ≡ []
  messages_end at h = let d = length-drop at bs in messages_none (drop at bs) (omega arith)

-- the bytes from `at` on, as a slice of them is made
pub rest_is : (bs : List ℕ) (at : ℕ) → take (length bs - at) (drop at bs) ≡ drop at bs
rest_is bs at = let d = length-drop at bs in take_all (length bs - at) (drop at bs) (omega arith)

-- those of the message at byte `at`
pub part_is : (bs : List ℕ) (at n : ℕ) → take (at + n - at) (drop at bs) ≡ take n (drop at bs)
part_is bs at n = let e : at + n - at ≡ n = omega arith in rw e

module _ (bs : List ℕ) {at n : ℕ} (h : at < length bs) (is_n : n ≡ front_length (take (length bs - at) (drop at bs))) where
  pub front_is : n ≡ front_length (drop at bs)
  front_is = is_n ∙ ap front_length (rest_is bs at)

  pub next_most : at + n ≤ length bs
  next_most = let d = length-drop at bs in omega (arith, front_is, front_most (drop at bs))

  pub next_some : 0 < n
  next_some = let d = length-drop at bs in omega (arith, front_is, front_some (drop at bs) (omega arith))

  pub count_next : (count : ℕ) {total : ℕ} → count + length (messages_in (drop at bs)) ≡ total → count + 1 + length (messages_in (drop (at + n) bs)) ≡ total
  count_next count e = let l = ap length (messages_next bs at n h front_is) in omega arith

pub count_end : (bs : List ℕ) (at count : ℕ) {total : ℕ} → length bs ≤ at → count + length (messages_in (drop at bs)) ≡ total → count ≡ total
count_end bs at count h e = let l = ap length (messages_end bs at h) in omega arith
