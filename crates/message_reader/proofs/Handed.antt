-- What a reader hands out, from its first place to its last.
use Prim.Native.Nat.{ℕ, ◌+◌, ◌-◌, ◌≤◌, ◌<◌}
use native.Mathlib.Omega.{arith}
use mathlib.Core.Path.{◌≡◌, refl, sym, ap, ◌∙◌}
use mathlib.Core.Bool.{true, false, cond}
use mathlib.Core.List.{List, []}
use lib.Dec.{ltb}
use lib.ListN.{length}
use borrow.Author.Tests.{lt-ltb, le-ltb, ltb-true, ltb-false}
use Rattle.encoding.specs.Answer.{length_refused}
use Rattle.encoding.specs.Refusals.{refusal_number}
use Rattle.encoding.specs.declared.answer.Length.{Length}
use Rattle.encoding.specs.declared.refusal.Refusal.{Refusal}
use Rattle.encoding.proofs.Refusals.{number_positive}
use Rattle.encoding.proofs.Below.{either}
use Rattle.encoding.proofs.Pieces.{piece_length}
use Rattle.records.specs.Record.{core_size, tree_size}
use Rattle.message.specs.Layout.{message_tree_place, message_ghost_place, message_trees, message_ghosts, message_ghost, size_laid, in_layout}
use Rattle.message.specs.Reading.{record_count, record_at}
use Rattle.message.specs.Calls.{reading_of}
use Rattle.message.proofs.Layouts.{size_length}
use Rattle.message.proofs.Reading.{record_past, record_tree, record_ghost, count_all, count_none, reading_unlaid, reading_begins}
use Rattle.message_reader.specs.Handing.{place_after, begin_of}

-- ---- how long a record is

module _ (m : List ℕ) where
  -- a message with a record has the length that its header says
  count-laid : {i : ℕ} → i < record_count m → size_laid m ≡ true
  count-laid {i} h = either (size_laid m) (λ e. e) (λ e. absurd (omega (arith, count_none m e)))

  module _ (laid : size_laid m ≡ true) where
    pub tree_length : (i : ℕ) → i < message_trees m → length (record_at m i) ≡ tree_size
    tree_length i h = rw (record_tree m laid i h) (piece_length m (message_tree_place i) tree_size (omega (arith, size_length m laid)))

    ghost-length : (j : ℕ) → j < message_ghosts m → length (record_at m (message_trees m + j)) ≡ core_size
    unfolding message_ghost
    ghost-length j h = rw (record_ghost m laid j h) (piece_length m (message_ghost_place (message_trees m) j) core_size (omega (arith, size_length m laid)))

  -- no record is empty
  record-some : (i : ℕ) → i < record_count m → 0 < length (record_at m i)
  record-some i h =
      let laid : size_laid m ≡ true = count-laid h in
      either (ltb i (message_trees m))
      (λ e. omega (arith, tree_length laid i (ltb-true _ _ e)))
      (λ e.
      let l : message_trees m ≤ i = ltb-false i (message_trees m) e in
      let s : message_trees m + (i - message_trees m) ≡ i = omega arith in
      let g : length (record_at m (message_trees m + (i - message_trees m))) ≡ core_size = ghost-length laid (i - message_trees m) (omega (arith, count_all m laid)) in
      let n : length (record_at m i) ≡ core_size = ap (λ k. length (record_at m k)) (sym s) ∙ g in
      omega (arith, n))

  -- there are no more records than bytes
  pub count_short : record_count m ≤ length m
  count_short = either (size_laid m) (λ e. omega (arith, count_all m e, size_length m e)) (λ e. omega (arith, count_none m e))

-- ---- the next place

module _ (m : List ℕ) (i : ℕ) where
  pub place_next : i < record_count m → place_after m i ≡ i + 1
  unfolding place_after
  place_next h = rw (lt-ltb i (record_count m) h)

  pub place_last : record_count m ≤ i → place_after m i ≡ i
  unfolding place_after
  place_last h = rw (le-ltb i (record_count m) h)

  -- an empty record is behind the last
  pub empty_past : length (record_at m i) ≡ 0 → record_count m ≤ i
  empty_past e = either (ltb i (record_count m)) (λ t. absurd (omega (arith, e, record-some m i (ltb-true _ _ t)))) (λ t. ltb-false _ _ t)

  pub filled_below : (length (record_at m i) ≡ 0 → ⊥) → i < record_count m
  filled_below h = either (ltb i (record_count m)) (λ t. ltb-true _ _ t) (λ t. absurd (h (rw (record_past m i (ltb-false _ _ t)))))

-- ---- how it begins

-- what is read has been accepted
pub read_laid : (m : List ℕ) (n : ℕ) → ◌≡◌ {A = Length} (record { refusal = 0; length = n }) (reading_of m) → in_layout m ≡ true
read_laid m n e =
    either (in_layout m)
    (λ t. t)
    (λ t.
    let r : 0 ≡ 11 = ap (λ (l : Length). l.refusal) (e ∙ sym (reading_unlaid m t)) in
    absurd (omega (arith, r)))

pub failed_unlaid : (m : List ℕ) (e : Refusal) → length_refused (refusal_number e) ≡ reading_of m → in_layout m ≡ false
failed_unlaid m e h =
    either (in_layout m)
    (λ t.
    let r : refusal_number e ≡ 0 = ap (λ (l : Length). l.refusal) (h ∙ sym (reading_begins m t refl refl)) in
    absurd (number_positive e r))
    (λ t. t)

-- a message in layout is lent whole
pub begun_is : (m : List ℕ) (n : ℕ) → ◌≡◌ {A = Length} (record { refusal = 0; length = n }) (reading_of m) → ◌≡◌ {A = Length × (List ℕ × ℕ)} (record { refusal = 0; length = n }, (m, 0)) (begin_of m)
unfolding begin_of
begun_is m n e = rw (read_laid m n e, e)

-- of one that is refused nothing is
pub begun_fails : (m : List ℕ) (e : Refusal) → length_refused (refusal_number e) ≡ reading_of m → ◌≡◌ {A = Length × (List ℕ × ℕ)} (length_refused (refusal_number e), ([], 0)) (begin_of m)
unfolding begin_of
begun_fails m e h = rw (failed_unlaid m e h, h)
