-- Reading a message gives its records in order, and no byte behind the header is left out.
use Prim.Native.Nat.{ℕ, zero, suc, ◌+◌, ◌-◌, ◌*◌, ◌≤◌, ◌<◌}
use native.Mathlib.Nat.{add-zero, add-suc, add-sub_cancel_left}
use native.Mathlib.Omega.{arith}
use mathlib.Core.Path.{◌≡◌, refl, sym, ap, ◌∙◌}
use mathlib.Core.Bool.{true, false}
use mathlib.Core.List.{List, [], ◌++◌}
use lib.ListN.{take, drop, length-drop}
use lib.Seq.{take_all}
use borrow.Author.Tests.{lt-ltb, le-ltb, ne_eqb}
use Rattle.encoding.specs.Answer.{length_answer, length_refused}
use Rattle.encoding.specs.Pieces.{piece}
use Rattle.encoding.specs.Refusal.{first_failed}
use Rattle.encoding.specs.Refusals.{refusal_number}
use Rattle.encoding.specs.declared.refusal.Refusal.{Refusal}
use Rattle.encoding.proofs.Refusals.{number_positive}
use Rattle.encoding.proofs.Below.{either}
use Rattle.encoding.specs.declared.answer.Length.{Length}
use Rattle.encoding.proofs.Pieces.{piece_add}
use Rattle.records.specs.Record.{core_size, tree_size}
use Rattle.message.specs.Layout.{message_header, message_tree_place, message_ghost_place, message_trees, message_ghosts, message_ghost, size_laid, in_layout}
use Rattle.message.specs.Reading.{record_count, record_at, remain_after}
use Rattle.message.specs.Calls.{message_refusal, reading_of}
use Rattle.message.proofs.Layouts.{size_length, layout_size}

-- what reading hands out from record 0 to before record n, one behind the other
unfoldable pub read_to : List ℕ → ℕ → List ℕ
read_to m zero = []
read_to m (suc n) = read_to m n ++ record_at m n

-- ---- after the last

module _ (m : List ℕ) (i : ℕ) (past : record_count m ≤ i) where
  pub record_past : record_at m i ≡ []
  unfolding record_at
  record_past = rw (le-ltb i (record_count m) past)

  pub remain_past : remain_after m i ≡ 0
  unfolding remain_after
  remain_past = omega arith

-- ---- a message whose length isn't as its header says has no records

module _ (m : List ℕ) (unlaid : size_laid m ≡ false) where
  pub count_none : record_count m ≡ 0
  unfolding record_count
  count_none = rw unlaid

  pub record_none : (i : ℕ) → record_at m i ≡ []
  record_none i = record_past m i (omega (arith, count_none))

  pub remain_none : (i : ℕ) → remain_after m i ≡ 0
  remain_none i = remain_past m i (omega (arith, count_none))

-- ---- how many remain

module _ (m : List ℕ) where
  -- one fewer after each
  pub remain_falls : (i : ℕ) → i + 1 < record_count m → remain_after m i ≡ remain_after m (i + 1) + 1
  unfolding remain_after
  remain_falls i h = omega arith

-- ---- how it begins

module _ (m : List ℕ) where
  -- a message out of layout gets 11
  pub reading_unlaid : in_layout m ≡ false → length_refused 11 ≡ reading_of m
  unfolding reading_of message_refusal first_failed length_answer
  reading_unlaid e = rw e

  -- a message that is refused gets the refusal alone
  pub reading_refused : (e : Refusal) → refusal_number e ≡ message_refusal m → length_refused (refusal_number e) ≡ reading_of m
  unfolding reading_of length_answer
  reading_refused e h = rw (← h, ne_eqb (refusal_number e) 0 (number_positive e))

  -- one that is not is in layout
  pub checked_layout : 0 ≡ message_refusal m → in_layout m ≡ true
  unfolding message_refusal first_failed
  checked_layout h = either (in_layout m) (λ e. e) (λ e. absurd (omega (arith, rw e at h)))

  -- one in layout its records
  pub reading_begins : {n g : ℕ} → in_layout m ≡ true → n ≡ message_trees m → g ≡ message_ghosts m → ◌≡◌ {A = Length} (record { refusal = 0; length = n + g }) (reading_of m)
  unfolding reading_of message_refusal first_failed length_answer record_count
  reading_begins e t u = rw (e, layout_size m e, t, u)

-- ---- the records, in order

module _ (m : List ℕ) (laid : size_laid m ≡ true) where
  pub count_all : record_count m ≡ message_trees m + message_ghosts m
  unfolding record_count
  count_all = rw laid

  -- trees first, each with its data
  pub record_tree : (i : ℕ) → i < message_trees m → record_at m i ≡ piece m (message_tree_place i) tree_size
  unfolding record_at
  record_tree i h = rw (lt-ltb i (record_count m) (omega (arith, count_all)), lt-ltb i (message_trees m) h)

  -- then ghosts
  pub record_ghost : (j : ℕ) → j < message_ghosts m → record_at m (message_trees m + j) ≡ message_ghost m j
  unfolding record_at message_ghost
  record_ghost j h =
      rw (lt-ltb (message_trees m + j) (record_count m) (omega (arith, count_all)), le-ltb (message_trees m + j) (message_trees m) (omega arith), add-sub_cancel_left (message_trees m) j)

  read-trees : (n : ℕ) → n ≤ message_trees m → read_to m n ≡ piece m message_header (tree_size * n)
  unfolding read_to piece
  read-trees zero h = refl
  read-trees (suc n) h =
      let e : tree_size * suc n ≡ tree_size * n + tree_size = omega arith in
      rw (read-trees n (omega arith), record_tree n h, e, piece_add m message_header (tree_size * n) tree_size)

  read_ghosts : (j : ℕ) → j ≤ message_ghosts m → read_to m (message_trees m + j) ≡ piece m message_header (tree_size * message_trees m + core_size * j)
  unfolding read_to message_ghost
  read_ghosts zero h =
      let e : tree_size * message_trees m + core_size * 0 ≡ tree_size * message_trees m = omega arith in
      rw (add-zero, e) (read-trees (message_trees m) (omega arith))
  read_ghosts (suc j) h =
      let n : ℕ = tree_size * message_trees m + core_size * j in
      let e : tree_size * message_trees m + core_size * suc j ≡ n + core_size = omega arith in
      rw (add-suc, read_ghosts j (omega arith), record_ghost j h, e, piece_add m message_header n core_size)

  -- reading to the end hands out every byte behind the header, once and in order
  pub read_all : read_to m (record_count m) ≡ drop message_header m
  unfolding piece
  read_all = rw (count_all, read_ghosts (message_ghosts m) (omega arith)) (take_all (tree_size * message_trees m + core_size * message_ghosts m) (drop message_header m) (simp length-drop (omega (arith, size_length m laid))))

  -- the parts that the code lends, and what it says remains
  module _ {n : ℕ} (i : ℕ) (trees : n ≡ message_trees m) where
    pub tree_lent : {at : ℕ} → i < n → at ≡ message_tree_place i → take (at + tree_size - at) (drop at m) ≡ record_at m i
    unfolding piece
    tree_lent {at} h e = rw (add-sub_cancel_left at tree_size, e) (sym (record_tree i (rw trees at h)))

    module _ {g : ℕ} (ghosts : g ≡ message_ghosts m) where
      pub ghost_lent : {at : ℕ} → n ≤ i → i - n < g → at ≡ message_ghost_place n (i - n) → take (at + core_size - at) (drop at m) ≡ record_at m i
      unfolding piece message_ghost
      ghost_lent {at} l h e =
          let s : message_trees m + (i - message_trees m) ≡ i = omega arith in
          rw (add-sub_cancel_left at core_size, e, trees) (sym (record_ghost (i - message_trees m) (omega arith)) ∙ ap (record_at m) s)

      pub none_lent : n ≤ i → g ≤ i - n → [] ≡ record_at m i
      none_lent l h = sym (record_past m i (omega (arith, count_all)))

      pub none_remain : n + g ≤ i → 0 ≡ remain_after m i
      none_remain h = sym (remain_past m i (omega (arith, count_all)))

      pub some_remain : i < n + g → n + g - i - 1 ≡ remain_after m i
      unfolding remain_after
      some_remain h = omega (arith, count_all)
