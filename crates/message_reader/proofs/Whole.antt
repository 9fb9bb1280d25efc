-- Reading from the beginning to the end hands out exactly the message's records in order, trees before ghosts, and the number that remain falls by one each time.
use Prim.Native.Nat.{ℕ, zero, suc, ◌+◌, ◌≤◌, ◌<◌}
use native.Mathlib.Nat.{add-zero}
use native.Mathlib.Numerals.{add-one}
use native.Mathlib.Omega.{arith}
use mathlib.Core.Path.{◌≡◌, refl, sym, ap, ap₂, ◌∙◌}
use mathlib.Core.Bool.{true, false}
use mathlib.Core.List.{List, [], ◌∷◌, ◌++◌, append-nil, append_assoc, flatten}
use lib.ListN.{length, drop}
use denote.Ref.{Bor}
use Rattle.encoding.specs.Pieces.{piece}
use Rattle.encoding.specs.Answer.{length_refused}
use Rattle.encoding.specs.Refusals.{refusal_number}
use Rattle.encoding.specs.declared.answer.Length.{Length}
use Rattle.encoding.specs.declared.refusal.Refusal.{Refusal}
use Rattle.std.specs.Prelude.{Ok, Err}
use Rattle.std.specs.declared.result.Result.{Result}
use Rattle.encoding.proofs.Below.{either, clash}
use Rattle.records.specs.Record.{tree_size}
use Rattle.message.specs.Layout.{message_header, message_tree_place, message_trees, message_ghosts, message_ghost, size_laid, in_layout}
use Rattle.message.specs.Reading.{record_count, record_at, remain_after}
use Rattle.message.specs.Calls.{reading_of}
use Rattle.message.proofs.Layouts.{size_length, layout_size}
use Rattle.message.proofs.Reading.{read_to, read_all, record_past, remain_past, record_tree, record_ghost, count_all, count_none, reading_unlaid, reading_begins}
use Rattle.message_reader.specs.Handing.{begin_of, begun_seen, next_of, handed, remains, reader_after, row, tree_records, ghost_records, down}
use Rattle.message_reader.specs.declared.Begun.{Begun}
use Rattle.message_reader.specs.declared.Reader.{Reader}
use Rattle.message_reader.proofs.Handed.{place_next, place_last, read_laid, failed_unlaid}
use Rattle.message_reader.proofs.Stepped.{reader}

-- ---- rows

module _ {A : Type 0} where
  row_same : (n i : ℕ) (f g : ℕ → A) → ((k : ℕ) → i ≤ k → k < i + n → f k ≡ g k) → row i n f ≡ row i n g
  unfolding row
  row_same zero i f g h = refl
  row_same (suc n) i f g h = ap₂ ◌∷◌ (h i (omega arith) (omega arith)) (row_same n (i + 1) f g (λ k l u. h k (omega arith) (omega arith)))

  row-shift : (n t i : ℕ) (f : ℕ → A) → row (t + i) n f ≡ row i n (λ j. f (t + j))
  unfolding row
  row-shift zero t i f = refl
  row-shift (suc n) t i f =
      let e : t + i + 1 ≡ t + (i + 1) = omega arith in
      ap₂ ◌∷◌ refl (ap (λ k. row k n f) e ∙ row-shift n t (i + 1) f)

  row-add : (m n i : ℕ) (f : ℕ → A) → row i (m + n) f ≡ row i m f ++ row (i + m) n f
  unfolding row
  row-add zero n i f =
      let c : 0 + n ≡ n = omega arith in
      let e : i ≡ i + 0 = omega arith in
      ap (λ k. row i k f) c ∙ ap (λ k. row k n f) e
  row-add (suc m) n i f =
      let c : suc m + n ≡ suc (m + n) = omega arith in
      let e : i + 1 + m ≡ i + suc m = omega arith in
      ap (λ k. row i k f) c ∙ ap₂ ◌∷◌ refl (row-add m n (i + 1) f ∙ ap (λ k. row (i + 1) m f ++ row k n f) e)

-- ---- from any place

module _ (s : Bor (List ℕ)) where
  handed-from : (n i : ℕ) → i + n ≤ record_count s.now → handed n (reader s i) ≡ row i n (record_at s.now)
  unfolding handed row next_of
  handed-from zero i h = refl
  handed-from (suc n) i h = ap₂ ◌∷◌ refl (ap (λ k. handed n (reader s k)) (place_next s.now i (omega arith)) ∙ handed-from n (i + 1) (omega arith))

  remains-from : (n i : ℕ) → i + n ≡ record_count s.now → remains n (reader s i) ≡ down n
  unfolding remains down next_of remain_after
  remains-from zero i h = refl
  remains-from (suc n) i h = ap₂ ◌∷◌ (omega arith) (ap (λ k. remains n (reader s k)) (place_next s.now i (omega arith)) ∙ remains-from n (i + 1) (omega arith))

  reader-from : (n i : ℕ) → i + n ≤ record_count s.now → reader_after n (reader s i) ≡ reader s (i + n)
  unfolding reader_after next_of
  reader-from zero i h = ap (reader s) (sym (add-zero i))
  reader-from (suc n) i h =
      let e : i + 1 + n ≡ i + suc n = omega arith in
      ap (λ k. reader_after n (reader s k)) (place_next s.now i (omega arith)) ∙ (reader-from n (i + 1) (omega arith) ∙ ap (reader s) e)

  -- after the last an empty piece and 0, and the reader stays
  next_past : (i : ℕ) → record_count s.now ≤ i → next_of (reader s i) ≡ ([], (0, reader s i))
  unfolding next_of
  next_past i h = λ j. (record_past s.now i h j, (remain_past s.now i h j, record { message = s; at = place_last s.now i h j }))

-- ---- trees, then ghosts

records_are : (m : List ℕ) → size_laid m ≡ true → row 0 (record_count m) (record_at m) ≡ tree_records m ++ ghost_records m
unfolding tree_records ghost_records
records_are m laid =
    let t : row 0 (message_trees m) (record_at m) ≡ row 0 (message_trees m) (λ i. piece m (message_tree_place i) tree_size) = row_same (message_trees m) 0 _ _ (λ k l u. record_tree m laid k (omega arith)) in
    let g : row 0 (message_ghosts m) (λ j. record_at m (message_trees m + j)) ≡ row 0 (message_ghosts m) (message_ghost m) = row_same (message_ghosts m) 0 _ _ (λ k l u. record_ghost m laid k (omega arith)) in
    let p : row (message_trees m + 0) (message_ghosts m) (record_at m) ≡ row 0 (message_ghosts m) (message_ghost m) = row-shift (message_ghosts m) (message_trees m) 0 (record_at m) ∙ g in
    let z : 0 + message_trees m ≡ message_trees m + 0 = omega arith in
    ap (λ n. row 0 n (record_at m)) (count_all m laid) ∙ (row-add (message_trees m) (message_ghosts m) 0 (record_at m) ∙ ap₂ ◌++◌ t (ap (λ k. row k (message_ghosts m) (record_at m)) z ∙ p))

-- one behind the other they are what `read_to` joins
row_joined : (m : List ℕ) (n i : ℕ) → read_to m (i + n) ≡ read_to m i ++ flatten (row i n (record_at m))
unfolding read_to row flatten
row_joined m zero i = ap (read_to m) (add-zero i) ∙ sym (append-nil (read_to m i))
row_joined m (suc n) i =
    let e : i + suc n ≡ i + 1 + n = omega arith in
    let r : read_to m (i + 1) ≡ read_to m i ++ record_at m i = ap (read_to m) (add-one i) in
    ap (read_to m) e ∙ (row_joined m n (i + 1) ∙ (ap (λ l. l ++ flatten (row (i + 1) n (record_at m))) r ∙ append_assoc (read_to m i) (record_at m i) (flatten (row (i + 1) n (record_at m)))))

-- a reader over no byte hands out nothing
count_empty : record_count [] ≡ 0
count_empty = either (size_laid []) (λ e. let l : length {A = ℕ} [] ≡ 0 = refl in absurd (omega (arith, l, size_length [] e))) (λ e. count_none [] e)

pub reads_nothing : (r : Reader) → r.message.now ≡ [] → r.at ≡ 0 → next_of r ≡ ([], (0, r))
reads_nothing r none first =
    let begins : r ≡ reader r.message 0 = λ i. record { message = r.message; at = first i } in
    rw begins (next_past r.message 0 (omega (arith, ap record_count none, count_empty)))

-- ---- from the beginning, over the reader that `begin` makes

module _ (m : List ℕ) (b : Begun) (begun : begun_seen (Ok b) ≡ begin_of m) where
  begun_laid : in_layout m ≡ true
  unfolding begin_of
  begun_laid = read_laid m b.records (ap (λ (x : Length × (List ℕ × ℕ)). x.0) begun)

  -- how many records there are
  pub reads_count : b.records ≡ record_count m
  unfolding begin_of
  reads_count =
      let r : ◌≡◌ {A = Length} (record { refusal = 0; length = b.records }) (reading_of m) = ap (λ (x : Length × (List ℕ × ℕ)). x.0) begun in
      ap (λ (l : Length). l.length) (r ∙ sym (reading_begins m begun_laid refl refl)) ∙ sym (count_all m (layout_size m begun_laid))

  at_first : b.reader ≡ reader b.reader.message 0
  unfolding begin_of
  at_first = λ i. record { message = b.reader.message; at = (begun i).1.1 }

  lent_is : b.reader.message.now ≡ m
  unfolding begin_of
  lent_is = ap (λ (x : Length × (List ℕ × ℕ)). x.1.0) begun ∙ rw begun_laid

  handed-all : handed (record_count m) b.reader ≡ row 0 (record_count m) (record_at m)
  handed-all =
      ap (handed (record_count m)) at_first
      ∙ (handed-from b.reader.message (record_count m) 0 (omega (arith, ap record_count lent_is)) ∙ ap (λ l. row 0 (record_count m) (record_at l)) lent_is)

  -- the records in order, trees before ghosts
  pub reads_records : handed (record_count m) b.reader ≡ tree_records m ++ ghost_records m
  reads_records = handed-all ∙ records_are m (layout_size m begun_laid)

  -- every byte behind the header, once
  pub reads_bytes : flatten (handed (record_count m) b.reader) ≡ drop message_header m
  unfolding read_to
  reads_bytes =
      let z : 0 + record_count m ≡ record_count m = omega arith in
      ap flatten handed-all ∙ (sym (row_joined m (record_count m) 0) ∙ (ap (read_to m) z ∙ read_all m (layout_size m begun_laid)))

  -- one fewer remains after each, and none after the last
  pub reads_remains : remains (record_count m) b.reader ≡ down (record_count m)
  reads_remains = ap (remains (record_count m)) at_first ∙ remains-from b.reader.message (record_count m) 0 (omega (arith, ap record_count lent_is))

  -- behind the last an empty piece and 0, however often it is asked
  pub reads_end : next_of (reader_after (record_count m) b.reader) ≡ ([], (0, reader_after (record_count m) b.reader))
  reads_end =
      let c : 0 + record_count m ≤ record_count b.reader.message.now = omega (arith, ap record_count lent_is) in
      let e : reader_after (record_count m) b.reader ≡ reader b.reader.message (0 + record_count m) = ap (reader_after (record_count m)) at_first ∙ reader-from b.reader.message (record_count m) 0 c in
      rw e (next_past b.reader.message (0 + record_count m) (omega (arith, ap record_count lent_is)))

-- a message in layout gets a reader
pub reads_begin : (m : List ℕ) (r : Result Begun Refusal) → begun_seen r ≡ begin_of m → in_layout m ≡ true → (b : Begun) × (r ≡ Ok b)
unfolding begin_of
reads_begin m (Ok b) begun laid = (b, refl)
reads_begin m (Err e) begun laid = absurd (clash laid (failed_unlaid m e (ap (λ (x : Length × (List ℕ × ℕ)). x.0) begun)))

-- and one out of layout 11, and no reader
pub reads_refused : (m : List ℕ) (r : Result Begun Refusal) → begun_seen r ≡ begin_of m → in_layout m ≡ false → (e : Refusal) × (r ≡ Err e) × (refusal_number e ≡ 11)
unfolding begin_of
reads_refused m (Ok b) begun unlaid = absurd (clash (read_laid m b.records (ap (λ (x : Length × (List ℕ × ℕ)). x.0) begun)) unlaid)
reads_refused m (Err e) begun unlaid = (e, refl, ap (λ (x : Length × (List ℕ × ℕ)). x.0.refusal) begun ∙ ap (λ (l : Length). l.refusal) (sym (reading_unlaid m unlaid)))
