-- Laws of the records that are written with local indices, by the index of the ghosts.
use Prim.Native.Nat.{ℕ, zero, suc, ◌+◌, ◌-◌, ◌*◌, ◌≤◌, ◌<◌}
use native.Mathlib.Numerals.{add-one}
use native.Mathlib.Omega.{arith}
use mathlib.Core.Path.{◌≡◌, refl, sym, ap, ◌∙◌}
use mathlib.Core.Bool.{Bool, true, false}
use mathlib.Core.List.{List, ◌++◌, map}
use lib.Dec.{eqb}
use lib.ListN.{length, length-append}
use borrow.Author.Tests.{eq-eqb, ne_eqb}
use Rattle.encoding.specs.Below.{count_below}
use Rattle.encoding.specs.Pieces.{piece, splice, Bytes}
use Rattle.encoding.proofs.Below.{either}
use Rattle.encoding.proofs.Pieces.{piece_length, piece_same, bytes_piece, length_splice, splice_none, splice_then}
use Rattle.bits.specs.Bits.{in_set}
use Rattle.records.specs.Record.{core_size, tree_size, unused}
use Rattle.records.specs.Links.{cell, rows_of, neighbour_bytes, code_bytes, with_rows, Rows}
use Rattle.records.proofs.Rows.{splice_inside, rows_hold}
use Rattle.part.specs.Layout.{part_header}
use Rattle.part.specs.Cut.{renamed, rename_row}
use Rattle.part.specs.Means.{in_range, rows_with}
use Rattle.part.proofs.Records.{links_length, rows_length, splice_over, with_hold, with_rows_lem, rows_core}
use Rattle.positions.proofs.Positions.{members_few}
use Rattle.part_cut.specs.Means.{Known, local_in, RecordRoom, RecordsRoom, records_with}

-- ---- one neighbour

module _ (marks : List ℕ) (first end k : ℕ) where
  pub in_unused : k ≡ unused → unused ≡ local_in marks first end k
  unfolding local_in
  in_unused h = rw (eq-eqb k unused h)

  module _ (used : k ≡ unused → ⊥) {b : Bool} (test : b ≡ in_range first end k) where
    pub in_local : {r : ℕ} → b ≡ true → r + first ≡ k → r ≡ local_in marks first end k
    unfolding local_in
    in_local h e = rw (ne_eqb k unused used, ← test, h) (omega arith)

    pub in_ghost : {p r : ℕ} → b ≡ false → p ≡ count_below k (in_set marks) → r ≡ end - first + p → r ≡ local_in marks first end k
    unfolding local_in
    in_ghost h e q = rw (ne_eqb k unused used, ← test, h, ← e, q)

  -- a local index fits 32 bits
  pub in_word : {behind : List ℕ} {count : ℕ} → Known marks behind count first end → k < 4294967296 → local_in marks first end k < 4294967296
  unfolding local_in
  in_word x l =
      either (eqb k unused) (λ p. rw p (omega arith))
      (λ p. rw p (either (in_range first end k) (λ q. rw q (omega arith)) (λ q. rw q (omega (arith, members_few x.counted k, x.small)))))

-- ---- one record

module _ (bs out : List ℕ) (from F : ℕ) (marks behind : List ℕ) (count first end to : ℕ) (room : RecordRoom bs out from F marks behind count first end to) where
  pub local_rows : {rows local : List (List ℕ)} → Bytes bs → rows ≡ rows_of (piece bs from core_size) F → local ≡ rows_with (local_in marks first end) rows → Rows local F
  local_rows {rows} {local} b e p =
      let h : Rows rows F = rw e (rows_hold (piece bs from core_size) F (bytes_piece bs from core_size b) room.faced) in
      rw p (with_hold (local_in marks first end) rows F h (λ f l. in_word marks first end (cell rows f 0) room.known (h.neighbours f l)))

  pub record_written : {rows local : List (List ℕ)} {mid last : List ℕ} → rows ≡ rows_of (piece bs from core_size) F → local ≡ rows_with (local_in marks first end) rows
      → mid ≡ splice out to (piece bs from tree_size) → last ≡ splice mid to (with_rows local F (piece mid to core_size))
      → last ≡ splice out to (renamed (local_in marks first end) F (piece bs from tree_size))
  unfolding with_rows renamed
  record_written {rows} {local} {mid} {last} e p q w =
      let T : List ℕ = piece bs from tree_size in
      let X : List ℕ = neighbour_bytes local 6 ++ code_bytes local F 6 in
      let lT : length T ≡ tree_size = piece_length bs from tree_size room.source in
      let lX : length X ≡ 30 = links_length local F in
      let lM : length mid ≡ length out = ap length q ∙ length_splice out to T (omega (arith, room.target)) in
      let s1 : splice mid to (splice (piece mid to core_size) 8 X) ≡ splice mid (to + 8) X = splice_inside mid to core_size 8 X (omega arith) (omega (arith, room.target)) in
      let s2 : splice mid to (splice (piece mid to tree_size) 8 X) ≡ splice mid (to + 8) X = splice_inside mid to tree_size 8 X (omega arith) (omega (arith, room.target)) in
      let s3 : piece mid to tree_size ≡ T = ap (λ (m : List ℕ). piece m to tree_size) q ∙ ap (λ (n : ℕ). piece (splice out to T) to n) (sym lT) ∙ piece_same out to T (omega (arith, room.target)) in
      let s4 : splice mid to (splice T 8 X) ≡ splice out to (splice T 8 X) = ap (λ (m : List ℕ). splice m to (splice T 8 X)) q ∙ splice_over out to T (splice T 8 X) (sym (length_splice T 8 X (omega arith))) (omega (arith, room.target)) in
      let r : local ≡ map (rename_row (local_in marks first end)) (rows_of T F) =
      p ∙ ap (rows_with (local_in marks first end)) (e ∙ sym (rows_core bs from F)) ∙ with_rows_lem (local_in marks first end) T F in
      w ∙ s1 ∙ sym s2 ∙ ap (λ (t : List ℕ). splice mid to (splice t 8 X)) s3 ∙ s4 ∙ ap (λ (l : List (List ℕ)). splice out to (splice T 8 (neighbour_bytes l 6 ++ code_bytes l F 6))) r

-- ---- all records

renamed_long : (rename : ℕ → ℕ) (F : ℕ) (r : List ℕ) → length r ≡ tree_size → length (renamed rename F r) ≡ tree_size
unfolding renamed
renamed_long rename F r l = rows_length _ F r (omega arith) ∙ l

module _ (rename : ℕ → ℕ) (F : ℕ) (bs : List ℕ) (from : ℕ) where
  pub records_long : (n : ℕ) → from + tree_size * n ≤ length bs → length (records_with rename F bs from n) ≡ tree_size * n
  unfolding records_with
  records_long zero h = refl
  records_long (suc n) h = rw (length-append, records_long n (omega arith), renamed_long rename F _ (piece_length bs (from + tree_size * n) tree_size (omega arith))) (omega arith)

  records-more : (n : ℕ) → records_with rename F bs from (n + 1) ≡ records_with rename F bs from n ++ renamed rename F (piece bs (from + tree_size * n) tree_size)
  unfolding records_with
  records-more n = rw add-one

-- the loop: the first i records are written
pub record Written (bs : List ℕ) (from faces first n : ℕ) (marks out₀ : List ℕ) (i : ℕ) (out : List ℕ) : Type 0 where
  pub within : i ≤ n
  pub same_length : length out ≡ length out₀
  pub written : out ≡ splice out₀ part_header (records_with (local_in marks first (first + n)) faces bs from i)

module _ (bs : List ℕ) (from faces first n : ℕ) (marks behind : List ℕ) (count : ℕ) (out₀ : List ℕ) (room : RecordsRoom bs out₀ from faces first n marks behind count) where
  abbrev rename : ℕ → ℕ
  rename = local_in marks first (first + n)

  pub records_start : Written bs from faces first n marks out₀ 0 out₀
  unfolding records_with
  records_start = record { within = omega arith; same_length = refl; written = sym (splice_none out₀ part_header) }

  module _ {i : ℕ} {out : List ℕ} (so_far : Written bs from faces first n marks out₀ i out) (more : i < n) where
    pub record_room : RecordRoom bs out (from + tree_size * i) faces marks behind count first (first + n) (part_header + tree_size * i)
    record_room =
        record {
          source = omega (arith, room.source);
          target = omega (arith, so_far.same_length, room.target);
          faced = room.faced;
          known = room.known;
        }

    pub records_next : {last : List ℕ} → last ≡ splice out (part_header + tree_size * i) (renamed (local_in marks first (first + n)) faces (piece bs (from + tree_size * i) tree_size))
        → Written bs from faces first n marks out₀ (i + 1) last
    records_next {last} q =
        let r : List ℕ = renamed rename faces (piece bs (from + tree_size * i) tree_size) in
        let l : length r ≡ tree_size = renamed_long rename faces _ (piece_length bs (from + tree_size * i) tree_size record_room.source) in
        record {
          within = omega arith;
          same_length = ap length q ∙ length_splice out (part_header + tree_size * i) r (omega (arith, record_room.target)) ∙ so_far.same_length;
          written = splice_then out₀ part_header (tree_size * i) (records_with rename faces bs from i) r (records_long rename faces bs from i (omega (arith, room.source))) (omega (arith, room.target)) so_far.written q
              ∙ ap (splice out₀ part_header) (sym (records-more rename faces bs from i));
        }

  pub records_end : {i : ℕ} {out : List ℕ} → Written bs from faces first n marks out₀ i out → n ≤ i → out ≡ splice out₀ part_header (records_with (local_in marks first (first + n)) faces bs from n)
  records_end {i} s h =
      let e : i ≡ n = omega (arith, s.within) in
      rw e at s.written
