-- Laws of the writing of records with global numbers.
use Prim.Native.Nat.{ℕ, ◌+◌, ◌-◌, ◌≤◌, ◌<◌}
use native.Mathlib.Omega.{arith}
use mathlib.Core.Path.{◌≡◌, refl, sym, ap, ◌∙◌}
use mathlib.Core.List.{List, ◌++◌, map}
use lib.ListN.{length}
use borrow.Author.Tests.{lt-ltb, le-ltb, eq-eqb, ne_eqb}
use Rattle.encoding.specs.Pieces.{piece, splice, Bytes}
use Rattle.encoding.proofs.Pieces.{piece_length, piece_same, bytes_piece, length_splice}
use Rattle.records.specs.Record.{core_size, tree_size, unused, number_of}
use Rattle.records.specs.Links.{cell, rows_of, neighbour_bytes, code_bytes, with_rows, Rows}
use Rattle.records.proofs.Rows.{splice_inside, rows_hold}
use Rattle.part.specs.Layout.{tree_place, ghost_place}
use Rattle.part.specs.Cut.{renamed, rename_row}
use Rattle.part.specs.Part.{no_tree, stored_tree, stored_ghost, global_number}
use Rattle.part.specs.Means.{rows_with}
use Rattle.part.proofs.Records.{links_length, splice_over, with_hold, with_rows_lem, rows_core}
use Rattle.part.proofs.Global.{global_word}
use Rattle.message_build.specs.Means.{Opened, global_links}

-- ---- the number behind a local index

module _ (part : List ℕ) (count ghosts : ℕ) (o : Opened part count ghosts) (j : ℕ) where
  pub index_unused : j ≡ unused → unused ≡ global_number part j
  unfolding global_number
  index_unused h = rw (eq-eqb j unused h)

  module _ (used : j ≡ unused → ⊥) where
    pub index_tree : {at r : ℕ} → j < count → at ≡ tree_place j → r ≡ number_of (piece part at core_size) → r ≡ global_number part j
    unfolding global_number stored_tree
    index_tree h e p = rw (ne_eqb j unused used, ← o.is_count, lt-ltb j count h, ← e, p)

    module _ (past : count ≤ j) where
      pub index_ghost : {at r : ℕ} → j - count < ghosts → at ≡ ghost_place count (j - count) → r ≡ number_of (piece part at core_size) → r ≡ global_number part j
      unfolding global_number stored_ghost
      index_ghost h e p =
          let l : j < count + ghosts = omega arith in
          rw (ne_eqb j unused used, ← o.is_count, ← o.is_ghosts, le-ltb j count past, lt-ltb j (count + ghosts) l, ← e, p)

      pub index_none : ghosts ≤ j - count → no_tree ≡ global_number part j
      unfolding global_number
      index_none h =
          let l : count + ghosts ≤ j = omega arith in
          rw (ne_eqb j unused used, ← o.is_count, ← o.is_ghosts, le-ltb j count past, le-ltb j (count + ghosts) l)

-- ---- one record

module _ (part : List ℕ) (from F : ℕ) where
  -- global numbers fit a record
  pub global_hold : {rows global : List (List ℕ)} → Bytes part → 0 < F → rows ≡ rows_of (piece part from core_size) F → global ≡ rows_with (global_number part) rows → Rows global F
  global_hold {rows} {global} b faced e p =
      let h : Rows rows F = rw e (rows_hold (piece part from core_size) F (bytes_piece part from core_size b) faced) in
      rw p (with_hold (global_number part) rows F h (λ f l. global_word part b (cell rows f 0)))

  pub links_put : (out : List ℕ) (to : ℕ) {rows global : List (List ℕ)} {last : List ℕ} → rows ≡ rows_of (piece part from core_size) F → global ≡ rows_with (global_number part) rows
      → last ≡ splice out to (with_rows global F (piece out to core_size)) → last ≡ splice out to (global_links part F from (piece out to core_size))
  unfolding global_links
  links_put out to e p w = w ∙ rw (p, e)

  module _ (size : ℕ) (wide : core_size ≤ size) (same : rows_of (piece part from size) F ≡ rows_of (piece part from core_size) F) (out : List ℕ) (to : ℕ) (source : from + size ≤ length part) (target : to + size ≤ length out) where
    -- copied, and its links put over
    record_written : {mid last : List ℕ} → mid ≡ splice out to (piece part from size) → last ≡ splice mid to (global_links part F from (piece mid to core_size))
        → last ≡ splice out to (renamed (global_number part) F (piece part from size))
    unfolding global_links with_rows renamed
    record_written {mid} {last} q w =
        let T : List ℕ = piece part from size in
        let rows : List (List ℕ) = rows_with (global_number part) (rows_of (piece part from core_size) F) in
        let X : List ℕ = neighbour_bytes rows 6 ++ code_bytes rows F 6 in
        let lT : length T ≡ size = piece_length part from size source in
        let lX : length X ≡ 30 = links_length rows F in
        let lM : length mid ≡ length out = ap length q ∙ length_splice out to T (omega arith) in
        let s1 : splice mid to (splice (piece mid to core_size) 8 X) ≡ splice mid (to + 8) X = splice_inside mid to core_size 8 X (omega arith) (omega arith) in
        let s2 : splice mid to (splice (piece mid to size) 8 X) ≡ splice mid (to + 8) X = splice_inside mid to size 8 X (omega arith) (omega arith) in
        let s3 : piece mid to size ≡ T = ap (λ (m : List ℕ). piece m to size) q ∙ ap (λ (n : ℕ). piece (splice out to T) to n) (sym lT) ∙ piece_same out to T (omega arith) in
        let s4 : splice mid to (splice T 8 X) ≡ splice out to (splice T 8 X) = ap (λ (m : List ℕ). splice m to (splice T 8 X)) q ∙ splice_over out to T (splice T 8 X) (sym (length_splice T 8 X (omega arith))) (omega arith) in
        let r : rows ≡ map (rename_row (global_number part)) (rows_of T F) =
        ap (rows_with (global_number part)) (sym same) ∙ with_rows_lem (global_number part) T F in
        w ∙ s1 ∙ sym s2 ∙ ap (λ (t : List ℕ). splice mid to (splice t 8 X)) s3 ∙ s4 ∙ ap (λ (l : List (List ℕ)). splice out to (splice T 8 (neighbour_bytes l 6 ++ code_bytes l F 6))) r

  pub tree_written : (out : List ℕ) (to : ℕ) → from + tree_size ≤ length part → to + tree_size ≤ length out → {mid last : List ℕ} → mid ≡ splice out to (piece part from tree_size)
      → last ≡ splice mid to (global_links part F from (piece mid to core_size)) → last ≡ splice out to (renamed (global_number part) F (piece part from tree_size))
  tree_written out to s t q w = record_written tree_size (omega arith) (rows_core part from F) out to s t q w

  pub core_written : (out : List ℕ) (to : ℕ) → from + core_size ≤ length part → to + core_size ≤ length out → {mid last : List ℕ} → mid ≡ splice out to (piece part from core_size)
      → last ≡ splice mid to (global_links part F from (piece mid to core_size)) → last ≡ splice out to (renamed (global_number part) F (piece part from core_size))
  core_written out to s t q w = record_written core_size (omega arith) refl out to s t q w
