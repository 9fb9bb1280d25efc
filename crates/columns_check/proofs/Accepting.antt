-- Where a column file is that of a sound part.
use Prim.Native.Nat.{ℕ, ◌+◌, ◌≤◌}
use native.Mathlib.Omega.{arith}
use mathlib.Core.Path.{◌≡◌, refl, sym, ap₂, ◌∙◌}
use mathlib.Core.Bool.{Bool, true, false, ◌&&◌}
use mathlib.Core.List.{List}
use lib.Dec.{eqb}
use lib.ListN.{length}
use borrow.Author.Tests.{eqb-true, eq-eqb}
use Rattle.encoding.specs.Pieces.{Bytes}
use Rattle.encoding.specs.Numbers.{u32_at}
use Rattle.encoding.proofs.Below.{either, and_fst, and_snd, and_intro}
use Rattle.mesh.specs.Means.{link_by_dimension}
use Rattle.part.specs.Layout.{part_size}
use Rattle.part.specs.Means.{RankKnown, ghost_core}
use Rattle.part.specs.Part.{part_dimension, part_k, part_first, part_count, part_ghost_count, stored_tree, part_header_sound, part_sound}
use Rattle.part_check.proofs.Checking.{sound_read}
use Rattle.columns_read.specs.Columns.{columns_part, columns_sound}
use Rattle.columns_read.specs.Means.{tree_column, ghost_column}
use Rattle.columns_check.specs.Means.{columns_found}
use Rattle.columns_check.proofs.Judging.{found_is, records_same}
use Rattle.columns_check.proofs.Turned.{Turned, header_number, file_turned, part_bytes, tree_core, ghost_core_lem}

-- ---- the header of both

module _ (x p : List ℕ) (n g : ℕ) (t : Turned x p n g) where
  number_same : (at : ℕ) → at + 4 ≤ 32 → u32_at x at ≡ u32_at p at
  number_same = header_number x p t.head

  pub count_same : part_count x ≡ part_count p
  unfolding part_count
  count_same = number_same 20 (omega arith)

  pub ghost_count_same : part_ghost_count x ≡ part_ghost_count p
  unfolding part_ghost_count
  ghost_count_same = number_same 24 (omega arith)

  pub first_same : part_first x ≡ part_first p
  unfolding part_first
  first_same = number_same 16 (omega arith)

  pub k_same : part_k x ≡ part_k p
  unfolding part_k
  k_same = number_same 4 (omega arith)

  pub dimension_same : part_dimension x ≡ part_dimension p
  unfolding part_dimension
  dimension_same = number_same 0 (omega arith)

  pub header_same : (table : List ℕ) (rank : ℕ) → part_header_sound x table rank ≡ part_header_sound p table rank
  unfolding part_header_sound
  header_same table rank = rw (dimension_same, k_same, number_same 8 (omega arith), number_same 12 (omega arith), first_same, count_same, number_same 28 (omega arith))

-- ---- the whole

-- of two tests that fail together the first fails where the second passes
first_false : (a b : Bool) → b ≡ true → (a && b) ≡ false → a ≡ false
first_false true b p e = sym p ∙ e
first_false false b p e = refl

module _ (file table : List ℕ) (rank : ℕ) {h : Bool} (is : h ≡ (part_header_sound file table rank && eqb (length file) (part_size (part_count file) (part_ghost_count file)))) where
  module _ (ok : h ≡ true) where
    lengthy : length file ≡ part_size (part_count file) (part_ghost_count file)
    lengthy = eqb-true _ _ (and_snd (part_header_sound file table rank) (eqb (length file) (part_size (part_count file) (part_ghost_count file))) (sym is ∙ ok))

    turned : Turned file (columns_part file) (part_count file) (part_ghost_count file)
    turned = file_turned file (part_count file) (part_ghost_count file) refl refl lengthy

    head-part : true ≡ (part_header_sound (columns_part file) table rank && eqb (length (columns_part file)) (part_size (part_count (columns_part file)) (part_ghost_count (columns_part file))))
    head-part =
        sym
        (and_intro (part_header_sound (columns_part file) table rank) (eqb (length (columns_part file)) (part_size (part_count (columns_part file)) (part_ghost_count (columns_part file))))
        (sym (header_same file (columns_part file) (part_count file) (part_ghost_count file) turned table rank) ∙ and_fst (part_header_sound file table rank) (eqb (length file) (part_size (part_count file) (part_ghost_count file))) (sym is ∙ ok))
        (eq-eqb _ _ (turned.length_p ∙ ap₂ part_size (count_same file (columns_part file) (part_count file) (part_ghost_count file) turned) (ghost_count_same file (columns_part file) (part_count file) (part_ghost_count file) turned))))

    pub columns_read : {first n g D K : ℕ} {r : Bool} → Bytes file → Bytes table → RankKnown table rank → first ≡ part_first file → n ≡ part_count file → g ≡ part_ghost_count file → D ≡ part_dimension file → K ≡ part_k file → first + n ≤ K
        → r ≡ columns_found (link_by_dimension D) first n g (tree_column file n) (ghost_column file n g) D K → r ≡ columns_sound file table rank
    unfolding columns_sound
    columns_read {first} {n} {g} {D} {K} bytes table_bytes_lem known e1 e2 e3 e4 e5 within p =
        let q : Turned file (columns_part file) n g = rw (e2, e3) turned in
        let all : columns_found (link_by_dimension D) first n g (tree_column file n) (ghost_column file n g) D K ≡ part_sound (columns_part file) table rank =
        sound_read (columns_part file) table rank table_bytes_lem known head-part refl
        (part_bytes file (columns_part file) n g q bytes)
        (e1 ∙ first_same file (columns_part file) n g q) (e2 ∙ count_same file (columns_part file) n g q) (e3 ∙ ghost_count_same file (columns_part file) n g q) (e4 ∙ dimension_same file (columns_part file) n g q) (e5 ∙ k_same file (columns_part file) n g q)
        (found_is D first n g (tree_column file n) (ghost_column file n g) K within
        ∙ records_same (link_by_dimension D) first n g (tree_column file n) (stored_tree (columns_part file)) (ghost_column file n g) (ghost_core (columns_part file) n) (tree_core file (columns_part file) n g q) (ghost_core_lem file (columns_part file) n g q) D K) in
        rw (eq-eqb (length file) (part_size (part_count file) (part_ghost_count file)) lengthy) (p ∙ all)

  pub columns_none : h ≡ false → false ≡ columns_sound file table rank
  unfolding columns_sound part_sound
  columns_none e =
      either (eqb (length file) (part_size (part_count file) (part_ghost_count file)))
      (λ p.
      let t : Turned file (columns_part file) (part_count file) (part_ghost_count file) = file_turned file (part_count file) (part_ghost_count file) refl refl (eqb-true _ _ p) in
      let none : part_header_sound (columns_part file) table rank ≡ false =
      sym (header_same file (columns_part file) (part_count file) (part_ghost_count file) t table rank) ∙ first_false (part_header_sound file table rank) (eqb (length file) (part_size (part_count file) (part_ghost_count file))) p (sym is ∙ e) in
      rw (p, none))
      (λ p. rw p)
