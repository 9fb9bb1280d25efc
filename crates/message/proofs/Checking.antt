-- What the check's functions find is what the definitions say.
use Prim.Native.Nat.{ℕ, suc, ◌+◌, ◌-◌, ◌*◌, ◌≤◌, ◌<◌}
use native.Mathlib.Nat.{mul-suc, mul-le-mul_left}
use native.Mathlib.Omega.{arith}
use mathlib.Core.Path.{◌≡◌, refl, sym, ◌∙◌}
use mathlib.Core.Bool.{Bool, true, false, ◌&&◌, and-false}
use mathlib.Core.List.{List}
use lib.Dec.{eqb, ltb}
use lib.ListN.{length}
use borrow.Author.Tests.{ne_eqb}
use Rattle.encoding.specs.Below.{all_below}
use Rattle.encoding.specs.Pieces.{piece}
use Rattle.records.specs.Shape.{dimension_of, face_count}
use Rattle.records.specs.Record.{core_size, tree_size, number_of, shape_of, neighbour_of, in_form}
use Rattle.mesh.specs.Mesh.{dimension_ok}
use Rattle.message.specs.Layout.{message_header, message_ghost_place, message_size, message_dimension, message_k, message_trees, message_ghosts, message_tree, message_ghost, record_laid, size_laid, after_last, records_laid, in_layout}
use Rattle.message.specs.Means.{laid_core, LaidRow}
use Rattle.message.proofs.Layouts.{size_length}

module _ (m : List ℕ) where
  -- no header fits
  pub size_short : length m < message_header → size_laid m ≡ false
  unfolding size_laid
  size_short h = rw (ne_eqb (length m) (message_size (message_trees m) (message_ghosts m)) (λ e. omega arith), and-false)

  pub size_read : {d n g at : ℕ} {a : Bool} → d ≡ message_dimension m → n ≡ message_trees m → g ≡ message_ghosts m → a ≡ dimension_ok d → at ≡ message_ghost_place n g → (a && eqb (length m) at) ≡ size_laid m
  unfolding size_laid
  size_read e t u p q = rw (p, q, e, t, u)

  pub record_read : {a b : Bool} {number shape dimension faces d K : ℕ} (at : ℕ) → d ≡ message_dimension m → K ≡ message_k m → shape ≡ shape_of (piece m at core_size) → number ≡ number_of (piece m at core_size) → a ≡ in_form number (piece m at core_size)
      → dimension ≡ dimension_of shape → faces ≡ face_count shape → b ≡ all_below faces (λ f. ltb (neighbour_of (piece m at core_size) f) K) → (a && eqb dimension d && b) ≡ record_laid m (piece m at core_size)
  unfolding record_laid
  record_read at e k s n p q r t = rw (p, n, q, t, r, s, e, k)

  module _ (start stride count : ℕ) (row : LaidRow m start stride count) (i : ℕ) (there : i < count) where
    -- record i is in the buffer
    pub core_fits : start + stride * i + core_size ≤ length m
    core_fits = omega (arith, row.core, row.fits, mul-suc stride i, mul-le-mul_left {m = suc i} {n = count} stride there)

  module _ (start stride i : ℕ) where
    -- no record stands before the first
    pub first_read : i ≡ 0 → true ≡ after_last (laid_core m start stride) i
    unfolding after_last
    first_read e = rw e

    pub after_read : {a b before at : ℕ} → (i ≡ 0 → ⊥) → before ≡ start + stride * (i - 1) → at ≡ start + stride * i → a ≡ number_of (piece m before core_size) → b ≡ number_of (piece m at core_size)
        → ltb a b ≡ after_last (laid_core m start stride) i
    unfolding after_last laid_core
    after_read h k l p q = rw (ne_eqb i 0 h, ← k, ← l, p, q)

    pub next_read : {a b : Bool} {at : ℕ} → at ≡ start + stride * i → a ≡ record_laid m (piece m at core_size) → b ≡ after_last (laid_core m start stride) i → (a && b) ≡ (record_laid m (laid_core m start stride i) && after_last (laid_core m start stride) i)
    unfolding laid_core
    next_read l p q = rw (← l, p, q)

  -- the trees are one row
  trees-row : (n : ℕ) → records_laid m n (laid_core m message_header tree_size) ≡ records_laid m n (message_tree m)
  unfolding laid_core message_tree
  trees-row n = refl

  ghost_core_lem : (j : ℕ) → laid_core m (message_ghost_place (message_trees m) 0) core_size j ≡ message_ghost m j
  unfolding laid_core message_ghost
  ghost_core_lem j =
      let e : message_ghost_place (message_trees m) 0 + core_size * j ≡ message_ghost_place (message_trees m) j = omega arith in
      rw e

  -- and so are the ghosts
  ghosts-row : (g : ℕ) → records_laid m g (laid_core m (message_ghost_place (message_trees m) 0) core_size) ≡ records_laid m g (message_ghost m)
  unfolding records_laid after_last
  ghosts-row g = simp ghost_core_lem

  module _ (laid : size_laid m ≡ true) {n : ℕ} (trees : n ≡ message_trees m) where
    pub trees_fit : LaidRow m message_header tree_size n
    trees_fit = record { core = omega arith; fits = omega (arith, size_length m laid) }

    pub ghosts_fit : {g at : ℕ} → g ≡ message_ghosts m → at ≡ message_ghost_place n 0 → LaidRow m at core_size g
    ghosts_fit e q = record { core = omega arith; fits = omega (arith, size_length m laid) }

  -- trees out of layout
  pub trees_fail : {n : ℕ} {r : Bool} → n ≡ message_trees m → r ≡ records_laid m n (laid_core m message_header tree_size) → r ≡ false → false ≡ in_layout m
  unfolding in_layout
  trees_fail t p e =
      let f : records_laid m (message_trees m) (message_tree m) ≡ false = sym (trees-row (message_trees m)) ∙ (rw t at (sym p) ∙ e) in
      rw (f, and-false)

  -- a message of the size that its header says
  pub layout_read : {n g at : ℕ} {r s : Bool} → size_laid m ≡ true → n ≡ message_trees m → g ≡ message_ghosts m → at ≡ message_ghost_place n 0 → r ≡ records_laid m n (laid_core m message_header tree_size) → r ≡ true → s ≡ records_laid m g (laid_core m at core_size) → s ≡ in_layout m
  unfolding in_layout
  layout_read l t u q p e o =
      let f : records_laid m (message_trees m) (message_tree m) ≡ true = sym (trees-row (message_trees m)) ∙ (rw t at (sym p) ∙ e) in
      rw (l, f, o, q, t, u) (ghosts-row (message_ghosts m))

-- ---- the neighbours of all six faces

pub six_faces : {b : Bool} (faces : ℕ) (f : ℕ → Bool) → faces ≡ 6 → b ≡ all_below 6 f → b ≡ all_below faces f
six_faces faces f h e = rw h e
