-- Laws of messages in layout.
use Prim.Native.Nat.{ℕ, zero, suc, ◌+◌, ◌-◌, ◌≤◌, ◌<◌}
use native.Mathlib.Omega.{arith}
use mathlib.Core.Path.{◌≡◌, sym, ap, ◌∙◌}
use mathlib.Core.Bool.{true, ◌&&◌}
use mathlib.Core.List.{List}
use lib.Dec.{ltb, eqb}
use lib.ListN.{length}
use borrow.Author.Tests.{ltb-true, eqb-true, ne_eqb}
use Rattle.encoding.specs.Numbers.{u32_at}
use Rattle.encoding.specs.Pieces.{piece}
use Rattle.encoding.proofs.Below.{below_suc, and_fst, and_snd, all_at, all_same}
use Rattle.records.specs.Shape.{dimension_of, face_count}
use Rattle.records.specs.Record.{core_size, tree_size, number_of, shape_of, neighbour_of, in_form}
use Rattle.records.proofs.Forms.{at_piece}
use Rattle.mesh.specs.Mesh.{dimension_ok}
use Rattle.message.specs.Layout.{message_header, message_tree_place, message_ghost_place, message_size, message_dimension, message_k, message_trees, message_ghosts, message_tree, message_ghost, record_laid, size_laid, after_last, records_laid, in_layout}

-- ---- records

-- of a record that is laid out so
module _ (m r : List ℕ) (laid : record_laid m r ≡ true) where
  -- the neighbours of used faces are below K
  pub record_neighbour : (f : ℕ) → f < face_count (shape_of r) → neighbour_of r f < message_k m
  unfolding record_laid
  record_neighbour f h =
      ltb-true _ _ (all_at (face_count (shape_of r)) (λ f. ltb (neighbour_of r f) (message_k m)) (and_snd (in_form (number_of r) r && eqb (dimension_of (shape_of r)) (message_dimension m)) _ laid) f h)

-- of records that are laid out so
module _ (m : List ℕ) (count : ℕ) (r : ℕ → List ℕ) (laid : records_laid m count r ≡ true) where
  records-both : (i : ℕ) → i < count → (record_laid m (r i) && after_last r i) ≡ true
  unfolding records_laid
  records-both = all_at count (λ i. record_laid m (r i) && after_last r i) laid

  pub records_at : (i : ℕ) → i < count → record_laid m (r i) ≡ true
  records_at i h = and_fst (record_laid m (r i)) (after_last r i) (records-both i h)

  records-step : (i : ℕ) → suc i < count → number_of (r i) < number_of (r (suc i))
  unfolding after_last
  records-step i h =
      let e : suc i - 1 ≡ i = omega arith in
      ltb-true _ _ (rw (ne_eqb (suc i) 0 (λ z. omega arith), e) at (and_snd (record_laid m (r (suc i))) (after_last r (suc i)) (records-both (suc i) h)))

  -- strictly ascending
  records-ascend : (i j : ℕ) → i < j → j < count → number_of (r i) < number_of (r j)
  records-ascend i zero h k = absurd (omega arith)
  records-ascend i (suc j) h k =
      below_suc i j h (λ p. omega (arith, records-ascend i j p (omega arith), records-step j k)) (λ e. rw e (records-step j k))

-- ---- messages

module _ (m : List ℕ) where
  module _ (laid : size_laid m ≡ true) where
    pub size_length : length m ≡ message_size (message_trees m) (message_ghosts m)
    unfolding size_laid
    size_length = eqb-true _ _ (and_snd (dimension_ok (message_dimension m)) _ laid)

  -- of a message in layout
  module _ (laid : in_layout m ≡ true) where
    layout-first : (size_laid m && records_laid m (message_trees m) (message_tree m)) ≡ true
    unfolding in_layout
    layout-first = and_fst (size_laid m && records_laid m (message_trees m) (message_tree m)) _ laid

    pub layout_size : size_laid m ≡ true
    layout_size = and_fst (size_laid m) _ layout-first

    layout-trees : records_laid m (message_trees m) (message_tree m) ≡ true
    layout-trees = and_snd (size_laid m) _ layout-first

    layout-ghosts : records_laid m (message_ghosts m) (message_ghost m) ≡ true
    unfolding in_layout
    layout-ghosts = and_snd (size_laid m && records_laid m (message_trees m) (message_tree m)) _ laid

    pub tree_laid : (i : ℕ) → i < message_trees m → record_laid m (message_tree m i) ≡ true
    tree_laid = records_at m (message_trees m) (message_tree m) layout-trees

    pub ghost_laid : (j : ℕ) → j < message_ghosts m → record_laid m (message_ghost m j) ≡ true
    ghost_laid = records_at m (message_ghosts m) (message_ghost m) layout-ghosts

    pub ghosts_ascend : (i j : ℕ) → i < j → j < message_ghosts m → number_of (message_ghost m i) < number_of (message_ghost m j)
    ghosts_ascend = records-ascend m (message_ghosts m) (message_ghost m) layout-ghosts

    -- every record is in the buffer
    pub tree_fits_lem : (i : ℕ) → i < message_trees m → message_tree_place i + tree_size ≤ length m
    tree_fits_lem i h = omega (arith, size_length layout_size)

    pub ghost_fits : (j : ℕ) → j < message_ghosts m → message_ghost_place (message_trees m) j + core_size ≤ length m
    ghost_fits j h = omega (arith, size_length layout_size)

-- ---- the layout looks at the length, the header and the cores alone

module _ (a b : List ℕ) (d : message_dimension a ≡ message_dimension b) (k : message_k a ≡ message_k b) where
  record-cores : (r : List ℕ) → record_laid a r ≡ record_laid b r
  unfolding record_laid
  record-cores r = rw (d, k)

  records-cores : (count : ℕ) (r s : ℕ → List ℕ) → ((i : ℕ) → i < count → r i ≡ s i) → records_laid a count r ≡ records_laid b count s
  unfolding records_laid after_last
  records-cores count r s same =
      all_same count (λ i. record_laid a (r i) && after_last r i) (λ i. record_laid b (s i) && after_last s i)
      (λ i h. rw (record-cores (r i), same i h, same (i - 1) (omega arith)))

pub layout_cores : (a b : List ℕ) → length a ≡ length b → piece a 0 message_header ≡ piece b 0 message_header → ((i : ℕ) → i < message_trees a → message_tree a i ≡ message_tree b i)
    → ((j : ℕ) → j < message_ghosts a → message_ghost a j ≡ message_ghost b j) → in_layout a ≡ in_layout b
unfolding in_layout size_laid message_dimension message_k message_trees message_ghosts
layout_cores a b l e trees ghosts =
    let number : (off : ℕ) → off + 4 ≤ message_header → u32_at a (0 + off) ≡ u32_at b (0 + off) =
    λ off h. sym (at_piece 4 a 0 message_header off h) ∙ ap (λ p. u32_at p off) e ∙ at_piece 4 b 0 message_header off h in
    let d : u32_at a 4 ≡ u32_at b 4 = number 4 (omega arith) in
    let k : u32_at a 8 ≡ u32_at b 8 = number 8 (omega arith) in
    let n : u32_at a 24 ≡ u32_at b 24 = number 24 (omega arith) in
    let g : u32_at a 28 ≡ u32_at b 28 = number 28 (omega arith) in
    rw (records-cores a b d k (u32_at a 24) (message_tree a) (message_tree b) trees, records-cores a b d k (u32_at a 28) (message_ghost a) (message_ghost b) ghosts, l, d, n, g)
