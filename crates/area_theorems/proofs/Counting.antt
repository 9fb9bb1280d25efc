-- How many ghosts there can be: at most one for each face of each tree.
use Prim.Native.Nat.{ℕ, zero, suc, ◌+◌, ◌-◌, ◌*◌, ◌≤◌, ◌<◌}
use native.Mathlib.Nat.{le_refl, le_trans, mul-suc, mul-le-mul_left}
use native.Mathlib.Omega.{arith}
use mathlib.Core.Path.{◌≡◌, refl}
use mathlib.Core.Bool.{Bool, true, false, not, ◌&&◌, ◌||◌, or-false}
use mathlib.Core.List.{List}
use lib.Dec.{ltb, eqb, eqb-suc-zero}
use borrow.Author.Tests.{ltb-true, eqb-true}
use Rattle.encoding.specs.Below.{all_below, any_below, count_below}
use Rattle.encoding.proofs.Below.{either, and_fst, and_snd, below_suc, all_at, any_at, count_same, count_le, count_none, count_or, count_lt}
use Rattle.offsets.specs.Table.{holds}
use Rattle.records.specs.Shape.{dimension_of, face_count, faces_in}
use Rattle.records.specs.Record.{number_of, shape_of, neighbour_of, in_form}
use Rattle.records.proofs.Shapes.{count_faces}
use Rattle.pattern.proofs.Counting.{count_one}
use Rattle.message.specs.Layout.{message_dimension, message_k, message_trees, message_ghosts, message_tree, message_ghost, record_laid, size_laid, after_last, records_laid, in_layout}
use Rattle.area.specs.Layout.{ghost_bound}
use Rattle.area.specs.Area.{area_rank, area_new}
use Rattle.area.specs.Deliver.{beside_trees, ghost_due}

-- ---- any tests

-- a test for one number passes at most once
count_only : (K v : ℕ) → count_below K (λ k. eqb v k) ≤ 1
count_only K v = count_one K (λ k. eqb v k) (λ i j l h a b. let x = eqb-true v i a in let y = eqb-true v j b in omega arith)

-- tests for c numbers pass at most c times
count_faces_of : (K c : ℕ) (h : ℕ → ℕ) → count_below K (λ k. any_below c (λ f. eqb (h f) k)) ≤ c
unfolding any_below
count_faces_of K zero h = rw (count_none K (λ k. false) (λ i l. refl)) (omega arith)
count_faces_of K (suc c) h =
    omega (arith, count_or K (λ k. any_below c (λ f. eqb (h f) k)) (λ k. eqb (h c) k), count_faces_of K c h, count_only K (h c))

-- one more number, which passes or doesn't
count_passes : (n : ℕ) (f : ℕ → Bool) → f n ≡ true → count_below (suc n) f ≡ suc (count_below n f)
unfolding count_below
count_passes n f e = rw e (omega arith)

count_stays : (n : ℕ) (f : ℕ → Bool) → f n ≡ false → count_below (suc n) f ≡ count_below n f
unfolding count_below
count_stays n f e = rw e (omega arith)

-- of n trees with at most F faces each, and across each face one number: across faces of those that pass a test are at most F numbers for each of these
pub count_beside_some : (K n F : ℕ) (test : ℕ → Bool) (c : ℕ → ℕ) (h : ℕ → ℕ → ℕ) → ((i : ℕ) → i < n → c i ≤ F)
    → count_below K (λ k. any_below n (λ i. test i && any_below (c i) (λ f. eqb (h i f) k))) ≤ F * count_below n test
unfolding any_below
count_beside_some K zero F test c h l = rw (count_none K (λ k. false) (λ i l. refl)) (omega arith)
count_beside_some K (suc n) F test c h l =
    let before : ℕ → Bool = λ k. any_below n (λ i. test i && any_below (c i) (λ f. eqb (h i f) k)) in
    let last : ℕ → Bool = λ k. any_below (c n) (λ f. eqb (h n f) k) in
    let r = count_beside_some K n F test c h (λ i a. l i (omega arith)) in
    let s = count_faces_of K (c n) (h n) in
    let t = l n (le_refl (suc n)) in
    either (test n)
    (λ e. let q : count_below K (λ k. before k || (test n && last k)) ≡ count_below K (λ k. before k || last k) = count_same K (λ k. before k || (test n && last k)) (λ k. before k || last k) (λ k a. rw e) in
    rw (count_passes n test e, mul-suc) (omega (arith, q, count_or K before last)))
    (λ e. let q : count_below K (λ k. before k || (test n && last k)) ≡ count_below K before = count_same K (λ k. before k || (test n && last k)) before (λ k a. rw e (or-false (before k))) in
    rw (count_stays n test e) (omega (arith, q)))

-- across faces of all n trees are at most F * n numbers
pub count_beside : (K n F : ℕ) (c : ℕ → ℕ) (h : ℕ → ℕ → ℕ) → ((i : ℕ) → i < n → c i ≤ F)
    → count_below K (λ k. any_below n (λ i. any_below (c i) (λ f. eqb (h i f) k))) ≤ F * n
count_beside K n F c h l = le_trans (count_beside_some K n F (λ i. true) c h l) (mul-le-mul_left F (count_le n (λ i. true)))

-- where no number passes both of two tests, the counts add up
pub count_apart : (n : ℕ) (f g : ℕ → Bool) → ((i : ℕ) → i < n → f i ≡ true → g i ≡ false) → count_below n (λ i. f i || g i) ≡ count_below n f + count_below n g
unfolding count_below
count_apart zero f g h = refl
count_apart (suc n) f g h =
    let r = count_apart n f g (λ i l. h i (omega arith)) in
    either (f n)
    (λ t. rw (t, h n (le_refl (suc n)) t) (omega arith))
    (λ t. rw t (omega arith))

-- ascending numbers below N that pass a test are no more than those that pass
pub count_ascends : (g N : ℕ) (number : ℕ → ℕ) (f : ℕ → Bool) → ((i j : ℕ) → i < j → j < g → number i < number j) → ((j : ℕ) → j < g → number j < N)
    → ((j : ℕ) → j < g → f (number j) ≡ true) → g ≤ count_below N f
count_ascends zero N number f up below pass = omega arith
count_ascends (suc g) N number f up below pass =
    let r = count_ascends g (number g) number f (λ i j l h. up i j l (omega arith)) (λ j h. up j g h (le_refl (suc g))) (λ j h. pass j (omega arith)) in
    let s = count_lt (number g) N f (below g (le_refl (suc g))) (pass g (le_refl (suc g))) in
    omega arith

-- ---- the ghosts of a message

module _ (m : List ℕ) (laid : in_layout m ≡ true) where
  laid-trees : records_laid m (message_trees m) (message_tree m) ≡ true
  unfolding in_layout
  laid-trees = and_snd (size_laid m) _ (and_fst (size_laid m && records_laid m (message_trees m) (message_tree m)) _ laid)

  laid-ghosts : records_laid m (message_ghosts m) (message_ghost m) ≡ true
  unfolding in_layout
  laid-ghosts = and_snd (size_laid m && records_laid m (message_trees m) (message_tree m)) _ laid

  laid-tree : (i : ℕ) → i < message_trees m → record_laid m (message_tree m i) ≡ true
  unfolding records_laid
  laid-tree i h = and_fst (record_laid m (message_tree m i)) _ (all_at (message_trees m) (λ i. record_laid m (message_tree m i) && after_last (message_tree m) i) laid-trees i h)

  laid-after : (j : ℕ) → suc j < message_ghosts m → number_of (message_ghost m j) < number_of (message_ghost m (suc j))
  unfolding records_laid after_last
  laid-after j h =
      let e : suc j - 1 ≡ j = omega arith in
      let a : after_last (message_ghost m) (suc j) ≡ true =
      and_snd (record_laid m (message_ghost m (suc j))) _ (all_at (message_ghosts m) (λ i. record_laid m (message_ghost m i) && after_last (message_ghost m) i) laid-ghosts (suc j) h) in
      ltb-true _ _ (rw (eqb-suc-zero j, e) at a)

  -- the ghosts of a message ascend
  pub laid_ascends : (i j : ℕ) → i < j → j < message_ghosts m → number_of (message_ghost m i) < number_of (message_ghost m j)
  laid_ascends i zero h l = absurd (omega arith)
  laid_ascends i (suc j) h l =
      below_suc i j h (λ p. omega (arith, laid_ascends i j p (omega arith), laid-after j l)) (λ q. rw q (laid-after j l))

  -- its trees have at most F faces, with neighbours below K
  laid-faces : (i : ℕ) → i < message_trees m → face_count (shape_of (message_tree m i)) ≤ faces_in (message_dimension m)
  unfolding record_laid
  laid-faces i h =
      let r : List ℕ = message_tree m i in
      let e : dimension_of (shape_of r) ≡ message_dimension m = eqb-true _ _ (and_snd (in_form (number_of r) r) _ (and_fst (in_form (number_of r) r && eqb (dimension_of (shape_of r)) (message_dimension m)) _ (laid-tree i h))) in
      rw (← e) (count_faces (shape_of r))

  laid-below : (i f : ℕ) → i < message_trees m → f < face_count (shape_of (message_tree m i)) → neighbour_of (message_tree m i) f < message_k m
  unfolding record_laid
  laid-below i f h a =
      let r : List ℕ = message_tree m i in
      ltb-true _ _ (all_at (face_count (shape_of r)) (λ f. ltb (neighbour_of r f) (message_k m)) (and_snd (in_form (number_of r) r && eqb (dimension_of (shape_of r)) (message_dimension m)) _ (laid-tree i h)) f a)

  -- what is beside its trees is below K
  beside-below : (a : List ℕ) (k : ℕ) → beside_trees a m k ≡ true → k < message_k m
  unfolding beside_trees
  beside-below a k e =
      let t = any_at (message_trees m) (λ i. any_below (face_count (shape_of (message_tree m i))) (λ f. eqb (neighbour_of (message_tree m i) f) k)) e in
      let b = any_at (face_count (shape_of (message_tree m t.0))) (λ f. eqb (neighbour_of (message_tree m t.0) f) k) t.2 in
      rw (← eqb-true (neighbour_of (message_tree m t.0) b.0) k b.2) (laid-below t.0 b.0 t.1 b.1)

  due-beside : (a : List ℕ) → all_below (message_ghosts m) (ghost_due a m) ≡ true → (j : ℕ) → j < message_ghosts m → beside_trees a m (number_of (message_ghost m j)) ≡ true
  unfolding ghost_due
  due-beside a due j h =
      and_snd (not (holds (area_new a) (area_rank a) (number_of (message_ghost m j)))) (beside_trees a m (number_of (message_ghost m j))) (all_at (message_ghosts m) (ghost_due a m) due j h)

  few-beside : (a : List ℕ) → count_below (message_k m) (beside_trees a m) ≤ faces_in (message_dimension m) * message_trees m
  unfolding beside_trees
  few-beside a =
      count_beside (message_k m) (message_trees m) (faces_in (message_dimension m)) (λ i. face_count (shape_of (message_tree m i))) (λ i f. neighbour_of (message_tree m i) f) laid-faces

  -- a message that passes 11, 16 and 17 has at most F ghosts for each of its trees
  pub message_ghosts_fit : (a : List ℕ) → all_below (message_ghosts m) (ghost_due a m) ≡ true → message_ghosts m ≤ ghost_bound (faces_in (message_dimension m)) (message_trees m)
  unfolding ghost_bound
  message_ghosts_fit a due =
      let c : message_ghosts m ≤ count_below (message_k m) (beside_trees a m) =
      count_ascends (message_ghosts m) (message_k m) (λ j. number_of (message_ghost m j)) (beside_trees a m) laid_ascends
      (λ j h. beside-below a (number_of (message_ghost m j)) (due-beside a due j h)) (due-beside a due) in
      omega (arith, c, few-beside a)
