-- What the code finds face by face, each link from one end, is what the check of a part finds record by record.
use Prim.Native.Nat.{ℕ, ◌+◌, ◌-◌, ◌≤◌, ◌<◌}
use native.Mathlib.Omega.{arith}
use mathlib.Core.Path.{◌≡◌, refl, sym, ap, ap₂, ◌∙◌}
use mathlib.Core.Bool.{Bool, true, false, cond, ◌&&◌, and-true, and-false, and_assoc}
use mathlib.Core.List.{List}
use lib.Dec.{leb, ltb, eqb}
use borrow.Author.Tests.{ltb-true, leb-true, lt-ltb}
use Rattle.encoding.specs.Below.{all_below, any_below, count_below, least_below, sum_below}
use Rattle.encoding.proofs.Below.{either, iff_eq, and_fst, and_snd, all_at, all_intro, all_same, all_and, any_same, least_same, least_lt, sum_same, sum_plus, count_first, count_swap}
use Rattle.records.specs.Shape.{shape_ok, dimension_of, face_count}
use Rattle.records.specs.Record.{shape_of, neighbour_of, zeros_ok, region_ok, unused_ok, boundary_ok, in_form, number_of}
use Rattle.records.specs.Means.{face_form, unused_from}
use Rattle.records.proofs.Shapes.{count_six}
use Rattle.mesh.specs.Means.{link_by_dimension}
use Rattle.part.specs.Means.{in_range, neighbour_in, ghost_has}
use Rattle.ghost_links.specs.Means.{form_alone, ghost_up, ghost_down, ghost_ups, ghost_downs, ghost_low, ghost_face_down, ghost_from_one_end}
use Rattle.ghost_links.proofs.FromOneEnd.{boundary_other}
use Rattle.part_check.specs.Means.{tree_numbered, ghost_behind, ghost_numbered, numbers_sound, tree_to, tree_face, tree_fits, tree_stored, ghost_to, ghost_face, ghost_stored, records_sound, tree_up, tree_down, tree_ups, tree_downs, even_links, tree_face_down, tree_from_one_end, records_from_one_end}
use Rattle.part_check.proofs.FromOneEnd.{trees_seen, records_from_one_end_lem}
use Rattle.columns_read.specs.Means.{head_ok, side_ok, side_has, tree_head, tree_side, tree_side_up, tree_side_down}
use Rattle.columns_check.specs.Means.{side_low, ghost_head, ghost_side, ghost_side_low, ghost_side_up, ghost_side_down, ghost_side_listed, ghost_side_linked, faces_sound, faces_up, faces_down, links_sound, columns_found}

-- ---- one record

-- a test of the first c of 6
first_of_six : (c : ℕ) → c ≤ 6 → (t : ℕ → Bool) → all_below 6 (λ f. cond (ltb f c) (t f) true) ≡ all_below c t
first_of_six c h t =
    iff_eq (all_below 6 (λ f. cond (ltb f c) (t f) true)) (all_below c t)
    (λ e. all_intro c t (λ f l. let a : cond (ltb f c) (t f) true ≡ true = all_at 6 (λ f. cond (ltb f c) (t f) true) e f (omega arith) in rw (lt-ltb f c l) at a))
    (λ e. all_intro 6 (λ f. cond (ltb f c) (t f) true) (λ f l. either (ltb f c) (λ p. rw p (all_at c t e f (ltb-true f c p))) (λ p. rw p)))

-- the tests of a record in the code's order
order : (s z t F d L : Bool) → (s && z && t && F && d && L) ≡ ((s && d && z && t) && (F && L))
order false z t F d L = refl
order true false t F true L = refl
order true false t F false L = refl
order true true false F true L = refl
order true true false F false L = refl
order true true true true true L = refl
order true true true true false L = refl
order true true true false true L = refl
order true true true false false L = refl

by_side : (b t u : Bool) → cond b t u ≡ (cond b true u && cond b t true)
by_side true t u = refl
by_side false t u = sym (and-true u)

module _ (D : ℕ) (r : List ℕ) (t : ℕ → Bool) where
  abbrev faces : ℕ
  faces = face_count (shape_of r)

  -- without its links, and with a test of each face that it has
  alone-split : (form_alone D r && all_below faces t) ≡ (head_ok D r && all_below 6 (λ f. side_low r f (t f)))
  unfolding form_alone head_ok side_low unused_from
  alone-split =
      order (shape_ok (shape_of r)) (zeros_ok r) (region_ok r) (all_below 6 (unused_from faces r)) (eqb (dimension_of (shape_of r)) D) (all_below faces t)
      ∙ ap (λ (b : Bool). head_ok D r && b)
      (ap (λ (b : Bool). all_below 6 (unused_from faces r) && b) (sym (first_of_six faces (count_six (shape_of r)) t))
      ∙ sym (all_and 6 (unused_from faces r) (λ f. cond (ltb f faces) (t f) true))
      ∙ all_same 6 (λ f. unused_from faces r f && cond (ltb f faces) (t f) true) (λ f. cond (ltb f faces) (t f) (unused_ok r f)) (λ f h. sym (by_side (ltb f faces) (t f) (unused_ok r f))))

-- a link that leads up isn't followed, and is no boundary
not_followed : (up edge link : Bool) → (up ≡ true → edge ≡ true) → (edge && cond up true link) ≡ cond up true (edge && link)
not_followed true edge link h = rw (h refl)
not_followed false edge link h = refl

module _ (link : ℕ → List ℕ → ℕ → List ℕ → Bool) (first n g : ℕ) (tree ghostly : ℕ → List ℕ) (D K f : ℕ) where
  tree-side-is : (i : ℕ) → tree_side link first n g tree ghostly D K f i ≡ side_low (tree i) f (tree_face_down link n g tree ghostly i f)
  unfolding tree_side side_ok face_form side_low tree_face_down tree_fits tree_up
  tree-side-is i =
      let k : ℕ = neighbour_of (tree i) f in
      either (ltb f (face_count (shape_of (tree i))))
      (λ e. rw e
      (not_followed (ltb i k && ltb k n) (boundary_ok i (tree i) f) (tree_face link n g tree ghostly i f)
      (λ p. let higher : i < k = ltb-true i k (and_fst (ltb i k) _ p) in boundary_other i (tree i) f (λ w. omega arith))))
      (λ e. rw e (and-true (unused_ok (tree i) f)))

  ghost-side-is : (j : ℕ) → ghost_side link first n g tree ghostly D K f j ≡ side_low (ghostly j) f (ghost_low ghostly K j f && ghost_face_down link g ghostly j f)
  unfolding ghost_side ghost_side_low ghost_side_linked ghost_side_listed side_has side_low ghost_face_down
  ghost-side-is j =
      either (ltb f (face_count (shape_of (ghostly j))))
      (λ e. rw e)
      (λ e. rw e (and-true (unused_ok (ghostly j) f)))

-- one test more between two
with_more : (A L W H S b : Bool) → (A && (L && W)) ≡ (H && S) → (A && (L && b) && W) ≡ (H && b && S)
with_more A L W H S true e = rw (and-true L, and-true H, and_assoc) e
with_more A L W H S false e = rw (and-false L, and-false A, and-false H)

-- ---- all records

-- two loops, either outside
all_swap : (m n : ℕ) (t : ℕ → ℕ → Bool) → all_below n (λ i. all_below m (λ f. t f i)) ≡ all_below m (λ f. all_below n (λ i. t f i))
all_swap m n t =
    iff_eq (all_below n (λ i. all_below m (λ f. t f i))) (all_below m (λ f. all_below n (λ i. t f i)))
    (λ e. all_intro m (λ f. all_below n (λ i. t f i)) (λ f k. all_intro n (λ i. t f i) (λ i l. all_at m (λ f. t f i) (all_at n (λ i. all_below m (λ f. t f i)) e i l) f k)))
    (λ e. all_intro n (λ i. all_below m (λ f. t f i)) (λ i l. all_intro m (λ f. t f i) (λ f k. all_at n (λ i. t f i) (all_at m (λ f. all_below n (λ i. t f i)) e f k) i l)))

-- links of n records by records, and by faces
module _ (n : ℕ) (r : ℕ → List ℕ) (t : ℕ → ℕ → Bool) where
  by-faces : sum_below n (λ i. count_below (face_count (shape_of (r i))) (t i)) ≡ sum_below 6 (λ f. count_below n (λ i. side_has (r i) f (t i f)))
  unfolding side_has
  by-faces =
      sum_same n (λ i. count_below (face_count (shape_of (r i))) (t i)) (λ i. count_below 6 (λ f. ltb f (face_count (shape_of (r i))) && t i f)) (λ i h. sym (count_first 6 (face_count (shape_of (r i))) (t i) (count_six (shape_of (r i)))))
      ∙ count_swap n 6 (λ i f. ltb f (face_count (shape_of (r i))) && t i f)

whole : (GN TN HN TS Gh GS E : Bool) → ((GN && (TN && HN)) && (Gh && ((TS && GS) && E))) ≡ (GN && ((TN && (HN && TS)) && ((Gh && GS) && E)))
whole false TN HN TS Gh GS E = refl
whole true false HN TS Gh GS E = refl
whole true true false TS Gh GS E = refl
whole true true true true true GS E = refl
whole true true true true false GS E = refl
whole true true true false true GS E = refl
whole true true true false false GS E = refl

module _ (D first n g : ℕ) (tree ghostly : ℕ → List ℕ) (K : ℕ) where
  abbrev link : ℕ → List ℕ → ℕ → List ℕ → Bool
  link = link_by_dimension D

  trees-split : all_below n (tree_from_one_end link n g tree ghostly D) ≡ (all_below n (λ i. head_ok D (tree i)) && all_below 6 (λ f. all_below n (tree_side link first n g tree ghostly D K f)))
  unfolding tree_from_one_end
  trees-split =
      all_same n (tree_from_one_end link n g tree ghostly D) (λ i. head_ok D (tree i) && all_below 6 (λ f. tree_side link first n g tree ghostly D K f i))
      (λ i h. alone-split D (tree i) (tree_face_down link n g tree ghostly i)
      ∙ ap (λ (b : Bool). head_ok D (tree i) && b) (all_same 6 (λ f. side_low (tree i) f (tree_face_down link n g tree ghostly i f)) (λ f. tree_side link first n g tree ghostly D K f i) (λ f l. sym (tree-side-is link first n g tree ghostly D K f i))))
      ∙ (all_and n (λ i. head_ok D (tree i)) (λ i. all_below 6 (λ f. tree_side link first n g tree ghostly D K f i))
      ∙ ap (λ (b : Bool). all_below n (λ i. head_ok D (tree i)) && b) (all_swap 6 n (λ f i. tree_side link first n g tree ghostly D K f i)))

  ghost-split : (j : ℕ) → ghost_from_one_end link g ghostly first n D K j ≡ (ghost_head link first n g tree ghostly D K j && all_below 6 (λ f. ghost_side link first n g tree ghostly D K f j))
  unfolding ghost_from_one_end ghost_head
  ghost-split j =
      let r : List ℕ = ghostly j in
      with_more (form_alone D r) (all_below (face_count (shape_of r)) (ghost_low ghostly K j)) (all_below (face_count (shape_of r)) (ghost_face_down link g ghostly j)) (head_ok D r)
      (all_below 6 (λ f. ghost_side link first n g tree ghostly D K f j)) (any_below (face_count (shape_of r)) (neighbour_in first (first + n) r))
      (ap (λ (b : Bool). form_alone D r && b) (sym (all_and (face_count (shape_of r)) (ghost_low ghostly K j) (ghost_face_down link g ghostly j)))
      ∙ alone-split D r (λ f. ghost_low ghostly K j f && ghost_face_down link g ghostly j f)
      ∙ ap (λ (b : Bool). head_ok D r && b) (all_same 6 (λ f. side_low r f (ghost_low ghostly K j f && ghost_face_down link g ghostly j f)) (λ f. ghost_side link first n g tree ghostly D K f j) (λ f l. sym (ghost-side-is link first n g tree ghostly D K f j))))

  ghosts_split : all_below g (ghost_from_one_end link g ghostly first n D K) ≡ (all_below g (ghost_head link first n g tree ghostly D K) && all_below 6 (λ f. all_below g (ghost_side link first n g tree ghostly D K f)))
  ghosts_split =
      all_same g (ghost_from_one_end link g ghostly first n D K) (λ j. ghost_head link first n g tree ghostly D K j && all_below 6 (λ f. ghost_side link first n g tree ghostly D K f j)) (λ j h. ghost-split j)
      ∙ (all_and g (ghost_head link first n g tree ghostly D K) (λ j. all_below 6 (λ f. ghost_side link first n g tree ghostly D K f j))
      ∙ ap (λ (b : Bool). all_below g (ghost_head link first n g tree ghostly D K) && b) (all_swap 6 g (λ f j. ghost_side link first n g tree ghostly D K f j)))

  ups-split : sum_below 6 (faces_up link first n g tree ghostly D K) ≡ sum_below n (tree_ups n tree) + sum_below g (ghost_ups first n g ghostly)
  unfolding faces_up tree_side_up ghost_side_up tree_ups ghost_ups
  ups-split =
      sum_plus 6 (λ f. count_below n (λ i. side_has (tree i) f (tree_up n tree i f))) (λ f. count_below g (λ j. side_has (ghostly j) f (ghost_up first n g ghostly j f)))
      ∙ ap₂ (λ (x y : ℕ). x + y) (sym (by-faces n tree (tree_up n tree))) (sym (by-faces g ghostly (ghost_up first n g ghostly)))

  downs-split : sum_below 6 (faces_down link first n g tree ghostly D K) ≡ sum_below n (tree_downs n tree) + sum_below g (ghost_downs g ghostly)
  unfolding faces_down tree_side_down ghost_side_down tree_downs ghost_downs
  downs-split =
      sum_plus 6 (λ f. count_below n (λ i. side_has (tree i) f (tree_down n tree i f))) (λ f. count_below g (λ j. side_has (ghostly j) f (ghost_down g ghostly j f)))
      ∙ ap₂ (λ (x y : ℕ). x + y) (sym (by-faces n tree (tree_down n tree))) (sym (by-faces g ghostly (ghost_down g ghostly)))

  found-from-one-end : columns_found link first n g tree ghostly D K ≡ records_from_one_end link first n g tree ghostly D K
  unfolding columns_found links_sound records_from_one_end even_links tree_head faces_sound
  found-from-one-end =
      rw (trees_seen D first n g tree ghostly, trees-split, ghosts_split, all_and n (tree_numbered first tree) (λ i. head_ok D (tree i)), all_and 6 (λ f. all_below n (tree_side link first n g tree ghostly D K f)) (λ f. all_below g (ghost_side link first n g tree ghostly D K f)), ups-split, downs-split)
      (whole (all_below g (ghost_numbered first n ghostly K)) (all_below n (tree_numbered first tree)) (all_below n (λ i. head_ok D (tree i))) (all_below 6 (λ f. all_below n (tree_side link first n g tree ghostly D K f))) (all_below g (ghost_head link first n g tree ghostly D K)) (all_below 6 (λ f. all_below g (ghost_side link first n g tree ghostly D K f)))
      (eqb (sum_below n (tree_ups n tree) + sum_below g (ghost_ups first n g ghostly)) (sum_below n (tree_downs n tree) + sum_below g (ghost_downs g ghostly))))

  pub found_is : first + n ≤ K → columns_found link first n g tree ghostly D K ≡ records_sound link first n g tree ghostly D K
  found_is within = found-from-one-end ∙ records_from_one_end_lem D first n g K tree ghostly within

-- ---- cores that agree

module _ (link : ℕ → List ℕ → ℕ → List ℕ → Bool) (first n g : ℕ) (tree tree' ghostly ghostly' : ℕ → List ℕ) (trees : (i : ℕ) → i < n → tree i ≡ tree' i) (ghosts : (j : ℕ) → j < g → ghostly j ≡ ghostly' j) where
  numbers-same : (K : ℕ) → numbers_sound first n g tree ghostly K ≡ numbers_sound first n g tree' ghostly' K
  unfolding numbers_sound tree_numbered ghost_numbered ghost_behind
  numbers-same K =
      ap₂ ◌&&◌
      (all_same n (tree_numbered first tree) (tree_numbered first tree') (λ i h. rw (trees i h)))
      (all_same g (ghost_numbered first n ghostly K) (ghost_numbered first n ghostly' K) (λ j h. rw (ghosts j h, ghosts (j - 1) (omega arith))))

  tree-to-same : (i f j : ℕ) → i < n → tree_to link n g tree ghostly i f j ≡ tree_to link n g tree' ghostly' i f j
  unfolding tree_to
  tree-to-same i f j h =
      either (ltb j n) (λ p. rw (p, trees i h, trees j (ltb-true j n p)))
      (λ p. either (ltb (j - n) g) (λ q. rw (p, q, trees i h, ghosts (j - n) (ltb-true (j - n) g q))) (λ q. rw (p, q)))

  has_same : (k j : ℕ) → j < g → ghost_has ghostly k j ≡ ghost_has ghostly' k j
  unfolding ghost_has
  has_same k j h = rw (ghosts j h)

  ghost-to-same : (K j f k : ℕ) → j < g → ghost_to link first n g tree ghostly K j f k ≡ ghost_to link first n g tree' ghostly' K j f k
  unfolding ghost_to in_range
  ghost-to-same K j f k h =
      either (leb first k && ltb k (first + n))
      (λ p. let t : k - first < n = omega (arith, leb-true first k (and_fst (leb first k) (ltb k (first + n)) p), ltb-true k (first + n) (and_snd (leb first k) (ltb k (first + n)) p)) in
      rw (p, ghosts j h, trees (k - first) t))
      (λ p.
      either (any_below g (ghost_has ghostly' k))
      (λ q. rw (p, any_same g (ghost_has ghostly k) (ghost_has ghostly' k) (has_same k), q, least_same g (ghost_has ghostly k) (ghost_has ghostly' k) (has_same k), ghosts j h, ghosts (least_below g (ghost_has ghostly' k)) (least_lt g (ghost_has ghostly' k) q)))
      (λ q. rw (p, any_same g (ghost_has ghostly k) (ghost_has ghostly' k) (has_same k), q, ghosts j h)))

  pub records_same : (D K : ℕ) → records_sound link first n g tree ghostly D K ≡ records_sound link first n g tree' ghostly' D K
  unfolding records_sound tree_stored tree_face ghost_stored ghost_face
  records_same D K =
      ap₂ ◌&&◌ (numbers-same K)
      (ap₂ ◌&&◌
      (all_same n (tree_stored link n g tree ghostly D) (tree_stored link n g tree' ghostly' D)
      (λ i h. rw (trees i h) (ap (λ (b : Bool). in_form i (tree' i) && eqb (dimension_of (shape_of (tree' i))) D && b)
      (all_same (face_count (shape_of (tree' i))) (λ f. tree_to link n g tree ghostly i f (neighbour_of (tree i) f)) (λ f. tree_to link n g tree' ghostly' i f (neighbour_of (tree' i) f))
      (λ f l. ap (λ (r : List ℕ). tree_to link n g tree ghostly i f (neighbour_of r f)) (trees i h) ∙ tree-to-same i f (neighbour_of (tree' i) f) h)))))
      (all_same g (ghost_stored link first n g tree ghostly D K) (ghost_stored link first n g tree' ghostly' D K)
      (λ j h. rw (ghosts j h) (ap (λ (b : Bool). in_form (number_of (ghostly' j)) (ghostly' j) && eqb (dimension_of (shape_of (ghostly' j))) D && any_below (face_count (shape_of (ghostly' j))) (neighbour_in first (first + n) (ghostly' j)) && b)
      (all_same (face_count (shape_of (ghostly' j))) (λ f. ghost_to link first n g tree ghostly K j f (neighbour_of (ghostly j) f)) (λ f. ghost_to link first n g tree' ghostly' K j f (neighbour_of (ghostly' j) f))
      (λ f l. ap (λ (r : List ℕ). ghost_to link first n g tree ghostly K j f (neighbour_of r f)) (ghosts j h) ∙ ghost-to-same K j f (neighbour_of (ghostly' j) f) h))))))
