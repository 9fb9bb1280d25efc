-- The soundness of a part, as its definition says it over neighbours looked up, is what the code finds over the records as they stand.
use Prim.Native.Nat.{ℕ, zero, suc, ◌+◌, ◌-◌, ◌≤◌, ◌<◌}
use native.Mathlib.Omega.{arith}
use native.Mathlib.Nat.{add-sub_cancel_left}
use mathlib.Core.Path.{◌≡◌, refl, sym, ap, ap₂, ◌∙◌}
use mathlib.Core.Bool.{Bool, true, false, cond, not, ◌&&◌, and-true}
use mathlib.Core.List.{List}
use lib.Dec.{leb, ltb, eqb}
use borrow.Author.Tests.{ltb-true, leb-true, lt-ltb, le-ltb, le-leb, eqb-true, eqb-false, eq-eqb, ne_eqb}
use Rattle.encoding.specs.Below.{all_below, any_below, least_below}
use Rattle.encoding.proofs.Below.{tests, either, clash, and_fst, and_snd, and_intro, iff_eq, below_suc, all_at, all_intro, all_same, any_intro, any_none, least_is}
use Rattle.offsets.specs.Limits.{max_trees}
use Rattle.records.specs.Shape.{dimension_of, face_count, shape_ok}
use Rattle.records.specs.Record.{unused, region_limit, region_ok, number_of, shape_of, neighbour_of, face_of, unused_ok, to_itself, boundary_ok, in_form}
use Rattle.records.proofs.Shapes.{count_six}
use Rattle.records.proofs.Forms.{face_six}
use Rattle.mesh.specs.Link.{orientation_ok, same_corners, answered, link_ok}
use Rattle.part.specs.Means.{is_local, ghost_is, held, held_core, tree_link, ghost_link, local_sound, ghost_after, ghost_beside, ghost_sound, view_sound, in_range, neighbour_in, ghost_has}
use Rattle.part.specs.Part.{no_tree}
use Rattle.mesh.specs.Means.{link_between}
use Rattle.part_check.specs.Means.{tree_numbered, ghost_behind, ghost_numbered, numbers_sound, tree_to, tree_face, tree_stored, ghost_to, ghost_face, ghost_stored, records_sound}
use Rattle.part.proofs.Global.{Alike, alike_itself, alike_face, alike_orientation}

-- ---- the numbers

-- ghosts of which each has the number that it is to have
module _ (first n g K : ℕ) (ghostly : ℕ → List ℕ) (numbered : (j : ℕ) → j < g → ghost_numbered first n ghostly K j ≡ true) where
  numbered_below : (j : ℕ) → j < g → number_of (ghostly j) < K
  unfolding ghost_numbered
  numbered_below j h = ltb-true _ _ (and_fst (ltb (number_of (ghostly j)) K) (not (in_range first (first + n) (number_of (ghostly j)))) (and_fst _ (ghost_behind ghostly j) (numbered j h)))

  numbered-after : (j : ℕ) → suc j < g → number_of (ghostly j) < number_of (ghostly (suc j))
  unfolding ghost_numbered ghost_behind
  numbered-after j h =
      let e : ghost_behind ghostly (suc j) ≡ true = and_snd (ltb (number_of (ghostly (suc j))) K && not (in_range first (first + n) (number_of (ghostly (suc j))))) _ (numbered (suc j) h) in
      let p : suc j - 1 ≡ j = omega arith in
      ltb-true _ _ (rw (ne_eqb (suc j) 0 (λ q. omega arith), p) at e)

  pub numbered_ascend : (i j : ℕ) → i < j → j < g → number_of (ghostly i) < number_of (ghostly j)
  numbered_ascend i zero h l = absurd (omega arith)
  numbered_ascend i (suc j) h l =
      below_suc i j h (λ p. omega (arith, numbered_ascend i j p (omega arith), numbered-after j l)) (λ e. rw e (numbered-after j l))

  -- so they are no more than K
  numbered-over : (j : ℕ) → j < g → j ≤ number_of (ghostly j)
  numbered-over zero h = omega arith
  numbered-over (suc j) h = omega (arith, numbered-over j (omega arith), numbered-after j h)

  pub numbered_few : g ≤ K
  numbered_few = either (ltb K g) (λ p. let h : K < g = omega tests in omega (arith, numbered-over K h, numbered_below K h)) (λ p. omega tests)

module _ (first n g K : ℕ) (tree ghostly : ℕ → List ℕ) (numbers : numbers_sound first n g tree ghostly K ≡ true) where
  pub tree_number : (i : ℕ) → i < n → number_of (tree i) ≡ first + i
  unfolding numbers_sound tree_numbered
  tree_number i h = eqb-true _ _ (all_at n (tree_numbered first tree) (and_fst (all_below n (tree_numbered first tree)) _ numbers) i h)

  ghost-numbered : (j : ℕ) → j < g → ghost_numbered first n ghostly K j ≡ true
  unfolding numbers_sound
  ghost-numbered = all_at g (ghost_numbered first n ghostly K) (and_snd (all_below n (tree_numbered first tree)) _ numbers)

  pub ghost_below : (j : ℕ) → j < g → number_of (ghostly j) < K
  ghost_below = numbered_below first n g K ghostly ghost-numbered

  pub ghost_outside : (j : ℕ) → j < g → in_range first (first + n) (number_of (ghostly j)) ≡ false
  unfolding ghost_numbered
  ghost_outside j h =
      let e : not (in_range first (first + n) (number_of (ghostly j))) ≡ true = and_snd (ltb (number_of (ghostly j)) K) _ (and_fst _ (ghost_behind ghostly j) (ghost-numbered j h)) in
      either (in_range first (first + n) (number_of (ghostly j))) (λ p. clash e (rw p)) (λ p. p)

  pub ghosts_ascend : (i j : ℕ) → i < j → j < g → number_of (ghostly i) < number_of (ghostly j)
  ghosts_ascend = numbered_ascend first n g K ghostly ghost-numbered

  pub ghosts_few : g ≤ K
  ghosts_few = numbered_few first n g K ghostly ghost-numbered

-- ---- the numbers looked up

-- the number behind local index j
unfoldable pub looked_up : ℕ → ℕ → (ℕ → List ℕ) → (ℕ → List ℕ) → ℕ → ℕ
looked_up n g tree ghostly j =
    cond (eqb j unused) unused (cond (ltb j n) (number_of (tree j)) (cond (ltb j (n + g)) (number_of (ghostly (j - n))) no_tree))

-- trees as they stand, and the same with their neighbours looked up
pub record Seen (first n g K : ℕ) (tree global ghostly : ℕ → List ℕ) : Type 0 where
  pub within : first + n ≤ K
  pub most : K ≤ max_trees
  pub alike : (i : ℕ) → i < n → Alike (global i) (tree i)
  pub neighbour : (i : ℕ) → i < n → (f : ℕ) → f < 6 → neighbour_of (global i) f ≡ looked_up n g tree ghostly (neighbour_of (tree i) f)

module _ (first n g K : ℕ) (tree global ghostly : ℕ → List ℕ) (seen : Seen first n g K tree global ghostly) (numbers : numbers_sound first n g tree ghostly K ≡ true) where
  -- a local index is that of no use, of a tree, of a ghost, or of nothing
  index-cases : {C : Type 0} (j : ℕ) → (j ≡ unused → C) → (j < n → C) → ((m : ℕ) → m < g → j ≡ n + m → C) → ((j ≡ unused → ⊥) → n + g ≤ j → C) → C
  index-cases j none tree' ghost' past =
      either (eqb j unused) (λ p. none (eqb-true _ _ p))
      (λ p. either (ltb j n) (λ q. tree' (omega tests))
      (λ q. either (ltb j (n + g)) (λ s. ghost' (j - n) (omega tests) (omega tests)) (λ s. past (eqb-false _ _ p) (omega tests))))

  abbrev up : ℕ → ℕ
  up = looked_up n g tree ghostly

  up-unused : (j : ℕ) → j ≡ unused → up j ≡ unused
  unfolding looked_up
  up-unused j e = rw (eq-eqb j unused e)

  up-tree : (j : ℕ) → j < n → up j ≡ first + j
  unfolding looked_up
  up-tree j h =
      rw (ne_eqb j unused (λ e. omega (arith, seen.within, seen.most)), lt-ltb j n h) (tree_number first n g K tree ghostly numbers j h)

  up_ghost : (m : ℕ) → m < g → up (n + m) ≡ number_of (ghostly m)
  unfolding looked_up
  up_ghost m h =
      let few : g ≤ K = ghosts_few first n g K tree ghostly numbers in
      rw (ne_eqb (n + m) unused (λ e. omega (arith, seen.within, seen.most)), le-ltb (n + m) n (omega arith), lt-ltb (n + m) (n + g) (omega arith), add-sub_cancel_left n m)

  up-past : (j : ℕ) → (j ≡ unused → ⊥) → n + g ≤ j → up j ≡ no_tree
  unfolding looked_up
  up-past j e h = rw (ne_eqb j unused e, le-ltb j n (omega arith), le-ltb j (n + g) h)

  -- tests that are both false
  both_false : {a b : Bool} → a ≡ false → b ≡ false → a ≡ b
  both_false p q = p ∙ sym q

  -- no ghost has a number of the range
  range_other : (m : ℕ) → m < g → (i : ℕ) → i < n → number_of (ghostly m) ≡ first + i → ⊥
  unfolding in_range
  range_other m h i l e =
      let o = ghost_outside first n g K tree ghostly numbers m h in
      clash {C = ⊥} (and_intro (leb first (number_of (ghostly m))) (ltb (number_of (ghostly m)) (first + n)) (le-leb first (number_of (ghostly m)) (omega arith)) (lt-ltb (number_of (ghostly m)) (first + n) (omega arith))) o

  -- no two ghosts have the same number
  ghost-same : (i m : ℕ) → i < g → m < g → number_of (ghostly i) ≡ number_of (ghostly m) → i ≡ m
  ghost-same i m h l e =
      either (ltb i m) (λ p. absurd (omega (arith, ghosts_ascend first n g K tree ghostly numbers i m (ltb-true _ _ p) l)))
      (λ p. either (ltb m i) (λ q. absurd (omega (arith, ghosts_ascend first n g K tree ghostly numbers m i (ltb-true _ _ q) h))) (λ q. omega tests))

  -- an index is unused where its number is
  up-no-use : (j : ℕ) → eqb (up j) unused ≡ eqb j unused
  up-no-use j =
      index-cases j
      (λ e. rw (up-unused j e, e))
      (λ h. both_false (ne_eqb (up j) unused (λ q. omega (arith, up-tree j h, seen.within, seen.most))) (ne_eqb j unused (λ q. omega (arith, seen.within, seen.most))))
      (λ m h e. both_false (ne_eqb (up j) unused (λ q. omega (arith, ap up e, up_ghost m h, ghost_below first n g K tree ghostly numbers m h, seen.most))) (ne_eqb j unused (λ q. omega (arith, ghosts_few first n g K tree ghostly numbers, seen.within, seen.most))))
      (λ e h. both_false (ne_eqb (up j) unused (λ q. omega (arith, up-past j e h))) (ne_eqb j unused e))

  -- and is that of tree i where its number is
  up-is-tree : (i j : ℕ) → i < n → eqb (up j) (first + i) ≡ eqb j i
  up-is-tree i j l =
      let w = seen.within in
      let k = seen.most in
      index-cases j
      (λ e. both_false (ne_eqb (up j) (first + i) (λ q. omega (arith, up-unused j e))) (ne_eqb j i (λ q. omega arith)))
      (λ h. iff_eq (eqb (up j) (first + i)) (eqb j i) (λ q. eq-eqb j i (omega (tests, up-tree j h))) (λ q. eq-eqb (up j) (first + i) (omega (tests, up-tree j h))))
      (λ m h e. both_false (ne_eqb (up j) (first + i) (λ q. range_other m h i l (sym (up_ghost m h) ∙ sym (ap up e) ∙ q))) (ne_eqb j i (λ q. omega arith)))
      (λ e h. both_false (ne_eqb (up j) (first + i) (λ q. omega (arith, up-past j e h))) (ne_eqb j i (λ q. omega arith)))

  -- and that of ghost m where its number is
  up-is-ghost : (m j : ℕ) → m < g → eqb (up j) (number_of (ghostly m)) ≡ eqb j (n + m)
  up-is-ghost m j l =
      let w = seen.within in
      let k = seen.most in
      let few = ghosts_few first n g K tree ghostly numbers in
      let below = ghost_below first n g K tree ghostly numbers m l in
      index-cases j
      (λ e. both_false (ne_eqb (up j) (number_of (ghostly m)) (λ q. omega (arith, up-unused j e))) (ne_eqb j (n + m) (λ q. omega arith)))
      (λ h. both_false (ne_eqb (up j) (number_of (ghostly m)) (λ q. range_other m l j h (sym q ∙ up-tree j h))) (ne_eqb j (n + m) (λ q. omega arith)))
      (λ i h e. iff_eq (eqb (up j) (number_of (ghostly m))) (eqb j (n + m)) (λ q. eq-eqb _ _ (e ∙ ap (λ (x : ℕ). n + x) (ghost-same i m h l (sym (up_ghost i h) ∙ sym (ap up e) ∙ eqb-true _ _ q)))) (λ q. eq-eqb _ _ (ap up (eqb-true _ _ q) ∙ up_ghost m l)))
      (λ e h. both_false (ne_eqb (up j) (number_of (ghostly m)) (λ q. omega (arith, up-past j e h))) (ne_eqb j (n + m) (λ q. omega arith)))

  -- ---- the records held

  core_tree : (i : ℕ) → i < n → held_core first n g global ghostly (first + i) ≡ global i
  unfolding held_core is_local
  core_tree i h = rw (le-leb first (first + i) (omega arith), lt-ltb (first + i) (first + n) (omega arith), add-sub_cancel_left first i)

  held-tree : (i : ℕ) → i < n → held first n g global ghostly (first + i) ≡ true
  unfolding held is_local
  held-tree i h = rw (le-leb first (first + i) (omega arith), lt-ltb (first + i) (first + n) (omega arith))

  ghost-has : (m : ℕ) → m < g → any_below g (ghost_is first n g global ghostly (number_of (ghostly m))) ≡ true
  unfolding ghost_is
  ghost-has m h = any_intro g (ghost_is first n g global ghostly (number_of (ghostly m))) m h (eq-eqb (number_of (ghostly m)) (number_of (ghostly m)) refl)

  ghost-first : (m : ℕ) → m < g → least_below g (ghost_is first n g global ghostly (number_of (ghostly m))) ≡ m
  unfolding ghost_is
  ghost-first m h =
      least_is g (ghost_is first n g global ghostly (number_of (ghostly m))) m h (eq-eqb (number_of (ghostly m)) (number_of (ghostly m)) refl)
      (λ j l. ne_eqb (number_of (ghostly j)) (number_of (ghostly m)) (λ e. omega (arith, ghosts_ascend first n g K tree ghostly numbers j m l h)))

  core_ghost : (m : ℕ) → m < g → held_core first n g global ghostly (number_of (ghostly m)) ≡ ghostly m
  unfolding held_core is_local in_range
  core_ghost m h = rw (ghost_outside first n g K tree ghostly numbers m h, ghost-first m h)

  held-ghost : (m : ℕ) → m < g → held first n g global ghostly (number_of (ghostly m)) ≡ true
  unfolding held is_local in_range
  held-ghost m h = rw (ghost_outside first n g K tree ghostly numbers m h, ghost-has m h)

  -- no record has a number from K on
  held_past : (k : ℕ) → K ≤ k → held first n g global ghostly k ≡ false
  unfolding held is_local ghost_is
  held_past k h =
      let o : (leb first k && ltb k (first + n)) ≡ false = rw (le-ltb k (first + n) (omega (arith, seen.within)), le-leb first k (omega (arith, seen.within))) in
      rw (o, any_none g (ghost_is first n g global ghostly k) (λ j l. ne_eqb (number_of (ghostly j)) k (λ e. omega (arith, ghost_below first n g K tree ghostly numbers j l))))

  -- ---- forms and links

  face_form_lem : (i : ℕ) → i < n → (f : ℕ) → f < 6
      → cond (ltb f (face_count (shape_of (global i)))) (boundary_ok (first + i) (global i) f) (unused_ok (global i) f)
      ≡ cond (ltb f (face_count (shape_of (tree i)))) (boundary_ok i (tree i) f) (unused_ok (tree i) f)
  unfolding boundary_ok to_itself unused_ok
  face_form_lem i h f l =
      let a = seen.alike i h in
      rw (a.shape, alike_face a f l, alike_orientation a f l, a.code f l, seen.neighbour i h f l, up-is-tree i (neighbour_of (tree i) f) h, up-no-use (neighbour_of (tree i) f))

  form-same : (i : ℕ) → i < n → in_form (first + i) (global i) ≡ in_form i (tree i)
  unfolding in_form region_ok
  form-same i h =
      let a = seen.alike i h in
      ap₂ ◌&&◌ (ap₂ ◌&&◌ (ap₂ ◌&&◌ (ap shape_ok a.shape) a.zeros) (ap (λ (x : ℕ). ltb x region_limit) a.region))
      (all_same 6 (λ f. cond (ltb f (face_count (shape_of (global i)))) (boundary_ok (first + i) (global i) f) (unused_ok (global i) f))
      (λ f. cond (ltb f (face_count (shape_of (tree i)))) (boundary_ok i (tree i) f) (unused_ok (tree i) f)) (face_form_lem i h))

  link_is : (core : ℕ → List ℕ) (k f : ℕ) → link_ok core k f ≡ link_between k (core k) f (core (neighbour_of (core k) f))
  unfolding link_ok link_between
  link_is core k f = refl

  link-alike : {r r' s s' : List ℕ} (back back' f : ℕ) → f < 6 → Alike r r' → Alike s s' → eqb (neighbour_of s (face_of r' f)) back ≡ eqb (neighbour_of s' (face_of r' f)) back'
      → link_between back r f s ≡ link_between back' r' f s'
  unfolding link_between orientation_ok same_corners answered
  link-alike {r} {r'} {s} {s'} back back' f h a b e =
      let six = face_six r' f in
      rw (alike_orientation a f h, alike_face a f h, a.shape, b.shape, e, alike_face b (face_of r' f) six, alike_orientation b (face_of r' f) six)

  -- the link of a tree to local index j
  tree_to_lem : (i : ℕ) → i < n → (f : ℕ) → f < 6 → (j : ℕ)
      → (held first n g global ghostly (up j) && link_between (first + i) (global i) f (held_core first n g global ghostly (up j))) ≡ tree_to link_between n g tree ghostly i f j
  unfolding tree_to
  tree_to_lem i h f l j =
      let w = seen.within in
      let k = seen.most in
      let few = ghosts_few first n g K tree ghostly numbers in
      let a = seen.alike i h in
      index-cases j
      (λ e. rw (up-unused j e, held_past unused (omega arith), le-ltb j n (omega arith), le-ltb (j - n) g (omega arith)))
      (λ q. rw (up-tree j q, held-tree j q, core_tree j q, lt-ltb j n q)
      (link-alike (first + i) i f l a (seen.alike j q)
      (rw (seen.neighbour j q (face_of (tree i) f) (face_six (tree i) f)) (up-is-tree i (neighbour_of (tree j) (face_of (tree i) f)) h))))
      (λ m q e. rw (e, up_ghost m q, held-ghost m q, core_ghost m q, le-ltb (n + m) n (omega arith), add-sub_cancel_left n m, lt-ltb m g q)
      (link-alike (first + i) (number_of (tree i)) f l a (alike_itself (ghostly m)) (ap (eqb (neighbour_of (ghostly m) (face_of (tree i) f))) (sym (tree_number first n g K tree ghostly numbers i h)))))
      (λ e q. rw (up-past j e q, held_past no_tree (omega arith), le-ltb j n (omega arith), le-ltb (j - n) g (omega arith)))

  tree-link : (i : ℕ) → i < n → (f : ℕ) → f < 6 → tree_link first n g global ghostly (first + i) f ≡ tree_face link_between n g tree ghostly i f
  unfolding tree_link tree_face
  tree-link i h f l =
      rw (link_is (held_core first n g global ghostly) (first + i) f, core_tree i h, seen.neighbour i h f l) (tree_to_lem i h f l (neighbour_of (tree i) f))

  -- the link of a ghost to tree k
  ghost-to : (j : ℕ) → j < g → (f : ℕ) → f < 6 → (k : ℕ)
      → cond (held first n g global ghostly k) (link_between (number_of (ghostly j)) (ghostly j) f (held_core first n g global ghostly k)) (ltb k K && orientation_ok (ghostly j) f)
      ≡ ghost_to link_between first n g tree ghostly K j f k
  unfolding ghost_to held held_core is_local in_range ghost_is ghost_has
  ghost-to j h f l k =
      either (leb first k && ltb k (first + n))
      (λ p. let t : k - first < n = omega (arith, leb-true first k (and_fst (leb first k) (ltb k (first + n)) p), ltb-true k (first + n) (and_snd (leb first k) (ltb k (first + n)) p)) in
      rw p
      (link-alike (number_of (ghostly j)) (n + j) f l (alike_itself (ghostly j)) (seen.alike (k - first) t)
      (rw (seen.neighbour (k - first) t (face_of (ghostly j) f) (face_six (ghostly j) f)) (up-is-ghost j (neighbour_of (tree (k - first)) (face_of (ghostly j) f)) h))))
      (λ p. rw p)

  ghost-link : (j : ℕ) → j < g → (f : ℕ) → f < 6 → ghost_link first n g global ghostly K (number_of (ghostly j)) f ≡ ghost_face link_between first n g tree ghostly K j f
  unfolding ghost_link ghost_face
  ghost-link j h f l =
      rw (link_is (held_core first n g global ghostly) (number_of (ghostly j)) f, core_ghost j h) (ghost-to j h f l (neighbour_of (ghostly j) f))

  -- ---- the records

  tree-same : (D i : ℕ) → i < n → local_sound first n g global ghostly D i ≡ tree_stored link_between n g tree ghostly D i
  unfolding local_sound tree_stored
  tree-same D i h =
      let a = seen.alike i h in
      let number : number_of (global i) ≡ first + i = a.number ∙ tree_number first n g K tree ghostly numbers i h in
      rw (
        form-same i h,
        eq-eqb (number_of (global i)) (first + i) number,
        and-true,
        a.shape,
        all_same (face_count (shape_of (tree i))) (tree_link first n g global ghostly (first + i)) (tree_face link_between n g tree ghostly i) (λ f l. tree-link i h f (omega (arith, count_six (shape_of (tree i))))),
      )

  ghost-behind : (j : ℕ) → j < g → ghost_after first n g global ghostly j ≡ true
  unfolding ghost_numbered ghost_after ghost_behind
  ghost-behind j h = and_snd (ltb (number_of (ghostly j)) K && not (in_range first (first + n) (number_of (ghostly j)))) (ghost_behind ghostly j) (ghost-numbered first n g K tree ghostly numbers j h)

  ghost-record : (D j : ℕ) → j < g → ghost_sound first n g global ghostly D K j ≡ ghost_stored link_between first n g tree ghostly D K j
  unfolding ghost_sound ghost_stored ghost_beside is_local neighbour_in in_range
  ghost-record D j h =
      rw (
        lt-ltb (number_of (ghostly j)) K (ghost_below first n g K tree ghostly numbers j h),
        ghost_outside first n g K tree ghostly numbers j h,
        ghost-behind j h,
        and-true (in_form (number_of (ghostly j)) (ghostly j)),
        and-true (in_form (number_of (ghostly j)) (ghostly j)),
        and-true (in_form (number_of (ghostly j)) (ghostly j)),
        all_same (face_count (shape_of (ghostly j))) (ghost_link first n g global ghostly K (number_of (ghostly j))) (ghost_face link_between first n g tree ghostly K j) (λ f l. ghost-link j h f (omega (arith, count_six (shape_of (ghostly j))))),
      )

  view-records : (D : ℕ) → view_sound first n g global ghostly D K ≡ records_sound link_between first n g tree ghostly D K
  unfolding view_sound records_sound
  view-records D =
      rw (numbers, all_same n (local_sound first n g global ghostly D) (tree_stored link_between n g tree ghostly D) (tree-same D), all_same g (ghost_sound first n g global ghostly D K) (ghost_stored link_between first n g tree ghostly D K) (ghost-record D))

-- the view is sound exactly where the records are
module _ (first n g K : ℕ) (tree global ghostly : ℕ → List ℕ) (seen : Seen first n g K tree global ghostly) where
  local-number : (D i : ℕ) → i < n → local_sound first n g global ghostly D i ≡ true → tree_numbered first tree i ≡ true
  unfolding local_sound tree_numbered
  local-number D i h e =
      let q : eqb (number_of (global i)) (first + i) ≡ true = and_snd (in_form (first + i) (global i)) _ (and_fst _ (eqb (dimension_of (shape_of (global i))) D) (and_fst _ (all_below (face_count (shape_of (global i))) (tree_link first n g global ghostly (first + i))) e)) in
      rw (← (seen.alike i h).number) q

  ghost-number : (D j : ℕ) → ghost_sound first n g global ghostly D K j ≡ true → ghost_numbered first n ghostly K j ≡ true
  unfolding ghost_sound ghost_numbered ghost_after ghost_behind is_local in_range
  ghost-number D j e =
      let k : ℕ = number_of (ghostly j) in
      let r = ghostly j in
      let after : Bool = ghost_after first n g global ghostly j in
      let out : Bool = not (is_local first n g global ghostly k) in
      let e1 : (in_form k r && ltb k K && out && after) ≡ true =
      and_fst _ (eqb (dimension_of (shape_of r)) D) (and_fst _ (ghost_beside first n g global ghostly j) (and_fst _ (all_below (face_count (shape_of r)) (ghost_link first n g global ghostly K k)) e)) in
      let e2 : (in_form k r && ltb k K && out) ≡ true = and_fst (in_form k r && ltb k K && out) after e1 in
      let e3 : (in_form k r && ltb k K) ≡ true = and_fst (in_form k r && ltb k K) out e2 in
      and_intro (ltb k K && out) after (and_intro (ltb k K) out (and_snd (in_form k r) (ltb k K) e3) (and_snd (in_form k r && ltb k K) out e2)) (and_snd (in_form k r && ltb k K && out) after e1)

  -- a sound view has sound numbers
  view-numbers : (D : ℕ) → view_sound first n g global ghostly D K ≡ true → numbers_sound first n g tree ghostly K ≡ true
  unfolding view_sound numbers_sound
  view-numbers D e =
      and_intro (all_below n (tree_numbered first tree)) (all_below g (ghost_numbered first n ghostly K))
      (all_intro n (tree_numbered first tree) (λ i h. local-number D i h (all_at n (local_sound first n g global ghostly D) (and_fst (all_below n (local_sound first n g global ghostly D)) _ e) i h)))
      (all_intro g (ghost_numbered first n ghostly K) (λ j h. ghost-number D j (all_at g (ghost_sound first n g global ghostly D K) (and_snd (all_below n (local_sound first n g global ghostly D)) _ e) j h)))

  pub view_is : (D : ℕ) → view_sound first n g global ghostly D K ≡ records_sound link_between first n g tree ghostly D K
  unfolding records_sound
  view_is D =
      iff_eq (view_sound first n g global ghostly D K) (records_sound link_between first n g tree ghostly D K)
      (λ e. sym (view-records first n g K tree global ghostly seen (view-numbers D e) D) ∙ e)
      (λ e. view-records first n g K tree global ghostly seen (and_fst (numbers_sound first n g tree ghostly K) _ e) D ∙ e)
