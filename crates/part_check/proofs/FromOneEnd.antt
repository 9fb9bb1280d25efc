-- A part's links looked at from one end: over all records it is what records_sound says. Its trees have local indices for their neighbours.
use Prim.Native.Nat.{ℕ, ◌+◌, ◌≤◌, ◌<◌}
use native.Mathlib.Omega.{arith}
use mathlib.Core.Path.{◌≡◌, refl, sym, ◌∙◌}
use mathlib.Core.Bool.{Bool, true, false, ◌&&◌}
use mathlib.Core.List.{List}
use lib.Dec.{ltb, eqb}
use borrow.Author.Tests.{ltb-true, eqb-true, eq-eqb}
use Rattle.encoding.specs.Below.{all_below}
use Rattle.encoding.proofs.Below.{either, and_fst, and_snd, and_intro, iff_eq, all_at, all_intro, all_and}
use Rattle.records.specs.Shape.{dimension_of, face_count}
use Rattle.records.specs.Record.{shape_of, neighbour_of, boundary_ok, in_form}
use Rattle.records.proofs.Forms.{form_used}
use Rattle.mesh.specs.Means.{link_by_dimension}
use Rattle.mesh.proofs.ByDimension.{Fits, fits_form}
use Rattle.ghost_links.specs.Means.{form_alone, ghost_from_one_end}
use Rattle.ghost_links.proofs.Forms.{alone_from, alone_form, alone_fits}
use Rattle.ghost_links.proofs.FromOneEnd.{tree_rule_to, tree_rule, up_tree, down_tree, ghost_rule_to, ghost_rule, ghost_whole, Numbers, boundary_other, rules_even, ghost_passes, tree_obeys, ghost_whole_lem}
use Rattle.part_check.specs.Means.{tree_to, tree_face, tree_fits, tree_stored, tree_numbered, ghost_numbered, numbers_sound, ghost_to, ghost_face, ghost_stored, records_sound, tree_up, tree_down, tree_ups, tree_downs, even_links, tree_face_down, tree_from_one_end, tree_seen, records_from_one_end}
use Rattle.part_check.proofs.Judging.{tree_number, ghost_below, ghost_outside, ghosts_ascend}

module _ (D first n g K : ℕ) (tree ghostly : ℕ → List ℕ) (within : first + n ≤ K) (numbers : numbers_sound first n g tree ghostly K ≡ true) where
  abbrev faces : List ℕ → ℕ
  faces r = face_count (shape_of r)

  -- a tree's record has a local index as it is
  known : Numbers first n g K ghostly (λ b. b) (λ v. v)
  known =
      record {
        within = within;
        below = ghost_below first n g K tree ghostly numbers;
        outside = ghost_outside first n g K tree ghostly numbers;
        ascends = ghosts_ascend first n g K tree ghostly numbers;
        placed = λ b h. refl;
        named = λ v h. refl;
      }

  tree_is : (i : ℕ) → i < n → (f : ℕ) → tree_rule (link_by_dimension D) first n g tree ghostly (λ b. b) (λ v. v) i f ≡ tree_face (link_by_dimension D) n g tree ghostly i f
  unfolding tree_rule tree_rule_to tree_face tree_to
  tree_is i h f = rw (tree_number first n g K tree ghostly numbers i h)

  ghost_is_lem : (j : ℕ) → ghost_whole (link_by_dimension D) first n g tree ghostly (λ b. b) K D j ≡ ghost_stored (link_by_dimension D) first n g tree ghostly D K j
  unfolding ghost_whole ghost_rule ghost_rule_to ghost_stored ghost_face ghost_to
  ghost_is_lem j = refl

  up_is : (i f : ℕ) → up_tree n tree (λ v. v) i f ≡ tree_up n tree i f
  unfolding up_tree tree_up
  up_is i f = refl

  -- ---- where the definition holds

  module _ (trees : (i : ℕ) → i < n → tree_stored (link_by_dimension D) n g tree ghostly D i ≡ true) (ghosts : (j : ℕ) → j < g → ghost_stored (link_by_dimension D) first n g tree ghostly D K j ≡ true) where
    module _ (i : ℕ) (h : i < n) where
      abbrev formed : Bool
      formed = in_form i (tree i) && eqb (dimension_of (shape_of (tree i))) D

      tree_parts : (formed ≡ true) × (all_below (faces (tree i)) (tree_face (link_by_dimension D) n g tree ghostly i) ≡ true)
      unfolding tree_stored
      tree_parts = (and_fst formed _ (trees i h), and_snd formed _ (trees i h))

      tree-formed : in_form i (tree i) ≡ true
      tree-formed = and_fst (in_form i (tree i)) _ tree_parts.0

      tree-face : (f : ℕ) → f < faces (tree i) → tree_face (link_by_dimension D) n g tree ghostly i f ≡ true
      tree-face f face = all_at (faces (tree i)) (tree_face (link_by_dimension D) n g tree ghostly i) tree_parts.1 f face

      tree_passes : tree_from_one_end (link_by_dimension D) n g tree ghostly D i ≡ true
      unfolding tree_from_one_end tree_face_down tree_fits
      tree_passes =
          and_intro (form_alone D (tree i)) _ (alone_from i (tree i) D tree-formed (and_snd (in_form i (tree i)) _ tree_parts.0))
          (all_intro (faces (tree i)) (tree_face_down (link_by_dimension D) n g tree ghostly i)
          (λ f face. either (tree_up n tree i f) (λ p. rw p) (λ p. rw p (and_intro (boundary_ok i (tree i) f) _ (form_used i (tree i) tree-formed f face) (tree-face f face)))))

    fit : (i : ℕ) → i < n → Fits D (tree i)
    fit i h = fits_form D i (tree i) (tree_parts i h).0

    obey : (i : ℕ) → i < n → (f : ℕ) → f < faces (tree i) → tree_rule (link_by_dimension D) first n g tree ghostly (λ b. b) (λ v. v) i f ≡ true
    obey i h f face = tree_is i h f ∙ tree-face i h f face

    whole : (j : ℕ) → j < g → ghost_whole (link_by_dimension D) first n g tree ghostly (λ b. b) K D j ≡ true
    whole j h = ghost_is_lem j ∙ ghosts j h

    ghosts-pass : (j : ℕ) → j < g → ghost_from_one_end (link_by_dimension D) g ghostly first n D K j ≡ true
    ghosts-pass = ghost_passes D first n g K tree ghostly (λ b. b) (λ v. v) known fit obey whole

    even : even_links first n g tree ghostly ≡ true
    unfolding even_links tree_ups tree_downs tree_up tree_down up_tree down_tree
    even = eq-eqb _ _ (rules_even D first n g K tree ghostly (λ b. b) (λ v. v) known fit obey whole)

  -- ---- where the check passes

  module _ (trees : (i : ℕ) → i < n → tree_from_one_end (link_by_dimension D) n g tree ghostly D i ≡ true) (ghosts : (j : ℕ) → j < g → ghost_from_one_end (link_by_dimension D) g ghostly first n D K j ≡ true)
      (same : even_links first n g tree ghostly ≡ true) where
    module _ (i : ℕ) (h : i < n) where
      tree-alone : form_alone D (tree i) ≡ true
      unfolding tree_from_one_end
      tree-alone = and_fst (form_alone D (tree i)) _ (trees i h)

      -- a link that doesn't lead up
      tree-down : (f : ℕ) → f < faces (tree i) → tree_up n tree i f ≡ false → (boundary_ok i (tree i) f ≡ true) × (tree_face (link_by_dimension D) n g tree ghostly i f ≡ true)
      unfolding tree_from_one_end tree_face_down tree_fits
      tree-down f face p =
          let both : (boundary_ok i (tree i) f && tree_face (link_by_dimension D) n g tree ghostly i f) ≡ true =
          rw p at (all_at (faces (tree i)) (tree_face_down (link_by_dimension D) n g tree ghostly i) (and_snd (form_alone D (tree i)) _ (trees i h)) f face) in
          (and_fst (boundary_ok i (tree i) f) _ both, and_snd (boundary_ok i (tree i) f) _ both)

      -- one that does is no boundary
      edge : (f : ℕ) → f < faces (tree i) → boundary_ok i (tree i) f ≡ true
      unfolding tree_up
      edge f face =
          let k : ℕ = neighbour_of (tree i) f in
          either (ltb i k && ltb k n)
          (λ e. let higher : i < k = ltb-true i k (and_fst (ltb i k) _ e) in boundary_other i (tree i) f (λ w. omega arith))
          (λ e. (tree-down f face e).0)

    fitting : (i : ℕ) → i < n → Fits D (tree i)
    fitting i h = alone_fits i (tree i) D (tree-alone i h)

    downs : (i : ℕ) → i < n → (f : ℕ) → f < faces (tree i) → up_tree n tree (λ v. v) i f ≡ false → tree_rule (link_by_dimension D) first n g tree ghostly (λ b. b) (λ v. v) i f ≡ true
    downs i h f face e = tree_is i h f ∙ (tree-down i h f face (sym (up_is i f) ∙ e)).1

    links : (i : ℕ) → i < n → (f : ℕ) → f < faces (tree i) → tree_face (link_by_dimension D) n g tree ghostly i f ≡ true
    unfolding even_links tree_ups tree_downs tree_up tree_down up_tree down_tree
    links i h f face = sym (tree_is i h f) ∙ tree_obeys D first n g K tree ghostly (λ b. b) (λ v. v) known fitting downs ghosts (eqb-true _ _ same) i h f face

    tree_stored_lem : (i : ℕ) → i < n → tree_stored (link_by_dimension D) n g tree ghostly D i ≡ true
    unfolding tree_stored
    tree_stored_lem i h =
        and_intro (in_form i (tree i) && eqb (dimension_of (shape_of (tree i))) D) _ (alone_form i (tree i) D (tree-alone i h) (edge i h))
        (all_intro (faces (tree i)) (tree_face (link_by_dimension D) n g tree ghostly i) (links i h))

    ghost-stored : (j : ℕ) → j < g → ghost_stored (link_by_dimension D) first n g tree ghostly D K j ≡ true
    unfolding even_links tree_ups tree_downs tree_up tree_down up_tree down_tree
    ghost-stored j h = sym (ghost_is_lem j) ∙ ghost_whole_lem D first n g K tree ghostly (λ b. b) (λ v. v) known fitting downs ghosts (eqb-true _ _ same) j h

-- the trees with their numbers
module _ (D first n g : ℕ) (tree ghostly : ℕ → List ℕ) where
  pub trees_seen : all_below n (tree_seen (link_by_dimension D) first n g tree ghostly D) ≡ (all_below n (tree_numbered first tree) && all_below n (tree_from_one_end (link_by_dimension D) n g tree ghostly D))
  unfolding tree_seen
  trees_seen = all_and n (tree_numbered first tree) (tree_from_one_end (link_by_dimension D) n g tree ghostly D)

-- over all records the check from one end says the same
module _ (D first n g K : ℕ) (tree ghostly : ℕ → List ℕ) (within : first + n ≤ K) where
  -- the parts of the check
  seen_parts : records_from_one_end (link_by_dimension D) first n g tree ghostly D K ≡ true
      → (numbers_sound first n g tree ghostly K ≡ true) × (all_below n (tree_from_one_end (link_by_dimension D) n g tree ghostly D) ≡ true)
      × (all_below g (ghost_from_one_end (link_by_dimension D) g ghostly first n D K) ≡ true) × (even_links first n g tree ghostly ≡ true)
  unfolding records_from_one_end numbers_sound
  seen_parts e =
      let a : Bool = all_below g (ghost_numbered first n ghostly K) in
      let b : Bool = all_below n (tree_seen (link_by_dimension D) first n g tree ghostly D) in
      let d : Bool = all_below g (ghost_from_one_end (link_by_dimension D) g ghostly first n D K) in
      let rest = and_snd a _ e in
      let both = sym (trees_seen D first n g tree ghostly) ∙ and_fst b _ rest in
      let x : Bool = all_below n (tree_numbered first tree) in
      (and_intro x a (and_fst x _ both) (and_fst a _ e), and_snd x _ both, and_fst d _ (and_snd b _ rest), and_snd d _ (and_snd b _ rest))

  sound-parts : records_sound (link_by_dimension D) first n g tree ghostly D K ≡ true
      → (numbers_sound first n g tree ghostly K ≡ true) × (all_below n (tree_stored (link_by_dimension D) n g tree ghostly D) ≡ true) × (all_below g (ghost_stored (link_by_dimension D) first n g tree ghostly D K) ≡ true)
  unfolding records_sound
  sound-parts e =
      let a : Bool = numbers_sound first n g tree ghostly K in
      let b : Bool = all_below n (tree_stored (link_by_dimension D) n g tree ghostly D) in
      (and_fst a _ e, and_fst b _ (and_snd a _ e), and_snd b _ (and_snd a _ e))

  seen-sound : records_from_one_end (link_by_dimension D) first n g tree ghostly D K ≡ true → records_sound (link_by_dimension D) first n g tree ghostly D K ≡ true
  unfolding records_sound
  seen-sound e =
      let s = seen_parts e in
      let trees = all_at n (tree_from_one_end (link_by_dimension D) n g tree ghostly D) s.1 in
      let ghosts = all_at g (ghost_from_one_end (link_by_dimension D) g ghostly first n D K) s.2 in
      and_intro (numbers_sound first n g tree ghostly K) _ s.0
      (and_intro (all_below n (tree_stored (link_by_dimension D) n g tree ghostly D)) _
      (all_intro n (tree_stored (link_by_dimension D) n g tree ghostly D) (tree_stored_lem D first n g K tree ghostly within s.0 trees ghosts s.3))
      (all_intro g (ghost_stored (link_by_dimension D) first n g tree ghostly D K) (ghost-stored D first n g K tree ghostly within s.0 trees ghosts s.3)))

  sound-seen : records_sound (link_by_dimension D) first n g tree ghostly D K ≡ true → records_from_one_end (link_by_dimension D) first n g tree ghostly D K ≡ true
  unfolding records_from_one_end numbers_sound
  sound-seen e =
      let s = sound-parts e in
      let trees = all_at n (tree_stored (link_by_dimension D) n g tree ghostly D) s.1 in
      let ghosts = all_at g (ghost_stored (link_by_dimension D) first n g tree ghostly D K) s.2 in
      let x : Bool = all_below n (tree_numbered first tree) in
      let a : Bool = all_below g (ghost_numbered first n ghostly K) in
      and_intro a _ (and_snd x a s.0)
      (and_intro (all_below n (tree_seen (link_by_dimension D) first n g tree ghostly D)) _
      (trees_seen D first n g tree ghostly ∙ and_intro x _ (and_fst x a s.0) (all_intro n (tree_from_one_end (link_by_dimension D) n g tree ghostly D) (tree_passes D first n g K tree ghostly within s.0 trees ghosts)))
      (and_intro (all_below g (ghost_from_one_end (link_by_dimension D) g ghostly first n D K)) _
      (all_intro g (ghost_from_one_end (link_by_dimension D) g ghostly first n D K) (ghosts-pass D first n g K tree ghostly within s.0 trees ghosts))
      (even D first n g K tree ghostly within s.0 trees ghosts)))

  pub records_from_one_end_lem : records_from_one_end (link_by_dimension D) first n g tree ghostly D K ≡ records_sound (link_by_dimension D) first n g tree ghostly D K
  records_from_one_end_lem = iff_eq _ _ seen-sound sound-seen
