-- Links looked at from one end: over all records it is what records_linked says, be neighbours local indices or numbers.
use Prim.Native.Nat.{ℕ, ◌+◌, ◌-◌, ◌≤◌, ◌<◌}
use native.Mathlib.Nat.{add-sub_cancel_left}
use native.Mathlib.Omega.{arith}
use mathlib.Core.Path.{◌≡◌, refl, sym, ap, ◌∙◌}
use mathlib.Core.Bool.{Bool, true, false, cond, not, ◌&&◌, and-false}
use mathlib.Core.List.{List}
use lib.Dec.{leb, ltb, eqb}
use borrow.Author.Tests.{ltb-true, eqb-true, eq-eqb, lt-ltb, le-ltb, le-leb}
use Rattle.encoding.specs.Below.{all_below, any_below, count_below, least_below, sum_below}
use Rattle.encoding.proofs.Below.{tests, either, clash, and_fst, and_snd, and_intro, iff_eq, all_at, all_intro, least_none, sum_same, count_same}
use Rattle.records.specs.Shape.{dimension_of, face_count}
use Rattle.records.specs.Record.{number_of, shape_of, neighbour_of, boundary_ok, in_form}
use Rattle.records.proofs.Forms.{form_used}
use Rattle.std.specs.Prelude.{Some}
use Rattle.std.specs.declared.option.Option.{Option}
use Rattle.mesh.specs.declared.sound.Counts.{Counts}
use Rattle.mesh.specs.Means.{link_by_dimension, SeenAs}
use Rattle.mesh.proofs.ByDimension.{Fits, fits_form}
use Rattle.part.specs.Means.{in_range, ghost_has}
use Rattle.ghost_links.specs.Means.{core_from, form_alone, ghost_ups, ghost_downs, ghost_from_one_end}
use Rattle.ghost_links.proofs.Forms.{alone_from, alone_form, alone_fits}
use Rattle.ghost_links.proofs.FromOneEnd.{tree_rule_to, tree_rule, up_tree, down_tree, ghost_rule_to, ghost_rule, ghost_whole as ghost_by_rule, Numbers, range_tree, range_both, position, there_number, boundary_other, rules_even, ghost_passes, tree_obeys, ghost_whole_lem}
use Rattle.linked.specs.declared.layout.Records.{Records}
use Rattle.linked.proofs.Seeing.{pick_true, pick_false}
use Rattle.linked.specs.Means.{tree_of, ghost_of, named, name_of, place_of, tree_numbered, tree_to, tree_link, ghost_to, ghost_link, tree_whole, ghost_whole, records_linked, tree_up, tree_down, tree_listed, tree_fits, tree_face, tree_seen, tree_ups, tree_downs, ghost_seen, records_seen, ghost_numbered, records_sound, Numbered}

module _ (bs : List ℕ) (x : Records) (N : Numbered bs x) where
  abbrev D : ℕ
  D = x.dimension

  abbrev first : ℕ
  first = x.first.0

  abbrev n : ℕ
  n = x.count

  abbrev g : ℕ
  g = x.ghosts

  abbrev K : ℕ
  K = x.trees

  abbrev tree : ℕ → List ℕ
  tree = tree_of bs x

  abbrev ghostly : ℕ → List ℕ
  ghostly = ghost_of bs x

  abbrev name : ℕ → ℕ
  name = name_of bs x

  abbrev place : ℕ → ℕ
  place = place_of bs x

  abbrev faces : List ℕ → ℕ
  faces r = face_count (shape_of r)

  -- ---- names and places

  name-local : (b : ℕ) → x.local ≡ true → name_of bs x b ≡ b
  unfolding name_of
  name-local b e = pick_true x.local _ _ e

  name-global : (b : ℕ) → x.local ≡ false → name_of bs x b ≡ cond (ltb b x.count) (x.first.0 + b) (number_of (ghost_of bs x (b - x.count)))
  unfolding name_of
  name-global b e = pick_false x.local _ _ e

  place_local : (k : ℕ) → x.local ≡ true → place_of bs x k ≡ k
  unfolding place_of
  place_local k e = pick_true x.local _ _ e

  place-global : (k : ℕ) → x.local ≡ false → place_of bs x k ≡ cond {A = ℕ} (in_range x.first.0 (x.first.0 + x.count) k) (k - x.first.0) (x.count + least_below x.ghosts (ghost_has (ghost_of bs x) k))
  unfolding place_of
  place-global k e = pick_false x.local _ _ e

  place_in : (k : ℕ) → x.local ≡ false → in_range first (first + n) k ≡ true → place_of bs x k ≡ k - x.first.0
  place_in k e p = place-global k e ∙ rw p

  place_out : (k : ℕ) → x.local ≡ false → in_range first (first + n) k ≡ false → place_of bs x k ≡ x.count + least_below x.ghosts (ghost_has (ghost_of bs x) k)
  place_out k e p = place-global k e ∙ rw p

  placed : (b : ℕ) → b < n + g → place_of bs x (name_of bs x b) ≡ b
  placed b h =
      either x.local (λ e. place_local (name_of bs x b) e ∙ name-local b e)
      (λ e. either (ltb b n)
      (λ p.
      let named : name_of bs x b ≡ first + b = name-global b e ∙ rw p in
      rw named (place_in (first + b) e (range_tree first n b (ltb-true b n p)) ∙ add-sub_cancel_left first b))
      (λ p.
      let less : b - n < g = omega tests in
      let named : name_of bs x b ≡ number_of (ghost_of bs x (b - n)) = name-global b e ∙ rw p in
      let found : least_below g (ghost_has (ghost_of bs x) (number_of (ghost_of bs x (b - n)))) ≡ b - n = position g ghostly N.ascends (b - n) less in
      rw named (place_out (number_of (ghost_of bs x (b - n))) e (N.outside (b - n) less) ∙ rw found (omega tests))))

  there : (k : ℕ) → least_below g (ghost_has ghostly k) < g → number_of (ghostly (least_below g (ghost_has ghostly k))) ≡ k
  there k h =
      there_number g ghostly k (either (any_below g (ghost_has ghostly k)) (λ q. q) (λ q. absurd (omega (arith, least_none g (ghost_has ghostly k) q))))

  named_back : (k : ℕ) → place_of bs x k < n + g → name_of bs x (place_of bs x k) ≡ k
  named_back k h =
      either x.local (λ e. name-local (place_of bs x k) e ∙ place_local k e)
      (λ e. either (in_range first (first + n) k)
      (λ p.
      let b = range_both first n k p in
      let less : k - first < n = omega (arith, b.0, b.1) in
      rw (place_in k e p) (name-global (k - first) e ∙ rw (lt-ltb (k - first) n less) (omega (arith, b.0))))
      (λ p.
      let m : ℕ = least_below g (ghost_has ghostly k) in
      let past : n ≤ n + m = omega arith in
      let low : m < g = omega (arith, place_out k e p) in
      rw (place_out k e p) (name-global (n + m) e ∙ rw (le-ltb (n + m) n past, add-sub_cancel_left n m) (there k low))))

  known : Numbers first n g K ghostly name place
  known = record { within = N.within; below = N.below; outside = N.outside; ascends = N.ascends; placed = placed; named = named_back }

  -- ---- the rules are those of the law

  tree_is : (i f : ℕ) → tree_rule (link_by_dimension D) first n g tree ghostly name place i f ≡ tree_link bs x i f
  unfolding tree_rule tree_rule_to tree_link tree_to named
  tree_is i f = refl

  ghost_is_lem : (j : ℕ) → ghost_by_rule (link_by_dimension D) first n g tree ghostly name K D j ≡ ghost_whole bs x j
  unfolding ghost_by_rule ghost_rule ghost_rule_to ghost_whole ghost_link ghost_to
  ghost_is_lem j = refl

  ghost-seen-is : (j : ℕ) → ghost_seen bs x j ≡ ghost_from_one_end (link_by_dimension D) g ghostly first n D K j
  unfolding ghost_seen
  ghost-seen-is j = refl

  -- ---- up and down

  module _ (i : ℕ) (h : i < n) where
    global-name : x.local ≡ false → name i ≡ first + i
    global-name e = name-global i e ∙ rw (lt-ltb i n h)

    module _ (f : ℕ) where
      abbrev v : ℕ
      v = named bs x i f

      outside-up : in_range first (first + n) (named bs x i f) ≡ false → (ltb (first + i) (named bs x i f) && ltb (named bs x i f) (first + n)) ≡ false
      unfolding in_range
      outside-up p =
          either (ltb (first + i) v && ltb v (first + n))
          (λ q.
          let a : first + i < v = ltb-true _ _ (and_fst (ltb (first + i) v) _ q) in
          clash (and_intro (leb first v) _ (le-leb first v (omega arith)) (and_snd (ltb (first + i) v) _ q)) p)
          (λ q. q)

      last-local : x.local ≡ true → cond {A = ℕ} x.local x.count (x.first.0 + x.count) ≡ x.count
      last-local e = pick_true x.local _ _ e

      last-global : x.local ≡ false → cond {A = ℕ} x.local x.count (x.first.0 + x.count) ≡ x.first.0 + x.count
      last-global e = pick_false x.local _ _ e

      up-place : (ltb i (place (named bs x i f)) && ltb (place (named bs x i f)) n) ≡ tree_up bs x i f
      unfolding tree_up
      up-place =
          either x.local
          (λ e. rw (place_local v e, name-local i e, last-local e))
          (λ e. either (in_range first (first + n) v)
          (λ p.
          let b = range_both first n v p in
          rw (place_in v e p, global-name e, last-global e)
          (iff_eq (ltb i (v - first) && ltb (v - first) n) (ltb (first + i) v && ltb v (first + n))
          (λ q. and_intro (ltb (first + i) v) (ltb v (first + n)) (lt-ltb (first + i) v (omega (arith, ltb-true i (v - first) (and_fst (ltb i (v - first)) _ q)))) (lt-ltb v (first + n) b.1))
          (λ q. and_intro (ltb i (v - first)) (ltb (v - first) n) (lt-ltb i (v - first) (omega (arith, ltb-true (first + i) v (and_fst (ltb (first + i) v) _ q)))) (lt-ltb (v - first) n (omega (arith, b.0, b.1))))))
          (λ p.
          let m : ℕ = least_below g (ghost_has (ghost_of bs x) v) in
          rw (place_out v e p, global-name e, last-global e, outside-up p, le-ltb (n + m) n (omega arith)) (and-false (ltb i (n + m)))))

      up_is : up_tree n tree place i f ≡ tree_up bs x i f
      unfolding up_tree named
      up_is = up-place

      same_place : eqb (place (named bs x i f)) i ≡ eqb (named bs x i f) (name i)
      same_place =
          iff_eq (eqb (place v) i) (eqb v (name i))
          (λ q. let e = eqb-true _ _ q in eq-eqb _ _ (sym (named_back v (omega arith)) ∙ ap name e))
          (λ q. eq-eqb _ _ (ap place (eqb-true _ _ q) ∙ placed i (omega arith)))

      down-place : (not (up_tree n tree place i f) && not (eqb (place (named bs x i f)) i)) ≡ tree_down bs x i f
      unfolding tree_down
      down-place = rw (up_is, same_place)

      down_is : down_tree n tree place i f ≡ tree_down bs x i f
      unfolding down_tree named
      down_is = down-place

      -- a link up leads to another tree
      up-other : tree_up bs x i f ≡ true → boundary_ok (name i) (tree i) f ≡ true
      unfolding tree_up named
      up-other e =
          let less : name i < neighbour_of (tree i) f = ltb-true _ _ (and_fst (ltb (name i) (neighbour_of (tree i) f)) _ e) in
          boundary_other (name i) (tree i) f (λ w. omega arith)

  ups-are : sum_below n (λ i. count_below (face_count (shape_of (tree_of bs x i))) (up_tree n tree place i)) ≡ sum_below n (tree_ups bs x)
  unfolding tree_ups
  ups-are = sum_same n _ (tree_ups bs x) (λ i h. count_same (faces (tree i)) (up_tree n tree place i) (tree_up bs x i) (λ f l. up_is i h f))

  downs-are : sum_below n (λ i. count_below (face_count (shape_of (tree_of bs x i))) (down_tree n tree place i)) ≡ sum_below n (tree_downs bs x)
  unfolding tree_downs
  downs-are = sum_same n _ (tree_downs bs x) (λ i h. count_same (faces (tree i)) (down_tree n tree place i) (tree_down bs x i) (λ f l. down_is i h f))

  abbrev Even : Type 0
  Even = sum_below n (tree_ups bs x) + sum_below g (ghost_ups first n g (ghost_of bs x)) ≡ sum_below n (tree_downs bs x) + sum_below g (ghost_downs g (ghost_of bs x))

  -- ---- where the definition holds

  module _ (trees : (i : ℕ) → i < n → tree_whole bs x i ≡ true) (ghosts : (j : ℕ) → j < g → ghost_whole bs x j ≡ true) where
    module _ (i : ℕ) (h : i < n) where
      abbrev formed : Bool
      formed = in_form (name_of bs x i) (tree_of bs x i)

      abbrev shaped : Bool
      shaped = eqb (dimension_of (shape_of (tree_of bs x i))) x.dimension

      whole_parts : (formed ≡ true) × (tree_numbered bs x i ≡ true) × (shaped ≡ true) × (all_below (face_count (shape_of (tree_of bs x i))) (tree_link bs x i) ≡ true)
      unfolding tree_whole
      whole_parts =
          let three = and_fst (formed && tree_numbered bs x i && shaped) _ (trees i h) in
          let two = and_fst (formed && tree_numbered bs x i) shaped three in
          (and_fst formed _ two, and_snd formed _ two, and_snd (formed && tree_numbered bs x i) shaped three, and_snd (formed && tree_numbered bs x i && shaped) _ (trees i h))

      whole-link : (f : ℕ) → f < faces (tree i) → tree_link bs x i f ≡ true
      whole-link f face = all_at (faces (tree i)) (tree_link bs x i) whole_parts.3 f face

      tree_passes : tree_seen bs x i ≡ true
      unfolding tree_seen tree_face tree_listed tree_fits
      tree_passes =
          and_intro (tree_numbered bs x i && form_alone D (tree i)) _ (and_intro (tree_numbered bs x i) _ whole_parts.1 (alone_from (name i) (tree i) D whole_parts.0 whole_parts.2))
          (all_intro (faces (tree i)) (tree_face bs x i)
          (λ f face. either (tree_up bs x i f) (λ p. rw p) (λ p. rw p (and_intro (boundary_ok (name i) (tree i) f) _ (form_used (name i) (tree i) whole_parts.0 f face) (whole-link f face)))))

    fit : (i : ℕ) → i < n → Fits D (tree i)
    fit i h = fits_form D (name i) (tree i) (and_intro (formed i h) (shaped i h) (whole_parts i h).0 (whole_parts i h).2)

    obey : (i : ℕ) → i < n → (f : ℕ) → f < faces (tree i) → tree_rule (link_by_dimension D) first n g tree ghostly name place i f ≡ true
    obey i h f face = tree_is i f ∙ whole-link i h f face

    whole : (j : ℕ) → j < g → ghost_by_rule (link_by_dimension D) first n g tree ghostly name K D j ≡ true
    whole j h = ghost_is_lem j ∙ ghosts j h

    ghosts-pass : (j : ℕ) → j < g → ghost_seen bs x j ≡ true
    ghosts-pass j h = ghost-seen-is j ∙ ghost_passes D first n g K tree ghostly name place known fit obey whole j h

    even : Even
    even = rw (ups-are, downs-are) at (rules_even D first n g K tree ghostly name place known fit obey whole)

  -- ---- where the check passes

  module _ (trees : (i : ℕ) → i < n → tree_seen bs x i ≡ true) (ghosts : (j : ℕ) → j < g → ghost_seen bs x j ≡ true) (same : Even) where
    module _ (i : ℕ) (h : i < n) where
      abbrev first_two : Bool
      first_two = tree_numbered bs x i && form_alone x.dimension (tree_of bs x i)

      seen_parts : (tree_numbered bs x i ≡ true) × (form_alone x.dimension (tree_of bs x i) ≡ true) × (all_below (face_count (shape_of (tree_of bs x i))) (tree_face bs x i) ≡ true)
      unfolding tree_seen
      seen_parts =
          let two = and_fst first_two _ (trees i h) in
          (and_fst (tree_numbered bs x i) _ two, and_snd (tree_numbered bs x i) _ two, and_snd first_two _ (trees i h))

      -- a link that doesn't lead up
      seen-down : (f : ℕ) → f < faces (tree i) → tree_up bs x i f ≡ false → (boundary_ok (name i) (tree i) f ≡ true) × (tree_link bs x i f ≡ true)
      unfolding tree_face tree_listed tree_fits
      seen-down f face p =
          let both : (boundary_ok (name i) (tree i) f && tree_link bs x i f) ≡ true = rw p at (all_at (faces (tree i)) (tree_face bs x i) seen_parts.2 f face) in
          (and_fst (boundary_ok (name i) (tree i) f) _ both, and_snd (boundary_ok (name i) (tree i) f) _ both)

      edges : (f : ℕ) → f < faces (tree i) → boundary_ok (name i) (tree i) f ≡ true
      edges f face = either (tree_up bs x i f) (λ p. up-other i h f p) (λ p. (seen-down f face p).0)

    fitting : (i : ℕ) → i < n → Fits D (tree i)
    fitting i h = alone_fits (name i) (tree i) D (seen_parts i h).1

    downs : (i : ℕ) → i < n → (f : ℕ) → f < faces (tree i) → up_tree n tree place i f ≡ false → tree_rule (link_by_dimension D) first n g tree ghostly name place i f ≡ true
    downs i h f face e = tree_is i f ∙ (seen-down i h f face (sym (up_is i h f) ∙ e)).1

    ghosts-seen : (j : ℕ) → j < g → ghost_from_one_end (link_by_dimension D) g ghostly first n D K j ≡ true
    ghosts-seen j h = sym (ghost-seen-is j) ∙ ghosts j h

    counted : sum_below n (λ i. count_below (faces (tree i)) (up_tree n tree place i)) + sum_below g (ghost_ups first n g ghostly) ≡ sum_below n (λ i. count_below (faces (tree i)) (down_tree n tree place i)) + sum_below g (ghost_downs g ghostly)
    counted = rw (ups-are, downs-are) same

    tree-whole : (i : ℕ) → i < n → tree_whole bs x i ≡ true
    unfolding tree_whole
    tree-whole i h =
        let form : Bool = in_form (name i) (tree i) in
        let shape : Bool = eqb (dimension_of (shape_of (tree i))) D in
        let both = alone_form (name i) (tree i) D (seen_parts i h).1 (edges i h) in
        let links : all_below (faces (tree i)) (tree_link bs x i) ≡ true =
        all_intro (faces (tree i)) (tree_link bs x i) (λ f face. sym (tree_is i f) ∙ tree_obeys D first n g K tree ghostly name place known fitting downs ghosts-seen counted i h f face) in
        and_intro (form && tree_numbered bs x i && shape) _ (and_intro (form && tree_numbered bs x i) shape (and_intro form _ (and_fst form shape both) (seen_parts i h).0) (and_snd form shape both)) links

    ghost_linked : (j : ℕ) → j < g → ghost_whole bs x j ≡ true
    ghost_linked j h = sym (ghost_is_lem j) ∙ ghost_whole_lem D first n g K tree ghostly name place known fitting downs ghosts-seen counted j h

  -- ---- over all records the check from one end says the same

  abbrev trees_test : Bool
  trees_test = all_below x.count (tree_seen bs x)

  abbrev ghosts_test : Bool
  ghosts_test = all_below x.ghosts (ghost_seen bs x)

  passes-linked : records_seen bs x ≡ true → records_linked bs x ≡ true
  unfolding records_seen records_linked
  passes-linked e =
      let both = and_fst (trees_test && ghosts_test) _ e in
      let trees = all_at n (tree_seen bs x) (and_fst trees_test ghosts_test both) in
      let ghosts = all_at g (ghost_seen bs x) (and_snd trees_test ghosts_test both) in
      let same = eqb-true _ _ (and_snd (trees_test && ghosts_test) _ e) in
      and_intro (all_below n (tree_whole bs x)) _ (all_intro n (tree_whole bs x) (tree-whole trees ghosts same)) (all_intro g (ghost_whole bs x) (ghost_linked trees ghosts same))

  linked-passes : records_linked bs x ≡ true → records_seen bs x ≡ true
  unfolding records_seen records_linked
  linked-passes e =
      let trees = all_at n (tree_whole bs x) (and_fst (all_below n (tree_whole bs x)) _ e) in
      let ghosts = all_at g (ghost_whole bs x) (and_snd (all_below n (tree_whole bs x)) _ e) in
      and_intro (trees_test && ghosts_test) _
      (and_intro trees_test ghosts_test (all_intro n (tree_seen bs x) (tree_passes trees ghosts)) (all_intro g (ghost_seen bs x) (ghosts-pass trees ghosts)))
      (eq-eqb _ _ (even trees ghosts))

  pub from_one_end : records_seen bs x ≡ records_linked bs x
  from_one_end = iff_eq _ _ passes-linked linked-passes

  -- ---- what the code finds

  pub trees_fail : trees_test ≡ false → false ≡ records_linked bs x
  unfolding records_seen
  trees_fail e = sym (sym from_one_end ∙ rw e)

  pub ghosts_fail : ghosts_test ≡ false → false ≡ records_linked bs x
  unfolding records_seen
  ghosts_fail e = sym (sym from_one_end ∙ rw (e, and-false trees_test))

  pub links_counted : {most : ℕ} {seen : Counts} → SeenAs trees_test (sum_below x.count (tree_ups bs x)) (sum_below x.count (tree_downs bs x)) most (Some seen)
      → {most' : ℕ} {seen' : Counts} → SeenAs ghosts_test (sum_below x.ghosts (ghost_ups x.first.0 x.count x.ghosts (ghost_of bs x))) (sum_below x.ghosts (ghost_downs x.ghosts (ghost_of bs x))) most' (Some seen')
      → eqb (seen.ups + seen'.ups) (seen.downs + seen'.downs) ≡ records_linked bs x
  unfolding records_seen
  links_counted t s = rw (t.1.upward, t.1.downward, s.1.upward, s.1.downward) (sym (sym from_one_end ∙ rw (t.0, s.0)))

-- the ghosts as they are looked at
pub ghosts_read : (bs : List ℕ) (x : Records) (most : ℕ) (seen : Option Counts)
    → SeenAs (all_below x.ghosts (ghost_from_one_end (link_by_dimension x.dimension) x.ghosts (core_from bs x.tail) x.first.0 x.count x.dimension x.trees)) (sum_below x.ghosts (ghost_ups x.first.0 x.count x.ghosts (core_from bs x.tail))) (sum_below x.ghosts (ghost_downs x.ghosts (core_from bs x.tail))) most seen
    → SeenAs (all_below x.ghosts (ghost_seen bs x)) (sum_below x.ghosts (ghost_ups x.first.0 x.count x.ghosts (ghost_of bs x))) (sum_below x.ghosts (ghost_downs x.ghosts (ghost_of bs x))) most seen
unfolding ghost_seen ghost_of
ghosts_read bs x most seen s = s

-- the numbers of the ghosts come first
module _ (bs : List ℕ) (x : Records) where
  pub sound_unnumbered : all_below x.ghosts (ghost_numbered bs x) ≡ false → false ≡ records_sound bs x
  unfolding records_sound
  sound_unnumbered e = rw e

  pub sound_numbered : {r : Bool} → all_below x.ghosts (ghost_numbered bs x) ≡ true → r ≡ records_linked bs x → r ≡ records_sound bs x
  unfolding records_sound
  sound_numbered e p = rw (e, p)
