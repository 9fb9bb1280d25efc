-- What the functions that check a column file find.
use Prim.Native.Nat.{ℕ, ◌+◌, ◌-◌, ◌*◌, ◌≤◌, ◌<◌}
use native.Mathlib.Omega.{arith}
use mathlib.Core.Path.{◌≡◌, refl, sym, ◌∙◌}
use mathlib.Core.Bool.{Bool, true, false, not, ◌&&◌, ◌||◌}
use mathlib.Core.List.{List}
use lib.Dec.{leb, ltb, eqb}
use lib.ListN.{length, get_or}
use borrow.Author.Tests.{lt-ltb, le-ltb, eq-eqb, ne_eqb, eqb-true, ltb-true}
use Rattle.encoding.specs.Below.{all_below, any_below, least_below}
use Rattle.encoding.specs.Numbers.{u32_at}
use Rattle.encoding.proofs.Below.{either, clash, iff_eq, and_fst, and_snd, and_intro, all_at, all_intro, least_lt}
use Rattle.records.specs.Shape.{face_count}
use Rattle.records.specs.Record.{unused, core_size, number_of, shape_of, neighbour_of, code_of, unused_ok, boundary_ok}
use Rattle.records.specs.Means.{face_form}
use Rattle.mesh.specs.Link.{orientation_ok}
use Rattle.mesh.specs.Means.{link_by_dimension}
use Rattle.part.specs.Layout.{part_size}
use Rattle.part.specs.Means.{in_range, neighbour_in, ghost_has}
use Rattle.ghost_links.specs.Means.{ghost_up, ghost_down, ghost_listed, ghost_low, ghost_answered}
use Rattle.ghost_links.proofs.Checking.{not_leb}
use Rattle.part_check.specs.Means.{tree_to, tree_face, tree_up, tree_down, tree_numbered, ghost_behind, ghost_numbered, numbers_sound, PartLaid}
use Rattle.columns_read.specs.Columns.{spaced}
use Rattle.columns_read.specs.Means.{tree_column, ghost_column, head_ok, side_ok, side_has, tree_head, tree_side, tree_side_up, tree_side_down}
use Rattle.columns_check.specs.Means.{side_low, ghost_head, ghost_side_low, ghost_side_up, ghost_side_down, ghost_side_listed, links_sound, columns_found, FileNumbered, HeldAs}
use Rattle.columns_check.specs.declared.sound.Target.{Target}

or_fst : (a b : Bool) → (a || b) ≡ false → a ≡ false
or_fst true b e = e
or_fst false b e = refl

or_snd : (a b : Bool) → (a || b) ≡ false → b ≡ false
or_snd true b e = clash refl e
or_snd false b e = e

-- ---- trees

module _ (file : List ℕ) (n i : ℕ) where
  module _ (first : ℕ) {v : ℕ} (number : v ≡ u32_at (spaced file (32 + i) n core_size) 0) where
    pub numbered_below : v < first → false ≡ tree_numbered first (tree_column file n) i
    unfolding tree_numbered tree_column number_of
    numbered_below h = rw (← number, ne_eqb v (first + i) (λ e. omega arith))

    pub numbered_is : (t : ℕ) → t + first ≡ v → eqb t i ≡ tree_numbered first (tree_column file n) i
    unfolding tree_numbered tree_column number_of
    numbered_is t e =
        rw (← number) (iff_eq (eqb t i) (eqb v (first + i)) (λ p. eq-eqb v (first + i) (omega (arith, eqb-true t i p))) (λ p. eq-eqb t i (omega (arith, eqb-true v (first + i) p))))

  pub head_both : (first g D K : ℕ) {a b : Bool} → a ≡ tree_numbered first (tree_column file n) i → b ≡ head_ok D (spaced file (32 + i) n core_size)
      → tree_head (link_by_dimension D) first n g (tree_column file n) (ghost_column file n g) D K i ≡ (a && b)
  unfolding tree_head tree_column
  head_both first g D K p q = rw (p, q)

module _ (file : List ℕ) (D first n g K i f : ℕ) where
  abbrev core : List ℕ
  core = spaced file (32 + i) n core_size

  abbrev side : Bool
  side = tree_side (link_by_dimension D) first n g (tree_column file n) (ghost_column file n g) D K f i

  module _ {a : Bool} (form : a ≡ face_form i core f) where
    pub side_unformed : a ≡ false → false ≡ side
    unfolding tree_side side_ok tree_column
    side_unformed h = rw (← form, h)

    module _ (ok : a ≡ true) {shape faces : ℕ} (s : shape ≡ get_or core 4 0) (c : faces ≡ face_count shape) where
      pub side_none : faces ≤ f → true ≡ side
      unfolding tree_side side_ok tree_column shape_of
      side_none h = rw (← form, ok, ← s, ← c, le-ltb f faces h)

      module _ (used : f < faces) {j : ℕ} (m : j ≡ u32_at core (8 + 4 * f)) where
        pub side_up : (ltb i j && ltb j n) ≡ true → true ≡ side
        unfolding tree_side side_ok tree_column shape_of tree_up neighbour_of
        side_up h = rw (← form, ok, ← s, ← c, lt-ltb f faces used, ← m, h)

        module _ (down : (ltb i j && ltb j n) ≡ false) where
          pub side_past : (ltb j n || ltb (j - n) g) ≡ false → false ≡ side
          unfolding tree_side side_ok tree_column shape_of tree_up tree_face tree_to neighbour_of
          side_past none =
              let out : ltb j n ≡ false = or_fst (ltb j n) (ltb (j - n) g) none in
              let past : ltb (j - n) g ≡ false = or_snd (ltb j n) (ltb (j - n) g) none in
              rw (← form, ok, ← s, ← c, lt-ltb f faces used, ← m, down, out, past)

          pub side_held : {there : Target} {t : Bool} → HeldAs file n g i j there → t ≡ link_by_dimension D there.back core f (spaced file there.to there.gap core_size) → t ≡ side
          unfolding tree_side side_ok tree_column ghost_column shape_of tree_up tree_face tree_to neighbour_of number_of
          side_held {there} held p =
              let at_back = held.leads in
              let at_place = held.place in
              let at_gap = held.apart in
              let some = held.is in
              either (ltb j n)
              (λ e.
              let b : there.back ≡ i = rw e at at_back in
              let t : there.to ≡ 32 + j = rw e at at_place in
              let w : there.gap ≡ n = rw e at at_gap in
              rw (← form, ok, ← s, ← c, lt-ltb f faces used, ← m, down, e) (rw (b, t, w) at p))
              (λ e.
              let b : there.back ≡ u32_at core 0 = rw e at at_back in
              let t : there.to ≡ 32 + 64 * n + (j - n) = rw e at at_place in
              let w : there.gap ≡ g = rw e at at_gap in
              let inside : ltb (j - n) g ≡ true = rw e at some in
              rw (← form, ok, ← s, ← c, lt-ltb f faces used, ← m, down, e, inside) (rw (b, t, w) at p))

-- what stands at a local index
module _ (file : List ℕ) (n g i j : ℕ) (long : length file ≡ part_size n g) where
  pub target_tree : j < n → HeldAs file n g i j (record { back = i; to = 32 + j; gap = n })
  target_tree h = let e : ltb j n ≡ true = lt-ltb j n h in record { is = rw e; leads = rw e; place = rw e; apart = rw e; fits = omega arith }

  module _ (out : n ≤ j) where
    pub target_ghost : {v : ℕ} → j - n < g → v ≡ u32_at (spaced file (32 + i) n core_size) 0 → HeldAs file n g i j (record { back = v; to = 32 + 64 * n + (j - n); gap = g })
    target_ghost h r =
        let e : ltb j n ≡ false = le-ltb j n out in
        record { is = rw (e, lt-ltb (j - n) g h); leads = rw e r; place = rw e; apart = rw e; fits = omega arith }

    pub target_none : g ≤ j - n → (ltb j n || ltb (j - n) g) ≡ false
    target_none h = rw (le-ltb j n out, le-ltb (j - n) g h)

-- a tree's link, and where it leads
module _ (file : List ℕ) (n i f : ℕ) {shape faces j : ℕ} (s : shape ≡ get_or (spaced file (32 + i) n core_size) 4 0) (c : faces ≡ face_count shape) (m : j ≡ u32_at (spaced file (32 + i) n core_size) (8 + 4 * f)) where
  pub up_read : (ltb f faces && (ltb i j && ltb j n)) ≡ tree_side_up n (tree_column file n) f i
  unfolding tree_side_up side_has tree_up tree_column shape_of neighbour_of
  up_read = rw (← m, ← s, ← c)

  pub down_read : (ltb f faces && (not (ltb i j && ltb j n) && not (eqb j i))) ≡ tree_side_down n (tree_column file n) f i
  unfolding tree_side_down side_has tree_down tree_up tree_column shape_of neighbour_of
  down_read = rw (← m, ← s, ← c)

-- ---- ghosts

module _ (file : List ℕ) (first n g K j : ℕ) {v : ℕ} (number : v ≡ u32_at (spaced file (32 + 64 * n + j) g core_size) 0) {b : Bool} (inside : b ≡ in_range first (first + n) v) where
  pub numbered_not : (ltb v K && not b) ≡ false → false ≡ ghost_numbered first n (ghost_column file n g) K j
  unfolding ghost_numbered ghost_column number_of
  numbered_not h = rw (← number, ← inside, h)

  pub numbered_first : (ltb v K && not b) ≡ true → j ≡ 0 → true ≡ ghost_numbered first n (ghost_column file n g) K j
  unfolding ghost_numbered ghost_behind ghost_column number_of
  numbered_first h z = rw (← number, ← inside, h, eq-eqb j 0 z)

  pub numbered_next : {w : ℕ} → (ltb v K && not b) ≡ true → (j ≡ 0 → ⊥) → w ≡ u32_at (spaced file (32 + 64 * n + (j - 1)) g core_size) 0 → ltb w v ≡ ghost_numbered first n (ghost_column file n g) K j
  unfolding ghost_numbered ghost_behind ghost_column number_of
  numbered_next h z e = rw (← number, ← inside, h, ne_eqb j 0 z, ← e)

pub heads_both : (file : List ℕ) (D first n g K j : ℕ) {a b : Bool} {shape faces : ℕ} → a ≡ head_ok D (spaced file (32 + 64 * n + j) g core_size) → shape ≡ get_or (spaced file (32 + 64 * n + j) g core_size) 4 0
    → faces ≡ face_count shape → b ≡ any_below faces (neighbour_in first (first + n) (spaced file (32 + 64 * n + j) g core_size))
    → ghost_head (link_by_dimension D) first n g (tree_column file n) (ghost_column file n g) D K j ≡ (a && b)
unfolding ghost_head ghost_column shape_of
heads_both file D first n g K j p s c q = rw (p, q, c, s)

-- the link of a ghost
module _ (file : List ℕ) (n g j f : ℕ) where
  abbrev row : List ℕ
  row = spaced file (32 + 64 * n + j) g core_size

  module _ {shape faces : ℕ} (s : shape ≡ get_or row 4 0) (c : faces ≡ face_count shape) where
    module _ {k : ℕ} (m : k ≡ u32_at row (8 + 4 * f)) where
      pub low_none : {code : ℕ} (K : ℕ) → faces ≤ f → code ≡ get_or row (32 + f) 0 → (eqb k unused && eqb code 0) ≡ ghost_side_low K (ghost_column file n g) f j
      unfolding ghost_side_low side_low ghost_column shape_of unused_ok neighbour_of code_of
      low_none K h e = rw (← m, ← e, ← s, ← c, le-ltb f faces h)

      pub low_some : {o : Bool} (K : ℕ) → f < faces → o ≡ orientation_ok row f → (ltb k K && o) ≡ ghost_side_low K (ghost_column file n g) f j
      unfolding ghost_side_low side_low ghost_low ghost_column shape_of neighbour_of
      low_some K h e = rw (← m, ← e, ← s, ← c, lt-ltb f faces h)

      pub low_under : (K : ℕ) {room : ℕ} → f < faces → ghost_side_low K (ghost_column file n g) f j ≡ true → K ≤ room → k < room
      unfolding ghost_side_low side_low ghost_low ghost_column shape_of neighbour_of
      low_under K h e l =
          let both : (ltb k K && orientation_ok row f) ≡ true = rw (← m, ← s, ← c, lt-ltb f faces h) at e in
          omega (arith, ltb-true k K (and_fst (ltb k K) _ both))

      module _ {own : ℕ} {h : Bool} (used : f < faces) (number : own ≡ u32_at row 0) (held : h ≡ any_below g (ghost_has (ghost_column file n g) k)) where
        pub listed_read : (h && leb k own) ≡ ghost_side_listed g (ghost_column file n g) f j
        unfolding ghost_side_listed side_has ghost_listed ghost_column shape_of neighbour_of number_of
        listed_read = rw (← m, ← number, ← s, ← c, lt-ltb f faces used, held)

        pub ghost_up_read : {b : Bool} (first : ℕ) → b ≡ in_range first (first + n) k → (b || (h && not (leb k own))) ≡ ghost_side_up first n g (ghost_column file n g) f j
        unfolding ghost_side_up side_has ghost_up ghost_column shape_of neighbour_of number_of
        ghost_up_read first e = rw (← m, ← number, ← s, ← c, lt-ltb f faces used, held, e, not_leb k own)

        pub ghost_down_read : (h && ltb k own) ≡ ghost_side_down g (ghost_column file n g) f j
        unfolding ghost_side_down side_has ghost_down ghost_column shape_of neighbour_of number_of
        ghost_down_read = rw (← m, ← number, ← s, ← c, lt-ltb f faces used, held)

    -- a face that the shape doesn't have leads nowhere
    pub none_leads : faces ≤ f → (first : ℕ) → (false ≡ ghost_side_listed g (ghost_column file n g) f j) × (false ≡ ghost_side_up first n g (ghost_column file n g) f j) × (false ≡ ghost_side_down g (ghost_column file n g) f j)
    unfolding ghost_side_listed ghost_side_up ghost_side_down side_has ghost_column shape_of
    none_leads h first = rw (← s, ← c, le-ltb f faces h) (refl, refl, refl)

  -- the rules of a link that is listed
  module _ (listed : ghost_side_listed g (ghost_column file n g) f j ≡ true) where
    has-face : f < face_count (shape_of (ghost_column file n g j))
    unfolding ghost_side_listed side_has
    has-face = ltb-true f _ (and_fst (ltb f (face_count (shape_of (ghost_column file n g j)))) _ listed)

    listed-held : {k : ℕ} → k ≡ u32_at row (8 + 4 * f) → any_below g (ghost_has (ghost_column file n g) k) ≡ true
    unfolding ghost_side_listed side_has ghost_listed ghost_column neighbour_of
    listed-held m =
        let both = and_snd (ltb f (face_count (shape_of row))) _ listed in
        rw m (and_fst (any_below g (ghost_has (ghost_column file n g) (u32_at row (8 + 4 * f)))) _ both)

    pub listed_there : {k p : ℕ} → k ≡ u32_at row (8 + 4 * f) → p ≡ least_below g (ghost_has (ghost_column file n g) k) → p < g
    listed_there {k} m position = rw position (least_lt g (ghost_has (ghost_column file n g) k) (listed-held m))

    edge-is : (v : ℕ) {a : Bool} → a ≡ face_form v row f → a ≡ boundary_ok v (ghost_column file n g j) f
    unfolding face_form ghost_column
    edge-is v form = let h : f < face_count (shape_of row) = has-face in form ∙ rw (lt-ltb f (face_count (shape_of row)) h)

    module _ (D : ℕ) {v : ℕ} {a : Bool} (number : v ≡ u32_at row 0) (form : a ≡ face_form v row f) where
      own_is : v ≡ number_of (ghost_column file n g j)
      unfolding number_of ghost_column
      own_is = number

      pub answered_not : a ≡ false → false ≡ ghost_answered (link_by_dimension D) g (ghost_column file n g) j f
      unfolding ghost_answered
      answered_not h = rw (← own_is, ← edge-is v form, h)

      pub answered_read : {k p : ℕ} {r : Bool} → a ≡ true → k ≡ u32_at row (8 + 4 * f) → p ≡ least_below g (ghost_has (ghost_column file n g) k)
          → r ≡ link_by_dimension D v row f (spaced file (32 + 64 * n + p) g core_size) → r ≡ ghost_answered (link_by_dimension D) g (ghost_column file n g) j f
      unfolding ghost_answered ghost_column neighbour_of
      answered_read h m position e = rw (← own_is, ← edge-is v form, h, ← m, ← position) e

-- ---- the whole

module _ (file : List ℕ) (D first n g K : ℕ) where
  module _ {a b : Bool} (p : a ≡ all_below g (ghost_numbered first n (ghost_column file n g) K)) (q : b ≡ all_below n (tree_head (link_by_dimension D) first n g (tree_column file n) (ghost_column file n g) D K)) where
    pub found_none : (a && b) ≡ false → false ≡ columns_found (link_by_dimension D) first n g (tree_column file n) (ghost_column file n g) D K
    unfolding columns_found
    found_none h = rw (← p, ← q, h)

    module _ (ok : (a && b) ≡ true) where
      pub found_all : {d e : Bool} → d ≡ all_below g (ghost_head (link_by_dimension D) first n g (tree_column file n) (ghost_column file n g) D K)
          → e ≡ links_sound (link_by_dimension D) first n g (tree_column file n) (ghost_column file n g) D K
          → (d && e) ≡ columns_found (link_by_dimension D) first n g (tree_column file n) (ghost_column file n g) D K
      unfolding columns_found
      found_all s t = rw (← p, ← q, ok, s, t)

      pub found_numbers : numbers_sound first n g (tree_column file n) (ghost_column file n g) K ≡ true
      unfolding numbers_sound tree_head
      found_numbers =
          let heads : all_below n (tree_head (link_by_dimension D) first n g (tree_column file n) (ghost_column file n g) D K) ≡ true = sym q ∙ and_snd a b ok in
          and_intro (all_below n (tree_numbered first (tree_column file n))) (all_below g (ghost_numbered first n (ghost_column file n g) K))
          (all_intro n (tree_numbered first (tree_column file n)) (λ i h. and_fst (tree_numbered first (tree_column file n) i) (head_ok D (tree_column file n i)) (all_at n (tree_head (link_by_dimension D) first n g (tree_column file n) (ghost_column file n g) D K) heads i h)))
          (sym p ∙ and_fst a b ok)

      pub numbered_all : PartLaid file first n g K → FileNumbered file first n g K
      numbered_all laid = record { laid = laid; numbers = found_numbers }
