-- What the functions that check a part find is what the definitions say.
use Prim.Native.Nat.{ℕ, ◌+◌, ◌-◌, ◌≤◌, ◌<◌}
use native.Mathlib.Omega.{arith}
use mathlib.Core.Path.{◌≡◌, refl, sym, ap, ◌∙◌}
use mathlib.Core.Bool.{Bool, true, false, cond, not, ◌&&◌, and-false}
use mathlib.Core.List.{List}
use lib.Dec.{ltb, eqb}
use lib.ListN.{length}
use borrow.Author.Tests.{ltb-true, lt-ltb, le-ltb, eq-eqb, ne_eqb, eqb-true}
use Rattle.encoding.specs.Below.{least_below}
use Rattle.encoding.specs.Numbers.{u32_at}
use Rattle.encoding.specs.Pieces.{piece, Bytes}
use Rattle.encoding.proofs.Below.{tests, either, clash, iff_eq, and_fst, and_snd, least_same}
use Rattle.records.specs.Record.{core_size, number_of, neighbour_of, boundary_ok}
use Rattle.mesh.specs.Mesh.{dimension_ok}
use Rattle.offsets.specs.Table.{ranks, entry, trees, first_tree, end_tree, tree_count}
use Rattle.offsets.proofs.Tables.{count_add, end_trees, trees_high}
use Rattle.part.specs.Layout.{tree_place, ghost_place, part_size}
use Rattle.positions.specs.Means.{has_number, position_of, member_position, Indexed}
use Rattle.positions.proofs.Positions.{index_position}
use Rattle.part.specs.Means.{record_place, view_sound, in_range, ghost_core, ghost_has, RankKnown, part_linked}
use Rattle.part.proofs.Sound.{part_sound_is}
use Rattle.part.specs.Part.{part_dimension, part_k, part_first, part_count, part_ghost_count, stored_tree, stored_ghost, global_number, global_tree, part_header_sound, part_sound}
use Rattle.mesh.specs.Means.{link_by_dimension}
use Rattle.part_check.specs.Means.{tree_to, tree_face, tree_fits, tree_numbered, ghost_behind, ghost_numbered, records_sound, PartLaid, TreeKnown}
use Rattle.part.proofs.Global.{global_alike, global_neighbour}
use Rattle.part_check.proofs.Judging.{looked_up, Seen, view_is}
use Rattle.part_check.proofs.ByDimension.{records_by_dimension}
use Rattle.part.proofs.Search.{number_there}

-- what fails with more behind it
and_off : (a b c : Bool) → (a && b) ≡ false → (a && (b && c)) ≡ false
and_off true true c e = clash refl e
and_off true false c e = refl
and_off false b c e = refl

-- ---- trees

module _ (part : List ℕ) (i : ℕ) {at : ℕ} (here : at ≡ tree_place i) where
  module _ (first : ℕ) {v : ℕ} (number : v ≡ number_of (piece part at core_size)) where
    pub numbered_below : v < first → false ≡ tree_numbered first (stored_tree part) i
    unfolding tree_numbered stored_tree
    numbered_below h = rw (← here, ← number, ne_eqb v (first + i) (λ e. omega arith))

    pub numbered_is : (t : ℕ) → t + first ≡ v → eqb t i ≡ tree_numbered first (stored_tree part) i
    unfolding tree_numbered stored_tree
    numbered_is t e =
        rw (← here, ← number) (iff_eq (eqb t i) (eqb v (first + i)) (λ p. eq-eqb v (first + i) (omega (arith, eqb-true t i p))) (λ p. eq-eqb t i (omega (arith, eqb-true v (first + i) p))))

  tree-here : piece part at core_size ≡ stored_tree part i
  unfolding stored_tree
  tree-here = rw here

  module _ (D n g : ℕ) where
    module _ (f : ℕ) {j : ℕ} (read : j ≡ neighbour_of (piece part at core_size) f) where
      pub face_tree : {to : ℕ} {r : Bool} → j < n → to ≡ tree_place j → r ≡ link_by_dimension D i (piece part at core_size) f (piece part to core_size)
          → r ≡ tree_face (link_by_dimension D) n g (stored_tree part) (ghost_core part n) i f
      unfolding tree_face tree_to stored_tree
      face_tree h there p = rw (← here, ← read, lt-ltb j n h, ← there, p)

      pub face_ghost : {v to : ℕ} {r : Bool} → n ≤ j → j - n < g → v ≡ number_of (piece part at core_size) → to ≡ ghost_place n (j - n)
          → r ≡ link_by_dimension D v (piece part at core_size) f (piece part to core_size) → r ≡ tree_face (link_by_dimension D) n g (stored_tree part) (ghost_core part n) i f
      unfolding tree_face tree_to stored_tree ghost_core
      face_ghost h l e there p = rw (← here, ← read, le-ltb j n h, lt-ltb (j - n) g l, ← there, p, e)

      pub face_none : n ≤ j → g ≤ j - n → false ≡ tree_face (link_by_dimension D) n g (stored_tree part) (ghost_core part n) i f
      unfolding tree_face tree_to stored_tree
      face_none h l = rw (← here, ← read, le-ltb j n h, le-ltb (j - n) g l)

      -- the rules: the form of the face, then the link
      module _ {b : Bool} (edge : b ≡ boundary_ok i (piece part at core_size) f) where
        fits-face : {r : Bool} → b ≡ true → r ≡ tree_face (link_by_dimension D) n g (stored_tree part) (ghost_core part n) i f → r ≡ tree_fits (link_by_dimension D) n g (stored_tree part) (ghost_core part n) i f
        unfolding tree_fits
        fits-face h q = let there : boundary_ok i (stored_tree part i) f ≡ true = rw (← tree-here, ← edge) h in rw (there, q)

        pub fits_read : {first back to : ℕ} {r : Bool} → b ≡ true → TreeKnown part first n i → j < n + g → back ≡ cond (ltb j n) i (first + i) → to ≡ record_place n j
            → r ≡ link_by_dimension D back (piece part at core_size) f (piece part to core_size) → r ≡ tree_fits (link_by_dimension D) n g (stored_tree part) (ghost_core part n) i f
        unfolding record_place tree_numbered
        fits_read {first} h known less back_is there p =
            either (ltb j n)
            (λ q.
            let own = rw q at back_is in
            fits-face h (face_tree (ltb-true j n q) (rw q at there) (rw own at p)))
            (λ q.
            let own = rw q at back_is in
            let number : first + i ≡ number_of (piece part at core_size) = sym (eqb-true _ _ known.number) ∙ ap number_of (sym tree-here) in
            fits-face h (face_ghost (omega tests) (omega tests) number (rw q at there) (rw own at p)))

-- where the record with local index j ends
pub place_fits : {room to : ℕ} (n g j : ℕ) → room ≡ part_size n g → j < n + g → to ≡ record_place n j → to + core_size ≤ room
unfolding record_place
place_fits n g j long h e =
    either (ltb j n)
    (λ p. let place = rw p at e in omega (tests, place, long))
    (λ p. let place = rw p at e in omega (tests, place, long))

-- ---- ghosts

module _ (part : List ℕ) (n j : ℕ) where
  pub behind_none : j ≡ 0 → true ≡ ghost_behind (ghost_core part n) j
  unfolding ghost_behind
  behind_none h = rw (eq-eqb j 0 h)

  module _ {at v : ℕ} (here : at ≡ ghost_place n j) (number : v ≡ number_of (piece part at core_size)) where
    pub behind_read : {to w : ℕ} → (j ≡ 0 → ⊥) → to ≡ ghost_place n (j - 1) → w ≡ number_of (piece part to core_size) → ltb w v ≡ ghost_behind (ghost_core part n) j
    unfolding ghost_behind ghost_core
    behind_read h there e = rw (ne_eqb j 0 h, ← here, ← number, ← there, e)

    pub ghost_numbered_is : (first K : ℕ) {b a : Bool} → b ≡ in_range first (first + n) v → a ≡ ghost_behind (ghost_core part n) j → (ltb v K && not b && a) ≡ ghost_numbered first n (ghost_core part n) K j
    unfolding ghost_numbered ghost_core
    ghost_numbered_is first K p q = rw (← here, ← number, p, q)

module _ (part : List ℕ) (n g : ℕ) where
  -- the ghost that is looked up
  pub ghost_found : {ws behind : List ℕ} → Indexed part (ghost_place n 0) g ws behind → (k : ℕ) {p : ℕ} → p ≡ member_position ws g k → p ≡ least_below g (ghost_has (ghost_core part n) k)
  unfolding position_of has_number ghost_has
  ghost_found x k e =
      e ∙ index_position x k
      ∙ least_same g (has_number part (ghost_place n 0) k) (ghost_has (ghost_core part n) k) (λ i h. ap (λ (y : ℕ). eqb y k) (number_there part n g i))

-- ---- the header and the whole

-- the records of a part of its length are sound as they stand where they are with their neighbours looked up
module _ (part : List ℕ) (bytes : Bytes part) (laid : PartLaid part (part_first part) (part_count part) (part_ghost_count part) (part_k part)) where
  tree_fits_lem : (i : ℕ) → i < part_count part → tree_place i + core_size ≤ length part
  tree_fits_lem i h = omega (arith, laid.long)

  part-seen : Seen (part_first part) (part_count part) (part_ghost_count part) (part_k part) (stored_tree part) (global_tree part) (ghost_core part (part_count part))
  unfolding looked_up global_number stored_ghost ghost_core
  part-seen =
      record {
        within = laid.within;
        most = laid.most;
        alike = λ i h. global_alike part bytes i (tree_fits_lem i h);
        neighbour = λ i h f l. global_neighbour part bytes i (tree_fits_lem i h) f l;
      }

  pub part_records : (D : ℕ) → view_sound (part_first part) (part_count part) (part_ghost_count part) (global_tree part) (stored_ghost part) D (part_k part)
      ≡ records_sound (link_by_dimension D) (part_first part) (part_count part) (part_ghost_count part) (stored_tree part) (ghost_core part (part_count part)) D (part_k part)
  unfolding stored_ghost ghost_core
  part_records D =
      view_is (part_first part) (part_count part) (part_ghost_count part) (part_k part) (stored_tree part) (global_tree part) (ghost_core part (part_count part)) part-seen D
      ∙ sym (records_by_dimension D (part_first part) (part_count part) (part_ghost_count part) (part_k part) (stored_tree part) (ghost_core part (part_count part)))

module _ (part table : List ℕ) (rank : ℕ) where
  abbrev headed : Bool
  headed = part_header_sound part table rank && eqb (length part) (part_size (part_count part) (part_ghost_count part))

  pub head_short : length part < 32 → false ≡ headed
  head_short h = rw (ne_eqb (length part) (part_size (part_count part) (part_ghost_count part)) (λ e. omega arith), and-false)

  pub head_read : {a : Bool} {d K P T p q f first n end z g at : ℕ} → P ≡ ranks table → first ≡ first_tree table rank → end ≡ end_tree table rank → n ≡ part_count part → d ≡ part_dimension part → a ≡ dimension_ok d
      → K ≡ part_k part → T ≡ entry table P → p ≡ u32_at part 8 → q ≡ u32_at part 12 → f ≡ part_first part → z ≡ u32_at part 28 → g ≡ part_ghost_count part → at ≡ ghost_place n g
      → (a && eqb K T && eqb p P && eqb q rank && eqb f first && eqb n (end - first) && eqb z 0 && eqb (length part) at) ≡ headed
  unfolding part_header_sound trees tree_count
  head_read e1 e2 e3 e4 e5 e6 e7 e8 e9 e10 e11 e12 e13 e14 = rw (e14, e13, e12, e11, e10, e9, e8, e7, e6, e5, e4, e3, e2, e1)

  module _ (table_bytes : Bytes table) (known : RankKnown table rank) {h : Bool} (is : h ≡ headed) (ok : h ≡ true) where
    head-true : part_header_sound part table rank ≡ true
    head-true = and_fst (part_header_sound part table rank) (eqb (length part) (part_size (part_count part) (part_ghost_count part))) (sym is ∙ ok)

    pub head_counts : (part_k part ≡ trees table) × (part_first part ≡ first_tree table rank) × (part_count part ≡ tree_count table rank)
    unfolding part_header_sound
    head_counts =
        let a : Bool = dimension_ok (part_dimension part) in
        let b : Bool = eqb (part_k part) (trees table) in
        let d : Bool = eqb (u32_at part 8) (ranks table) in
        let e : Bool = eqb (u32_at part 12) rank in
        let f : Bool = eqb (part_first part) (first_tree table rank) in
        let m : Bool = eqb (part_count part) (tree_count table rank) in
        let t6 : (a && b && d && e && f && m) ≡ true = and_fst (a && b && d && e && f && m) (eqb (u32_at part 28) 0) head-true in
        let t5 : (a && b && d && e && f) ≡ true = and_fst (a && b && d && e && f) m t6 in
        let t2 : (a && b) ≡ true = and_fst (a && b) d (and_fst (a && b && d) e (and_fst (a && b && d && e) f t5)) in
        (eqb-true _ _ (and_snd a b t2), eqb-true _ _ (and_snd (a && b && d && e) f t5), eqb-true _ _ (and_snd (a && b && d && e && f) m t6))

    pub head_laid : PartLaid part (part_first part) (part_count part) (part_ghost_count part) (part_k part)
    head_laid =
        let t = head_counts in
        let a = count_add table table_bytes known.counted known.checked rank known.below in
        let e = end_trees table table_bytes known.counted known.checked rank known.below in
        let m = trees_high table table_bytes known.counted known.checked in
        record {
          long = eqb-true _ _ (and_snd (part_header_sound part table rank) (eqb (length part) (part_size (part_count part) (part_ghost_count part))) (sym is ∙ ok));
          within = omega (arith, t.0, t.1, t.2);
          most = omega (arith, t.0);
        }

    -- the same with what the code has read
    pub laid_read : {first n g K : ℕ} → first ≡ part_first part → n ≡ part_count part → g ≡ part_ghost_count part → K ≡ part_k part → PartLaid part first n g K
    laid_read a b d e = rw (a, b, d, e) head_laid

    pub sound_read : {first n g D K : ℕ} {r : Bool} → Bytes part → first ≡ part_first part → n ≡ part_count part → g ≡ part_ghost_count part → D ≡ part_dimension part → K ≡ part_k part
        → r ≡ records_sound (link_by_dimension D) first n g (stored_tree part) (ghost_core part n) D K → r ≡ part_sound part table rank
    unfolding part_linked
    sound_read b e1 e2 e3 e4 e5 p =
        rw (part_sound_is part table rank table_bytes known, ← is, ok, p, e1, e2, e3, e4, e5) (sym (part_records part b head_laid (part_dimension part)))

  pub sound_none : {h : Bool} → h ≡ headed → h ≡ false → false ≡ part_sound part table rank
  unfolding part_sound
  sound_none is h = rw (← is, h)
