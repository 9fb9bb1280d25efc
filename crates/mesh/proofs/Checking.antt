-- What the check's functions find is what the definitions say.
use Prim.Native.Nat.{ℕ, ◌+◌, ◌*◌, ◌/◌, ◌%◌, ◌≤◌, ◌<◌}
use native.Mathlib.Omega.{arith}
use mathlib.Core.Path.{◌≡◌, refl, sym, ap, ◌∙◌}
use mathlib.Core.Bool.{Bool, true, false, cond, ◌&&◌, and-true, and-false}
use mathlib.Core.List.{List}
use Rattle.std.specs.Prelude.{Some}
use Rattle.std.specs.Int.{from_bool}
use Rattle.std.specs.declared.option.Option.{Option}
use lib.Dec.{eqb, ltb, leb}
use lib.ListN.{length}
use borrow.Author.Tests.{leb-true, lt-ltb, le-ltb, ne_eqb}
use Rattle.encoding.specs.Below.{all_below, count_below, sum_below}
use Rattle.encoding.specs.Pieces.{piece}
use Rattle.encoding.proofs.Below.{all_fails, all_more, all_to, count_more, sum_more}
use Rattle.offsets.specs.Limits.{tree_count_ok}
use Rattle.records.specs.Shape.{shape_ok, dimension_of, face_count, faces_in}
use Rattle.records.specs.Record.{core_size, tree_size, number_of, shape_of, neighbour_of, code_of, zeros_ok, region_ok, boundary_ok, in_form}
use Rattle.records.specs.Means.{unused_from}
use Rattle.mesh.specs.Mesh.{mesh_header, mesh_dimension, mesh_trees, dimension_ok, mesh_core, header_sound, mesh_sound}
use Rattle.mesh.specs.Means.{corners_fit, corners_by_dimension, answered_there, answered_by_dimension, link_by_dimension, face_by_dimension, tree_by_dimension, leads_up, leads_down, links_up, links_down}
use Rattle.mesh.specs.Means.{alone_by_dimension, leads_inside, listed_link, down_sound, listed_sound, face_from_above, tree_from_above, trees_from_above, SeenAs, FacesAs, Reached, RunAs}
use Rattle.mesh.specs.declared.sound.Counts.{Counts}
use Rattle.mesh.specs.declared.sound.Run.{Run}
use Rattle.mesh.proofs.FromAbove.{trees_from_above_lem}
use Rattle.mesh.proofs.Packing.{faces_both}

-- ---- one link: its code, and what it says

module _ (d back : ℕ) (r s : List ℕ) (f c g o : ℕ) (code : c ≡ code_of r f) (face : g ≡ c % faces_in d) (turned : o ≡ c / faces_in d) where
  pub not_answered : answered_there back c f s g ≡ false → false ≡ link_by_dimension d back r f s
  unfolding link_by_dimension answered_by_dimension
  not_answered e =
      let a : answered_there back (code_of r f) f s (code_of r f % faces_in d) ≡ false = rw (face, code) at e in
      sym (ap (λ (b : Bool). corners_by_dimension d r f s && b) a ∙ and-false (corners_by_dimension d r f s))

  pub is_answered : answered_there back c f s g ≡ true → corners_fit o (shape_of r) f (shape_of s) g ≡ link_by_dimension d back r f s
  unfolding link_by_dimension answered_by_dimension corners_by_dimension
  is_answered e =
      let a : answered_there back (code_of r f) f s (code_of r f % faces_in d) ≡ true = rw (face, code) at e in
      rw (a, turned, face, code) (sym (and-true _))

-- ---- what is seen of a tree

-- a loop over the faces that has come to its end
pub seen_all : {seen : Counts} (n face : ℕ) (f p q : ℕ → Bool) → face ≤ n → n ≤ face → n ≤ 6 → all_below face f ≡ true → (seen.ups ≡ count_below face p) × (seen.ups ≤ face) → (seen.downs ≡ count_below face q) × (seen.downs ≤ face)
    → SeenAs (all_below n f) (count_below n p) (count_below n q) 6 (Some seen)
seen_all n face f p q h k six a u v =
    let e : face ≡ n = omega arith in
    (all_to n f face h k a, record { upward = rw (sym e) u.0; downward = rw (sym e) v.0; few = (omega (arith, u.1), omega (arith, v.1)) })

-- both passes over the faces
module _ (core : ℕ → List ℕ) (d k K n : ℕ) (tree : k < K) where
  pub faces_outside : all_below n (leads_inside core K k) ≡ false → all_below n (face_from_above core d K k) ≡ false
  faces_outside e = rw (faces_both core d k K tree n, e)

  pub faces_off : all_below n (listed_sound core d k) ≡ false → all_below n (face_from_above core d K k) ≡ false
  faces_off e = rw (faces_both core d k K tree n, e, and-false)

  pub faces_seen : all_below n (listed_sound core d k) ≡ true → all_below n (leads_inside core K k) ≡ true → all_below n (face_from_above core d K k) ≡ true
  faces_seen e inside = rw (faces_both core d k K tree n, inside, e)

-- what counts as 1
bit : (b : Bool) → from_bool b ≡ cond {A = ℕ} b 1 0
bit true = refl
bit false = refl

pub bit_most : (b : Bool) → from_bool b ≤ 1
bit_most true = omega arith
bit_most false = omega arith

-- one more number that may count
pub count_next : {n r : ℕ} {b : Bool} (i : ℕ) (f : ℕ → Bool) → r ≡ from_bool b → b ≡ f i → n ≡ count_below i f → n + r ≡ count_below (i + 1) f
count_next i f e p h = rw (count_more i f, h, e, p, bit (f i))

-- a number that doesn't count
pub count_stays : {n : ℕ} (i : ℕ) (f : ℕ → Bool) → f i ≡ false → n ≡ count_below i f → n ≡ count_below (i + 1) f
count_stays i f e h = rw (count_more i f, e) (omega (arith, h))

-- one more summand
pub sum_next : {n r : ℕ} (i : ℕ) (g : ℕ → ℕ) → r ≡ g i → n ≡ sum_below i g → n + r ≡ sum_below (i + 1) g
sum_next i g e h = rw (sum_more i g, h, e)

-- ---- a loop over the faces

module _ (test p q : ℕ → Bool) where
  pub faces_none : FacesAs test p q 0 0 0
  unfolding all_below count_below
  faces_none = record { passed = refl; upward = (refl, omega arith); downward = (refl, omega arith) }

  module _ {ups downs : ℕ} (f : ℕ) (before : FacesAs test p q f ups downs) where
    -- one more face whose link leads up, and one more that doesn't
    module _ (passes : test f ≡ true) where
      pub faces_up_lem : true ≡ p f → q f ≡ false → FacesAs test p q (f + 1) (ups + 1) downs
      faces_up_lem u d =
          record {
            passed = all_more f test before.passed passes;
            upward = (count_next {b = true} f p refl u before.upward.0, omega (arith, before.upward.1));
            downward = (count_stays f q d before.downward.0, omega (arith, before.downward.1));
          }

      pub faces_down_lem : {r : ℕ} {b : Bool} → p f ≡ false → r ≡ from_bool b → b ≡ q f → FacesAs test p q (f + 1) ups (downs + r)
      faces_down_lem {b = b} u one d =
          record {
            passed = all_more f test before.passed passes;
            upward = (count_stays f p u before.upward.0, omega (arith, before.upward.1));
            downward = (count_next f q one d before.downward.0, omega (arith, before.downward.1, one, bit_most b));
          }

  -- all of them
  pub faces_all : {seen : Counts} (f : ℕ) → FacesAs test p q f seen.ups seen.downs → (n : ℕ) → f ≤ n → n ≤ f → n ≤ 6 → SeenAs (all_below n test) (count_below n p) (count_below n q) 6 (Some seen)
  faces_all f before n h k six = seen_all n f test p q h k six before.passed before.upward before.downward

-- ---- runs

module _ (test : ℕ → Bool) (p q : ℕ → ℕ) where
  -- none is passed at the beginning
  pub reached_none : Reached test p q 0 0 0
  unfolding all_below sum_below
  reached_none = record { passed = refl; upward = refl; downward = refl }

  -- one more record
  pub reached_next : {up down : ℕ} {seen : Counts} (i : ℕ) → Reached test p q i up down → SeenAs (test i) (p i) (q i) 6 (Some seen) → Reached test p q (i + 1) (up + seen.ups) (down + seen.downs)
  reached_next i r s =
      record {
        passed = all_more i test r.passed s.0;
        upward = sum_next i p s.1.upward r.upward;
        downward = sum_next i q s.1.downward r.downward;
      }

  -- a run that doesn't go on, and one that goes on by a record
  pub run_stays : (n : ℕ) (run : Run) → run.next ≤ n → run.seen.ups ≤ 6 * run.next → run.seen.downs ≤ 6 * run.next → RunAs test p q n run run
  run_stays n run h u d = record { on = omega arith; within = h; few = (u, d); reaches = λ r. r }

  pub run_next : {start : Run} {ups downs : ℕ} {seen : Counts} (n i : ℕ) → RunAs test p q n start (record { next = i; seen = record { ups = ups; downs = downs } }) → SeenAs (test i) (p i) (q i) 6 (Some seen) → i < n
      → RunAs test p q n start (record { next = i + 1; seen = record { ups = ups + seen.ups; downs = downs + seen.downs } })
  run_next n i run s h =
      record {
        on = omega (arith, run.on);
        within = omega arith;
        few = (omega (arith, run.few.0, s.1.few.0), omega (arith, run.few.1, s.1.few.1));
        reaches = λ r. reached_next i (run.reaches r) s;
      }

  -- one that has come to the end
  pub run_ends : {start : Run} {seen : Counts} (n i : ℕ) → n ≡ i → RunAs test p q n start (record { next = i; seen = seen }) → RunAs test p q n start (record { next = n; seen = seen })
  run_ends n i e run =
      record {
        on = omega (arith, run.on);
        within = omega arith;
        few = (omega (arith, run.few.0), omega (arith, run.few.1));
        reaches = λ r. rw e (run.reaches r);
      }

-- ---- the header and all trees

pub alone_read : {a z g : Bool} {number shape dimension : ℕ} (d k : ℕ) (r : List ℕ) → shape ≡ shape_of r → a ≡ shape_ok shape → z ≡ zeros_ok r → g ≡ region_ok r → number ≡ number_of r → dimension ≡ dimension_of shape
    → (a && z && g && eqb number k && eqb dimension d) ≡ alone_by_dimension d k r
unfolding alone_by_dimension
alone_read d k r e a z g n s = rw (a, z, g, n, s, e)

module _ (m : List ℕ) where
  -- no header fits
  pub header_short : length m < mesh_header → header_sound m ≡ false
  unfolding header_sound
  header_short h = rw (ne_eqb (length m) (mesh_header + tree_size * mesh_trees m) (λ e. omega arith), and-false)

  pub header_read : {d K at : ℕ} {a b : Bool} → d ≡ mesh_dimension m → K ≡ mesh_trees m → a ≡ dimension_ok d → b ≡ tree_count_ok K → at ≡ mesh_header + tree_size * K → (a && b && eqb (length m) at) ≡ header_sound m
  unfolding header_sound
  header_read e t p q r = rw (p, q, r, e, t)

  pub sound_read : {d K : ℕ} {r : Bool} → header_sound m ≡ true → d ≡ mesh_dimension m → K ≡ mesh_trees m → r ≡ trees_from_above (mesh_core m) d K → r ≡ mesh_sound m
  unfolding mesh_sound
  sound_read {d} {K} h e t p = rw (p, trees_from_above_lem (mesh_core m) d K, h, e, t)

  -- one tree fails; or all pass, and the counts decide
  pub trees_fail : (d K k : ℕ) → k < K → tree_from_above (mesh_core m) d K k ≡ false → false ≡ trees_from_above (mesh_core m) d K
  unfolding trees_from_above
  trees_fail d K k h e = rw (all_fails K (tree_from_above (mesh_core m) d K) k h e)

  pub trees_read : (d K k : ℕ) {ups downs : ℕ} → k ≤ K → K ≤ k → all_below k (tree_from_above (mesh_core m) d K) ≡ true → ups ≡ sum_below k (links_up (mesh_core m)) → downs ≡ sum_below k (links_down (mesh_core m)) → eqb ups downs ≡ trees_from_above (mesh_core m) d K
  unfolding trees_from_above
  trees_read d K k h l a u v =
      let e : k ≡ K = omega arith in
      rw (all_to K (tree_from_above (mesh_core m) d K) k h l a, u, v, e)

  module _ (k : ℕ) {at : ℕ} (here : at ≡ mesh_header + tree_size * k) where
    pub leads_up_lem : (n f : ℕ) → n ≡ neighbour_of (piece m at core_size) f → ltb k n ≡ leads_up (mesh_core m) k f
    unfolding leads_up mesh_core
    leads_up_lem n f e = rw (← here, e)

    pub leads_down_lem : (n f : ℕ) → n ≡ neighbour_of (piece m at core_size) f → ltb n k ≡ leads_down (mesh_core m) k f
    unfolding leads_down mesh_core
    leads_down_lem n f e = rw (← here, e)

    pub listed_read : (n f : ℕ) → n ≡ neighbour_of (piece m at core_size) f → leb n k ≡ listed_link (mesh_core m) k f
    unfolding listed_link mesh_core
    listed_read n f e = rw (← here, e)

    pub listed_low : (n f : ℕ) → n ≡ neighbour_of (piece m at core_size) f → listed_link (mesh_core m) k f ≡ true → n ≤ k
    listed_low n f e h = leb-true n k (listed_read n f e ∙ h)

    -- the neighbour isn't below K, or is
    pub inside_not : (K n f : ℕ) → n ≡ neighbour_of (piece m at core_size) f → K ≤ n → leads_inside (mesh_core m) K k f ≡ false
    unfolding leads_inside mesh_core
    inside_not K n f e h = rw (← here, ← e, le-ltb n K h)

    pub inside_is : (K n f : ℕ) → n ≡ neighbour_of (piece m at core_size) f → n < K → leads_inside (mesh_core m) K k f ≡ true
    unfolding leads_inside mesh_core
    inside_is K n f e h = rw (← here, ← e, lt-ltb n K h)

    -- a link that doesn't lead up
    pub down_off : {b : Bool} (d f : ℕ) → b ≡ boundary_ok k (piece m at core_size) f → b ≡ false → false ≡ down_sound (mesh_core m) d k f
    unfolding down_sound mesh_core
    down_off d f b q = rw (← here, ← b, q)

    pub down_read : {b r : Bool} (d n to f : ℕ) → n ≡ neighbour_of (piece m at core_size) f → to ≡ mesh_header + tree_size * n → b ≡ boundary_ok k (piece m at core_size) f → b ≡ true
        → r ≡ link_by_dimension d k (piece m at core_size) f (piece m to core_size) → r ≡ down_sound (mesh_core m) d k f
    unfolding down_sound mesh_core
    down_read d n to f e there b q p = rw (← here, ← e, ← b, q, ← there, p)

  module _ (d K k : ℕ) {at : ℕ} (here : at ≡ mesh_header + tree_size * k) where
    -- the neighbour isn't below K
    pub face_outside : (n f : ℕ) → n ≡ neighbour_of (piece m at core_size) f → K ≤ n → face_by_dimension (mesh_core m) d K k f ≡ false
    unfolding face_by_dimension mesh_core
    face_outside n f e h = rw (← here, ← e, le-ltb n K h)

    pub face_read : {r : Bool} (n to f : ℕ) → n ≡ neighbour_of (piece m at core_size) f → n < K → to ≡ mesh_header + tree_size * n
        → r ≡ link_by_dimension d k (piece m at core_size) f (piece m to core_size) → r ≡ face_by_dimension (mesh_core m) d K k f
    unfolding face_by_dimension mesh_core
    face_read n to f e h there p = rw (← here, ← e, lt-ltb n K h, ← there, p)

    pub tree_read : {a q : Bool} {number shape dimension faces : ℕ} → shape ≡ shape_of (piece m at core_size) → a ≡ in_form k (piece m at core_size) → number ≡ number_of (piece m at core_size) → dimension ≡ dimension_of shape → faces ≡ face_count shape
        → q ≡ all_below faces (face_by_dimension (mesh_core m) d K k) → (a && eqb number k && eqb dimension d && q) ≡ tree_by_dimension (mesh_core m) d K k
    unfolding tree_by_dimension mesh_core
    tree_read e p n r s t = rw (← here, p, n, r, t, s, e)

    -- ---- each link from the end with the higher number

    here-is : mesh_core m k ≡ piece m at core_size
    unfolding mesh_core
    here-is = rw here

    pub tree_not_alone : alone_by_dimension d k (piece m at core_size) ≡ false → tree_from_above (mesh_core m) d K k ≡ false
    unfolding tree_from_above
    tree_not_alone e = let a : alone_by_dimension d k (mesh_core m k) ≡ false = rw here-is e in rw a

    module _ {shape faces : ℕ} (shaped : shape ≡ shape_of (piece m at core_size)) (counted : faces ≡ face_count shape) where
      faces-here : faces ≡ face_count (shape_of (mesh_core m k))
      faces-here = counted ∙ ap face_count (shaped ∙ ap shape_of (sym here-is))

      pub tree_unused : all_below 6 (unused_from faces (piece m at core_size)) ≡ false → tree_from_above (mesh_core m) d K k ≡ false
      unfolding tree_from_above
      tree_unused e = let u : all_below 6 (unused_from faces (mesh_core m k)) ≡ false = rw here-is e in rw (← faces-here, u, and-false)

      pub tree_seen_lem : (seen : Option Counts) → alone_by_dimension d k (piece m at core_size) ≡ true → all_below 6 (unused_from faces (piece m at core_size)) ≡ true
          → SeenAs (all_below faces (face_from_above (mesh_core m) d K k)) (count_below faces (leads_up (mesh_core m) k)) (count_below faces (leads_down (mesh_core m) k)) 6 seen
          → SeenAs (tree_from_above (mesh_core m) d K k) (links_up (mesh_core m) k) (links_down (mesh_core m) k) 6 seen
      unfolding tree_from_above links_up links_down
      tree_seen_lem seen a u s =
          let alone : alone_by_dimension d k (mesh_core m k) ≡ true = rw here-is a in
          let unused : all_below 6 (unused_from faces (mesh_core m k)) ≡ true = rw here-is u in
          rw (← faces-here, alone, unused) s
