-- Laws of the set of a range's ghosts.
use Prim.Native.Nat.{ℕ, ◌+◌, ◌-◌, ◌*◌, ◌≤◌, ◌<◌}
use native.Mathlib.Numerals.{add-one}
use native.Mathlib.Omega.{arith}
use mathlib.Core.Path.{◌≡◌, refl, sym, ap, ◌∙◌}
use mathlib.Core.Bool.{Bool, true, false, not, ◌&&◌, ◌||◌, and-false}
use mathlib.Core.List.{List}
use lib.Dec.{leb, ltb, eqb}
use lib.ListN.{length, replicate, length-replicate}
use borrow.Author.Tests.{ltb-true, leb-true, lt-ltb, le-leb, eqb-true, eq-eqb, ne_eqb}
use Rattle.std.specs.Int.{div_ceil}
use Rattle.encoding.specs.Below.{any_below, count_below}
use Rattle.encoding.specs.Pieces.{piece, Bytes}
use Rattle.encoding.specs.Refusal.{first_failed}
use Rattle.encoding.proofs.Below.{either, tests, and_fst, and_snd, and_intro, iff_eq, any_at, any_intro, any_none, count_same}
use Rattle.bits.specs.Bits.{in_set, with_member}
use Rattle.offsets.specs.Table.{first_tree, end_tree, tree_count}
use Rattle.records.specs.Shape.{face_count}
use Rattle.records.specs.Record.{core_size, tree_size, shape_of, neighbour_of}
use Rattle.mesh.specs.Mesh.{mesh_header, mesh_trees, mesh_core, mesh_sound, face_neighbour}
use Rattle.mesh.proofs.Soundness.{sound_fits, neighbour_below, neighbours_both}
use Rattle.part.specs.Means.{in_range, neighbour_in, ghost_in}
use Rattle.positions.specs.Means.{Added, Countable, Counted}
use Rattle.positions.proofs.Positions.{added_none, added_one, added_then, blank}
use Rattle.positions.proofs.Members.{count_gap}
use Rattle.part_cut.specs.Calls.{cut_checks}
use Rattle.part_cut.specs.Means.{out_faces, out_trees, FacesFit, TreesFit, CutSpace, CutRoom, GhostSet, Measured}
use Rattle.part_cut.proofs.Cutting.{Cuttable, CutFits, all_hold, cut_fits}

-- ---- one record

module _ (first end : ℕ) (r : List ℕ) where
  pub faces_start : (ws : List ℕ) → Added ws (out_faces first end r 0) ws
  unfolding out_faces any_below
  faces_start ws = added_none ws (out_faces first end r 0) (λ k. refl)

  out_more : (f k : ℕ) → out_faces first end r (f + 1) k ≡ (out_faces first end r f k || (not (in_range first end (neighbour_of r f)) && eqb (neighbour_of r f) k))
  unfolding out_faces any_below
  out_more f k = rw (add-one f)

  module _ (f : ℕ) {v : ℕ} {ws₀ ws : List ℕ} (so_far : Added ws₀ (out_faces first end r f) ws) (read : v ≡ neighbour_of r f) {b : Bool} (test : b ≡ in_range first end v) where
    pub faces_in_lem : b ≡ true → Added ws₀ (out_faces first end r (f + 1)) ws
    faces_in_lem h =
        let inside : in_range first end (neighbour_of r f) ≡ true = rw (← read) (sym test ∙ h) in
        added_then (out_faces first end r (f + 1)) so_far (added_none ws (λ k. false) (λ k. refl)) (λ k. rw (out_more f k, inside))

    pub faces_out : {last : List ℕ} → b ≡ false → v < 64 * length ws → last ≡ with_member ws v → Added ws₀ (out_faces first end r (f + 1)) last
    faces_out h l e =
        let outside : in_range first end (neighbour_of r f) ≡ false = rw (← read) (sym test ∙ h) in
        added_then (out_faces first end r (f + 1)) so_far (added_one l e) (λ k. rw (out_more f k, outside, read))

  pub faces_end : {f n : ℕ} {ws₀ ws : List ℕ} → Added ws₀ (out_faces first end r f) ws → f ≤ n → n ≤ f → Added ws₀ (out_faces first end r n) ws
  faces_end {f} {n} p l h = let e : n ≡ f = omega arith in rw e p

-- ---- all trees of the range

module _ (core : ℕ → List ℕ) (first end : ℕ) where
  out_none : (k : ℕ) → out_trees core first end 0 k ≡ false
  unfolding out_trees any_below
  out_none k = refl

  pub trees_start : (ws : List ℕ) → Added ws (out_trees core first end (first - first)) ws
  trees_start ws = let z : first - first ≡ 0 = omega arith in rw z (added_none ws (out_trees core first end 0) out_none)

  out-next : (n k : ℕ) → out_trees core first end (n + 1) k ≡ (out_trees core first end n k || out_faces first end (core (first + n)) (face_count (shape_of (core (first + n)))) k)
  unfolding out_trees any_below
  out-next n k = rw (add-one n)

  pub trees_more : {t : ℕ} {ws₀ ws last : List ℕ} → first ≤ t → Added ws₀ (out_trees core first end (t - first)) ws → Added ws (out_faces first end (core t) (face_count (shape_of (core t)))) last
      → Added ws₀ (out_trees core first end (t + 1 - first)) last
  trees_more {t} h p q =
      let e : t + 1 - first ≡ t - first + 1 = omega arith in
      let s : first + (t - first) ≡ t = omega arith in
      rw e (added_then (out_trees core first end (t - first + 1)) p q (λ k. rw (out-next (t - first) k, s)))

  pub trees_end : {t : ℕ} {ws₀ ws : List ℕ} → Added ws₀ (out_trees core first end (t - first)) ws → t ≤ end → end ≤ t → Added ws₀ (out_trees core first end (end - first)) ws
  trees_end {t} p l h = let e : end - first ≡ t - first = omega arith in rw e p

module _ (mesh : List ℕ) (first end : ℕ) {ws₀ : List ℕ} (fit : TreesFit mesh first end ws₀) {t : ℕ} (from : first ≤ t) (more : t < end) {at : ℕ} (here : at ≡ mesh_header + tree_size * t) where
  core-here : piece mesh at core_size ≡ mesh_core mesh t
  unfolding mesh_core
  core-here = rw here

  pub tree_there : at + core_size ≤ length mesh
  tree_there = omega (arith, sound_fits mesh fit.sound t (omega (arith, fit.within)))

  module _ {shape faces : ℕ} (is-shape : shape ≡ shape_of (piece mesh at core_size)) (is-faces : faces ≡ face_count shape) {ws : List ℕ} (so_far : Added ws₀ (out_trees (mesh_core mesh) first end (t - first)) ws) where
    faces-are : faces ≡ face_count (shape_of (mesh_core mesh t))
    faces-are = is-faces ∙ ap face_count (is-shape ∙ ap shape_of core-here)

    pub faces_fit : faces ≤ 6 → FacesFit mesh at faces first end ws
    faces_fit few =
        record {
          fits = tree_there;
          few = few;
          range = fit.range;
          low = λ f l. rw core-here (omega (arith, neighbour_below mesh fit.sound t (omega (arith, fit.within)) f (omega (arith, faces-are)), fit.room, so_far.same_length));
        }

    pub tree_marked : {last : List ℕ} → Added ws (out_faces first end (piece mesh at core_size) faces) last → Added ws₀ (out_trees (mesh_core mesh) first end (t + 1 - first)) last
    tree_marked q = trees_more (mesh_core mesh) first end from so_far (rw (core-here, faces-are) at q)

-- ---- what is marked is a ghost

module _ (m : List ℕ) (sound : mesh_sound m ≡ true) (first end : ℕ) (range : first ≤ end) (within : end ≤ mesh_trees m) where
  abbrev core : ℕ → List ℕ
  core = mesh_core m

  in_both : (k : ℕ) → in_range first end k ≡ true → (first ≤ k) × (k < end)
  unfolding in_range
  in_both k e = (leb-true first k (and_fst (leb first k) (ltb k end) e), ltb-true k end (and_snd (leb first k) (ltb k end) e))

  both-in : (k : ℕ) → first ≤ k → k < end → in_range first end k ≡ true
  unfolding in_range
  both-in k h l = and_intro (leb first k) (ltb k end) (le-leb first k h) (lt-ltb k end l)

  -- no number from K on is marked
  pub marked_low : (k : ℕ) → mesh_trees m ≤ k → out_trees core first end (end - first) k ≡ false
  unfolding out_trees out_faces
  marked_low k h =
      any_none (end - first) (λ i. any_below (face_count (shape_of (core (first + i)))) (λ f. not (in_range first end (neighbour_of (core (first + i)) f)) && eqb (neighbour_of (core (first + i)) f) k))
      (λ i l. any_none (face_count (shape_of (core (first + i)))) (λ f. not (in_range first end (neighbour_of (core (first + i)) f)) && eqb (neighbour_of (core (first + i)) f) k)
      (λ f q. rw (ne_eqb (neighbour_of (core (first + i)) f) k (λ z. omega (arith, neighbour_below m sound (first + i) (omega arith) f q))) (and-false (not (in_range first end (neighbour_of (core (first + i)) f))))))

  module _ (k : ℕ) (tree : k < mesh_trees m) where
    -- the link of a tree of the range to k is answered by one of k's
    marked-to : out_trees core first end (end - first) k ≡ true → ghost_in core first end k ≡ true
    unfolding out_trees out_faces ghost_in neighbour_in face_neighbour
    marked-to e =
        let a = any_at (end - first) (λ i. any_below (face_count (shape_of (core (first + i)))) (λ f. not (in_range first end (neighbour_of (core (first + i)) f)) && eqb (neighbour_of (core (first + i)) f) k)) e in
        let t : ℕ = first + a.0 in
        let b = any_at (face_count (shape_of (core t))) (λ f. not (in_range first end (neighbour_of (core t) f)) && eqb (neighbour_of (core t) f) k) a.2 in
        let n : ℕ = neighbour_of (core t) b.0 in
        let is-k : n ≡ k = eqb-true n k (and_snd (not (in_range first end n)) (eqb n k) b.2) in
        let outside : not (in_range first end k) ≡ true = rw is-k at (and_fst (not (in_range first end n)) (eqb n k) b.2) in
        let here : t < mesh_trees m = omega (arith, a.1) in
        let beside : face_neighbour core t k ≡ true = any_intro (face_count (shape_of (core t))) (λ f. eqb (neighbour_of (core t) f) k) b.0 b.1 (eq-eqb n k is-k) in
        let d = any_at (face_count (shape_of (core k))) (λ f. eqb (neighbour_of (core k) f) t) (neighbours_both m sound k t tree here ∙ beside) in
        let back : neighbour_of (core k) d.0 ≡ t = eqb-true (neighbour_of (core k) d.0) t d.2 in
        and_intro (not (in_range first end k)) (any_below (face_count (shape_of (core k))) (λ f. in_range first end (neighbour_of (core k) f))) outside
        (any_intro (face_count (shape_of (core k))) (λ f. in_range first end (neighbour_of (core k) f)) d.0 d.1 (rw back (both-in t (omega arith) (omega (arith, a.1)))))

    marked-back : ghost_in core first end k ≡ true → out_trees core first end (end - first) k ≡ true
    unfolding out_trees out_faces ghost_in neighbour_in face_neighbour
    marked-back e =
        let outside : not (in_range first end k) ≡ true = and_fst (not (in_range first end k)) (any_below (face_count (shape_of (core k))) (λ f. in_range first end (neighbour_of (core k) f))) e in
        let a = any_at (face_count (shape_of (core k))) (λ f. in_range first end (neighbour_of (core k) f)) (and_snd (not (in_range first end k)) (any_below (face_count (shape_of (core k))) (λ f. in_range first end (neighbour_of (core k) f))) e) in
        let t : ℕ = neighbour_of (core k) a.0 in
        let i = in_both t a.2 in
        let here : t < mesh_trees m = omega (arith, i.1) in
        let beside : face_neighbour core k t ≡ true = any_intro (face_count (shape_of (core k))) (λ f. eqb (neighbour_of (core k) f) t) a.0 a.1 (eq-eqb t t refl) in
        let d = any_at (face_count (shape_of (core t))) (λ f. eqb (neighbour_of (core t) f) k) (neighbours_both m sound t k here tree ∙ beside) in
        let back : neighbour_of (core t) d.0 ≡ k = eqb-true (neighbour_of (core t) d.0) k d.2 in
        let s : first + (t - first) ≡ t = omega (arith, i.0) in
        any_intro (end - first) (λ i. any_below (face_count (shape_of (core (first + i)))) (λ f. not (in_range first end (neighbour_of (core (first + i)) f)) && eqb (neighbour_of (core (first + i)) f) k)) (t - first) (omega (arith, i.0, i.1))
        (rw s (any_intro (face_count (shape_of (core t))) (λ f. not (in_range first end (neighbour_of (core t) f)) && eqb (neighbour_of (core t) f) k) d.0 d.1
        (rw back (and_intro (not (in_range first end k)) (eqb k k) outside (eq-eqb k k refl)))))

    -- by answered links the neighbours of the range's trees outside it are its ghosts
    pub marked_is_ghost : out_trees core first end (end - first) k ≡ ghost_in core first end k
    marked_is_ghost = iff_eq _ _ marked-to marked-back

-- ---- the range and its ghosts

module _ {mesh table : List ℕ} {rank : ℕ} {ws₀ behind₀ : List ℕ} (space : CutSpace mesh table rank ws₀ behind₀) (bytes : Bytes table) where
  pub space_known : Cuttable mesh table rank
  space_known = all_hold mesh table rank (sym space.checked) refl

  pub space_fits : CutFits mesh table rank
  space_fits = cut_fits mesh table rank (sym space.checked) refl bytes

  module _ {first end : ℕ} (is_first : first ≡ first_tree table rank) (is_end : end ≡ end_tree table rank) where
    pub space_trees : TreesFit mesh first end ws₀
    space_trees =
        record {
          sound = space_known.mesh_sound_lem;
          range = omega (arith, space_fits.rises);
          within = omega (arith, space_fits.within);
          room = space.room;
        }

    module _ {ws : List ℕ} (marked : Added ws₀ (out_trees (mesh_core mesh) first end (end - first)) ws) {K words : ℕ} (is-K : K ≡ mesh_trees mesh) (enough : words ≡ div_ceil K 64) where
      pub space_countable : Countable ws words behind₀
      space_countable = record { marked = omega (arith, marked.same_length, space.room); room = omega (arith, space.room, space.blank.same); few = omega (arith, space_fits.most) }

      members-are : (k : ℕ) → in_set ws k ≡ out_trees (mesh_core mesh) first end (end - first) k
      members-are k = marked.members k ∙ ap (λ (b : Bool). b || out_trees (mesh_core mesh) first end (end - first) k) (space.blank.none k)

      members-past : (k : ℕ) → mesh_trees mesh ≤ k → in_set ws k ≡ false
      members-past k h = members-are k ∙ marked_low mesh space_known.mesh_sound_lem first end space_trees.range space_trees.within k h

      members-ghosts : (k : ℕ) → k < mesh_trees mesh → in_set ws k ≡ ghost_in (mesh_core mesh) first end k
      members-ghosts k h = members-are k ∙ marked_is_ghost mesh space_known.mesh_sound_lem first end space_trees.range space_trees.within k h

      -- past K there is nothing to count
      members-many : (n : ℕ) → mesh_trees mesh ≤ n → count_below n (in_set ws) ≡ count_below (mesh_trees mesh) (ghost_in (mesh_core mesh) first end)
      members-many n h =
          let s : mesh_trees mesh + (n - mesh_trees mesh) ≡ n = omega arith in
          ap (λ (x : ℕ). count_below x (in_set ws)) (sym s) ∙ count_gap (mesh_core mesh) (in_set ws) (mesh_trees mesh) (n - mesh_trees mesh) (λ i p q. members-past i p)
          ∙ count_same (mesh_trees mesh) (in_set ws) (ghost_in (mesh_core mesh) first end) members-ghosts

      ghost-set : {behind : List ℕ} {count : ℕ} → Counted ws words behind₀ 0 behind → count ≡ count_below (64 * words) (in_set ws) → GhostSet mesh (mesh_trees mesh) first end ws behind count
      ghost-set {behind} {count} c e =
          let many : count ≡ count_below (mesh_trees mesh) (ghost_in (mesh_core mesh) first end) = e ∙ members-many (64 * words) (omega arith) in
          let all : (n : ℕ) → mesh_trees mesh ≤ n → count_below n (in_set ws) ≡ count = λ n h. members-many n h ∙ sym many in
          record {
            few = omega (arith, marked.same_length, space.blank.few);
            room = omega (arith, marked.same_length, space.room);
            members = members-ghosts;
            past = members-past;
            counted =
                record {
                  same = c.same_length ∙ space.blank.same ∙ sym marked.same_length;
                  whole = all (64 * length ws) (omega (arith, marked.same_length, space.room));
                  counts = λ i h. either (ltb i words)
                      (λ p. c.counts i (omega arith) (ltb-true i words p) ∙ all (64 * words) (omega arith))
                      (λ p. omega (arith, c.others i (omega tests), space.blank.zeros i, all (64 * (i + 1)) (omega tests)));
                };
            many = many;
          }

      pub measured : {behind : List ℕ} {count : ℕ} → Counted ws words behind₀ 0 behind → count ≡ count_below (64 * words) (in_set ws) → Measured mesh table rank ws behind first (end - first) count
      unfolding tree_count
      measured {behind} {count} c e =
          let s : first + (end - first) ≡ end = omega (arith, space_trees.range) in
          record {
            is_first = is_first;
            is_count = rw (is_first, is_end);
            is_end = s ∙ is_end;
            within = rw s space_trees.within;
            ghosts = rw s (ghost-set c e);
          }

-- words of 0 for as many trees as they can hold
pub cut_space : {mesh table : List ℕ} {rank words : ℕ} → CutRoom mesh table rank words → CutSpace mesh table rank (replicate words 0) (replicate words 0)
cut_space {words = words} r = record { checked = r.checked; room = omega (arith, length-replicate {A = ℕ} words 0, r.room); blank = blank words r.few }

-- the words for all trees that there can be
pub room_of_all : (mesh table : List ℕ) (rank : ℕ) → 0 ≡ first_failed (cut_checks mesh table rank) → Bytes table → CutRoom mesh table rank 16384
room_of_all mesh table rank checked bytes = record { checked = sym checked; room = omega (arith, (cut_fits mesh table rank checked refl bytes).most); few = omega arith }
