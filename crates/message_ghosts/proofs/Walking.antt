-- Laws of the set of local indices: what is added to it, and the walk through its members.
use Prim.Native.Nat.{ℕ, ◌+◌, ◌-◌, ◌*◌, ◌≤◌, ◌<◌}
use native.Mathlib.Numerals.{add-one}
use native.Mathlib.Omega.{arith}
use mathlib.Core.Path.{◌≡◌, refl, sym, ap, ◌∙◌}
use mathlib.Core.Bool.{Bool, true, false, ◌&&◌, ◌||◌}
use mathlib.Core.List.{List}
use lib.Dec.{ltb, eqb}
use lib.ListN.{length}
use borrow.Author.Tests.{ltb-true, lt-ltb, eqb-true}
use Rattle.encoding.specs.Below.{any_below}
use Rattle.encoding.specs.Pieces.{piece}
use Rattle.encoding.proofs.Below.{either, tests, clash, iff_eq, any_at, any_intro, any_none}
use Rattle.bits.specs.Bits.{in_set, with_member, least_from}
use Rattle.bits.proofs.Scanning.{from_le, from_most, from_at, from_below}
use Rattle.offsets.specs.Table.{trees}
use Rattle.records.specs.Shape.{face_count}
use Rattle.records.specs.Record.{core_size, shape_of}
use Rattle.part.specs.Layout.{tree_place}
use Rattle.part.specs.Means.{record_place}
use Rattle.part.specs.Part.{part_first, part_core}
use Rattle.positions.specs.Means.{Added}
use Rattle.positions.proofs.Positions.{added_none, added_one, added_then}
use Rattle.part_cut.specs.Means.{out_faces, out_trees, FacesFit}
use Rattle.part_cut.proofs.Marking.{trees_more}
use Rattle.message_ghosts.specs.Means.{number_in, record_in, Known, AtRecord, Near, NearRoom, goes, goes_near}
use Rattle.message_ghosts.proofs.Records.{held_below_lem, place_fits, tree_number, number_held, shape_is, tree_next}

-- the faces of a tree as the part stores it
pub faces_same : (part old new : List ℕ) (p q count : ℕ) → Known part old new p q count → (i : ℕ) → i < count
    → face_count (shape_of (record_in part count i)) ≡ face_count (shape_of (part_core part (part_first part + i)))
faces_same part old new p q count k i h =
    ap face_count (shape_is part old new p q count k i (omega arith) ∙ ap (λ (n : ℕ). shape_of (part_core part n)) (tree_number part old new p q count k i h))

-- ---- what is added

module _ (part old new : List ℕ) (p q count start end : ℕ) {near₀ : List ℕ} (room : NearRoom part old new p q count start end near₀) {i : ℕ} (from : start ≤ i) (more : i < end) {at : ℕ} (here : at ≡ tree_place i) where
  in_trees : i < count
  in_trees = omega (arith, room.within)

  tree_read : piece part at core_size ≡ record_in part count i
  unfolding record_in record_place
  tree_read = rw (here, lt-ltb i count in_trees)

  pub tree_there : at + core_size ≤ length part
  unfolding record_place
  tree_there = rw (lt-ltb i count in_trees, ← here) at (place_fits part old new p q count room.known i (omega (arith, in_trees)))

  module _ {shape faces : ℕ} (is-shape : shape ≡ shape_of (piece part at core_size)) (is-faces : faces ≡ face_count shape) {ws : List ℕ} (so_far : Added near₀ (out_trees (record_in part count) start end (i - start)) ws) where
    faces-are : faces ≡ face_count (shape_of (record_in part count i))
    faces-are = is-faces ∙ ap face_count (is-shape ∙ ap shape_of tree_read)

    pub faces_fit : faces ≤ 6 → FacesFit part at faces start end ws
    faces_fit few =
        record {
          fits = tree_there;
          few = few;
          range = room.range;
          low = λ f l.
              rw tree_read
              (omega (arith, (tree_next part old new p q count room.known i f in_trees (omega (arith, faces-are, faces_same part old new p q count room.known i in_trees))).0, room.room, so_far.same_length));
        }

    pub tree_added : {last : List ℕ} → Added ws (out_faces start end (piece part at core_size) faces) last → Added near₀ (out_trees (record_in part count) start end (i + 1 - start)) last
    tree_added q = trees_more (record_in part count) start end from so_far (rw (tree_read, faces-are) at q)

-- ---- the walk

-- tests that fail between two bounds don't tell them apart
any_gap : (a b : ℕ) (f : ℕ → Bool) → a ≤ b → ((i : ℕ) → a ≤ i → i < b → f i ≡ false) → any_below b f ≡ any_below a f
any_gap a b f h none =
    iff_eq (any_below b f) (any_below a f)
    (λ e.
    let x = any_at b f e in
    either (ltb x.0 a) (λ t. any_intro a f x.0 (ltb-true x.0 a t) x.2) (λ t. clash x.2 (none x.0 (omega tests) x.1)))
    (λ e. let x = any_at a f e in any_intro b f x.0 (omega (arith, x.1)) x.2)

module _ (part old new : List ℕ) (p q low count : ℕ) (near marks₀ : List ℕ) where
  abbrev N : ℕ
  N = 64 * length near

  abbrev members : ℕ → Bool
  members = in_set near

  abbrev going : ℕ → ℕ → Bool
  going i x = members i && (eqb (number_in part count i) x && goes part old new p q low x)

  -- the members before j are decided, and j is the next
  pub record Walk (j : ℕ) (marks : List ℕ) : Type 0 where
    pub within : j ≤ 64 * length near
    pub member : j < 64 * length near → in_set near j ≡ true
    pub added : Added marks₀ (goes_near part old new p q low count near j) marks

  not_in : (x i : ℕ) → members i ≡ false → going i x ≡ false
  not_in x i e = rw e

  pub walk_start : {j : ℕ} → j ≡ least_from (64 * length near) 0 (in_set near) → Walk j marks₀
  unfolding goes_near
  walk_start {j} e =
      record {
        within = omega (arith, e, from_most N 0 members);
        member = λ l. rw e (from_at N 0 members (rw e at l));
        added = added_none marks₀ (λ x. any_below j (λ i. going i x)) (λ x. any_none j (λ i. going i x) (λ i l. not_in x i (from_below N 0 members i (omega arith) (rw e at l))));
      }

  module _ {j : ℕ} {marks : List ℕ} (so_far : Walk j marks) (more : j < 64 * length near) {next : ℕ} (is : next ≡ least_from (64 * length near) (j + 1) (in_set near)) where
    -- one member more
    near-more : (x : ℕ) → goes_near part old new p q low count near next x ≡ (goes_near part old new p q low count near j x || (eqb (number_in part count j) x && goes part old new p q low x))
    unfolding goes_near any_below
    near-more x =
        any_gap (j + 1) next (λ i. going i x) (omega (arith, is, from_le N (j + 1) members)) (λ i h l. not_in x i (from_below N (j + 1) members i h (rw is at l)))
        ∙ rw (add-one j, so_far.member more)

    step : {last : List ℕ} → Added marks₀ (goes_near part old new p q low count near next) last → Walk next last
    step a =
        record {
          within = omega (arith, is, from_most N (j + 1) members);
          member = λ l. rw is (from_at N (j + 1) members (rw is at l));
          added = a;
        }

    module _ {k : ℕ} (number : k ≡ number_in part count j) {b : Bool} (test : b ≡ goes part old new p q low k) where
      -- it goes
      pub walk_goes : b ≡ true → k < 64 * length marks → {last : List ℕ} → last ≡ with_member marks k → Walk next last
      walk_goes e l w =
          step (added_then (goes_near part old new p q low count near next) so_far.added (added_one l w)
          (λ x. near-more x ∙ rw (← number) (ap (λ (d : Bool). goes_near part old new p q low count near j x || d) (either (eqb k x) (λ d. rw (d, ← eqb-true k x d) (sym test ∙ e)) (λ d. rw d)))))

      -- it doesn't
      pub walk_stays : b ≡ false → Walk next marks
      walk_stays e =
          step (added_then (goes_near part old new p q low count near next) so_far.added (added_none marks (λ x. false) (λ x. refl))
          (λ x. near-more x ∙ rw (← number) (ap (λ (d : Bool). goes_near part old new p q low count near j x || d) (either (eqb k x) (λ d. rw (d, ← eqb-true k x d) (sym test ∙ e)) (λ d. rw d)))))

  pub walk_end : {j : ℕ} {marks : List ℕ} → Walk j marks → 64 * length near ≤ j → Added marks₀ (goes_near part old new p q low count near (64 * length near)) marks
  walk_end {j} w h = let e : 64 * length near ≡ j = omega (arith, w.within) in rw e w.added

-- a member is a record of the part, with a number below K
module _ (part old new : List ℕ) (p q count : ℕ) (k : Known part old new p q count) {near : List ℕ} (n : Near part count near) (j : ℕ) (member : in_set near j ≡ true) where
  pub member_record : AtRecord part old new p q count j
  member_record = record { known = k; within = n.low j member }

  pub member_fits : record_place count j + core_size ≤ length part
  member_fits = place_fits part old new p q count k j (n.low j member)

  pub member_below : {number : ℕ} → number ≡ number_in part count j → number < trees old
  member_below e = rw e (held_below_lem part old new p q count k (number_in part count j) (number_held part old new p q count k j (n.low j member))).0
