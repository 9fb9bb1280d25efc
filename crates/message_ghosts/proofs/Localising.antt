-- Laws of the ranges among the sender's own trees, by their local index.
use Prim.Native.Nat.{ℕ, ◌+◌, ◌≤◌, ◌<◌}
use native.Mathlib.Omega.{arith}
use mathlib.Core.Path.{◌≡◌, refl, ap, ◌∙◌}
use mathlib.Core.Bool.{◌||◌}
use mathlib.Core.List.{List}
use lib.Dec.{ltb}
use borrow.Author.Tests.{ltb-true}
use Rattle.encoding.specs.Pieces.{piece}
use Rattle.encoding.proofs.Below.{either, tests, iff_eq}
use Rattle.records.specs.Record.{core_size, neighbour_of}
use Rattle.part.specs.Means.{in_range, record_place}
use Rattle.part.specs.Part.{part_first}
use Rattle.message_ghosts.specs.Means.{Known, Ranged, BoundAt, Localised, number_in, across_at, sent_before}
use Rattle.message_ghosts.proofs.Ranging.{range_both, both_range}
use Rattle.message_ghosts.proofs.Reading.{across_tree}
use Rattle.message_ghosts.proofs.Records.{tree_number}

module _ {own n a b x y : ℕ} (p : BoundAt own n a x) (q : BoundAt own n b y) where
  pub bounds_forward : a ≤ b → x ≤ y
  bounds_forward h =
      either (ltb y x)
      (λ t.
      let l : y < x = ltb-true y x t in
      let m : y < n = omega (arith, p.few) in
      let k : a ≤ own + y = omega (arith, q.reached y m (omega arith)) in
      absurd (omega (arith, p.reaches y m k)))
      (λ t. omega tests)

  before-both : (i : ℕ) → i < n → i < y → own + i < b
  before-both i h l =
      either (ltb (own + i) b)
      (λ t. ltb-true (own + i) b t)
      (λ t.
      let k : b ≤ own + i = omega tests in
      absurd (omega (arith, q.reaches i h k)))

  both-before : (i : ℕ) → i < n → own + i < b → i < y
  both-before i h l =
      either (ltb i y)
      (λ t. ltb-true i y t)
      (λ t.
      let k : y ≤ i = omega tests in
      absurd (omega (arith, q.reached i h k)))

  pub bounds_range : (i : ℕ) → i < n → in_range x y i ≡ in_range a b (own + i)
  bounds_range i h =
      iff_eq (in_range x y i) (in_range a b (own + i))
      (λ e. let r = range_both x y i e in both_range a b (own + i) (p.reached i h r.0) (before-both i h r.1))
      (λ e. let r = range_both a b (own + i) e in both_range x y i (p.reaches i h r.0) (both-before i h r.1))

-- the four bounds of the two ranges
pub localised : (part old new : List ℕ) (p q low count : ℕ) {own first end below kept until x y z w : ℕ} → Known part old new p q count → own ≡ part_first part
    → Ranged old new q low first end below kept until → BoundAt own count first x → BoundAt own count below y → BoundAt own count kept z → BoundAt own count until w
    → Localised part old new q low count x y z w
localised part old new p q low count {own} k e r a b c d =
    record {
      below_forward = bounds_forward a b r.below_forward;
      kept_forward = bounds_forward c d r.kept_forward;
      before = λ i h. rw (bounds_range a b i h, bounds_range c d i h, tree_number part old new p q count k i h, ← e) (r.before (own + i));
    }

-- a tree of the part across a face
pub tree_before : (part old new : List ℕ) (q low n j at f next : ℕ) {x y z w : ℕ} → Localised part old new q low n x y z w → at ≡ record_place n j → next ≡ neighbour_of (piece part at core_size) f
    → j < n → next < n → (in_range x y next || in_range z w next) ≡ sent_before old new q low (across_at part n j f)
tree_before part old new q low n j at f next l place read h m =
    l.before next m ∙ ap (sent_before old new q low) (across_tree part n j at place f next read (number_in part n next) h refl)
