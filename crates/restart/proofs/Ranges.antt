-- Laws of a rank's range, as the checks read it.
use Prim.Native.Nat.{ℕ, ◌+◌, ◌-◌, ◌*◌, ◌≤◌, ◌<◌}
use native.Mathlib.Omega.{arith}
use mathlib.Core.Path.{◌≡◌, refl}
use mathlib.Core.Bool.{Bool, true, false, ◌&&◌}
use mathlib.Core.List.{List}
use lib.Dec.{eqb}
use lib.ListN.{length}
use borrow.Author.Tests.{eq-eqb}
use Rattle.encoding.specs.Pieces.{Bytes}
use Rattle.encoding.proofs.Below.{tests, and_fst, and_snd, and_intro, iff_eq}
use Rattle.offsets.specs.Limits.{max_ranks, max_trees}
use Rattle.offsets.specs.Table.{ranks, trees, first_tree, end_tree, tree_count}
use Rattle.offsets.proofs.OnePass.{ranks_known}
use Rattle.offsets.proofs.Tables.{first_le_end, end_trees, trees_high}
use Rattle.part.specs.Means.{RankKnown}
use Rattle.restart.specs.Restart.{same_trees}
use Rattle.restart.specs.Means.{ValidTable}

-- what the range of a rank fits in
pub record RangeFits (t : List ℕ) (p : ℕ) : Type 0 where
  pub long : 8 * (p + 1 + 1) ≤ length t
  pub rises : first_tree t p ≤ end_tree t p
  pub ends : end_tree t p ≤ trees t
  pub most : trees t ≤ max_trees
  pub few : ranks t ≤ max_ranks

pub range_fits_lem : (t : List ℕ) (p : ℕ) → Bytes t → RankKnown t p → RangeFits t p
range_fits_lem t p b k =
    let r = ranks_known t k.counted in
    record {
      long = omega (arith, r.size, k.below);
      rises = first_le_end t b k.counted k.checked p k.below;
      ends = end_trees t b k.counted k.checked p k.below;
      most = trees_high t b k.counted k.checked;
      few = r.high;
    }

-- a rank has no trees exactly where its first tree is its end
pub empty_read : {t : List ℕ} {p f e : ℕ} → RangeFits t p → f ≡ first_tree t p → e ≡ end_tree t p → eqb f e ≡ eqb (tree_count t p) 0
unfolding tree_count
empty_read {t} {p} {f} {e} r x y =
    rw (x, y)
    (iff_eq (eqb (first_tree t p) (end_tree t p)) (eqb (end_tree t p - first_tree t p) 0)
    (λ h. eq-eqb (end_tree t p - first_tree t p) 0 (omega (tests, h)))
    (λ h. eq-eqb (first_tree t p) (end_tree t p) (omega (tests, h, r.rises))))

-- a rank of a valid table
pub rank_of : {t : List ℕ} {P p : ℕ} → ValidTable t → P ≡ ranks t → p < P → RankKnown t p
rank_of v e h = record { counted = v.counted; checked = v.checked; below = omega arith }

after : (k a b c : Bool) → (a && b) ≡ (a && c) → (k && a && b) ≡ (k && a && c)
after true a b c h = h
after false a b c h = refl

-- two ranges are equal exactly where first trees and ends are
module _ {t o : List ℕ} {p q : ℕ} (a : RangeFits t p) (b : RangeFits o q) where
  ends-counts : (eqb (first_tree t p) (first_tree o q) && eqb (end_tree t p) (end_tree o q)) ≡ (eqb (first_tree t p) (first_tree o q) && eqb (tree_count t p) (tree_count o q))
  unfolding tree_count
  ends-counts =
      let f : Bool = eqb (first_tree t p) (first_tree o q) in
      let e : Bool = eqb (end_tree t p) (end_tree o q) in
      let c : Bool = eqb (end_tree t p - first_tree t p) (end_tree o q - first_tree o q) in
      iff_eq (f && e) (f && c)
      (λ h. and_intro f c (and_fst f e h) (eq-eqb (end_tree t p - first_tree t p) (end_tree o q - first_tree o q) (omega (tests, and_fst f e h, and_snd f e h))))
      (λ h. and_intro f e (and_fst f c h) (eq-eqb (end_tree t p) (end_tree o q) (omega (tests, and_fst f c h, and_snd f c h, a.rises, b.rises))))

  pub same_read : {x y f g d e : ℕ} → x ≡ trees t → y ≡ trees o → f ≡ first_tree t p → g ≡ first_tree o q → d ≡ end_tree t p → e ≡ end_tree o q
      → (eqb x y && eqb f g && eqb d e) ≡ same_trees t p o q
  unfolding same_trees
  same_read x y f g d e =
      rw (x, y, f, g, d, e)
      (after (eqb (trees t) (trees o)) (eqb (first_tree t p) (first_tree o q)) (eqb (end_tree t p) (end_tree o q)) (eqb (tree_count t p) (tree_count o q)) ends-counts)
