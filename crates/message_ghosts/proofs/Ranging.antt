-- Laws of the ranges that decide what goes.
use Prim.Native.Nat.{ℕ, ◌≤◌, ◌<◌}
use native.Mathlib.Omega.{arith}
use mathlib.Core.Path.{◌≡◌, refl, sym}
use mathlib.Core.Bool.{Bool, true, false, ◌&&◌, ◌||◌, or_comm}
use mathlib.Core.List.{List}
use lib.Dec.{leb, ltb}
use borrow.Author.Tests.{ltb-true, leb-true, lt-ltb, le-leb}
use Rattle.encoding.proofs.Below.{either, tests, and_fst, and_snd, and_intro, iff_eq}
use Rattle.offsets.specs.Table.{ranks, first_tree, end_tree, holds}
use Rattle.offsets.proofs.Tables.{range_fits_lem}
use Rattle.pattern.specs.Means.{RankOf}
use Rattle.pattern.proofs.Counting.{range_true, range_in}
use Rattle.part.specs.Means.{in_range}
use Rattle.message_ghosts.specs.Means.{CutAt, Ranged, sent_before}

module _ (a b x : ℕ) where
  pub range_both : in_range a b x ≡ true → (a ≤ x) × (x < b)
  unfolding in_range
  range_both e = range_true a b x e

  pub both_range : a ≤ x → x < b → in_range a b x ≡ true
  unfolding in_range
  both_range h l = range_in a b x h l

-- a place in a range with the same numbers of the range below it as k
pub cut_made : (low high k r : ℕ) → low ≤ r → r ≤ high → ((x : ℕ) → low ≤ x → x < high → (x < r → x < k) × (x < k → x < r)) → CutAt low high k r
cut_made low high k r a b same =
    record {
      from = a;
      to = b;
      before = λ x.
          iff_eq (in_range low r x) (in_range low high x && ltb x k)
          (λ e.
          let i = range_both low r x e in
          let h : x < high = omega (arith, i.1) in
          and_intro (in_range low high x) (ltb x k) (both_range low high x i.0 h) (lt-ltb x k ((same x i.0 h).0 i.1)))
          (λ e.
          let i = range_both low high x (and_fst (in_range low high x) (ltb x k) e) in
          both_range low r x i.0 ((same x i.0 i.1).1 (ltb-true x k (and_snd (in_range low high x) (ltb x k) e))));
      behind = λ x.
          iff_eq (in_range r high x) (in_range low high x && leb k x)
          (λ e.
          let i = range_both r high x e in
          let l : low ≤ x = omega (arith, i.0) in
          and_intro (in_range low high x) (leb k x) (both_range low high x l i.1)
          (le-leb k x (either (ltb x k) (λ t. absurd (omega (arith, i.0, (same x l i.1).1 (ltb-true x k t)))) (λ t. omega tests))))
          (λ e.
          let i = range_both low high x (and_fst (in_range low high x) (leb k x) e) in
          let m : k ≤ x = leb-true k x (and_snd (in_range low high x) (leb k x) e) in
          both_range r high x (either (ltb x r) (λ t. absurd (omega (arith, m, (same x i.0 i.1).0 (ltb-true x r t)))) (λ t. omega tests)) i.1);
    }

both_orders : (h l a b : Bool) → ((h && l) || ((h && a) && b)) ≡ (h && ((a && b) || l))
both_orders true l a b = or_comm l (a && b)
both_orders false l a b = refl

module _ {old new : List ℕ} {q : ℕ} (r : RankOf old new q) where
  -- q's new range has 32 bits
  pub new_range : (first_tree new q ≤ end_tree new q) × (end_tree new q ≤ 1048576)
  new_range = range_fits_lem new (ranks old) q r.tables.new_bytes r.tables.new_ranks r.tables.new_valid (sym r.tables.same_ranks) r.rank_below

  pub ranged : (low first end below kept until a b : ℕ) → first ≡ first_tree new q → end ≡ end_tree new q → a ≡ first_tree old q → b ≡ end_tree old q → CutAt first end low below → CutAt first end a kept → CutAt kept end b until
      → Ranged old new q low first end below kept until
  unfolding sent_before holds in_range
  ranged low first end below kept until a b f e c d x y z =
      record {
        forward = omega (arith, new_range.0);
        below_forward = x.from;
        kept_forward = z.from;
        receives = λ k. rw (f, e);
        before = λ k.
            rw (x.before k, z.before k, y.behind k, ← f, ← e, ← c, ← d)
            (both_orders (in_range first end k) (ltb k low) (leb a k) (ltb k b));
      }
