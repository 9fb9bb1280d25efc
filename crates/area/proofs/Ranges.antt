-- Laws of a rank's range of trees, and of the trees due from a sender.
use Prim.Native.Nat.{ℕ, ◌+◌, ◌-◌, ◌*◌, ◌≤◌, ◌<◌}
use native.Mathlib.Nat.{le_refl, mul-le-mul_right}
use native.Mathlib.Omega.{arith}
use mathlib.Core.Path.{◌≡◌, sym, ap, ap₂, ◌∙◌}
use mathlib.Core.Bool.{Bool, true, ◌&&◌}
use mathlib.Core.List.{List}
use lib.Dec.{leb, ltb, eqb}
use lib.ListN.{length}
use borrow.Author.Tests.{ltb-true, leb-true, eqb-true, eqb-false, lt-ltb, le-leb}
use Rattle.encoding.specs.Below.{count_below}
use Rattle.encoding.specs.Pieces.{Bytes}
use Rattle.encoding.proofs.Below.{either, iff_eq, count_range, count_none}
use Rattle.offsets.specs.Limits.{max_trees}
use Rattle.offsets.specs.Table.{ranks, trees, first_tree, end_tree, tree_count, holds}
use Rattle.offsets.proofs.OnePass.{ranks_known}
use Rattle.offsets.proofs.Tables.{count_add, first_le_end, end_trees, trees_high}
use Rattle.pattern.specs.Sender.{Tables, sender, sends, sent_first, sent_count}
use Rattle.pattern.proofs.Counting.{range_out}
use Rattle.pattern.proofs.Senders.{holds_true, holds_in}
use Rattle.pattern.proofs.Sets.{one_range, received_only}
use Rattle.records.specs.Shape.{faces_in}
use Rattle.area.specs.Layout.{ghost_bound}
use Rattle.area.specs.Area.{area_p, area_rank, area_count, area_old, area_new, area_first}
use Rattle.area.specs.Means.{RankIn, HeaderHolds, from_first, from_count}

-- ---- a rank's trees

-- what the range of a rank fits in
pub record RangeFits (t : List ℕ) (p : ℕ) : Type 0 where
  pub long : 8 * (p + 1 + 1) ≤ length t
  pub rises : first_tree t p ≤ end_tree t p
  pub most : end_tree t p ≤ max_trees

pub range_fits_lem : (t : List ℕ) (p : ℕ) → Bytes t → RankIn t p → RangeFits t p
range_fits_lem t p b f =
    record {
      long = omega (arith, (ranks_known t f.ranks_fit).size, f.rank_below);
      rises = first_le_end t b f.ranks_fit f.is_valid p f.rank_below;
      most = omega (arith, end_trees t b f.ranks_fit f.is_valid p f.rank_below, trees_high t b f.ranks_fit f.is_valid);
    }

pub count_read : (t : List ℕ) (p : ℕ) {first end : ℕ} → RangeFits t p → first ≡ first_tree t p → end ≡ end_tree t p → (end - first ≡ tree_count t p) × (end - first ≤ max_trees)
unfolding tree_count
count_read t p f e d = (rw (e, d), omega (arith, f.most))

pub count_high_lem : {t : List ℕ} {p : ℕ} → RangeFits t p → tree_count t p ≤ max_trees
unfolding tree_count
count_high_lem f = omega (arith, f.most)

-- the trees from s to a rank are in its new range
pub sent_within : (old new : List ℕ) → Tables old new → (rank s : ℕ) → rank < ranks old → s < ranks old → (sent_count old new s rank ≡ 0 → ⊥)
    → (first_tree new rank ≤ sent_first old new s rank) × (sent_first old new s rank + sent_count old new s rank ≤ first_tree new rank + tree_count new rank)
sent_within old new T rank s r l some =
    let f : ℕ = sent_first old new s rank in
    let c : ℕ = sent_count old new s rank in
    let end : first_tree new rank + tree_count new rank ≡ end_tree new rank = count_add new T.new_bytes T.new_ranks T.new_valid rank (omega (arith, T.same_ranks)) in
    let x = holds_true new rank f (received_only old new T s rank f l r (le_refl f) (omega arith)) in
    let y = holds_true new rank (f + (c - 1)) (received_only old new T s rank (f + (c - 1)) l r (omega arith) (omega arith)) in
    (x.0, omega (arith, y.1))

sends_held : (old new : List ℕ) (s rank k : ℕ) → holds new rank k ≡ true → sends old new s rank k ≡ eqb (sender old k rank) s
unfolding sends
sends_held old new s rank k h = rw h

-- as many trees of a rank's new range are due from s as s sends it
pub due_count : (old new : List ℕ) (T : Tables old new) (rank s : ℕ) → rank < ranks old → s < ranks old
    → count_below (tree_count new rank) (λ i. eqb (sender old (first_tree new rank + i) rank) s) ≡ sent_count old new s rank
due_count old new T rank s r l =
    let F : ℕ = first_tree new rank in
    let n : ℕ = tree_count new rank in
    let f : ℕ = sent_first old new s rank in
    let c : ℕ = sent_count old new s rank in
    let end : F + n ≡ end_tree new rank = count_add new T.new_bytes T.new_ranks T.new_valid rank (omega (arith, T.same_ranks)) in
    let most : end_tree new rank ≤ trees old = omega (arith, end_trees new T.new_bytes T.new_ranks T.new_valid rank (omega (arith, T.same_ranks)), T.same_trees) in
    let own : (i : ℕ) → i < n → eqb (sender old (F + i) rank) s ≡ (leb f (F + i) && ltb (F + i) (f + c)) =
    λ i h. sym (sends_held old new s rank (F + i) (holds_in new rank (F + i) (omega arith) (omega arith))) ∙ one_range old new T s rank l r (F + i) (omega arith) in
    either (eqb c 0)
    (λ z. let e : c ≡ 0 = eqb-true c 0 z in
    count_none n (λ i. eqb (sender old (F + i) rank) s) (λ i h. own i h ∙ range_out f (f + c) (F + i) (λ p. omega arith)) ∙ sym e)
    (λ z. let w = sent_within old new T rank s r l (eqb-false c 0 z) in
    count_range n (λ i. eqb (sender old (F + i) rank) s) (f - F) (f - F + c) (omega arith) (omega (arith, w.0, w.1))
    (λ i h. own i h ∙ ap₂ (λ (x y : Bool). x && y) (iff_eq (leb f (F + i)) (leb (f - F) i) (λ t. le-leb (f - F) i (omega (arith, leb-true f (F + i) t))) (λ t. le-leb f (F + i) (omega (arith, leb-true (f - F) i t))))
    (iff_eq (ltb (F + i) (f + c)) (ltb i (f - F + c)) (λ t. lt-ltb i (f - F + c) (omega (arith, ltb-true (F + i) (f + c) t, w.0))) (λ t. lt-ltb (F + i) (f + c) (omega (arith, ltb-true i (f - F + c) t, w.0)))))
    ∙ omega arith)

-- F slots for each tree
pub bound_read : (dimension n : ℕ) {F : ℕ} → F ≡ faces_in dimension → F ≤ 6 → (F * n ≡ ghost_bound (faces_in dimension) n) × (F * n ≤ 6 * n)
unfolding ghost_bound
bound_read dimension n e h = (rw e, mul-le-mul_right n h)

-- ---- the area's range, and the trees due from a sender

module _ (a : List ℕ) (H : HeaderHolds a) where
  pub rank_below : area_rank a < ranks (area_old a)
  rank_below = omega (arith, H.ranks_are, H.rank_below)

  -- the new range has n trees from the first on
  pub range_end : area_first a + area_count a ≡ end_tree (area_new a) (area_rank a)
  unfolding area_first
  range_end =
      ap (λ (m : ℕ). first_tree (area_new a) (area_rank a) + m) H.count_is
      ∙ count_add (area_new a) H.tables.new_bytes H.tables.new_ranks H.tables.new_valid (area_rank a) (omega (arith, rank_below, H.tables.same_ranks))

  -- they are trees
  pub range_trees : area_first a + area_count a ≤ trees (area_old a)
  range_trees =
      omega (
        arith,
        range_end,
        end_trees (area_new a) H.tables.new_bytes H.tables.new_ranks H.tables.new_valid (area_rank a) (omega (arith, rank_below, H.tables.same_ranks)),
        H.tables.same_trees,
      )

  module _ (s : ℕ) (l : s < area_p a) where
    pub sender_below : s < ranks (area_old a)
    sender_below = omega (arith, H.ranks_are)

    -- the trees due from s are in the new range
    pub from_within : (from_count a s ≡ 0 → ⊥) → (area_first a ≤ from_first a s) × (from_first a s + from_count a s ≤ area_first a + area_count a)
    unfolding area_first
    from_within some = rw H.count_is (sent_within (area_old a) (area_new a) H.tables (area_rank a) s rank_below sender_below some)

    -- and there are as many as slots whose tree is due from s
    pub from_count_lem : count_below (area_count a) (λ i. eqb (sender (area_old a) (area_first a + i) (area_rank a)) s) ≡ from_count a s
    unfolding area_first
    from_count_lem = rw H.count_is (due_count (area_old a) (area_new a) H.tables (area_rank a) s rank_below sender_below)
