-- A walk over a string finds what reading it gives: the same refinement's end, and its leaves.
use Prim.Native.Nat.{ℕ, zero, suc, ◌+◌, ◌-◌, ◌≤◌, ◌<◌}
use native.Mathlib.Nat.{add-zero, zero-add, add_assoc}
use native.Mathlib.Numerals.{add-one}
use native.Mathlib.Omega.{arith}
use mathlib.Core.Path.{◌≡◌, refl, sym, ap, subst, ◌∙◌}
use mathlib.Core.Bool.{Bool, true, false, cond, ◌&&◌}
use mathlib.Core.List.{List, [], ◌∷◌}
use lib.Dec.{ltb, eqb}
use lib.ListN.{length, get_or, drop, length-replicate, length-drop, drop_of_length-le}
use lib.Seq.{drop-cons}
use borrow.Author.Tests.{lt-ltb, le-ltb, lt-leb, le-leb, eq-eqb, ne_eqb}
use Rattle.encoding.proofs.Below.{tests, either}
use Rattle.encoding.specs.Refusal.{first_failed}
use Rattle.refinement.specs.declared.walk.TreeLeaves.{TreeLeaves}
use Rattle.std.specs.Prelude.{None, Some, IfSome}
use Rattle.std.specs.declared.option.Option.{Option}
use Rattle.std.proofs.lemmas.Option.{none-some, same_Some}
use Rattle.refinement.specs.Refinement.{Row, Kind, upright, inverted, one, children, child_kinds, refinable, leaves_in, leaves}
use Rattle.refinement.specs.Reading.{Reading, stopped, found, after_leaf, after_children, after_refined, read_row, read_children, read_tree, whole, row_read, string_ok, refinement_of}
use Rattle.refinement.specs.Calls.{upright_leaves, inverted_leaves, tree_leaves, count_refusal, leaves_refused, leaves_answer, count_leaves}
use Rattle.refinement.specs.Means.Trees.{tree_at, tree_of}
use Rattle.refinement.proofs.Steps.{halted_row}
use Rattle.refinement.specs.Means.Walks.{Cursor, bit_at, leafed, onward, after_bit, walk_row, walk_of, Passing}

-- a walk on from w that has come to where reading leaves t, past the leaves of r
record Come (shape : ℕ) (s : List ℕ) (ks : List Kind) (w : Cursor) (r : Row) (t : List ℕ) (v : Cursor) : Type 0 where
  going : v.ok ≡ true
  within : v.at ≤ length s
  rest : drop v.at s ≡ t
  standing : v.upright ≡ w.upright + leaves_in shape upright r ks
  hanging : v.inverted ≡ w.inverted + leaves_in shape inverted r ks

abbrev Agrees : ℕ → List ℕ → List Kind → Cursor → Reading → Cursor → Type 0
Agrees shape s ks w stopped v = v.ok ≡ false
Agrees shape s ks w (found r t) v = Come shape s ks w r t v

pub kinds_length : (shape : ℕ) (k : Kind) → length (child_kinds shape k) ≡ children shape
unfolding child_kinds children
kinds_length shape k =
    either (eqb shape 1) (λ e. rw e (let z : shape ≡ 1 = omega tests in rw z)) (λ e. rw e (length-replicate (cond (ltb shape 2) 4 8) k))

-- the walk at each byte
module _ (shape : ℕ) (k : Kind) (s : List ℕ) (w : Cursor) (going : w.ok ≡ true) where
  walk_end : (depth : ℕ) → length s ≤ w.at → (walk_of shape depth k s w).ok ≡ false
  unfolding walk_of after_bit bit_at
  walk_end zero h = rw (going, le-ltb w.at (length s) h)
  walk_end (suc d) h = rw (going, le-ltb w.at (length s) h)

  walk-zero : (depth : ℕ) → w.at < length s → get_or s w.at 0 ≡ 0 → walk_of shape depth k s w ≡ leafed k w
  unfolding walk_of after_bit bit_at
  walk-zero zero h e = rw (going, lt-ltb w.at (length s) h, e)
  walk-zero (suc d) h e = rw (going, lt-ltb w.at (length s) h, e)

  walk-one : (depth : ℕ) → w.at < length s → get_or s w.at 0 ≡ 1 → walk_of shape (suc depth) k s w ≡ walk_row (λ j v. walk_of shape depth j s v) (child_kinds shape k) (onward w)
  unfolding walk_of after_bit bit_at
  walk-one depth h e = rw (going, lt-ltb w.at (length s) h, e, lt-ltb 0 (suc depth) (omega arith))

  walk-one-deep : w.at < length s → get_or s w.at 0 ≡ 1 → (walk_of shape 0 k s w).ok ≡ false
  unfolding walk_of after_bit bit_at
  walk-one-deep h e = rw (going, lt-ltb w.at (length s) h, e)

  walk_more : (depth b : ℕ) → w.at < length s → get_or s w.at 0 ≡ suc (suc b) → (walk_of shape depth k s w).ok ≡ false
  unfolding walk_of after_bit bit_at
  walk_more zero b h e = rw (going, lt-ltb w.at (length s) h, e, ne_eqb (suc (suc b)) 0 (λ z. omega arith), ne_eqb (suc (suc b)) 1 (λ z. omega arith))
  walk_more (suc d) b h e = rw (going, lt-ltb w.at (length s) h, e, ne_eqb (suc (suc b)) 0 (λ z. omega arith), ne_eqb (suc (suc b)) 1 (λ z. omega arith))

module _ (shape : ℕ) (s : List ℕ) where
  -- reading and walking a row from w agree
  RowAgrees : ℕ → List Kind → Cursor → Type 0
  RowAgrees depth ks w = Agrees shape s ks w (read_row (read_children (children shape) depth) (length ks) (drop w.at s)) (walk_row (λ j v. walk_of shape depth j s v) ks w)

  -- so do the children of a refined element
  Kids : ℕ → Type 0
  Kids depth =
      (k : Kind) (w : Cursor) → w.ok ≡ true → w.at < length s → get_or s w.at 0 ≡ 1 →
      Agrees shape s (child_kinds shape k) (onward w) (read_children (children shape) depth (drop (suc w.at) s)) (walk_of shape depth k s w)

  agrees-leaf : (k : Kind) (ks : List Kind) (w v : Cursor) (q : Reading) → Agrees shape s ks (leafed k w) q v → Agrees shape s (k ∷ ks) w (after_leaf q) v
  unfolding leaves_in
  agrees-leaf k ks w v stopped a = a
  agrees-leaf k ks w v (found r t) a =
      record { going = a.going; within = a.within; rest = a.rest; standing = a.standing ∙ add_assoc w.upright (one upright k) (leaves_in shape upright r ks); hanging = a.hanging ∙ add_assoc w.inverted (one inverted k) (leaves_in shape inverted r ks) }

  agrees-refined : (k : Kind) (ks : List Kind) (w u v : Cursor) (c : Row) (t : List ℕ) → Come shape s (child_kinds shape k) (onward w) c t u → (q : Reading) → Agrees shape s ks u q v → Agrees shape s (k ∷ ks) w (after_children c q) v
  unfolding leaves_in
  agrees-refined k ks w u v c t b stopped a = a
  agrees-refined k ks w u v c t b (found r z) a =
      record {
        going = a.going;
        within = a.within;
        rest = a.rest;
        standing = a.standing ∙ (ap (λ (x : ℕ). x + leaves_in shape upright r ks) b.standing ∙ add_assoc w.upright (leaves_in shape upright c (child_kinds shape k)) (leaves_in shape upright r ks));
        hanging = a.hanging ∙ (ap (λ (x : ℕ). x + leaves_in shape inverted r ks) b.hanging ∙ add_assoc w.inverted (leaves_in shape inverted c (child_kinds shape k)) (leaves_in shape inverted r ks));
      }

  -- a refined element and those after it, by what its children were read as
  agrees-kids : (depth : ℕ) (k : Kind) (ks : List Kind) (w u : Cursor) → ((v : Cursor) → v.ok ≡ true → v.at ≤ length s → RowAgrees depth ks v) → (q : Reading) → Agrees shape s (child_kinds shape k) (onward w) q u
      → Agrees shape s (k ∷ ks) w (after_refined q (λ t. read_row (read_children (children shape) depth) (length ks) t)) (walk_row (λ j v. walk_of shape depth j s v) ks u)
  unfolding RowAgrees
  agrees-kids depth k ks w u h stopped a = halted_row shape depth s ks u a
  agrees-kids depth k ks w u h (found c t) a =
      agrees-refined k ks w u (walk_row (λ j v. walk_of shape depth j s v) ks u) c t a (read_row (read_children (children shape) depth) (length ks) t)
      (rw a.rest at (h u a.going a.within))

  -- an element and those after it, by its byte
  agrees-byte : (depth : ℕ) → Kids depth → (k : Kind) (ks : List Kind) (w : Cursor) → w.ok ≡ true → w.at < length s → ((v : Cursor) → v.ok ≡ true → v.at ≤ length s → RowAgrees depth ks v) → (b : ℕ)
      → get_or s w.at 0 ≡ b → Agrees shape s (k ∷ ks) w (read_row (read_children (children shape) depth) (suc (length ks)) (b ∷ drop (suc w.at) s)) (walk_row (λ j v. walk_of shape depth j s v) ks (walk_of shape depth k s w))
  unfolding RowAgrees Kids read_row
  agrees-byte depth kids k ks w o l h zero e =
      rw (walk-zero shape k s w o depth l e)
      (agrees-leaf k ks w (walk_row (λ j v. walk_of shape depth j s v) ks (leafed k w)) (read_row (read_children (children shape) depth) (length ks) (drop (suc w.at) s))
      (subst (λ (x : ℕ). Agrees shape s ks (leafed k w) (read_row (read_children (children shape) depth) (length ks) (drop x s)) (walk_row (λ j v. walk_of shape depth j s v) ks (leafed k w))) (add-one w.at) (h (leafed k w) refl (omega arith))))
  agrees-byte depth kids k ks w o l h (suc zero) e = agrees-kids depth k ks w (walk_of shape depth k s w) h (read_children (children shape) depth (drop (suc w.at) s)) (kids k w o l e)
  agrees-byte depth kids k ks w o l h (suc (suc b)) e = halted_row shape depth s ks (walk_of shape depth k s w) (walk_more shape k s w o depth b l e)

  agrees-row : (depth : ℕ) → Kids depth → (ks : List Kind) (w : Cursor) → w.ok ≡ true → w.at ≤ length s → RowAgrees depth ks w
  unfolding RowAgrees read_row walk_row leaves_in
  agrees-row depth kids [] w o l = record { going = o; within = l; rest = refl; standing = sym (add-zero w.upright); hanging = sym (add-zero w.inverted) }
  agrees-row depth kids (k ∷ ks) w o l =
      let h : (v : Cursor) → v.ok ≡ true → v.at ≤ length s → RowAgrees depth ks v = λ v p q. agrees-row depth kids ks v p q in
      either (ltb w.at (length s))
      (λ e.
      let lt : w.at < length s = omega tests in rw (drop-cons s w.at 0 lt) (agrees-byte depth kids k ks w o lt h (get_or s w.at 0) refl))
      (λ e.
      let le : length s ≤ w.at = omega tests in rw (drop_of_length-le s le) (halted_row shape depth s ks (walk_of shape depth k s w) (walk_end shape k s w o depth le)))

  agrees-children : (depth : ℕ) → Kids depth
  unfolding Kids RowAgrees read_children
  agrees-children zero k w o l e = walk-one-deep shape k s w o l e
  agrees-children (suc depth) k w o l e =
      rw (walk-one shape k s w o depth l e)
      (subst (λ (x : ℕ). Agrees shape s (child_kinds shape k) (onward w) (read_row (read_children (children shape) depth) (children shape) (drop x s)) (walk_row (λ j v. walk_of shape depth j s v) (child_kinds shape k) (onward w))) (add-one w.at)
      (subst (λ (m : ℕ). Agrees shape s (child_kinds shape k) (onward w) (read_row (read_children (children shape) depth) m (drop (w.at + 1) s)) (walk_row (λ j v. walk_of shape depth j s v) (child_kinds shape k) (onward w))) (kinds_length shape k)
      (agrees-row depth (agrees-children depth) (child_kinds shape k) (onward w) refl (omega arith))))

  agrees-all : (depth : ℕ) (ks : List Kind) (w : Cursor) → w.ok ≡ true → w.at ≤ length s → RowAgrees depth ks w
  agrees-all depth = agrees-row depth (agrees-children depth)

-- ---- a tree

abbrev start : Cursor
start = record { ok = true; at = 0; upright = 0; inverted = 0 }

whole_tree : (shape : ℕ) (s : List ℕ) (q : Reading) (v : Cursor) → Agrees shape s (upright ∷ []) start q v
    → tree_at (length s) v.ok v.at v.upright v.inverted
    ≡ cond (whole q) (Some (record { upright = leaves shape upright (row_read q); inverted = leaves shape inverted (row_read q) })) None
unfolding whole row_read tree_at leaves
whole_tree shape s stopped v a = rw a
whole_tree shape s (found r []) v a =
    let n : length s - v.at ≡ 0 = sym (length-drop v.at s) ∙ ap length a.rest in
    let e : eqb v.at (length s) ≡ true = eq-eqb v.at (length s) (omega (arith, a.within)) in
    let z : leaves_in shape upright r (upright ∷ []) ≡ v.upright = sym (a.standing ∙ zero-add (leaves_in shape upright r (upright ∷ []))) in
    let y : leaves_in shape inverted r (upright ∷ []) ≡ v.inverted = sym (a.hanging ∙ zero-add (leaves_in shape inverted r (upright ∷ []))) in
    rw (a.going, e, z, y)
whole_tree shape s (found r (b ∷ t)) v a =
    let n : length s - v.at ≡ suc (length t) = sym (length-drop v.at s) ∙ ap length a.rest in
    let e : eqb v.at (length s) ≡ false = ne_eqb v.at (length s) (λ z. omega arith) in
    rw (a.going, e)

-- a walk over a tree's string finds the tree's leaves
pub tree_walk : (shape : ℕ) (s : List ℕ) (v : Cursor) → v ≡ walk_of shape 20 upright s start → tree_at (length s) v.ok v.at v.upright v.inverted ≡ tree_of shape s
unfolding tree_of string_ok upright_leaves inverted_leaves refinement_of read_tree RowAgrees walk_row
tree_walk shape s v e = whole_tree shape s (read_row (read_children (children shape) 20) 1 s) v (rw e (agrees-all shape s 20 (upright ∷ []) start refl (omega arith)))

-- a tree has no more leaves than its walk has passed
pub tree_few : (n : ℕ) (ok : Bool) (at u i m : ℕ) → u + i ≤ m → IfSome (tree_at n ok at u i) (λ t. t.upright + t.inverted ≤ m)
unfolding tree_at
tree_few n ok at u i m h = either (ok && eqb at n) (λ e. rw e h) (λ e. rw e tt)

pub tree_found : (shape : ℕ) (s : List ℕ) (v : Cursor) {r : Option TreeLeaves} → v ≡ walk_of shape 20 upright s start → Passing s v → r ≡ tree_at (length s) v.ok v.at v.upright v.inverted
    → (r ≡ tree_of shape s) × IfSome r (λ t. t.upright + t.inverted ≤ length s)
tree_found shape s v e p q = (q ∙ tree_walk shape s v e, rw q (tree_few (length s) v.ok v.at v.upright v.inverted (length s) (omega (arith, p.few, p.within))))

-- a walk that stopped found nothing
pub tree_stopped : (shape : ℕ) (s : List ℕ) → (walk_of shape 20 upright s start).ok ≡ false → None ≡ tree_of shape s
unfolding tree_at
tree_stopped shape s o = rw o at (tree_walk shape s (walk_of shape 20 upright s start) refl)

-- the same of a triangle's
pub triangle_found : (shape : ℕ) (s : List ℕ) (v : Cursor) {r : Option TreeLeaves} → shape ≡ 1 → v ≡ walk_of 1 20 upright s start → Passing s v → r ≡ tree_at (length s) v.ok v.at v.upright v.inverted
    → (r ≡ tree_of shape s) × IfSome r (λ t. t.upright + t.inverted ≤ length s)
triangle_found shape s v h e p q = tree_found shape s v (rw h e) p q

pub triangle_stopped : (shape : ℕ) (s : List ℕ) → shape ≡ 1 → (walk_of 1 20 upright s start).ok ≡ false → None ≡ tree_of shape s
triangle_stopped shape s h o = tree_stopped shape s (rw h o)

-- what a tree's result says
pub tree_none : (shape : ℕ) (s : List ℕ) → None ≡ tree_of shape s → string_ok shape s ≡ false
unfolding tree_of
tree_none shape s e = either (string_ok shape s) (λ p. absurd (none-some _ (rw p at e))) (λ p. p)

tree_some : (shape : ℕ) (s : List ℕ) (r : TreeLeaves) → Some r ≡ tree_of shape s
    → (string_ok shape s ≡ true) × (r ≡ record { upright = upright_leaves shape s; inverted = inverted_leaves shape s })
unfolding tree_of
tree_some shape s r e = either (string_ok shape s) (λ p. (p, same_Some _ _ (rw p at e))) (λ p. absurd (none-some _ (sym (rw p at e))))

module _ (shape : ℕ) (s : List ℕ) (r : TreeLeaves) (e : Some r ≡ tree_of shape s) where
  pub tree_ok : string_ok shape s ≡ true
  tree_ok = (tree_some shape s r e).0

  pub tree_upright : r.upright ≡ upright_leaves shape s
  tree_upright = ap (λ (t : TreeLeaves). t.upright) (tree_some shape s r e).1

  pub tree_inverted : r.inverted ≡ inverted_leaves shape s
  tree_inverted = ap (λ (t : TreeLeaves). t.inverted) (tree_some shape s r e).1

  pub tree_count_lem : r.upright + r.inverted ≡ tree_leaves shape s
  unfolding tree_leaves
  tree_count_lem = rw (tree_upright, tree_inverted)

-- the answers for one tree
module _ (shape : ℕ) (s : List ℕ) (so : refinable shape ≡ true) where
  pub refused_string : None ≡ tree_of shape s → leaves_refused 23 ≡ count_leaves shape s
  unfolding count_leaves count_refusal leaves_answer first_failed
  refused_string e = rw (so, tree_none shape s e)

  module _ (r : TreeLeaves) (e : Some r ≡ tree_of shape s) where
    pub refused_leaves : 16777216 < r.upright + r.inverted → leaves_refused 25 ≡ count_leaves shape s
    unfolding count_leaves count_refusal leaves_answer first_failed
    refused_leaves l = rw (so, tree_ok shape s r e, lt-leb (tree_leaves shape s) 16777216 (rw (tree_count_lem shape s r e) at l))

    pub counted : r.upright + r.inverted ≤ 16777216 → record { refusal = 0; upright = r.upright; inverted = r.inverted; leaves = r.upright + r.inverted } ≡ count_leaves shape s
    unfolding count_leaves count_refusal leaves_answer first_failed
    counted l =
        rw (so, tree_ok shape s r e, le-leb (tree_leaves shape s) 16777216 (rw (tree_count_lem shape s r e) at l), ← tree_upright shape s r e, ← tree_inverted shape s r e)
