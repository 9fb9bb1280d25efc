-- The steps of a walk.
use Prim.Native.Nat.{ℕ, zero, suc, ◌+◌, ◌-◌, ◌≤◌, ◌<◌}
use native.Mathlib.Nat.{add-zero}
use native.Mathlib.Omega.{arith}
use mathlib.Core.Path.{◌≡◌, refl, sym, ap, subst, ◌∙◌}
use Rattle.std.specs.Prelude.{Some}
use Rattle.refinement.specs.declared.walk.Element.{Element}
use Rattle.refinement.specs.declared.walk.Triangle.{Triangle}
use mathlib.Core.Bool.{Bool, true, false, cond, ◌&&◌}
use mathlib.Core.List.{List, [], ◌∷◌, map}
use lib.Dec.{ltb, eqb}
use lib.ListN.{length, get_or, replicate, drop, drop_of_length-le}
use lib.Seq.{drop-cons}
use native.Mathlib.Numerals.{add-one}
use borrow.Author.Tests.{ne_eqb}
use Rattle.encoding.proofs.Below.{tests, either, and_snd}
use Rattle.refinement.specs.Refinement.{Kind, upright, inverted, turned, children, child_kinds}
use Rattle.refinement.specs.Means.Walks.{element_number, kind_of, Cursor, bit_at, leafed, onward, halted, after_bit, walk_row, walk_of, siblings}

-- a stopped walk goes nowhere
pub halted_walk : (shape depth : ℕ) (k : Kind) (s : List ℕ) (w : Cursor) → w.ok ≡ false → (walk_of shape depth k s w).ok ≡ false
unfolding walk_of after_bit bit_at
halted_walk shape zero k s w e = rw e
halted_walk shape (suc d) k s w e = rw e

pub halted_row : (shape depth : ℕ) (s : List ℕ) (ks : List Kind) (w : Cursor) → w.ok ≡ false → (walk_row (λ j v. walk_of shape depth j s v) ks w).ok ≡ false
unfolding walk_row
halted_row shape depth s [] w e = e
halted_row shape depth s (k ∷ ks) w e = halted_row shape depth s ks (walk_of shape depth k s w) (halted_walk shape depth k s w e)

-- the element that was met
pub met : {e f : Element} {n : ℕ} → element_number (Some e) ≡ n → e ≡ f → element_number (Some f) ≡ n
met {e} {f} {n} h q = subst (λ (x : Element). element_number (Some x) ≡ n) q h

-- what the byte's test shows
bit_cases : (depth at n b : ℕ) (ok : Bool) → cond ok (cond (ltb at n) (cond (eqb b 0) 0 (cond (eqb b 1 && ltb 0 depth) 1 2)) 2) 2 < 2 → at < n
bit_cases depth at n b false h = absurd (omega arith)
bit_cases depth at n b true h = either (ltb at n) (λ e. omega tests) (λ e. absurd (omega (arith, rw e at h)))

module _ (depth : ℕ) (s : List ℕ) (ok : Bool) (at : ℕ) where
  pub bit_within : {b : ℕ} → b ≡ bit_at depth s ok at → b < 2 → at < length s
  unfolding bit_at
  bit_within e h = bit_cases depth at (length s) (get_or s at 0) ok (rw e at h)

deep_cases : (depth at n b : ℕ) (ok p q r : Bool) → ltb at n ≡ p → eqb b 0 ≡ q → eqb b 1 && ltb 0 depth ≡ r → ◌≡◌ {A = ℕ} (cond ok (cond p (cond q 0 (cond r 1 2)) 2) 2) 1 → 0 < depth
deep_cases depth at n b false p q r e f g h = absurd (omega arith)
deep_cases depth at n b true false q r e f g h = absurd (omega arith)
deep_cases depth at n b true true true r e f g h = absurd (omega arith)
deep_cases depth at n b true true false false e f g h = absurd (omega arith)
deep_cases depth at n b true true false true e f g h = let l : ltb 0 depth ≡ true = and_snd (eqb b 1) (ltb 0 depth) g in omega tests

pub bit_deep : (depth : ℕ) (s : List ℕ) (ok : Bool) (at : ℕ) {b : ℕ} → b ≡ bit_at depth s ok at → b ≡ 1 → 0 < depth
unfolding bit_at
bit_deep depth s ok at e h = deep_cases depth at (length s) (get_or s at 0) ok _ _ _ refl refl refl (sym e ∙ h)

module _ (shape : ℕ) (k : Kind) (s : List ℕ) (w : Cursor) where
  walk-leaf : (depth : ℕ) → bit_at depth s w.ok w.at ≡ 0 → walk_of shape depth k s w ≡ leafed k w
  unfolding walk_of after_bit
  walk-leaf zero e = rw e
  walk-leaf (suc d) e = rw e

  pub walk_halts : (depth : ℕ) {b : ℕ} → b ≡ bit_at depth s w.ok w.at → (b ≡ 0 → ⊥) → (b ≡ 1 → ⊥) → halted w ≡ walk_of shape depth k s w
  unfolding walk_of after_bit
  walk_halts zero e f g = rw (← e, ne_eqb _ _ f, ne_eqb _ _ g)
  walk_halts (suc d) e f g = rw (← e, ne_eqb _ _ f, ne_eqb _ _ g)

  -- what stops it
  pub walk_stops : (depth : ℕ) → 2 ≡ bit_at depth s w.ok w.at → (walk_of shape depth k s w).ok ≡ false
  walk_stops depth e = sym (ap (λ (v : Cursor). v.ok) (walk_halts depth e (λ z. omega arith) (λ z. omega arith)))

  pub walk_refined : (depth : ℕ) → bit_at depth s w.ok w.at ≡ 1 → walk_of shape depth k s w ≡ walk_row (λ j v. walk_of shape (depth - 1) j s v) (child_kinds shape k) (onward w)
  unfolding walk_of after_bit
  walk_refined zero e = absurd (omega (arith, bit_deep zero s w.ok w.at (sym e) refl))
  walk_refined (suc d) e = let p : suc d - 1 ≡ d = omega arith in rw (p, e)

module _ (shape : ℕ) (s : List ℕ) (w : Cursor) (depth : ℕ) where
  pub leaf_upright : {b : ℕ} → b ≡ bit_at depth s w.ok w.at → b ≡ 0 → record { ok = true; at = w.at + 1; upright = w.upright + 1; inverted = w.inverted } ≡ walk_of shape depth upright s w
  leaf_upright e h = simp add-zero at (sym (walk-leaf shape upright s w depth (sym e ∙ h)))

  pub leaf_inverted : {b : ℕ} → b ≡ bit_at depth s w.ok w.at → b ≡ 0 → record { ok = true; at = w.at + 1; upright = w.upright; inverted = w.inverted + 1 } ≡ walk_of shape depth inverted s w
  leaf_inverted e h = simp add-zero at (sym (walk-leaf shape inverted s w depth (sym e ∙ h)))

-- the children of a triangle, one after the other
module _ (depth : ℕ) (s : List ℕ) (xs : List Triangle) (i : ℕ) (w : Cursor) where
  -- what is left of them, walked from w
  abbrev pub from : ℕ → Cursor → Cursor
  from n v = walk_row (λ j u. walk_of 1 depth j s u) (map kind_of (drop n xs)) v

  pub row_more : {v : Cursor} → i < length xs → v ≡ walk_of 1 depth (kind_of (get_or xs i Triangle.Upright)) s w → from (i + 1) v ≡ from i w
  unfolding walk_row
  row_more h p = rw (add-one i, drop-cons xs i Triangle.Upright h, p)

  -- the walk stops within it
  pub row_stop : i < length xs → (walk_of 1 depth (kind_of (get_or xs i Triangle.Upright)) s w).ok ≡ false → (from i w).ok ≡ false
  unfolding walk_row
  row_stop h o = rw (drop-cons xs i Triangle.Upright h) (halted_row 1 depth s (map kind_of (drop (suc i) xs)) _ o)

  -- all are passed
  pub row_done : length xs ≤ i → from i w ≡ w
  unfolding walk_row
  row_done h = rw (drop_of_length-le xs h)

pub triangle_row : (t u : Triangle) (s : List ℕ) (w : Cursor) (depth : ℕ) → 1 ≡ bit_at depth s w.ok w.at → kind_of u ≡ turned (kind_of t)
    → from (depth - 1) s (t ∷ t ∷ u ∷ t ∷ []) 0 w 0 (onward w) ≡ walk_of 1 depth (kind_of t) s w
unfolding child_kinds walk_row
triangle_row t u s w depth e k = rw k (sym (walk_refined 1 (kind_of t) s w depth (sym e)))

-- the children of an element of another shape
module _ (shape depth : ℕ) (s : List ℕ) where
  pub siblings_none : (w : Cursor) → siblings shape depth s 0 w ≡ w
  unfolding siblings walk_row
  siblings_none w = refl

  pub siblings_more : (m : ℕ) (w v : Cursor) → 0 < m → v ≡ walk_of shape depth upright s w → siblings shape depth s (m - 1) v ≡ siblings shape depth s m w
  unfolding siblings walk_row
  siblings_more zero w v h e = absurd (omega arith)
  siblings_more (suc m) w v h e = let p : suc m - 1 ≡ m = omega arith in rw (p, e)

  -- the walk stops within one of them
  pub siblings_stop : (m : ℕ) (w : Cursor) → 0 < m → (walk_of shape depth upright s w).ok ≡ false → (siblings shape depth s m w).ok ≡ false
  unfolding siblings walk_row
  siblings_stop zero w h o = absurd (omega arith)
  siblings_stop (suc m) w h o = halted_row shape depth s (replicate m upright) (walk_of shape depth upright s w) o

pub walk_others : (shape : ℕ) (s : List ℕ) (w : Cursor) (depth : ℕ) → eqb shape 1 ≡ false → bit_at depth s w.ok w.at ≡ 1
    → walk_of shape depth upright s w ≡ siblings shape (depth - 1) s (children shape) (onward w)
unfolding siblings child_kinds
walk_others shape s w depth f e = walk_refined shape upright s w depth e ∙ rw f

-- up to a child, those to come give what all give
module _ (shape : ℕ) (s : List ℕ) (w : Cursor) (depth n : ℕ) (f : eqb shape 1 ≡ false) {x : ℕ} (e : x ≡ bit_at depth s w.ok w.at) (h : x ≡ 1) (p : n ≡ children shape) where
  all-children : siblings shape (depth - 1) s n (onward w) ≡ walk_of shape depth upright s w
  all-children = ap (λ (m : ℕ). siblings shape (depth - 1) s m (onward w)) p ∙ sym (walk_others shape s w depth f (sym e ∙ h))

  module _ (left : ℕ) (v : Cursor) (q : siblings shape (depth - 1) s left v ≡ siblings shape (depth - 1) s n (onward w)) where
    pub others_stop : 0 < left → (walk_of shape (depth - 1) upright s v).ok ≡ false → (walk_of shape depth upright s w).ok ≡ false
    others_stop m o = rw (← all-children, ← q) (siblings_stop shape (depth - 1) s left v m o)

    pub others_done : left ≡ 0 → v ≡ walk_of shape depth upright s w
    others_done z =
        sym (siblings_none shape (depth - 1) s v) ∙ (ap (λ (m : ℕ). siblings shape (depth - 1) s m v) (sym z) ∙ (q ∙ all-children))
