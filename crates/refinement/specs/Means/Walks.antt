-- Means, no part of what is promised: the walk over a string by a cursor that carries the leaf counts.
use Rattle.std.specs.Prelude.{ℕ, zero, suc, ◌+◌, ◌≤◌, ◌≡◌, Bool, true, false, cond, ◌&&◌, List, [], ◌∷◌, ltb, eqb, length, get_or, replicate}
use Rattle.std.specs.Prelude.{None, Some}
use Rattle.std.specs.declared.option.Option.{Option}
use Rattle.refinement.specs.declared.walk.Element.{Element}
use Rattle.refinement.specs.declared.walk.Triangle.{Triangle}
use Rattle.refinement.specs.declared.walk.Walk.{Walk}
use Rattle.refinement.specs.Refinement.{Kind, upright, inverted, one, child_kinds}

-- where a walk stands, or stopped, and the leaves that it passed
pub record Cursor : Type 0 where
  pub ok : Bool
  pub at : ℕ
  pub upright : ℕ
  pub inverted : ℕ

-- what a walk meets: 0 a leaf, 1 a refined element, 2 what stops it
unfoldable pub bit_at : ℕ → List ℕ → Bool → ℕ → ℕ
bit_at depth s ok at =
    cond ok (cond (ltb at (length s)) (cond (eqb (get_or s at 0) 0) 0 (cond (eqb (get_or s at 0) 1 && ltb 0 depth) 1 2)) 2) 2

-- past a leaf
abbrev pub leafed : Kind → Cursor → Cursor
leafed k w = record { ok = true; at = w.at + 1; upright = w.upright + one upright k; inverted = w.inverted + one inverted k }

-- past the byte of a refined element
abbrev pub onward : Cursor → Cursor
onward w = record { ok = true; at = w.at + 1; upright = w.upright; inverted = w.inverted }

abbrev pub halted : Cursor → Cursor
halted w = record { ok = false; at = w.at; upright = w.upright; inverted = w.inverted }

unfoldable pub after_bit : ℕ → Kind → (Cursor → Cursor) → Cursor → Cursor
after_bit b k inner w = cond (eqb b 0) (leafed k w) (cond (eqb b 1) (inner (onward w)) (halted w))

-- elements one after the other
unfoldable pub walk_row : (Kind → Cursor → Cursor) → List Kind → Cursor → Cursor
walk_row f [] w = w
walk_row f (k ∷ ks) w = walk_row f ks (f k w)

-- an element of the kind, which may be refined so deep
unfoldable pub walk_of : ℕ → ℕ → Kind → List ℕ → Cursor → Cursor
walk_of shape zero k s w = after_bit (bit_at 0 s w.ok w.at) k (λ v. v) w
walk_of shape (suc depth) k s w =
    after_bit (bit_at (suc depth) s w.ok w.at) k (walk_row (λ j v. walk_of shape depth j s v) (child_kinds shape k)) w

-- m upright elements
unfoldable pub siblings : ℕ → ℕ → List ℕ → ℕ → Cursor → Cursor
siblings shape depth s m w = walk_row (λ j v. walk_of shape depth j s v) (replicate m upright) w

-- within the string, and no more leaves than bytes passed
pub record Passing (s : List ℕ) (w : Cursor) : Type 0 where
  pub within : w.at ≤ length s
  pub few : w.upright + w.inverted ≤ w.at

-- ---- what the code's values stand for

abbrev pub element_number : Option Element → ℕ
element_number None = 2
element_number (Some Element.Leaf) = 0
element_number (Some Element.Refined) = 1

abbrev pub kind_of : Triangle → Kind
kind_of Triangle.Upright = upright
kind_of Triangle.Inverted = inverted

abbrev pub going : Walk → Cursor
going w = record { ok = true; at = w.at; upright = w.upright; inverted = w.inverted }

-- a walk that came there; none stopped
abbrev pub Came : List ℕ → Cursor → Walk → Option (Unit {0}) → Type 0
Came s m w None = m.ok ≡ false
Came s m w (Some _) = (going w ≡ m) × Passing s (going w)
