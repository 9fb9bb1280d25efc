-- Refinements of a tree, the string that writes one, and its leaves.
use Rattle.std.specs.Prelude.{ℕ, zero, suc, ◌+◌, Bool, true, false, cond, ◌&&◌, List, [], ◌∷◌, ◌++◌, ltb, eqb, replicate}

-- Elements side by side, in order: no more of them; a leaf and those after it; a refined element, by the row of its children, and those after it.
-- A tree's refinement is a row of one element, its root.
pub data Row : Type 0 where
  end : Row
  leaf : Row → Row
  refined : Row → Row → Row

-- what a triangle is; elements of the other shapes are upright
pub data Kind : Type 0 where
  upright : Kind
  inverted : Kind

abbrev pub turned : Kind → Kind
turned upright = inverted
turned inverted = upright

abbrev pub max_depth : ℕ
max_depth = 20

-- quadrilateral, triangle, hexahedron or tetrahedron
unfoldable pub refinable : ℕ → Bool
refinable shape = ltb shape 4

unfoldable pub children : ℕ → ℕ
children shape = cond (ltb shape 2) 4 8

-- the kinds of an element's children, in order: of a triangle the one at corner 0, at corner 1, the middle one, and the one at corner 2
unfoldable pub child_kinds : ℕ → Kind → List Kind
child_kinds shape k = cond (eqb shape 1) (k ∷ k ∷ turned k ∷ k ∷ []) (replicate (children shape) k)

-- a row of m elements, each refined into rows of n and at most so deep
unfoldable pub fits : ℕ → Row → ℕ → ℕ → Bool
fits n end depth zero = true
fits n end depth (suc m) = false
fits n (leaf r) depth zero = false
fits n (leaf r) depth (suc m) = fits n r depth m
fits n (refined c r) zero m = false
fits n (refined c r) (suc depth) zero = false
fits n (refined c r) (suc depth) (suc m) = fits n c depth n && fits n r (suc depth) m

-- a refinement of a tree of the shape
unfoldable pub refines : ℕ → Row → Bool
refines shape r = fits (children shape) r max_depth 1

-- the string in depth-first order: 1 is a refined element, 0 a leaf
unfoldable pub bits : Row → List ℕ
bits end = []
bits (leaf r) = 0 ∷ bits r
bits (refined c r) = 1 ∷ (bits c ++ bits r)

-- 1 for a kind that is wanted
abbrev pub one : Kind → Kind → ℕ
one upright upright = 1
one upright inverted = 0
one inverted upright = 0
one inverted inverted = 1

-- how many leaves of the wanted kind are in a row of elements of these kinds
unfoldable pub leaves_in : ℕ → Kind → Row → List Kind → ℕ
leaves_in shape want end ks = 0
leaves_in shape want (leaf r) [] = 0
leaves_in shape want (leaf r) (k ∷ ks) = one want k + leaves_in shape want r ks
leaves_in shape want (refined c r) [] = 0
leaves_in shape want (refined c r) (k ∷ ks) = leaves_in shape want c (child_kinds shape k) + leaves_in shape want r ks

-- the leaves of a kind in a tree's refinement; the root is upright
unfoldable pub leaves : ℕ → Kind → Row → ℕ
leaves shape want r = leaves_in shape want r (upright ∷ [])
