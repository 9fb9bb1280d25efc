use lib.ListN.{length-take, length-drop}
use native.Mathlib.Omega.{arith}
use mathlib.Core.Path.{◌≡◌, refl}
use Rattle.std.specs.Prelude.{ℕ, Some}
use Rattle.lookup.specs.declared.Found.{Found}
use Rattle.lookup.specs.declared.Place.{Place}
use Rattle.lookup.specs.Lookup.{found_at, found_of}
use Rattle.lookup.proofs.Finding.{tree_fits_lem, tree_lent, ghost_fits, ghost_lent, none_lent}
use Rattle.lookup.proofs.lookup.Goals as goal

-- the place that was found, by its case
tree : {place : Place} {at : ℕ} {found : Found} → place ≡ Place.Tree at → found_of (Some place) ≡ found → found_at 1 at ≡ found
tree e f = rw e at f

held : {place : Place} {at : ℕ} {found : Found} → place ≡ Place.Ghost at → found_of (Some place) ≡ found → found_at 2 at ≡ found
held e f = rw e at f

pub returns-in_err-at : goal.returns-in_err-at
returns-in_err-at c = rw c.from_residual.ensures (none_lent _ _ _ _ c.in_err-at.ensures (λ e. omega arith) (λ e. omega arith), tt)

pub overflow_add-result : goal.overflow_add-result
overflow_add-result c = omega (arith, tree_fits_lem _ _ _ _ (tree c.in-Tree.is c.in_ok-at.ensures) refl)

pub slice_bounds-result-end : goal.slice_bounds-result-end
slice_bounds-result-end c = omega (arith, tree_fits_lem _ _ _ _ (tree c.in-Tree.is c.in_ok-at.ensures) refl)

pub returns-in-Tree : goal.returns-in-Tree
returns-in-Tree c = (
  tree_lent _ _ _ _ (tree c.in-Tree.is c.in_ok-at.ensures) refl,
  rw (length-take, length-drop) (omega (arith, tree_fits_lem _ _ _ _ (tree c.in-Tree.is c.in_ok-at.ensures) refl)),
)

pub overflow_add-result-in-Ghost : goal.overflow_add-result-in-Ghost
overflow_add-result-in-Ghost c = omega (arith, ghost_fits _ _ _ _ (held c.in-Ghost.is c.in_ok-at.ensures) refl)

pub slice_bounds-result-end-in-Ghost : goal.slice_bounds-result-end-in-Ghost
slice_bounds-result-end-in-Ghost c = omega (arith, ghost_fits _ _ _ _ (held c.in-Ghost.is c.in_ok-at.ensures) refl)

pub returns-in-Ghost : goal.returns-in-Ghost
returns-in-Ghost c = (
  ghost_lent _ _ _ _ (held c.in-Ghost.is c.in_ok-at.ensures) refl,
  rw (length-take, length-drop) (omega (arith, ghost_fits _ _ _ _ (held c.in-Ghost.is c.in_ok-at.ensures) refl)),
)
