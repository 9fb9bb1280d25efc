-- The checks of the cut, in their order.
use Prim.Native.Nat.{ℕ}
use mathlib.Core.Path.{◌≡◌, sym, ◌∙◌}
use mathlib.Core.Bool.{Bool, true, false}
use mathlib.Core.List.{List}
use borrow.Author.Tests.{eq-eqb, ne_eqb}
use Rattle.encoding.specs.Refusal.{first_failed}
use Rattle.offsets.specs.Table.{trees}
use Rattle.mesh.specs.Mesh.{mesh_trees, mesh_sound}
use Rattle.part.specs.Checks.{rank_checks}
use Rattle.part_cut.specs.Calls.{cut_checks}
use Rattle.part.proofs.Checks.{rank_passes}

module _ (table : List ℕ) (rank : ℕ) {r : ℕ} (checked : r ≡ first_failed (rank_checks table rank)) where
  module _ (mesh : List ℕ) where
    module _ (ok : r ≡ 0) {d : Bool} (is-d : d ≡ mesh_sound mesh) where
      pub fails_sound : d ≡ false → 7 ≡ first_failed (cut_checks mesh table rank)
      unfolding first_failed cut_checks
      fails_sound h = sym (rank_passes table rank checked ok _ ∙ rw (← is-d, h))

      module _ (ok-d : d ≡ true) {K T : ℕ} (is-K : K ≡ mesh_trees mesh) (is_t : T ≡ trees table) where
        pub fails_trees : (K ≡ T → ⊥) → 7 ≡ first_failed (cut_checks mesh table rank)
        unfolding first_failed cut_checks
        fails_trees h = sym (rank_passes table rank checked ok _ ∙ rw (← is-d, ok-d, ← is-K, ← is_t, ne_eqb K T h))

        pub none_fails : K ≡ T → 0 ≡ first_failed (cut_checks mesh table rank)
        unfolding first_failed cut_checks
        none_fails h = sym (rank_passes table rank checked ok _ ∙ rw (← is-d, ok-d, ← is-K, ← is_t, eq-eqb K T h))
