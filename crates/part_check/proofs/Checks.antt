-- The checks of a part, in their order.
use Prim.Native.Nat.{ℕ}
use mathlib.Core.Path.{◌≡◌, refl, sym, ◌∙◌}
use mathlib.Core.Bool.{Bool, true, false}
use mathlib.Core.List.{List}
use Rattle.encoding.specs.Refusal.{first_failed}
use Rattle.part.specs.Part.{part_sound}
use Rattle.part.specs.Checks.{rank_checks}
use Rattle.part_check.specs.Calls.{part_refusal}
use Rattle.part.proofs.Checks.{rank_passes}
use Rattle.encoding.specs.declared.refusal.Refusal.{Refusal}
use Rattle.encoding.specs.Refusals.{refusal_number}
use Rattle.encoding.proofs.Refusals.{refused_first}

module _ (part table : List ℕ) (rank : ℕ) where
  pub rank_refuses : (e : Refusal) → refusal_number e ≡ first_failed (rank_checks table rank) → refusal_number e ≡ part_refusal part table rank
  unfolding part_refusal
  rank_refuses e h = refused_first e _ _ h

  module _ (known : 0 ≡ first_failed (rank_checks table rank)) {s : Bool} (is : s ≡ part_sound part table rank) where
    pub check_fails : s ≡ false → 8 ≡ part_refusal part table rank
    unfolding first_failed part_refusal
    check_fails h = sym (rank_passes table rank known refl _ ∙ rw (← is, h))

    pub check_passes : s ≡ true → 0 ≡ part_refusal part table rank
    unfolding first_failed part_refusal
    check_passes h = sym (rank_passes table rank known refl _ ∙ rw (← is, h))
