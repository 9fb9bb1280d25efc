-- Laws of the length call.
use Prim.Native.Nat.{ℕ, ◌≤◌}
use native.Mathlib.Omega.{arith}
use mathlib.Core.Path.{◌≡◌, sym, ◌∙◌}
use mathlib.Core.List.{List}
use lib.ListN.{length}
use borrow.Author.Tests.{eq-eqb, ne_eqb}
use Rattle.encoding.specs.Answer.{length_answer}
use Rattle.encoding.specs.Pieces.{Bytes}
use Rattle.encoding.specs.Refusal.{first_failed}
use Rattle.part.specs.Layout.{part_size}
use Rattle.area.specs.Area.{area_count, area_ghosts}
use Rattle.area.specs.Close.{joined_part, close_checks, close_length_of}
use Rattle.area.proofs.Soundness.{sound_holds}
use Rattle.close_check.proofs.AreaSlots.{joined_length}
use Rattle.close_check.proofs.Checks.{closes_sound}

module _ (a : List ℕ) (bytes : Bytes a) {r : ℕ} (is-r : r ≡ first_failed (close_checks a)) where
  pub length_refused_lem : (r ≡ 0 → ⊥) → record { refusal = r; length = 0 } ≡ close_length_of a
  unfolding close_length_of length_answer
  length_refused_lem z = rw (← is-r, ne_eqb r 0 z)

  pub read_long : r ≡ 0 → 32 ≤ length a
  read_long z = omega (arith, (sound_holds a (closes_sound a (sym is-r ∙ z)) bytes).long)

  pub length_read : r ≡ 0 → {n g l : ℕ} → n ≡ area_count a → g ≡ area_ghosts a → l ≡ part_size n g → record { refusal = 0; length = l } ≡ close_length_of a
  unfolding close_length_of length_answer
  length_read z {n} {g} {l} p q e =
      let long : length (joined_part a) ≡ l = joined_length a (closes_sound a (sym is-r ∙ z)) ∙ sym (e ∙ rw (p, q)) in
      rw (← is-r, eq-eqb r 0 z, long)
