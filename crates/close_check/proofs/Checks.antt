-- What the functions find is what the checks of a close say.
use Prim.Native.Nat.{ℕ, ◌≤◌, ◌<◌}
use native.Mathlib.Omega.{arith}
use mathlib.Core.Path.{◌≡◌, refl, sym, ◌∙◌}
use mathlib.Core.Logic.{◌⊎◌, inl, inr}
use mathlib.Core.Bool.{Bool, true, false}
use mathlib.Core.List.{List}
use lib.Dec.{ltb}
use borrow.Author.Tests.{ltb-true}
use Rattle.encoding.specs.Below.{all_below}
use Rattle.encoding.specs.Pieces.{Bytes}
use Rattle.encoding.specs.Refusal.{first_failed}
use Rattle.encoding.proofs.Below.{either, tests, all_at, all_intro, all_fails}
use Rattle.pattern.specs.Sets.{sends_to, gets_from}
use Rattle.pattern.specs.Means.{WindowOf}
use Rattle.pattern.proofs.Sets.{gets_sends}
use Rattle.part.specs.Part.{part_sound}
use Rattle.area.specs.Area.{area_p, area_rank, area_old, area_new, heard, area_sound}
use Rattle.area.specs.Close.{all_heard, joined_part, close_checks}
use Rattle.area.specs.Means.{Tabled}
use Rattle.area.proofs.Soundness.{sound_holds}
use Rattle.area_check.proofs.Checking.{window_within, not_due}
use Rattle.close_check.specs.Means.{sender_heard, join_sound, Complete, early_refusal}
use Rattle.close_check.proofs.Reading.{join_sound_part}

-- ---- the heard senders

module _ {a old new : List ℕ} (t : Tabled a old new) (s : ℕ) (l : s < area_p a) {rank : ℕ} (is_rank : rank ≡ area_rank a) {b : Bool} (is_b : b ≡ sends_to old new s rank) where
  due_is : gets_from (area_old a) (area_new a) (area_rank a) s ≡ b
  due_is =
      gets_sends (area_old a) (area_new a) t.header.tables s (area_rank a) (omega (arith, t.header.ranks_are)) (omega (arith, t.header.ranks_are, t.header.rank_below))
      ∙ sym (is_b ∙ rw (t.is_old, t.is_new, is_rank))

  pub sender_free : b ≡ false → true ≡ sender_heard a s
  unfolding sender_heard
  sender_free e = rw (due_is, e)

  pub sender_due_lem : {h : Bool} → b ≡ true → h ≡ heard a s → h ≡ sender_heard a s
  unfolding sender_heard
  sender_due_lem e p = rw (due_is, e, p)

module _ {a old new : List ℕ} (t : Tabled a old new) {rank first end : ℕ} (is_rank : rank ≡ area_rank a) (w : WindowOf old new rank false first end) where
  -- a rank outside the window isn't due
  sender-outside : (s : ℕ) → s < area_p a → ((s < first) ⊎ (end ≤ s)) → sender_heard a s ≡ true
  unfolding sender_heard
  sender-outside s l h = rw (not_due t is_rank w s l h)

  pub heard_start : all_below first (sender_heard a) ≡ true
  heard_start = all_intro first (sender_heard a) (λ s h. sender-outside s (omega (arith, w.ordered, window_within t is_rank w)) (inl h))

  pub heard_fails : {s : ℕ} → s < end → sender_heard a s ≡ false → false ≡ all_heard a
  unfolding all_heard sender_heard
  heard_fails {s} h e = sym (all_fails (area_p a) (sender_heard a) s (omega (arith, window_within t is_rank w)) e)

  pub heard_passes : {s : ℕ} → s ≤ end → end ≤ s → all_below s (sender_heard a) ≡ true → true ≡ all_heard a
  unfolding all_heard sender_heard
  heard_passes {s} h k e =
      sym (all_intro (area_p a) (sender_heard a) (λ j l. either (ltb j s) (λ p. all_at s (sender_heard a) e j (ltb-true j s p)) (λ p. sender-outside j l (inr (omega tests)))))

-- ---- the refusal

module _ (a : List ℕ) where
  pub refused_area : area_sound a ≡ false → 10 ≡ first_failed (close_checks a)
  unfolding close_checks first_failed
  refused_area e = rw e

  pub closes_sound : first_failed (close_checks a) ≡ 0 → area_sound a ≡ true
  closes_sound z = either (area_sound a) (λ e. e) (λ e. absurd (omega (arith, refused_area e)))

  module _ (sound : area_sound a ≡ true) where
    pub refused_heard : all_heard a ≡ false → 20 ≡ first_failed (close_checks a)
    unfolding close_checks first_failed
    refused_heard e = rw (sound, e)

    module _ (all : all_heard a ≡ true) (bytes : Bytes a) where
      -- check 21 finds what the slots say
      part_is : {b : Bool} → join_sound a ≡ b → part_sound (joined_part a) (area_new a) (area_rank a) ≡ b
      part_is e = sym (join_sound_part a bytes sound all) ∙ e

      pub refused_join : join_sound a ≡ false → 21 ≡ first_failed (close_checks a)
      unfolding close_checks first_failed
      refused_join e = rw (sound, all, part_is e)

      pub not_refused : join_sound a ≡ true → 0 ≡ first_failed (close_checks a)
      unfolding close_checks first_failed
      not_refused e = rw (sound, all, part_is e)

-- ---- the refusal before the records are joined

module _ (a : List ℕ) where
  pub early_area : area_sound a ≡ false → 10 ≡ early_refusal a
  unfolding early_refusal
  early_area e = rw e

  module _ (sound : area_sound a ≡ true) where
    pub early_heard : all_heard a ≡ false → 20 ≡ early_refusal a
    unfolding early_refusal
    early_heard e = rw (sound, e)

    pub early_none : all_heard a ≡ true → 0 ≡ early_refusal a
    unfolding early_refusal
    early_none e = rw (sound, e)

  module _ {r : ℕ} (is : r ≡ early_refusal a) where
    pub early_refused : (r ≡ 0 → ⊥) → r ≡ first_failed (close_checks a)
    early_refused some =
        either (area_sound a)
        (λ s. either (all_heard a) (λ h. absurd (some (is ∙ sym (early_none s h)))) (λ h. is ∙ sym (early_heard s h) ∙ refused_heard a s h))
        (λ s. is ∙ sym (early_area s) ∙ refused_area a s)

    pub early_complete : r ≡ 0 → (area_sound a ≡ true) × (all_heard a ≡ true)
    early_complete z =
        either (area_sound a)
        (λ s. either (all_heard a) (λ h. (s, h)) (λ h. absurd (omega (arith, early_heard s h))))
        (λ s. absurd (omega (arith, early_area s)))

    -- what the joining needs
    pub complete : Bytes a → r ≡ 0 → Complete a (area_new a)
    complete b z = let e = early_complete z in record { header = sound_holds a e.0 b; is_new = refl; sound = e.0; all = e.1 }
