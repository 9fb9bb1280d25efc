-- The checks of the two calls in their order, and what the calls answer.
use Prim.Native.Nat.{ℕ, ◌≤◌, ◌<◌}
use native.Mathlib.Omega.{arith}
use mathlib.Core.Path.{◌≡◌, refl, sym, ◌∙◌}
use mathlib.Core.Bool.{Bool, true, false, ◌&&◌}
use mathlib.Core.List.{List, [], ◌∷◌, ◌++◌}
use lib.Dec.{eqb, leb}
use lib.ListN.{length}
use borrow.Author.Tests.{eqb-true, le-leb, lt-leb, ne_eqb}
use Rattle.encoding.specs.Answer.{length_refused, length_answer, written, write_answer}
use Rattle.encoding.specs.Pieces.{splice}
use Rattle.encoding.specs.Refusal.{check, first_failed}
use Rattle.encoding.specs.declared.answer.Length.{Length}
use Rattle.encoding.proofs.Below.{and_fst, and_snd}
use Rattle.part.specs.Checks.{rank_checks}
use Rattle.part.specs.Layout.{part_size}
use Rattle.part.specs.View.{records_hold}
use Rattle.part.specs.Part.{part_count, part_ghost_count, view_of, part_header_sound, part_sound}
use Rattle.part.proofs.Checks.{rank_fails, rank_passes}
use Rattle.columns_read.specs.Columns.{part_columns, columns_part, columns_sound}
use Rattle.columns_check.proofs.Turned.{part_turned, file_turned}
use Rattle.columns.specs.Means.{Turnable}

module _ (table : List ℕ) (rank : ℕ) {r : ℕ} (checked : r ≡ first_failed (rank_checks table rank)) (sound : Bool) (number size : ℕ) (object out : List ℕ) where
  abbrev refusal : ℕ
  refusal = first_failed (rank_checks table rank ++ (check sound number ∷ check (leb size (length out)) 22 ∷ []))

  pub call_rank : {q : Length} → (r ≡ 0 → ⊥) → q ≡ length_refused r → (q, out) ≡ write_answer refusal object out
  unfolding write_answer length_answer written
  call_rank h e = rw (← rank_fails table rank checked (check sound number ∷ check (leb size (length out)) 22 ∷ []) h, ne_eqb r 0 h, e)

  module _ (ok : r ≡ 0) {s : Bool} (is : s ≡ sound) where
    passed : refusal ≡ first_failed (check sound number ∷ check (leb size (length out)) 22 ∷ [])
    passed = rank_passes table rank checked ok (check sound number ∷ check (leb size (length out)) 22 ∷ [])

    pub call_unsound : {q : Length} → s ≡ false → (number ≡ 0 → ⊥) → q ≡ length_refused number → (q, out) ≡ write_answer refusal object out
    unfolding write_answer length_answer written first_failed
    call_unsound h n e = rw (passed, ← is, h, ne_eqb number 0 n, e)

    pub call_short : {q : Length} → s ≡ true → length out < size → q ≡ length_refused 22 → (q, out) ≡ write_answer refusal object out
    unfolding write_answer length_answer written first_failed
    call_short h l e = rw (passed, ← is, h, lt-leb size (length out) l, e)

    pub call_done : {new : List ℕ} → s ≡ true → size ≤ length out → length object ≡ size → new ≡ splice out 0 object → (record { refusal = 0; length = size }, new) ≡ write_answer refusal object out
    unfolding write_answer length_answer written first_failed
    call_done h l n e = rw (passed, ← is, h, le-leb size (length out) l, e, n)

-- ---- a part

module _ (part table : List ℕ) (rank : ℕ) where
  pub sound_length : part_sound part table rank ≡ true → length part ≡ part_size (part_count part) (part_ghost_count part)
  unfolding part_sound
  sound_length e =
      eqb-true _ _
      (and_snd (part_header_sound part table rank) (eqb (length part) (part_size (part_count part) (part_ghost_count part)))
      (and_fst (part_header_sound part table rank && eqb (length part) (part_size (part_count part) (part_ghost_count part))) (records_hold (view_of part)) e))

  pub part_room : (out : List ℕ) {s : Bool} → s ≡ part_sound part table rank → s ≡ true → length part ≤ length out → Turnable part out (part_count part) (part_ghost_count part)
  part_room out is h l = record { long = sound_length (sym is ∙ h); room = omega (arith, sound_length (sym is ∙ h)) }

  pub columns_long : {s : Bool} → s ≡ part_sound part table rank → s ≡ true → length (part_columns part) ≡ length part
  columns_long is h =
      let e = sound_length (sym is ∙ h) in
      (part_turned part (part_count part) (part_ghost_count part) refl refl e).length_x ∙ sym e

-- ---- a file

module _ (file table : List ℕ) (rank : ℕ) where
  pub file_length : columns_sound file table rank ≡ true → length file ≡ part_size (part_count file) (part_ghost_count file)
  unfolding columns_sound
  file_length e = eqb-true _ _ (and_fst (eqb (length file) (part_size (part_count file) (part_ghost_count file))) (part_sound (columns_part file) table rank) e)

  pub file_room : (out : List ℕ) {s : Bool} → s ≡ columns_sound file table rank → s ≡ true → length file ≤ length out → Turnable file out (part_count file) (part_ghost_count file)
  file_room out is h l = record { long = file_length (sym is ∙ h); room = omega (arith, file_length (sym is ∙ h)) }

  pub part_long : {s : Bool} → s ≡ columns_sound file table rank → s ≡ true → length (columns_part file) ≡ length file
  part_long is h =
      let e = file_length (sym is ∙ h) in
      (file_turned file (part_count file) (part_ghost_count file) refl refl e).length_p ∙ sym e
