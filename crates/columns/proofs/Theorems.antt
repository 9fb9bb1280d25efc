-- Parts and their column files determine each other, and so do what the two calls write.
use Prim.Native.Nat.{ℕ, suc, ◌+◌, ◌≤◌}
use native.Mathlib.Nat.{le_refl}
use native.Mathlib.Omega.{arith}
use mathlib.Core.Path.{◌≡◌, refl, sym, ap, ap₂, ◌∙◌}
use mathlib.Core.Bool.{Bool, true, false, cond}
use mathlib.Core.List.{List}
use lib.Dec.{eqb, leb, ltb}
use lib.ListN.{length}
use borrow.Author.Tests.{eq-eqb, eqb-true, leb-true, le-leb}
use Rattle.encoding.specs.Answer.{length_answer, written, write_answer}
use Rattle.encoding.specs.Refusal.{first_failed}
use Rattle.encoding.specs.declared.answer.Length.{Length}
use Rattle.encoding.proofs.Below.{either, and_snd, and_intro}
use Rattle.encoding.proofs.Pieces.{splice_take}
use Rattle.offsets.specs.Table.{ranks, ranks_ok, valid}
use Rattle.part.specs.Checks.{rank_checks}
use Rattle.part.specs.Layout.{part_size}
use Rattle.part.specs.Part.{part_count, part_ghost_count, part_sound}
use Rattle.part.proofs.Checks.{rank_passes}
use Rattle.part_check.specs.Calls.{part_refusal}
use Rattle.columns_read.specs.Columns.{part_columns, columns_part, columns_sound}
use Rattle.columns_check.proofs.Turned.{Turned, file_one, part_one_lem, part_turned, file_turned}
use Rattle.columns_check.proofs.Accepting.{count_same, ghost_count_same}
use Rattle.columns.specs.Calls.{to_columns_refusal, part_to_columns, to_part_refusal, columns_to_part}
use Rattle.columns.specs.Theorems.{wrote, PartsComeBack, FilesComeBack, EqualFiles, AcceptedExactly}
use Rattle.columns.proofs.Answers.{sound_length, file_length}

-- ---- the file of a part, and the part of a file

-- a part of its length
module _ (part : List ℕ) (long : length part ≡ part_size (part_count part) (part_ghost_count part)) where
  there : Turned (part_columns part) part (part_count part) (part_ghost_count part)
  there = part_turned part (part_count part) (part_ghost_count part) refl refl long

  count-there : part_count (part_columns part) ≡ part_count part
  count-there = count_same (part_columns part) part (part_count part) (part_ghost_count part) there

  ghosts-there : part_ghost_count (part_columns part) ≡ part_ghost_count part
  ghosts-there = ghost_count_same (part_columns part) part (part_count part) (part_ghost_count part) there

  back-same : columns_part (part_columns part) ≡ part
  back-same =
      part_one_lem (part_columns part) (columns_part (part_columns part)) part (part_count part) (part_ghost_count part)
      (file_turned (part_columns part) (part_count part) (part_ghost_count part) count-there ghosts-there there.length_x) there

  accepted-there : (table : List ℕ) (rank : ℕ) → part_sound part table rank ≡ true → columns_sound (part_columns part) table rank ≡ true
  unfolding columns_sound
  accepted-there table rank s =
      and_intro (eqb (length (part_columns part)) (part_size (part_count (part_columns part)) (part_ghost_count (part_columns part)))) (part_sound (columns_part (part_columns part)) table rank)
      (eq-eqb _ _ (there.length_x ∙ sym (ap₂ part_size count-there ghosts-there)))
      (ap (λ (p : List ℕ). part_sound p table rank) back-same ∙ s)

module _ (part table : List ℕ) (rank : ℕ) (sound : part_sound part table rank ≡ true) where
  back-sound : columns_part (part_columns part) ≡ part
  back-sound = back-same part (sound_length part table rank sound)

  columns-sound : columns_sound (part_columns part) table rank ≡ true
  columns-sound = accepted-there part (sound_length part table rank sound) table rank sound

  columns_length : length (part_columns part) ≡ length part
  columns_length = let long = sound_length part table rank sound in (there part long).length_x ∙ sym long

-- a file of its length
module _ (file : List ℕ) (long : length file ≡ part_size (part_count file) (part_ghost_count file)) where
  turned : Turned file (columns_part file) (part_count file) (part_ghost_count file)
  turned = file_turned file (part_count file) (part_ghost_count file) refl refl long

  forth-same : part_columns (columns_part file) ≡ file
  forth-same =
      file_one (part_columns (columns_part file)) file (columns_part file) (part_count file) (part_ghost_count file)
      (part_turned (columns_part file) (part_count file) (part_ghost_count file) (sym (count_same file (columns_part file) (part_count file) (part_ghost_count file) turned)) (sym (ghost_count_same file (columns_part file) (part_count file) (part_ghost_count file) turned)) turned.length_p) turned

sound_of : (file table : List ℕ) (rank : ℕ) → columns_sound file table rank ≡ true → part_sound (columns_part file) table rank ≡ true
unfolding columns_sound
sound_of file table rank e = and_snd (eqb (length file) (part_size (part_count file) (part_ghost_count file))) (part_sound (columns_part file) table rank) e

module _ (file table : List ℕ) (rank : ℕ) (accepted : columns_sound file table rank ≡ true) where
  forth-sound : part_columns (columns_part file) ≡ file
  forth-sound = forth-same file (file_length file table rank accepted)

  file-part-length : length (columns_part file) ≡ length file
  file-part-length = let long = file_length file table rank accepted in (turned file long).length_p ∙ sym long

-- ---- what the calls answer

-- a call that writes and declines nothing
wrote_is : (object out : List ℕ) → length object ≤ length out → wrote (write_answer 0 object out) ≡ object
unfolding write_answer length_answer written
wrote_is object out h =
    let z : 0 + length object ≡ length object = omega arith in
    rw z at (splice_take out 0 object (omega arith))

answer_zero : (r : ℕ) (object out : List ℕ) → (write_answer r object out).0.refusal ≡ r
unfolding write_answer length_answer
answer_zero r object out = either (eqb r 0) (λ p. rw p (sym (eqb-true r 0 p))) (λ p. rw p)

pass_first : (b : Bool) (x n : ℕ) → cond b x (suc n) ≡ 0 → (b ≡ true) × (x ≡ 0)
pass_first true x n e = (refl, e)
pass_first false x n e = absurd (omega arith)

-- checks that pass: 2, 3, 5, and one more with what comes after it
four_pass : (a b d s : Bool) (x n : ℕ) → cond a (cond b (cond d (cond s x (suc n)) 5) 3) 2 ≡ 0 → (cond {A = ℕ} a (cond b (cond d 0 5) 3) 2 ≡ 0) × (s ≡ true) × (x ≡ 0)
four_pass true true true s x n e = (refl, (pass_first s x n e).0, (pass_first s x n e).1)
four_pass true true false s x n e = absurd (omega arith)
four_pass true false d s x n e = absurd (omega arith)
four_pass false b d s x n e = absurd (omega arith)

module _ (part table : List ℕ) (rank : ℕ) where
  part_passes : part_refusal part table rank ≡ 0 → (first_failed (rank_checks table rank) ≡ 0) × (part_sound part table rank ≡ true)
  unfolding part_refusal first_failed rank_checks
  part_passes e = let f = four_pass (ranks_ok table) (valid table) (ltb rank (ranks table)) (part_sound part table rank) 0 7 e in (f.0, f.1)

  part_accepted : first_failed (rank_checks table rank) ≡ 0 → part_sound part table rank ≡ true → part_refusal part table rank ≡ 0
  unfolding part_refusal first_failed
  part_accepted ok s = rw (rank_passes table rank refl ok, s)

  module _ (out : List ℕ) where
    forward : first_failed (rank_checks table rank) ≡ 0 → part_sound part table rank ≡ true → length part ≤ length out → part_to_columns part table rank out ≡ write_answer 0 (part_columns part) out
    unfolding part_to_columns to_columns_refusal first_failed
    forward ok s room = rw (rank_passes table rank refl ok, s, le-leb (length part) (length out) room)

    forward-passes : (part_to_columns part table rank out).0.refusal ≡ 0 → (first_failed (rank_checks table rank) ≡ 0) × (part_sound part table rank ≡ true) × (length part ≤ length out)
    unfolding part_to_columns to_columns_refusal first_failed rank_checks
    forward-passes e =
        let z = sym (answer_zero (to_columns_refusal part table rank out) (part_columns part) out) ∙ e in
        let f = four_pass (ranks_ok table) (valid table) (ltb rank (ranks table)) (part_sound part table rank) (cond (leb (length part) (length out)) 0 22) 7 z in
        (f.0, f.1, leb-true _ _ (pass_first (leb (length part) (length out)) 0 21 f.2).0)

module _ (file table : List ℕ) (rank : ℕ) (out : List ℕ) where
  inverse : first_failed (rank_checks table rank) ≡ 0 → columns_sound file table rank ≡ true → length file ≤ length out → columns_to_part file table rank out ≡ write_answer 0 (columns_part file) out
  unfolding columns_to_part to_part_refusal first_failed
  inverse ok s room = rw (rank_passes table rank refl ok, s, le-leb (length file) (length out) room)

  inverse-passes : (columns_to_part file table rank out).0.refusal ≡ 0 → (first_failed (rank_checks table rank) ≡ 0) × (columns_sound file table rank ≡ true) × (length file ≤ length out)
  unfolding columns_to_part to_part_refusal first_failed rank_checks
  inverse-passes e =
      let z = sym (answer_zero (to_part_refusal file table rank out) (columns_part file) out) ∙ e in
      let f = four_pass (ranks_ok table) (valid table) (ltb rank (ranks table)) (columns_sound file table rank) (cond (leb (length file) (length out)) 0 22) 32 z in
      (f.0, f.1, leb-true _ _ (pass_first (leb (length file) (length out)) 0 21 f.2).0)

  -- 33 exactly where the file isn't sound
  inverse-refusal : first_failed (rank_checks table rank) ≡ 0 → (columns_to_part file table rank out).0.refusal ≡ cond (columns_sound file table rank) (cond (leb (length file) (length out)) 0 22) 33
  unfolding columns_to_part to_part_refusal first_failed
  inverse-refusal ok = answer_zero (to_part_refusal file table rank out) (columns_part file) out ∙ rank_passes table rank refl ok _

-- ---- the theorems

-- what the forward step writes of a sound part is its file
forward_wrote : (part table : List ℕ) (rank : ℕ) (out : List ℕ) → first_failed (rank_checks table rank) ≡ 0 → part_sound part table rank ≡ true → length part ≤ length out
    → wrote (part_to_columns part table rank out) ≡ part_columns part
forward_wrote part table rank out ok s room =
    ap wrote (forward part table rank out ok s room) ∙ wrote_is (part_columns part) out (rw (columns_length part table rank s) room)

inverse_wrote : (file table : List ℕ) (rank : ℕ) (out : List ℕ) → first_failed (rank_checks table rank) ≡ 0 → columns_sound file table rank ≡ true → length file ≤ length out
    → wrote (columns_to_part file table rank out) ≡ columns_part file
inverse_wrote file table rank out ok s room =
    ap wrote (inverse file table rank out ok s room) ∙ wrote_is (columns_part file) out (rw (file-part-length file table rank s) room)

-- an answer that declines nothing
answer_of_lem : (object out : List ℕ) → (write_answer 0 object out).0 ≡ record { refusal = 0; length = length object }
unfolding write_answer length_answer
answer_of_lem object out = refl

pub parts_come_back : PartsComeBack
parts_come_back part table rank e out back room more =
    let k = part_passes part table rank e in
    let s : part_sound part table rank ≡ true = k.1 in
    let long : length (part_columns part) ≡ length part = columns_length part table rank s in
    record {
      there = ap (λ (x : Length × List ℕ). x.0) (forward part table rank out k.0 s room) ∙ (answer_of_lem (part_columns part) out ∙ rw long);
      back =
          rw (forward_wrote part table rank out k.0 s room)
          (inverse (part_columns part) table rank back k.0 (columns-sound part table rank s) (rw long more) ∙ rw (back-sound part table rank s));
    }

pub files_come_back : FilesComeBack
files_come_back file table rank out e forth room =
    let k = inverse-passes file table rank out e in
    let s : columns_sound file table rank ≡ true = k.1 in
    let long : length (columns_part file) ≡ length file = file-part-length file table rank s in
    let sound : part_sound (columns_part file) table rank ≡ true = sound_of file table rank s in
    let wrote-part : wrote (columns_to_part file table rank out) ≡ columns_part file = inverse_wrote file table rank out k.0 s k.2 in
    record {
      there = ap (λ (x : Length × List ℕ). x.0) (inverse file table rank out k.0 s k.2) ∙ (answer_of_lem (columns_part file) out ∙ rw long);
      sound = rw wrote-part (part_accepted (columns_part file) table rank k.0 sound);
      forth = rw wrote-part (forward (columns_part file) table rank forth k.0 sound (rw long room) ∙ rw (forth-sound file table rank s));
    }

pub equal_files : EqualFiles
equal_files a b s t p q out other ea eb =
    let k = forward-passes a s p out ea in
    let l = forward-passes b t q other eb in
    let of_a = forward_wrote a s p out k.0 k.1 k.2 in
    let of_b = forward_wrote b t q other l.0 l.1 l.2 in
    record {
      parts = λ e. sym (back-sound a s p k.1) ∙ (ap columns_part (sym of_a ∙ (e ∙ of_b)) ∙ back-sound b t q l.1);
      files = λ e. of_a ∙ (ap part_columns e ∙ sym of_b);
    }

pub accepted_exactly : AcceptedExactly
accepted_exactly file table rank out ok =
    record {
      no_file = λ e w.
          let k = part_passes w.0 table rank w.1 in
          let is : part_columns w.0 ≡ file = sym (forward_wrote w.0 table rank w.0 ok k.1 (le_refl (length w.0))) ∙ w.2 w.0 (le_refl (length w.0)) in
          let s : columns_sound file table rank ≡ true = rw is at (columns-sound w.0 table rank k.1) in
          not-33 (leb (length file) (length out)) (rw s at (sym (inverse-refusal file table rank out ok) ∙ e));
      a_file = λ h. either (columns_sound file table rank)
          (λ s.
          let sound : part_sound (columns_part file) table rank ≡ true = sound_of file table rank s in
          (columns_part file, part_accepted (columns_part file) table rank ok sound, λ room l. forward_wrote (columns_part file) table rank room ok sound l ∙ forth-sound file table rank s))
          (λ s. absurd (h (inverse-refusal file table rank out ok ∙ rw s)));
    }
  where
    not-33 : (b : Bool) → cond {A = ℕ} b 0 22 ≡ 33 → ⊥
    not-33 true e = omega arith
    not-33 false e = omega arith
