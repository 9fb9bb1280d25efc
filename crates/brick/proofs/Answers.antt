-- The checks of the calls in their order, and what the calls answer.
use Prim.Native.Nat.{ℕ, ◌+◌, ◌*◌, ◌≤◌, ◌<◌}
use native.Mathlib.Omega.{arith}
use native.Mathlib.Nat.{zero-add}
use mathlib.Core.Path.{◌≡◌, ap}
use mathlib.Core.Bool.{true, false}
use mathlib.Core.List.{List}
use lib.Dec.{leb}
use lib.ListN.{length, take}
use borrow.Author.Tests.{le-leb, lt-leb, leb-true}
use Rattle.encoding.specs.declared.answer.Length.{Length}
use Rattle.encoding.specs.Answer.{length_refused, length_answer, written, write_answer}
use Rattle.encoding.specs.Pieces.{splice}
use Rattle.encoding.specs.Refusal.{first_failed}
use Rattle.encoding.specs.Refusals.{refusal_number}
use Rattle.encoding.specs.declared.refusal.Refusal.{Refusal}
use Rattle.encoding.proofs.Below.{either}
use Rattle.encoding.proofs.Refusals.{number_positive}
use Rattle.encoding.proofs.Pieces.{splice_take}
use Rattle.mesh.specs.Mesh.{mesh_refusal}
use Rattle.brick.specs.Brick.{brick_mesh}
use Rattle.brick.specs.Calls.{extents_ok, yes, brick_length_of, write_brick_of}
use Rattle.brick.specs.Theorems.{WritesSound, BrickLength}
use Rattle.brick.proofs.Sound.{within, brick_length, brick_sound}

module _ (a b c : ℕ) where
  -- an extent is outside its limits
  pub length_outside : {l : Length} → extents_ok a b c ≡ false → l ≡ length_refused 26 → l ≡ brick_length_of a b c
  unfolding brick_length_of length_answer first_failed
  length_outside h e = rw (h, e)

  pub length_inside : {n : ℕ} → extents_ok a b c ≡ true → n ≡ 8 + 64 * (a * b * c) → record { refusal = 0; length = n } ≡ brick_length_of a b c
  unfolding brick_length_of length_answer first_failed
  length_inside h e = rw (h, e)

  -- what an accepted length tells
  pub length_known : {n : ℕ} → record { refusal = 0; length = n } ≡ brick_length_of a b c → (extents_ok a b c ≡ true) × (n ≡ 8 + 64 * (a * b * c))
  unfolding brick_length_of length_answer first_failed
  length_known e =
      either (extents_ok a b c)
      (λ h. (h, ap (λ (l : Length). l.length) (rw h at e)))
      (λ h. absurd (let z : ◌≡◌ {A = ℕ} 0 26 = ap (λ (l : Length). l.refusal) (rw h at e) in omega arith))

  -- and a refused one
  refused_is : (e : Refusal) → length_refused (refusal_number e) ≡ brick_length_of a b c → (extents_ok a b c ≡ false) × (refusal_number e ≡ 26)
  unfolding brick_length_of length_answer first_failed
  refused_is e q =
      either (extents_ok a b c)
      (λ h. absurd (number_positive e (ap (λ (l : Length). l.refusal) (rw h at q))))
      (λ h. (h, ap (λ (l : Length). l.refusal) (rw h at q)))

  module _ (p q r : ℕ) (out : List ℕ) where
    pub write_outside : (e : Refusal) → length_refused (refusal_number e) ≡ brick_length_of a b c → (length_refused (refusal_number e), out) ≡ write_brick_of a b c p q r out
    unfolding write_brick_of write_answer written length_answer first_failed
    write_outside e h = let k = refused_is e h in rw (k.0, k.1)

    module _ (h : extents_ok a b c ≡ true) where
      long : length (brick_mesh a b c (yes p) (yes q) (yes r)) ≡ 8 + 64 * (a * b * c)
      long = brick_length a b c (yes p) (yes q) (yes r) (within a b c h)

      -- the buffer is too short
      pub write_short : {n : ℕ} {l : Length} → n ≡ 8 + 64 * (a * b * c) → length out < n → l ≡ length_refused 22 → (l, out) ≡ write_brick_of a b c p q r out
      unfolding write_brick_of write_answer written length_answer first_failed
      write_short e s q' = rw (h, long, lt-leb (8 + 64 * (a * b * c)) (length out) (omega arith), q')

      pub write_done : {n : ℕ} {last : List ℕ} → n ≡ 8 + 64 * (a * b * c) → n ≤ length out → last ≡ splice out 0 (brick_mesh a b c (yes p) (yes q) (yes r))
          → (record { refusal = 0; length = n }, last) ≡ write_brick_of a b c p q r out
      unfolding write_brick_of write_answer written length_answer first_failed
      write_done e s q' = rw (h, long, le-leb (8 + 64 * (a * b * c)) (length out) (omega arith), q', e)

-- where the call accepts, the extents are within their limits and the buffer has room
accepted : (a b c p q r : ℕ) (out : List ℕ) → (write_brick_of a b c p q r out).0.refusal ≡ 0 → (extents_ok a b c ≡ true) × (length (brick_mesh a b c (yes p) (yes q) (yes r)) ≤ length out)
unfolding write_brick_of write_answer length_answer first_failed
accepted a b c p q r out e =
    either (extents_ok a b c)
    (λ h. (h, either (leb (length (brick_mesh a b c (yes p) (yes q) (yes r))) (length out)) (leb-true _ _) (λ s. let z : ◌≡◌ {A = ℕ} 22 0 = rw (h, s) at e in absurd (omega arith))))
    (λ h. let z : ◌≡◌ {A = ℕ} 26 0 = rw h at e in absurd (omega arith))

module _ (a b c p q r : ℕ) (out : List ℕ) (e : (write_brick_of a b c p q r out).0.refusal ≡ 0) where
  answer-is : write_brick_of a b c p q r out ≡ (record { refusal = 0; length = length (brick_mesh a b c (yes p) (yes q) (yes r)) }, splice out 0 (brick_mesh a b c (yes p) (yes q) (yes r)))
  unfolding write_brick_of write_answer written length_answer first_failed
  answer-is = rw ((accepted a b c p q r out e).0, le-leb _ _ (accepted a b c p q r out e).1)

  mesh-is : take (write_brick_of a b c p q r out).0.length (write_brick_of a b c p q r out).1 ≡ brick_mesh a b c (yes p) (yes q) (yes r)
  mesh-is = rw answer-is (rw zero-add at (splice_take out 0 (brick_mesh a b c (yes p) (yes q) (yes r)) (omega (arith, (accepted a b c p q r out e).1))))

pub writes_sound : WritesSound
unfolding mesh_refusal first_failed
writes_sound a b c p q r out e = rw (mesh-is a b c p q r out e, brick_sound a b c (yes p) (yes q) (yes r) (accepted a b c p q r out e).0)

pub brick_writes_length : BrickLength
unfolding brick_length_of length_answer first_failed
brick_writes_length a b c p q r out e =
    let h = (accepted a b c p q r out e).0 in
    rw (answer-is a b c p q r out e, h, long a b c p q r out h)
