-- Laws of the call.
use Prim.Native.Nat.{ℕ, ◌≤◌, ◌<◌}
use native.Mathlib.Omega.{arith}
use mathlib.Core.Path.{◌≡◌, refl, sym, ◌∙◌}
use mathlib.Core.Bool.{Bool, true, false, cond}
use mathlib.Core.List.{List, [], ◌∷◌, ◌++◌}
use lib.Dec.{leb, eqb}
use lib.ListN.{length}
use borrow.Author.Tests.{ne_eqb, lt-leb, le-leb}
use Rattle.encoding.specs.Answer.{length_refused, length_answer, write_answer, written}
use Rattle.encoding.specs.Pieces.{splice, Bytes}
use Rattle.encoding.specs.Refusal.{check, first_failed}
use Rattle.encoding.proofs.Below.{either}
use Rattle.part.specs.Layout.{part_size}
use Rattle.part.specs.Part.{part_sound}
use Rattle.area.specs.Area.{area_rank, area_count, area_ghosts, area_new, area_sound}
use Rattle.area.proofs.Soundness.{sound_holds}
use Rattle.area.specs.Close.{all_heard, joined_part, close_checks, close_of}
use Rattle.close_check.specs.Means.{join_sound}
use Rattle.close_check.proofs.AreaSlots.{joined_length}
use Rattle.close.specs.Means.{JoinRoom}
use Rattle.close_check.proofs.Checks.{closes_sound, refused_heard, refused_join}

-- one more check behind the three
more_checks : (b c d : Bool) (x : ℕ) → cond b (cond c (cond d x 21) 20) 10 ≡ cond (eqb (cond b (cond c (cond d 0 21) 20) 10) 0) x (cond b (cond c (cond d 0 21) 20) 10)
more_checks false c d x = refl
more_checks true false d x = refl
more_checks true true false x = refl
more_checks true true true x = refl

module _ (a : List ℕ) where
  -- what holds where no check fails; the last is check 21's slots
  pub record Closable : Type 0 where
    pub is_sound : area_sound a ≡ true
    pub heard_all : all_heard a ≡ true
    pub joined : join_sound a ≡ true

  pub closable : Bytes a → first_failed (close_checks a) ≡ 0 → Closable
  closable b e =
      let s : area_sound a ≡ true = closes_sound a e in
      let h : all_heard a ≡ true = either (all_heard a) (λ t. t) (λ f. absurd (omega (arith, refused_heard a s f))) in
      record { is_sound = s; heard_all = h; joined = either (join_sound a) (λ t. t) (λ f. absurd (omega (arith, refused_join a s h b f))) }

module _ (a out : List ℕ) {r : ℕ} (checked : r ≡ first_failed (close_checks a)) where
  with-room : (b : Bool) → first_failed (close_checks a ++ (check b 22 ∷ [])) ≡ cond (eqb r 0) (cond b 0 22) r
  unfolding first_failed close_checks
  with-room b = rw checked (more_checks (area_sound a) (all_heard a) (part_sound (joined_part a) (area_new a) (area_rank a)) (cond b 0 22))

  pub close_refused : (r ≡ 0 → ⊥) → (length_refused r, out) ≡ close_of a out
  unfolding close_of write_answer length_answer written
  close_refused h = rw (with-room (leb (length (joined_part a)) (length out)), ne_eqb r 0 h, ne_eqb r 0 h)

  module _ (ok : r ≡ 0) (b : Bytes a) where
    pub all_hold : Closable a
    all_hold = closable a b (sym checked ∙ ok)

    module _ {n g size : ℕ} (is_n : n ≡ area_count a) (is_g : g ≡ area_ghosts a) (is-size : size ≡ part_size n g) where
      -- the length that the code compares
      part_long : size ≡ length (joined_part a)
      part_long = is-size ∙ rw (is_n, is_g) (sym (joined_length a all_hold.is_sound))

      pub close_short : length out < size → (length_refused 22, out) ≡ close_of a out
      unfolding close_of write_answer length_answer written
      close_short h = rw (with-room (leb (length (joined_part a)) (length out)), ok, ← part_long, lt-leb size (length out) h)

      module _ (enough : size ≤ length out) where
        pub join_room : JoinRoom a out
        join_room = record { header = sound_holds a all_hold.is_sound b; is_sound = all_hold.is_sound; joined = all_hold.joined; room = omega (arith, is_n, is_g, is-size) }

        pub close_done : {last : List ℕ} → last ≡ splice out 0 (joined_part a) → (record { refusal = 0; length = size }, last) ≡ close_of a out
        unfolding close_of write_answer length_answer written
        close_done e = rw (with-room (leb (length (joined_part a)) (length out)), ok, ← part_long, le-leb size (length out) enough, e)
