-- Deliveries of any bytes, from one to every list.
use Prim.Native.Nat.{ℕ, ◌+◌, ◌<◌}
use native.Mathlib.Nat.{zero-add, mul-le-mul_left}
use native.Mathlib.Omega.{arith}
use mathlib.Core.Path.{◌≡◌, refl, sym, ◌∙◌}
use mathlib.Core.Bool.{Bool, true, cond, ◌&&◌}
use mathlib.Core.List.{List, [], ◌∷◌, ◌++◌}
use lib.Dec.{leb, ltb, eqb}
use lib.ListN.{length, drop}
use lib.Seq.{get_or-drop}
use borrow.Author.Tests.{ltb-true}
use Rattle.encoding.specs.Answer.{write_answer, written}
use Rattle.encoding.specs.Pieces.{splice, Bytes}
use Rattle.encoding.specs.Refusal.{check, first_failed}
use Rattle.encoding.proofs.Below.{either, and_fst, and_snd}
use Rattle.offsets.specs.Table.{ranks, ranks_ok, valid, trees, tree_count}
use Rattle.pattern.specs.Calls.{table_checks}
use Rattle.pattern.specs.Sender.{Tables}
use Rattle.pattern.proofs.Answers.{tables_agree}
use Rattle.records.specs.Shape.{faces_in}
use Rattle.mesh.specs.Mesh.{dimension_ok}
use Rattle.area.specs.Layout.{ghost_bound, area_size}
use Rattle.area.specs.Area.{area_dimension, filled_bound, area_sound}
use Rattle.area.specs.Deliver.{deliver_of}
use Rattle.area.specs.Open.{fresh_area}
use Rattle.area.proofs.Soundness.{filled_few}
use Rattle.area_open.specs.Calls.{open_checks, open_area_of}
use Rattle.deliver_all.specs.Messages.{area_after_each}
use Rattle.area_theorems.proofs.Sound.{fresh_sound}
use Rattle.area_theorems.proofs.Again.{area_parts}
use Rattle.area_theorems.proofs.Deliveries.{fresh_bytes, deliver_bytes, deliver_sound}
use Rattle.repartition.specs.Lists.{AllIn}
use Rattle.repartition.specs.Deliveries.{GhostsBounded, EnoughSlots}
use Rattle.repartition.proofs.Refusals.{refusal_is}

-- a list of deliveries keeps a sound area of bytes sound
after_sound : (ms : List (List ℕ)) (a : List ℕ) → Bytes a → area_sound a ≡ true → AllIn Bytes ms → area_sound (area_after_each a ms) ≡ true
unfolding area_after_each AllIn
after_sound [] a b s all = s
after_sound (m ∷ ms) a b s all = after_sound ms (deliver_of a m).1 (deliver_bytes a m b all.0) (deliver_sound a m b s) all.1

-- what a sound area says of its ghosts
sound_bounded : (a : List ℕ) → area_sound a ≡ true → GhostsBounded a
unfolding filled_bound ghost_bound
sound_bounded a s =
    record {
      sound = s;
      few = (area_parts a s).filled;
      within = mul-le-mul_left (faces_in (area_dimension a)) (filled_few a);
    }

-- a test passes where the refusal is none
passed : (b : Bool) (x n : ℕ) → (n ≡ 0 → ⊥) → cond b x n ≡ 0 → (b ≡ true) × (x ≡ 0)
passed b x n z e = either b (λ t. (t, rw t at e)) (λ t. absurd (z (rw t at e)))

module _ (old new : List ℕ) (rank dimension epoch : ℕ) (out : List ℕ) (bO : Bytes old) (bN : Bytes new) (bT : Bytes out) (small : epoch < 4294967296)
    (accepted : (open_area_of old new rank dimension epoch out).0.refusal ≡ 0) where
  abbrev room : Bool
  room = leb (area_size dimension (ranks old) (tree_count new rank)) (length out)

  none_fails : first_failed (open_checks old new rank dimension ++ (check room 22 ∷ [])) ≡ 0
  unfolding open_area_of
  none_fails = sym (refusal_is _ (fresh_area old new rank dimension epoch) out) ∙ accepted

  -- what the checks of an accepted open say
  tables-pass : first_failed (table_checks old new) ≡ 0
  unfolding open_checks table_checks first_failed
  tables-pass =
      let e2 = passed (ranks_ok old && ranks_ok new) _ 2 (λ z. omega arith) none_fails in
      let e3 = passed (valid old && valid new) _ 3 (λ z. omega arith) e2.1 in
      let e4 = passed (eqb (ranks old) (ranks new) && eqb (trees old) (trees new)) _ 4 (λ z. omega arith) e3.1 in
      rw (e2.0, e3.0, e4.0)

  five-passes : (ltb rank (ranks old) && dimension_ok dimension) ≡ true
  unfolding open_checks table_checks first_failed
  five-passes =
      let e2 = passed (ranks_ok old && ranks_ok new) _ 2 (λ z. omega arith) none_fails in
      let e3 = passed (valid old && valid new) _ 3 (λ z. omega arith) e2.1 in
      let e4 = passed (eqb (ranks old) (ranks new) && eqb (trees old) (trees new)) _ 4 (λ z. omega arith) e3.1 in
      (passed (ltb rank (ranks old) && dimension_ok dimension) _ 5 (λ z. omega arith) e4.1).0

  T : Tables old new
  T = tables_agree old new (first_failed (table_checks old new)) refl bO bN tables-pass

  -- the area that it wrote
  abbrev tail : List ℕ
  tail = drop (length (fresh_area old new rank dimension epoch)) out

  opened-is : (open_area_of old new rank dimension epoch out).1 ≡ fresh_area old new rank dimension epoch ++ tail
  unfolding open_area_of write_answer written splice
  opened-is = rw (none_fails, zero-add)

  opened-sound : area_sound (open_area_of old new rank dimension epoch out).1 ≡ true
  opened-sound =
      rw opened-is
      (fresh_sound old new rank dimension epoch T (ltb-true rank (ranks old) (and_fst (ltb rank (ranks old)) (dimension_ok dimension) five-passes)) (and_snd (ltb rank (ranks old)) (dimension_ok dimension) five-passes) small tail)

  opened-bytes : Bytes (open_area_of old new rank dimension epoch out).1
  opened-bytes i =
      rw opened-is (fresh_bytes old new rank dimension epoch tail bO bN (λ j. rw get_or-drop (bT (length (fresh_area old new rank dimension epoch) + j))) i)

  enough : (ms : List (List ℕ)) → AllIn Bytes ms → GhostsBounded (area_after_each (open_area_of old new rank dimension epoch out).1 ms)
  enough ms all = sound_bounded (area_after_each (open_area_of old new rank dimension epoch out).1 ms) (after_sound ms (open_area_of old new rank dimension epoch out).1 opened-bytes opened-sound all)

pub enough_slots : EnoughSlots
enough_slots old new rank dimension epoch out bO bN bT small accepted ms all = enough old new rank dimension epoch out bO bN bT small accepted ms all
