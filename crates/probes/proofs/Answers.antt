-- The checks of the call in their order, and what it answers.
use Prim.Native.Nat.{ℕ, ◌≤◌, ◌<◌}
use native.Mathlib.Omega.{arith}
use mathlib.Core.Path.{◌≡◌, refl, sym, ◌∙◌}
use mathlib.Core.Bool.{Bool, true, false, cond}
use mathlib.Core.List.{List, [], ◌∷◌}
use lib.Dec.{ltb, leb}
use lib.ListN.{length}
use borrow.Author.Tests.{le-leb, lt-leb, ne_eqb}
use Rattle.encoding.specs.Answer.{written, count_refused, count_answer}
use Rattle.encoding.specs.Below.{count_below}
use Rattle.encoding.specs.Pieces.{splice}
use Rattle.encoding.specs.Refusal.{Check, check, first_failed}
use Rattle.encoding.specs.declared.answer.Count.{Count}
use Rattle.encoding.proofs.Below.{kept_length}
use Rattle.offsets.specs.Table.{ranks, ranks_ok, valid}
use Rattle.part.specs.Part.{part_count, part_sound}
use Rattle.part.specs.Checks.{rank_checks}
use Rattle.part_check.specs.Calls.{part_refusal}
use Rattle.part_theorems.proofs.SoundParts.{part_length}
use Rattle.probes.specs.declared.Probe.{Probe}
use Rattle.probes.specs.Probes.{boxes_ok, probe_ok, meets, trees_met}
use Rattle.probes.specs.Calls.{near_refusal, trees_near}
use Rattle.probes.specs.Means.{HasTrees, Comparable, Listable}

-- ---- the checks of a part, with more behind them

four_fail : (a b d s : Bool) (n : ℕ) {r : ℕ} → r ≡ cond a (cond b (cond d (cond s 0 8) 5) 3) 2 → (r ≡ 0 → ⊥) → r ≡ cond a (cond b (cond d (cond s n 8) 5) 3) 2
four_fail true true true true n q h = absurd (h q)
four_fail true true true false n q h = q
four_fail true true false s n q h = q
four_fail true false d s n q h = q
four_fail false b d s n q h = q

four_pass : (a b d s : Bool) (n : ℕ) → ◌≡◌ {A = ℕ} (cond a (cond b (cond d (cond s 0 8) 5) 3) 2) 0 → (s ≡ true) × (◌≡◌ {A = ℕ} (cond a (cond b (cond d (cond s n 8) 5) 3) 2) n)
four_pass true true true true n e = (refl, refl)
four_pass true true true false n e = absurd (omega arith)
four_pass true true false s n e = absurd (omega arith)
four_pass true false d s n e = absurd (omega arith)
four_pass false b d s n e = absurd (omega arith)

module _ (part table : List ℕ) (rank : ℕ) where
  -- the call's checks begin with those of the part
  abbrev near_checks : (probe : Probe) (out : List ℕ) → List Check
  near_checks probe out = check (probe_ok probe) 31 ∷ check (boxes_ok part) 32 ∷ check (leb (length (trees_met part probe)) (length out)) 22 ∷ []

  pub part_first_lem : (probe : Probe) (out : List ℕ) {r : ℕ} → r ≡ part_refusal part table rank → (r ≡ 0 → ⊥) → r ≡ near_refusal part table rank probe out
  unfolding part_refusal near_refusal first_failed rank_checks
  part_first_lem probe out e h =
      four_fail (ranks_ok table) (valid table) (ltb rank (ranks table)) (part_sound part table rank) (first_failed (near_checks probe out)) e h

  pub part_then : (probe : Probe) (out : List ℕ) → part_refusal part table rank ≡ 0
      → (part_sound part table rank ≡ true) × (near_refusal part table rank probe out ≡ cond (probe_ok probe) (cond (boxes_ok part) (cond (leb (length (trees_met part probe)) (length out)) 0 22) 32) 31)
  unfolding part_refusal near_refusal first_failed rank_checks
  part_then probe out e =
      four_pass (ranks_ok table) (valid table) (ltb rank (ranks table)) (part_sound part table rank) (first_failed (near_checks probe out)) e

met_length : (part : List ℕ) (probe : Probe) → length (trees_met part probe) ≡ count_below (part_count part) (meets probe part)
unfolding trees_met
met_length part probe = kept_length (part_count part) (meets probe part)

-- ---- the call

module _ (part table : List ℕ) (rank : ℕ) (probe : Probe) (out : List ℕ) where
  -- refused by the number n
  refused-is : {n : ℕ} {a : Count} → n ≡ near_refusal part table rank probe out → (n ≡ 0 → ⊥) → a ≡ count_refused n → (a, out) ≡ trees_near part table rank probe out
  unfolding trees_near count_answer written
  refused-is {n} {a} e h q = rw (q, ← e, ne_eqb n 0 h)

  module _ {r : ℕ} (checked : r ≡ part_refusal part table rank) where
    pub near_part : {a : Count} → (r ≡ 0 → ⊥) → a ≡ count_refused r → (a, out) ≡ trees_near part table rank probe out
    near_part h q = refused-is (part_first_lem part table rank probe out checked h) h q

    module _ (ok : r ≡ 0) {p : Bool} (is : p ≡ probe_ok probe) where
      part_sound_lem : part_sound part table rank ≡ true
      part_sound_lem = (part_then part table rank probe out (sym checked ∙ ok)).0

      refusal_is : near_refusal part table rank probe out ≡ cond (probe_ok probe) (cond (boxes_ok part) (cond (leb (length (trees_met part probe)) (length out)) 0 22) 32) 31
      refusal_is = (part_then part table rank probe out (sym checked ∙ ok)).1

      pub near_probe : {a : Count} → p ≡ false → a ≡ count_refused 31 → (a, out) ≡ trees_near part table rank probe out
      near_probe h q = refused-is (sym (refusal_is ∙ rw (← is, h))) (λ e. omega arith) q

      module _ (good : p ≡ true) where
        pub has_trees_lem : HasTrees part
        has_trees_lem = record { fits = omega (arith, part_length part table rank part_sound_lem) }

        module _ {k : Bool} (boxes : k ≡ boxes_ok part) where
          pub near_box : {a : Count} → k ≡ false → a ≡ count_refused 32 → (a, out) ≡ trees_near part table rank probe out
          near_box h q = refused-is (sym (refusal_is ∙ rw (← is, good, ← boxes, h))) (λ e. omega arith) q

          module _ (sound : k ≡ true) where
            pub comparable : Comparable part probe
            comparable = record { trees = has_trees_lem; boxes = sym boxes ∙ sound; probe_sound = sym is ∙ good }

            module _ {met : ℕ} (counted : met ≡ count_below (part_count part) (meets probe part)) where
              count_is : length (trees_met part probe) ≡ met
              count_is = met_length part probe ∙ sym counted

              pub near_short : {a : Count} → length out < met → a ≡ count_refused 22 → (a, out) ≡ trees_near part table rank probe out
              near_short h q =
                  refused-is
                  (sym (refusal_is ∙ rw (← is, good, ← boxes, sound, count_is, lt-leb met (length out) h)))
                  (λ e. omega arith) q

              module _ (room : met ≤ length out) where
                pub listable : Listable part probe met out
                listable = record { comparable = comparable; counted = counted; room = room }

                accepted : near_refusal part table rank probe out ≡ 0
                accepted = refusal_is ∙ rw (← is, good, ← boxes, sound, count_is, le-leb met (length out) room)

                pub near_listed : {last : List ℕ} → last ≡ splice out 0 (trees_met part probe) → (record { refusal = 0; count = met }, last) ≡ trees_near part table rank probe out
                unfolding trees_near count_answer written
                near_listed e = rw (accepted, count_is, e)
