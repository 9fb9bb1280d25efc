-- What the list of an accepted call holds, and that n entries suffice.
use Prim.Native.Nat.{ℕ, ◌+◌, ◌≤◌, ◌<◌}
use native.Mathlib.Omega.{arith}
use mathlib.Core.Path.{◌≡◌, refl, sym, ap, ◌∙◌}
use mathlib.Core.Bool.{Bool, true, false, cond, ◌&&◌}
use mathlib.Core.List.{List}
use lib.Dec.{ltb, leb, eqb}
use lib.ListN.{length, get_or, take}
use lib.Seq.{get_or-take}
use borrow.Author.Tests.{eqb-true, leb-true, le-leb}
use Rattle.encoding.specs.Answer.{written, count_answer}
use Rattle.encoding.specs.Below.{member}
use Rattle.encoding.specs.Pieces.{splice}
use Rattle.encoding.specs.Refusal.{first_failed}
use Rattle.encoding.proofs.Below.{either, clash, count_le, kept_length, kept_member, kept_ascends}
use Rattle.encoding.proofs.Pieces.{splice_take}
use Rattle.offsets.specs.Table.{ranks, ranks_ok, valid, tree_count}
use Rattle.part.specs.Part.{part_count, part_sound}
use Rattle.part.specs.Checks.{rank_checks}
use Rattle.part_theorems.proofs.SoundParts.{part_header_lem}
use Rattle.probes.specs.declared.Probe.{Probe}
use Rattle.probes.specs.Probes.{boxes_ok, probe_ok, meets, trees_met}
use Rattle.probes.specs.Calls.{near_refusal, trees_near}
use Rattle.probes.specs.Theorems.{Lists, ListsTreesMet, EnoughEntries}

-- ---- the checks of an accepted call, and of one whose list is too short

abbrev checks : Bool → Bool → Bool → Bool → Bool → Bool → Bool → ℕ
checks a b d s p x l = cond a (cond b (cond d (cond s (cond p (cond x (cond l 0 22) 32) 31) 8) 5) 3) 2

seven_pass : (a b d s p x l : Bool) → checks a b d s p x l ≡ 0 → (s ≡ true) × (l ≡ true)
seven_pass true true true true true true true e = (refl, refl)
seven_pass true true true true true true false e = absurd (omega arith)
seven_pass true true true true true false l e = absurd (omega arith)
seven_pass true true true true false x l e = absurd (omega arith)
seven_pass true true true false p x l e = absurd (omega arith)
seven_pass true true false s p x l e = absurd (omega arith)
seven_pass true false d s p x l e = absurd (omega arith)
seven_pass false b d s p x l e = absurd (omega arith)

seven_short : (a b d s p x l : Bool) → checks a b d s p x l ≡ 22 → (s ≡ true) × (l ≡ false)
seven_short true true true true true true true e = absurd (omega arith)
seven_short true true true true true true false e = (refl, refl)
seven_short true true true true true false l e = absurd (omega arith)
seven_short true true true true false x l e = absurd (omega arith)
seven_short true true true false p x l e = absurd (omega arith)
seven_short true true false s p x l e = absurd (omega arith)
seven_short true false d s p x l e = absurd (omega arith)
seven_short false b d s p x l e = absurd (omega arith)

-- the answer's refusal is the first check that fails
answer_refusal : (r n : ℕ) → (count_answer r n).refusal ≡ r
unfolding count_answer
answer_refusal r n = either (eqb r 0) (λ p. rw p (sym (eqb-true r 0 p))) (λ p. rw p)

module _ (part table : List ℕ) (rank : ℕ) (probe : Probe) (out : List ℕ) where
  abbrev met : List ℕ
  met = trees_met part probe

  refusal_is : (trees_near part table rank probe out).0.refusal ≡ near_refusal part table rank probe out
  unfolding trees_near
  refusal_is = answer_refusal (near_refusal part table rank probe out) (length met)

  accepted : near_refusal part table rank probe out ≡ 0 → (part_sound part table rank ≡ true) × (leb (length met) (length out) ≡ true)
  unfolding near_refusal first_failed rank_checks
  accepted e =
      seven_pass (ranks_ok table) (valid table) (ltb rank (ranks table)) (part_sound part table rank) (probe_ok probe) (boxes_ok part) (leb (length met) (length out)) e

  short : near_refusal part table rank probe out ≡ 22 → (part_sound part table rank ≡ true) × (leb (length met) (length out) ≡ false)
  unfolding near_refusal first_failed rank_checks
  short e =
      seven_short (ranks_ok table) (valid table) (ltb rank (ranks table)) (part_sound part table rank) (probe_ok probe) (boxes_ok part) (leb (length met) (length out)) e

  -- n, by the header
  module _ (sound : part_sound part table rank ≡ true) where
    count_is : part_count part ≡ tree_count table rank
    count_is = (part_header_lem part table rank sound).tree_count_lem

    met_most : length met ≤ tree_count table rank
    unfolding trees_met
    met_most = omega (arith, count_is, kept_length (part_count part) (meets probe part), count_le (part_count part) (meets probe part))

  module _ (e : near_refusal part table rank probe out ≡ 0) where
    room : length met ≤ length out
    room = leb-true _ _ (accepted e).1

    count-written : (trees_near part table rank probe out).0.count ≡ length met
    unfolding trees_near count_answer
    count-written = rw e

    list_written : (trees_near part table rank probe out).1 ≡ splice out 0 met
    unfolding trees_near written
    list_written = rw e

    -- the beginning of the list
    first-entries : take (length met) (splice out 0 met) ≡ met
    first-entries =
        let z : 0 + length met ≡ length met = omega arith in
        rw z at (splice_take out 0 met (omega (arith, room)))

    entry_at : (i : ℕ) → i < length met → get_or (splice out 0 met) i 0 ≡ get_or met i 0
    entry_at i h = sym (get_or-take (length met) (splice out 0 met) i 0 h) ∙ ap (λ (l : List ℕ). get_or l i 0) first-entries

    ascends : (i j : ℕ) → i < j → j < length met → get_or (splice out 0 met) i 0 < get_or (splice out 0 met) j 0
    unfolding trees_met
    ascends i j h l =
        rw (entry_at i (omega arith), entry_at j l) (kept_ascends (part_count part) (meets probe part) i j 0 h (omega (arith, kept_length (part_count part) (meets probe part))))

    members : (i : ℕ) → member i (take (length met) (splice out 0 met)) ≡ (ltb i (tree_count table rank) && meets probe part i)
    unfolding trees_met
    members i =
        ap (member i) first-entries
        ∙ (kept_member (part_count part) (meets probe part) i ∙ ap (λ (n : ℕ). ltb i n && meets probe part i) (count_is (accepted e).0))

    lists : Lists part table rank probe (trees_near part table rank probe out).0.count (trees_near part table rank probe out).1
    lists = rw (count-written, list_written) (record { most = met_most (accepted e).0; ascends = ascends; members = members })

pub lists_trees_met : ListsTreesMet
lists_trees_met part table rank probe out e = lists part table rank probe out (sym (refusal_is part table rank probe out) ∙ e)

pub enough_entries : EnoughEntries
enough_entries part table rank probe out h e =
    let s = short part table rank probe out (sym (refusal_is part table rank probe out) ∙ e) in
    clash (le-leb (length (trees_met part probe)) (length out) (omega (arith, met_most part table rank probe out s.0))) s.1
