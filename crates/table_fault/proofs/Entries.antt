-- What the search finds at an entry of a table is the kind there.
use Prim.Native.Nat.{ℕ, ◌+◌, ◌≤◌, ◌<◌}
use native.Mathlib.Omega.{arith}
use mathlib.Core.Path.{◌≡◌, refl, sym, ap, ◌∙◌}
use mathlib.Core.Bool.{Bool, true, false, not, ◌&&◌, ◌||◌}
use mathlib.Core.List.{List}
use lib.Dec.{eqb, leb, ltb}
use lib.ListN.{length}
use borrow.Author.Tests.{eqb-true, leb-true, leb-false, le-leb, lt-leb, lt-ltb, le-ltb}
use Rattle.encoding.specs.Refusal.{first_failed}
use Rattle.encoding.proofs.Below.{and_fst, clash}
use Rattle.offsets.specs.Limits.{tree_count_ok}
use Rattle.offsets.specs.Table.{table_length, ranks, ranks_ok, entry, trees, negative, magnitude, first_of, first_tree, end_tree}
use Rattle.faults.specs.declared.answer.Fault.{Fault}
use Rattle.faults.specs.Answer.{wrong, no_fault, fault_refused, fault_at, first_fault}
use Rattle.table_fault.specs.Table.{entry_kind, entry_wrong}
use Rattle.table_fault.specs.Means.{count_kind}
use Rattle.table_fault.specs.Calls.{table_fault_of}
use Rattle.faults.specs.Calls.{fault_answer}
use Rattle.faults.proofs.Firsts.{guard_fails, guard_holds, quiet, quiet_to, first_read, first_none}

-- the length of a table
pub table_long : (t : List ℕ) → ranks_ok t ≡ true → length t ≡ table_length (ranks t)
unfolding ranks_ok
table_long t e = eqb-true _ _ (and_fst _ _ e)

-- a negative entry asks for a tree
empty_fails : (s : Bool) (a b : ℕ) → (s && leb b a) ≡ true → (not s || ltb a b) ≡ false
empty_fails true a b e = le-ltb a b (leb-true b a e)
empty_fails false a b e = clash refl (sym e)

empty_holds : (s : Bool) (a b : ℕ) → (s && leb b a) ≡ false → (not s || ltb a b) ≡ true
empty_holds true a b e = lt-ltb a b (leb-false b a e)
empty_holds false a b e = refl

module _ (t : List ℕ) (p : ℕ) {v K P : ℕ} (pv : v ≡ entry t p) (pP : P ≡ ranks t) (pK : K ≡ trees t) where
  pub kind_first : (eqb p 0 && not (eqb v 0)) ≡ true → 1 ≡ entry_kind t p
  unfolding entry_kind first_failed
  kind_first e = rw (← pv, guard_fails (eqb p 0) (eqb v 0) e)

  module _ (g1 : (eqb p 0 && not (eqb v 0)) ≡ false) {b : Bool} (pb : b ≡ tree_count_ok K) where
    pub kind_trees : (eqb p P && not b) ≡ true → 2 ≡ entry_kind t p
    unfolding entry_kind first_failed
    kind_trees e = rw (← pv, guard_holds (eqb p 0) (eqb v 0) g1, ← pP, ← pK, ← pb, guard_fails (eqb p P) b e)

    module _ (g2 : (eqb p P && not b) ≡ false) {m : ℕ} (pm : m ≡ magnitude v) where
      pub kind_above : K < m → 3 ≡ entry_kind t p
      unfolding entry_kind first_failed
      kind_above h = rw (← pv, guard_holds (eqb p 0) (eqb v 0) g1, ← pP, ← pK, ← pb, guard_holds (eqb p P) b g2, ← pm, lt-leb m K h)

      module _ (g3 : m ≤ K) where
        pub kind_last : P ≤ p → 0 ≡ entry_kind t p
        unfolding entry_kind first_failed
        kind_last h = rw (← pv, guard_holds (eqb p 0) (eqb v 0) g1, ← pP, ← pK, ← pb, guard_holds (eqb p P) b g2, ← pm, le-leb m K g3, le-ltb p P h)

        pub kind_counted : p < P → {next end r : ℕ} → next ≡ entry t (p + 1) → end ≡ magnitude next → r ≡ count_kind v end → r ≡ entry_kind t p
        unfolding entry_kind count_kind first_failed first_tree end_tree
        kind_counted h pn pe e =
            e ∙ rw (← pn, ← pe, ← pv, guard_holds (eqb p 0) (eqb v 0) g1, ← pP, ← pK, ← pb, guard_holds (eqb p P) b g2, ← pm, le-leb m K g3, lt-ltb p P h)

-- ---- a count

module _ (v end : ℕ) {first : ℕ} (pf : first ≡ first_of v) where
  pub count_less : end < first → 4 ≡ count_kind v end
  unfolding count_kind
  count_less h = rw (← pf, lt-leb first end h)

  module _ (h : first ≤ end) {s : Bool} (ps : s ≡ negative v) where
    pub count_empty : (s && leb end first) ≡ true → 5 ≡ count_kind v end
    unfolding count_kind
    count_empty e = rw (← pf, le-leb first end h, ← ps, empty_fails s first end e)

    pub count_right : (s && leb end first) ≡ false → 0 ≡ count_kind v end
    unfolding count_kind
    count_right e = rw (← pf, le-leb first end h, ← ps, empty_holds s first end e)

-- ---- the search

module _ (t : List ℕ) {P : ℕ} (pP : P ≡ ranks t) (p : ℕ) (before : quiet (entry_kind t) p ≡ true) {a : Fault} where
  pub entry_found : {k : ℕ} → p ≤ P → k ≡ entry_kind t p → (k ≡ 0 → ⊥) → a ≡ fault_at 3 p (wrong k 0) → a ≡ first_fault 3 (ranks t + 1) (entry_wrong t)
  entry_found {k} h e z f = first_read 3 (ranks t + 1) (entry_wrong t) p (omega arith) before (ap (λ (x : ℕ). wrong x 0) e) z f

  pub entry_none : p ≤ P + 1 → P < p → a ≡ no_fault → a ≡ first_fault 3 (ranks t + 1) (entry_wrong t)
  entry_none h l f = f ∙ sym (first_none 3 (ranks t + 1) (entry_wrong t) (quiet_to (ranks t + 1) (entry_kind t) p (omega arith) (omega arith) before))

-- ---- the call

module _ (t : List ℕ) {b : Bool} (pb : b ≡ ranks_ok t) {a : Fault} where
  pub table_refused : b ≡ false → a ≡ fault_refused 2 → a ≡ table_fault_of t
  unfolding table_fault_of fault_answer first_failed
  table_refused h e = e ∙ rw (← pb, h)

  pub table_found : b ≡ true → a ≡ first_fault 3 (ranks t + 1) (entry_wrong t) → a ≡ table_fault_of t
  unfolding table_fault_of fault_answer first_failed
  table_found h e = e ∙ rw (← pb, h)
