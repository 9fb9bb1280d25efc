-- The fault of a table is what the check answers, and nothing before it is wrong.
use Prim.Native.Nat.{ℕ, ◌+◌, ◌<◌}
use native.Mathlib.Omega.{arith}
use mathlib.Core.Path.{◌≡◌, refl, sym, ap, ◌∙◌}
use mathlib.Core.Bool.{Bool, true, false, cond, not, ◌&&◌, ◌||◌}
use mathlib.Core.List.{List}
use lib.Dec.{eqb, leb, ltb}
use borrow.Author.Tests.{eq-eqb, eqb-true, le-leb, lt-ltb, ltb-true}
use Rattle.encoding.specs.Refusal.{first_failed}
use Rattle.encoding.proofs.Below.{tests, either, clash, iff_eq, and_fst, and_snd, and_intro, all_at, all_intro}
use Rattle.offsets.specs.Limits.{tree_count_ok}
use Rattle.offsets.specs.Table.{ranks, ranks_ok, entry, trees, negative, magnitude, first_tree, end_tree, entries_within, counts_ok, valid}
use Rattle.offsets.specs.Calls.{table_refusal}
use Rattle.faults.specs.Answer.{Wrong, first_fault}
use Rattle.faults.specs.Calls.{fault_answer}
use Rattle.faults.specs.Theorems.{AsChecked}
use Rattle.faults.proofs.Firsts.{quiet, quiet_at}
use Rattle.faults.proofs.Theorems.{first_checked, first_first, Found}
use Rattle.table_fault.specs.Table.{entry_kind, entry_wrong}
use Rattle.table_fault.specs.Calls.{table_fault_of}
use Rattle.table_fault.specs.Theorems.{TableAsChecked, FirstEntry, TableFirst}

-- a check of y where x holds
asked : (x y : Bool) → (not x || y) ≡ true → x ≡ true → y ≡ true
asked true y e h = e
asked false y e h = clash h refl

asks : (x y : Bool) → (x ≡ true → y ≡ true) → (not x || y) ≡ true
asks true y h = h refl
asks false y h = refl

five_zero : (a b c d e : Bool) → eqb (cond a (cond b (cond c (cond d (cond e 0 5) 4) 3) 2) 1) 0 ≡ (a && b && c && d && e)
five_zero true true true true true = refl
five_zero true true true true false = refl
five_zero true true true false e = refl
five_zero true true false d e = refl
five_zero true false c d e = refl
five_zero false b c d e = refl

module _ (t : List ℕ) where
  -- nothing is wrong at entry p
  record EntryRight (p : ℕ) : Type 0 where
    first : eqb p 0 ≡ true → eqb (entry t p) 0 ≡ true
    limits : eqb p (ranks t) ≡ true → tree_count_ok (trees t) ≡ true
    within : leb (magnitude (entry t p)) (trees t) ≡ true
    count : ltb p (ranks t) ≡ true → leb (first_tree t p) (end_tree t p) ≡ true
    shared : (ltb p (ranks t) && negative (entry t p)) ≡ true → ltb (first_tree t p) (end_tree t p) ≡ true

  module _ (p : ℕ) where
    abbrev v : ℕ
    v = entry t p

    abbrev a1 : Bool
    a1 = not (eqb p 0) || eqb v 0

    abbrev a2 : Bool
    a2 = not (eqb p (ranks t)) || tree_count_ok (trees t)

    abbrev a3 : Bool
    a3 = leb (magnitude v) (trees t)

    abbrev a4 : Bool
    a4 = not (ltb p (ranks t)) || leb (first_tree t p) (end_tree t p)

    abbrev a5 : Bool
    a5 = not (ltb p (ranks t) && negative v) || ltb (first_tree t p) (end_tree t p)

    entry_zero : eqb (entry_kind t p) 0 ≡ (a1 && a2 && a3 && a4 && a5)
    unfolding entry_kind first_failed
    entry_zero = five_zero a1 a2 a3 a4 a5

    entry-right : entry_kind t p ≡ 0 → EntryRight p
    entry-right e =
        let z : (a1 && a2 && a3 && a4 && a5) ≡ true = sym entry_zero ∙ eq-eqb (entry_kind t p) 0 e in
        let z4 : (a1 && a2 && a3 && a4) ≡ true = and_fst (a1 && a2 && a3 && a4) a5 z in
        let z3 : (a1 && a2 && a3) ≡ true = and_fst (a1 && a2 && a3) a4 z4 in
        let z2 : (a1 && a2) ≡ true = and_fst (a1 && a2) a3 z3 in
        record {
          first = asked (eqb p 0) (eqb v 0) (and_fst a1 a2 z2);
          limits = asked (eqb p (ranks t)) (tree_count_ok (trees t)) (and_snd a1 a2 z2);
          within = and_snd (a1 && a2) a3 z3;
          count = asked (ltb p (ranks t)) (leb (first_tree t p) (end_tree t p)) (and_snd (a1 && a2 && a3) a4 z4);
          shared = asked (ltb p (ranks t) && negative v) (ltb (first_tree t p) (end_tree t p)) (and_snd (a1 && a2 && a3 && a4) a5 z);
        }

    right-entry : EntryRight p → entry_kind t p ≡ 0
    right-entry r =
        eqb-true (entry_kind t p) 0
        (entry_zero
        ∙ and_intro (a1 && a2 && a3 && a4) a5
        (and_intro (a1 && a2 && a3) a4
        (and_intro (a1 && a2) a3
        (and_intro a1 a2 (asks (eqb p 0) (eqb v 0) r.first) (asks (eqb p (ranks t)) (tree_count_ok (trees t)) r.limits))
        r.within)
        (asks (ltb p (ranks t)) (leb (first_tree t p) (end_tree t p)) r.count))
        (asks (ltb p (ranks t) && negative v) (ltb (first_tree t p) (end_tree t p)) r.shared))

  to-valid : quiet (entry_kind t) (ranks t + 1) ≡ true → valid t ≡ true
  unfolding valid entries_within counts_ok
  to-valid q =
      let ok : (p : ℕ) → p < ranks t + 1 → EntryRight p = λ p h. entry-right p (quiet_at (entry_kind t) (ranks t + 1) q p h) in
      and_intro (eqb (entry t 0) 0 && tree_count_ok (trees t) && entries_within t) (counts_ok t)
      (and_intro (eqb (entry t 0) 0 && tree_count_ok (trees t)) (entries_within t)
      (and_intro (eqb (entry t 0) 0) (tree_count_ok (trees t)) ((ok 0 (omega arith)).first refl) ((ok (ranks t) (omega arith)).limits (eq-eqb (ranks t) (ranks t) refl)))
      (all_intro (ranks t + 1) (λ p. leb (magnitude (entry t p)) (trees t)) (λ p h. (ok p h).within)))
      (all_intro (ranks t) (λ p. cond (negative (entry t p)) (ltb (first_tree t p) (end_tree t p)) (leb (first_tree t p) (end_tree t p)))
      (λ p h.
      let r = ok p (omega arith) in
      let l : ltb p (ranks t) ≡ true = lt-ltb p (ranks t) h in
      either (negative (entry t p))
      (λ s. rw s (r.shared (and_intro (ltb p (ranks t)) (negative (entry t p)) l s)))
      (λ s. rw s (r.count l))))

  -- a count of at least 1 is at least 0
  counted : (p : ℕ) → cond (negative (entry t p)) (ltb (first_tree t p) (end_tree t p)) (leb (first_tree t p) (end_tree t p)) ≡ true
      → (leb (first_tree t p) (end_tree t p) ≡ true) × (negative (entry t p) ≡ true → ltb (first_tree t p) (end_tree t p) ≡ true)
  counted p e =
      either (negative (entry t p))
      (λ s. let l : ltb (first_tree t p) (end_tree t p) ≡ true = rw s at e in (le-leb (first_tree t p) (end_tree t p) (omega tests), λ h. l))
      (λ s. (rw s at e, λ h. clash h s))

  of-valid : valid t ≡ true → quiet (entry_kind t) (ranks t + 1) ≡ true
  unfolding valid entries_within counts_ok quiet
  of-valid e =
      let counts : counts_ok t ≡ true = and_snd (eqb (entry t 0) 0 && tree_count_ok (trees t) && entries_within t) (counts_ok t) e in
      let z3 : (eqb (entry t 0) 0 && tree_count_ok (trees t) && entries_within t) ≡ true = and_fst (eqb (entry t 0) 0 && tree_count_ok (trees t) && entries_within t) (counts_ok t) e in
      let z2 : (eqb (entry t 0) 0 && tree_count_ok (trees t)) ≡ true = and_fst (eqb (entry t 0) 0 && tree_count_ok (trees t)) (entries_within t) z3 in
      let within : (p : ℕ) → p < ranks t + 1 → leb (magnitude (entry t p)) (trees t) ≡ true = all_at (ranks t + 1) (λ p. leb (magnitude (entry t p)) (trees t)) (and_snd (eqb (entry t 0) 0 && tree_count_ok (trees t)) (entries_within t) z3) in
      let count : (p : ℕ) → ltb p (ranks t) ≡ true → (leb (first_tree t p) (end_tree t p) ≡ true) × (negative (entry t p) ≡ true → ltb (first_tree t p) (end_tree t p) ≡ true) =
      λ p h. counted p (all_at (ranks t) (λ p. cond (negative (entry t p)) (ltb (first_tree t p) (end_tree t p)) (leb (first_tree t p) (end_tree t p))) counts p (ltb-true _ _ h)) in
      all_intro (ranks t + 1) (λ p. eqb (entry_kind t p) 0)
      (λ p h. eq-eqb (entry_kind t p) 0
      (right-entry p
      (record {
        first = λ q. rw (eqb-true p 0 q) (and_fst (eqb (entry t 0) 0) (tree_count_ok (trees t)) z2);
        limits = λ q. and_snd (eqb (entry t 0) 0) (tree_count_ok (trees t)) z2;
        within = within p h;
        count = λ q. (count p q).0;
        shared = λ q. (count p (and_fst (ltb p (ranks t)) (negative (entry t p)) q)).1 (and_snd (ltb p (ranks t)) (negative (entry t p)) q);
      })))

  -- nothing is wrong at any entry exactly where the table is valid
  pub entries_right : quiet (entry_kind t) (ranks t + 1) ≡ valid t
  entries_right = iff_eq (quiet (entry_kind t) (ranks t + 1)) (valid t) to-valid of-valid

  table-checked : ranks_ok t ≡ true → AsChecked (table_fault_of t) (table_refusal t)
  unfolding table_fault_of fault_answer table_refusal first_failed
  table-checked h = rw (h, ← entries_right) (first_checked 3 (ranks t + 1) (entry_wrong t) (λ e. omega arith))

  table-first-at : (table_fault_of t).fault ≡ 3 → FirstEntry t (table_fault_of t)
  unfolding table_fault_of fault_answer first_failed
  table-first-at e =
      either (ranks_ok t)
      (λ h.
      let f : Found 3 (ranks t + 1) (entry_wrong t) (first_fault 3 (ranks t + 1) (entry_wrong t)) = first_first 3 (ranks t + 1) (entry_wrong t) (λ z. omega arith) (rw h at e) in
      rw h (record { within = omega (arith, f.within); kind = sym (ap (λ (w : Wrong). w.kind) f.here); before = f.before }))
      (λ h. absurd (omega (arith, rw h at e)))

pub table_as_checked : TableAsChecked
table_as_checked = table-checked

pub table_first : TableFirst
table_first = table-first-at
