-- The fault of a part is what the check answers, and the records before it are right as far as they are looked at.
use Prim.Native.Nat.{ℕ, ◌+◌, ◌-◌, ◌<◌}
use native.Mathlib.Omega.{arith}
use native.Mathlib.Nat.{add-sub_cancel_left}
use mathlib.Core.Path.{◌≡◌, refl, ap, ◌∙◌}
use mathlib.Core.Bool.{Bool, true, false, cond}
use mathlib.Core.List.{List}
use lib.Dec.{eqb, ltb}
use borrow.Author.Tests.{eq-eqb, ne_eqb, lt-ltb, le-ltb}
use Rattle.encoding.specs.Pieces.{Bytes}
use Rattle.encoding.specs.Refusal.{first_failed}
use Rattle.encoding.proofs.Below.{either}
use Rattle.part.specs.Means.{RankKnown}
use Rattle.part.specs.View.{View}
use Rattle.part.specs.Part.{part_count, part_ghost_count, view_of}
use Rattle.part.specs.Checks.{rank_checks}
use Rattle.part.proofs.Checks.{rank_known, rank_passes}
use Rattle.part_check.specs.Calls.{part_refusal}
use Rattle.part_check.proofs.Checking.{sound_none}
use Rattle.faults.specs.declared.answer.Fault.{Fault}
use Rattle.faults.specs.Answer.{Wrong, wrong, fault_refused, fault_at, first_fault}
use Rattle.faults.specs.Calls.{fault_answer}
use Rattle.faults.specs.Record.{record_kind, first_face, record_wrong}
use Rattle.faults.specs.Theorems.{AsChecked}
use Rattle.faults.proofs.Theorems.{first_checked, first_first, Found, faces_before}
use Rattle.part_fault.specs.Wrong.{tree_order_in, tree_face_in, tree_wrong_in, ghost_order_in, found_in, ghost_face_in, ghost_beside_in, ghost_wrong_in, face_in, wrong_in}
use Rattle.part_fault.specs.Calls.{part_headed, part_fault_of}
use Rattle.part_fault.specs.Theorems.{PartAsChecked, TreeRight, GhostRight, FirstRecord, PartFirst}
use Rattle.part_fault.proofs.Right.{part_right}
use Rattle.part_fault.proofs.Clauses.{quiet_tree, quiet_ghost, looked_all}

-- ---- the answer, for the call

module _ (part table : List ℕ) (rank : ℕ) {r : ℕ} (checked : r ≡ first_failed (rank_checks table rank)) {a : Fault} where
  pub part_refused : (r ≡ 0 → ⊥) → a ≡ fault_refused r → a ≡ part_fault_of part table rank
  unfolding part_fault_of fault_answer
  part_refused h e = e ∙ rw (← checked, ne_eqb r 0 h)

  module _ (ok : r ≡ 0) where
    pub part_headless : {b : Bool} → b ≡ part_headed part table rank → b ≡ false → a ≡ fault_at 8 0 (wrong 6 0) → a ≡ part_fault_of part table rank
    unfolding part_fault_of fault_answer
    part_headless p h e = e ∙ rw (← checked, eq-eqb r 0 ok, ← p, h)

    pub part_searched : {b : Bool} → b ≡ part_headed part table rank → b ≡ true → a ≡ first_fault 8 (part_count part + part_ghost_count part) (wrong_in (view_of part)) → a ≡ part_fault_of part table rank
    unfolding part_fault_of fault_answer
    part_searched p h e = e ∙ rw (← checked, eq-eqb r 0 ok, ← p, h)

-- ---- the theorems

module _ (part table : List ℕ) (rank : ℕ) where
  as-checked : Bytes part → Bytes table → first_failed (rank_checks table rank) ≡ 0 → AsChecked (part_fault_of part table rank) (part_refusal part table rank)
  unfolding part_fault_of fault_answer part_refusal first_failed
  as-checked b t ok =
      let known : RankKnown table rank = rank_known table rank refl ok in
      rw (ok, rank_passes table rank refl ok)
      (either (part_headed part table rank)
      (λ h. rw (h, ← part_right part table rank b t known h) (first_checked 8 (part_count part + part_ghost_count part) (wrong_in (view_of part)) (λ e. omega arith)))
      (λ h. rw (h, ← sound_none part table rank refl h) (record { fault = refl; kind = refl })))

module _ (v : View) where
  -- nothing is wrong at a face before the one that is told
  faces-of : (i : ℕ) {w : Wrong} → wrong_in v i ≡ w → (f : ℕ) → f < w.face → face_in v i f ≡ 0
  unfolding wrong_in face_in tree_wrong_in ghost_wrong_in
  faces-of i {w} e f h =
      either (ltb i v.n)
      (λ p. rw p (faces_before (record_kind (tree_order_in v i) v.dimension (v.stored i)) (tree_face_in v i) (rw p at e) f h))
      (λ p.
      let j : ℕ = i - v.n in
      let kind : ℕ = record_kind (ghost_order_in v j) v.dimension (v.ghost j) in
      let x : Wrong = record_wrong kind (first_face (ghost_face_in v j)) in
      let q : cond (eqb x.kind 0) (wrong (cond (ghost_beside_in v j) 0 17) 0) x ≡ w = rw p at e in
      rw p
      (either (eqb x.kind 0)
      (λ z. let l : 0 ≡ w.face = ap (λ (y : Wrong). y.face) (rw z at q) in absurd (omega arith))
      (λ z. faces_before kind (ghost_face_in v j) (rw z at q) f h)))

  -- a record before it
  tree-before : (i : ℕ) → i < v.n → (wrong_in v i).kind ≡ 0 → TreeRight v i
  unfolding wrong_in
  tree-before i h e = quiet_tree v i (rw (lt-ltb i v.n h) at e)

  ghost-before : (j : ℕ) → (wrong_in v (v.n + j)).kind ≡ 0 → GhostRight v (found_in v) j
  unfolding wrong_in
  ghost-before j e = quiet_ghost v j (rw (le-ltb (v.n + j) v.n (omega arith), add-sub_cancel_left v.n j) at e)

module _ (part table : List ℕ) (rank : ℕ) where
  first-record : part_headed part table rank ≡ true → (part_fault_of part table rank).fault ≡ 8 → FirstRecord part (part_fault_of part table rank)
  unfolding part_fault_of fault_answer
  first-record h e =
      let n : ℕ = part_count part + part_ghost_count part in
      either (eqb (first_failed (rank_checks table rank)) 0)
      (λ z.
      let f : Found 8 n (wrong_in (view_of part)) (first_fault 8 n (wrong_in (view_of part))) = first_first 8 n (wrong_in (view_of part)) (λ y. omega arith) (rw (z, h) at e) in
      rw (z, h)
      (record {
        within = f.within;
        here = f.here;
        before = f.before;
        faces = faces-of (view_of part) (first_fault 8 n (wrong_in (view_of part))).at f.here;
        trees_before = λ i l t. tree-before (view_of part) i t (f.before i l);
        ghosts_before = λ j l. ghost-before (view_of part) j (f.before (part_count part + j) l);
        ghosts_right = λ all j l. rw (looked_all (view_of part) all) at (ghost-before (view_of part) j (f.before (part_count part + j) l));
      }))
      (λ z. absurd (omega (arith, rw z at e)))

pub part_as_checked : PartAsChecked
part_as_checked = as-checked

pub part_first_lem : PartFirst
part_first_lem = first-record
