-- What the search finds in a part is what the definitions say.
use Prim.Native.Nat.{ℕ, ◌+◌, ◌-◌, ◌≤◌, ◌<◌}
use native.Mathlib.Omega.{arith}
use native.Mathlib.Nat.{add-sub_cancel_left}
use mathlib.Core.Path.{◌≡◌, refl, sym, ap, ◌∙◌}
use mathlib.Core.Bool.{Bool, true, false, cond, not}
use mathlib.Core.List.{List}
use lib.Dec.{ltb, eqb}
use borrow.Author.Tests.{ltb-true, ltb-false, lt-ltb, le-ltb, eq-eqb, ne_eqb}
use Rattle.encoding.specs.Below.{any_below, least_below}
use Rattle.encoding.specs.Pieces.{piece}
use Rattle.encoding.specs.Refusal.{first_failed}
use Rattle.encoding.proofs.Below.{either, all_intro}
use Rattle.records.specs.Shape.{face_count}
use Rattle.records.specs.Record.{core_size, number_of, shape_of, neighbour_of}
use Rattle.mesh.specs.Link.{orientation_ok}
use Rattle.part.specs.Layout.{tree_place, ghost_place}
use Rattle.part.specs.Means.{in_range, neighbour_in, ghost_core, ghost_has}
use Rattle.part.specs.Part.{part_dimension, part_count, part_ghost_count, stored_tree, stored_ghost, view_of}
use Rattle.part_check.specs.Means.{tree_numbered}
use Rattle.faults.specs.declared.answer.Fault.{Fault}
use Rattle.faults.specs.Answer.{Wrong, wrong, no_fault, fault_at, first_fault}
use Rattle.faults.specs.Record.{record_kind, link_kind, first_face, record_wrong}
use Rattle.faults.specs.Means.{form_kind}
use Rattle.faults.proofs.Firsts.{quiet, quiet_to, first_read, first_none}
use Rattle.faults.proofs.Records.{face_form_lem, face_absent, face_linked}
use Rattle.part_fault.specs.declared.search.Extent.{Extent}
use Rattle.part_fault.specs.Wrong.{tree_order_in, tree_to_in, tree_face_in, tree_wrong_in, ghost_order_in, ghost_to_in, ghost_face_in, ghost_beside_in, ghost_wrong_in, face_in, wrong_in}
use Rattle.part_fault.specs.Means.{Known}
use Rattle.part_fault.proofs.Found.{known_order, known_out, least_within, least_quiet, least_wrong, looked_some, looked_none}

module _ (part : List ℕ) (e : Extent) (known : Known part e) where
  -- ---- the link of a tree

  module _ (i f : ℕ) {at : ℕ} (here : at ≡ tree_place i) where
    module _ {m : ℕ} (read : m ≡ neighbour_of (piece part at core_size) f) where
      pub to_tree : {to r : ℕ} → m < e.count → to ≡ tree_place m → r ≡ link_kind i (piece part at core_size) f (piece part to core_size) → r ≡ tree_to_in (view_of part) i f (neighbour_of (stored_tree part i) f)
      unfolding tree_to_in stored_tree
      to_tree h there p = rw (← here, ← read, ← known.is_count, lt-ltb m e.count h, ← there, p)

      pub to_ghost : {v to r : ℕ} → e.count ≤ m → m - e.count < e.ghosts → v ≡ number_of (piece part at core_size) → to ≡ ghost_place e.count (m - e.count)
          → r ≡ link_kind v (piece part at core_size) f (piece part to core_size) → r ≡ tree_to_in (view_of part) i f (neighbour_of (stored_tree part i) f)
      unfolding tree_to_in stored_tree stored_ghost
      to_ghost h l q there p =
          rw (← here, ← read, ← known.is_count, ← known.is_ghosts, le-ltb m e.count h, lt-ltb (m - e.count) e.ghosts l, ← there, p, q)

      pub to_nothing : e.count ≤ m → e.ghosts ≤ m - e.count → 13 ≡ tree_to_in (view_of part) i f (neighbour_of (stored_tree part i) f)
      unfolding tree_to_in stored_tree
      to_nothing h l = rw (← here, ← read, ← known.is_count, ← known.is_ghosts, le-ltb m e.count h, le-ltb (m - e.count) e.ghosts l)

    -- ---- a face of a tree

    module _ {kind : ℕ} (pk : kind ≡ form_kind i (piece part at core_size) f) where
      tree-at : kind ≡ form_kind i (stored_tree part i) f
      unfolding stored_tree
      tree-at = rw here at pk

      abbrev to : ℕ → ℕ
      to g = tree_to_in (view_of part) i g (neighbour_of (stored_tree part i) g)

      pub tree_form : (kind ≡ 0 → ⊥) → kind ≡ tree_face_in (view_of part) i f
      unfolding tree_face_in
      tree_form h = face_form_lem i (stored_tree part i) to f tree-at h

      module _ (g1 : kind ≡ 0) {b : Bool} (pb : b ≡ ltb f (face_count (shape_of (piece part at core_size)))) where
        tree-has : b ≡ ltb f (face_count (shape_of (stored_tree part i)))
        unfolding stored_tree
        tree-has = rw here at pb

        pub tree_absent : b ≡ false → 0 ≡ tree_face_in (view_of part) i f
        unfolding tree_face_in
        tree_absent h = face_absent i (stored_tree part i) to f tree-at g1 tree-has h

        pub tree_linked : {r : ℕ} → b ≡ true → r ≡ tree_to_in (view_of part) i f (neighbour_of (stored_tree part i) f) → r ≡ tree_face_in (view_of part) i f
        unfolding tree_face_in
        tree_linked h p = p ∙ face_linked i (stored_tree part i) to f tree-at g1 tree-has h

  -- ---- the link of a ghost

  module _ (j f : ℕ) {at : ℕ} (here : at ≡ ghost_place e.count j) where
    ghost_here : stored_ghost part j ≡ piece part at core_size
    unfolding stored_ghost
    ghost_here = rw (here, known.is_count)

    module _ {k : ℕ} (read : k ≡ neighbour_of (piece part at core_size) f) {b : Bool} (test : b ≡ in_range e.first (e.first + e.count) k) where
      -- the cases, with what is read in place
      link_is : ghost_to_in (view_of part) j f (neighbour_of (stored_ghost part j) f)
          ≡ cond b (link_kind (e.count + j) (piece part at core_size) f (piece part (tree_place (k - e.first)) core_size))
          (cond (any_below e.found (ghost_has (ghost_core part e.count) k))
          (link_kind (number_of (piece part at core_size)) (piece part at core_size) f (piece part (ghost_place e.count (least_below e.found (ghost_has (ghost_core part e.count) k))) core_size))
          (cond (ltb k e.trees) (cond (orientation_ok (piece part at core_size) f) 0 14) 13))
      unfolding ghost_to_in stored_tree stored_ghost ghost_has ghost_core in_range
      link_is = rw (test, read, here, known.is_first, known.is_count, known.is_found, known.is_trees)

      pub to_local : (t : ℕ) {own to r : ℕ} → b ≡ true → t + e.first ≡ k → own ≡ e.count + j → to ≡ tree_place t → r ≡ link_kind own (piece part at core_size) f (piece part to core_size)
          → r ≡ ghost_to_in (view_of part) j f (neighbour_of (stored_ghost part j) f)
      to_local t h l q there p =
          let s : k - e.first ≡ t = omega arith in
          rw (link_is, h, s, ← there, p, q)

      module _ (out : b ≡ false) {p : ℕ} (position : p ≡ least_below e.found (ghost_has (ghost_core part e.count) k)) where
        pub to_other : {v to r : ℕ} → p < e.found → v ≡ number_of (piece part at core_size) → to ≡ ghost_place e.count p → r ≡ link_kind v (piece part at core_size) f (piece part to core_size)
            → r ≡ ghost_to_in (view_of part) j f (neighbour_of (stored_ghost part j) f)
        to_other h q there s =
            rw (link_is, out, looked_some e.found (ghost_has (ghost_core part e.count) k) position h, ← position, ← there, s, q)

        module _ (free : e.found ≤ p) where
          none : any_below e.found (ghost_has (ghost_core part e.count) k) ≡ false
          none = looked_none e.found (ghost_has (ghost_core part e.count) k) position free

          pub to_outside : e.trees ≤ k → 13 ≡ ghost_to_in (view_of part) j f (neighbour_of (stored_ghost part j) f)
          to_outside h = rw (link_is, out, none, le-ltb k e.trees h)

          module _ (h : k < e.trees) {o : Bool} (po : o ≡ orientation_ok (piece part at core_size) f) where
            pub to_far : o ≡ true → 0 ≡ ghost_to_in (view_of part) j f (neighbour_of (stored_ghost part j) f)
            to_far q = rw (link_is, out, none, lt-ltb k e.trees h, ← po, q)

            pub to_turned : o ≡ false → 14 ≡ ghost_to_in (view_of part) j f (neighbour_of (stored_ghost part j) f)
            to_turned q = rw (link_is, out, none, lt-ltb k e.trees h, ← po, q)

    -- ---- a face of a ghost

    module _ {v kind : ℕ} (pv : v ≡ number_of (piece part at core_size)) (pk : kind ≡ form_kind v (piece part at core_size) f) where
      ghost_at : kind ≡ form_kind (number_of (stored_ghost part j)) (stored_ghost part j) f
      ghost_at = rw (ghost_here, ← pv) pk

      abbrev from : ℕ → ℕ
      from g = ghost_to_in (view_of part) j g (neighbour_of (stored_ghost part j) g)

      pub ghost_form : (kind ≡ 0 → ⊥) → kind ≡ ghost_face_in (view_of part) j f
      unfolding ghost_face_in
      ghost_form h = face_form_lem (number_of (stored_ghost part j)) (stored_ghost part j) from f ghost_at h

      module _ (g1 : kind ≡ 0) {b : Bool} (pb : b ≡ ltb f (face_count (shape_of (piece part at core_size)))) where
        ghost-has : b ≡ ltb f (face_count (shape_of (stored_ghost part j)))
        ghost-has = rw ghost_here pb

        pub ghost_absent : b ≡ false → 0 ≡ ghost_face_in (view_of part) j f
        unfolding ghost_face_in
        ghost_absent h = face_absent (number_of (stored_ghost part j)) (stored_ghost part j) from f ghost_at g1 ghost-has h

        pub ghost_linked : {r : ℕ} → b ≡ true → r ≡ ghost_to_in (view_of part) j f (neighbour_of (stored_ghost part j) f) → r ≡ ghost_face_in (view_of part) j f
        unfolding ghost_face_in
        ghost_linked h p = p ∙ face_linked (number_of (stored_ghost part j)) (stored_ghost part j) from f ghost_at g1 ghost-has h

  -- ---- a face of a record

  pub face_of_tree : (i f : ℕ) {r : ℕ} → i < e.count → r ≡ tree_face_in (view_of part) i f → r ≡ face_in (view_of part) i f
  unfolding face_in
  face_of_tree i f h p = rw (lt-ltb i (part_count part) (omega (arith, known.is_count))) p

  pub face_of_ghost : (i f : ℕ) {r : ℕ} → e.count ≤ i → r ≡ ghost_face_in (view_of part) (i - e.count) f → r ≡ face_in (view_of part) i f
  unfolding face_in
  face_of_ghost i f h p = rw (le-ltb i (part_count part) (omega (arith, known.is_count))) (rw known.is_count at p)

  -- ---- a record

  module _ (i : ℕ) {at : ℕ} (here : at ≡ tree_place i) (tree : i < e.count) {b : Bool} (pb : b ≡ tree_numbered e.first (stored_tree part) i) {kind : ℕ} (pk : kind ≡ record_kind b e.dimension (piece part at core_size)) where
    tree_kind : kind ≡ record_kind (tree_order_in (view_of part) i) (part_dimension part) (stored_tree part i)
    unfolding tree_order_in tree_numbered stored_tree
    tree_kind = rw (pb, known.is_first, known.is_dimension, here) at pk

    pub tree_found : (kind ≡ 0 → ⊥) → wrong kind 0 ≡ tree_wrong_in (view_of part) i
    unfolding tree_wrong_in record_wrong
    tree_found h = rw (← tree_kind, ne_eqb kind 0 h)

    faces-of : first_face (face_in (view_of part) i) ≡ first_face (tree_face_in (view_of part) i)
    unfolding face_in
    faces-of = rw (← known.is_count, lt-ltb i e.count tree)

    pub tree_searched : {w : Wrong} → kind ≡ 0 → w ≡ first_face (face_in (view_of part) i) → w ≡ tree_wrong_in (view_of part) i
    unfolding tree_wrong_in record_wrong
    tree_searched h p = p ∙ faces-of ∙ rw (← tree_kind, eq-eqb kind 0 h)

  module _ (j : ℕ) {at : ℕ} (here : at ≡ ghost_place e.count j) (found : j < e.found) {kind : ℕ} (pk : kind ≡ record_kind true e.dimension (piece part at core_size)) where
    ghost-kind : kind ≡ record_kind (ghost_order_in (view_of part) j) (part_dimension part) (stored_ghost part j)
    ghost-kind = rw (known_order part e known j found, ghost_here j 0 here, ← known.is_dimension) pk

    pub ghost_found : (kind ≡ 0 → ⊥) → wrong kind 0 ≡ ghost_wrong_in (view_of part) j
    unfolding ghost_wrong_in record_wrong
    ghost_found h = rw (← ghost-kind, ne_eqb kind 0 h, ne_eqb kind 0 h)

    module _ (g1 : kind ≡ 0) {w : Wrong} (pw : w ≡ first_face (face_in (view_of part) (e.count + j))) where
      ghost-faces : w ≡ first_face (ghost_face_in (view_of part) j)
      unfolding face_in
      ghost-faces = pw ∙ rw (← known.is_count, le-ltb (e.count + j) e.count (omega arith), add-sub_cancel_left e.count j)

      pub ghost_searched : (w.kind ≡ 0 → ⊥) → w ≡ ghost_wrong_in (view_of part) j
      unfolding ghost_wrong_in record_wrong
      ghost_searched h = rw (← ghost-kind, eq-eqb kind 0 g1, ← ghost-faces, ne_eqb w.kind 0 h)

      module _ (g2 : w.kind ≡ 0) {s c : ℕ} (ps : s ≡ shape_of (piece part at core_size)) (pc : c ≡ face_count s) {b : Bool} (pb : b ≡ any_below c (neighbour_in e.first (e.first + e.count) (piece part at core_size))) where
        beside : b ≡ ghost_beside_in (view_of part) j
        unfolding ghost_beside_in neighbour_in in_range
        beside = rw (ghost_here j 0 here, ← known.is_first, ← known.is_count, ← ps, ← pc) pb

        pub ghost_beside_lem : b ≡ true → wrong 0 0 ≡ ghost_wrong_in (view_of part) j
        unfolding ghost_wrong_in record_wrong
        ghost_beside_lem h = rw (← ghost-kind, eq-eqb kind 0 g1, ← ghost-faces, eq-eqb w.kind 0 g2, ← beside, h)

        pub ghost_alone : b ≡ false → wrong 17 0 ≡ ghost_wrong_in (view_of part) j
        unfolding ghost_wrong_in record_wrong
        ghost_alone h = rw (← ghost-kind, eq-eqb kind 0 g1, ← ghost-faces, eq-eqb w.kind 0 g2, ← beside, h)

  pub wrong_tree : (i : ℕ) {w : Wrong} → i < e.count → w ≡ tree_wrong_in (view_of part) i → w ≡ wrong_in (view_of part) i
  unfolding wrong_in
  wrong_tree i h p = rw (lt-ltb i (part_count part) (omega (arith, known.is_count))) p

  pub wrong_ghost : (i : ℕ) {w : Wrong} → e.count ≤ i → w ≡ ghost_wrong_in (view_of part) (i - e.count) → w ≡ wrong_in (view_of part) i
  unfolding wrong_in
  wrong_ghost i h p = rw (le-ltb i (part_count part) (omega (arith, known.is_count))) (rw known.is_count at p)

  -- ---- the search

  -- the first ghost out of order
  out-ghost : e.found < e.ghosts → wrong 7 0 ≡ ghost_wrong_in (view_of part) e.found
  unfolding ghost_wrong_in record_wrong record_kind first_failed
  out-ghost h = rw (known_out part e known h)

  out-wrong : e.found < e.ghosts → wrong 7 0 ≡ wrong_in (view_of part) (e.count + e.found)
  out-wrong h = wrong_ghost (e.count + e.found) (omega arith) (rw (add-sub_cancel_left e.count e.found) (out-ghost h))

  abbrev kinds : ℕ → ℕ
  kinds i = (wrong_in (view_of part) i).kind

  abbrev all : ℕ
  all = part_count part + part_ghost_count part

  quiet-intro : (n : ℕ) → ((i : ℕ) → i < n → kinds i ≡ 0) → quiet kinds n ≡ true
  unfolding quiet
  quiet-intro n z = all_intro n (λ i. eqb (kinds i) 0) (λ i h. eq-eqb (kinds i) 0 (z i h))

  module _ {t : ℕ} (pt : t ≡ least_below e.count (λ i. not (eqb (tree_wrong_in (view_of part) i).kind 0))) where
    quiet_tree : (i : ℕ) → i < t → i < e.count → kinds i ≡ 0
    quiet_tree i h l = sym (ap (λ (w : Wrong). w.kind) (wrong_tree i l refl)) ∙ least_quiet e.count (λ i. (tree_wrong_in (view_of part) i).kind) pt i h

    pub part_tree_lem : {w : Wrong} {a : Fault} → t < e.count → w ≡ tree_wrong_in (view_of part) t → a ≡ fault_at 8 t w → a ≡ first_fault 8 all (wrong_in (view_of part))
    part_tree_lem h p f =
        first_read 8 all (wrong_in (view_of part)) t (omega (arith, known.is_count)) (quiet-intro t (λ i l. quiet_tree i l (omega arith))) (wrong_tree t h p)
        (λ z. least_wrong e.count (λ i. (tree_wrong_in (view_of part) i).kind) pt h (sym (ap (λ (w : Wrong). w.kind) p) ∙ z)) f

    -- so something is wrong there
    pub part_tree_some : t < e.count → wrong 0 0 ≡ tree_wrong_in (view_of part) t → ⊥
    part_tree_some h p = least_wrong e.count (λ i. (tree_wrong_in (view_of part) i).kind) pt h (sym (ap (λ (w : Wrong). w.kind) p))

    module _ (trees : e.count ≤ t) {j : ℕ} (pj : j ≡ least_below e.found (λ j. not (eqb (ghost_wrong_in (view_of part) j).kind 0))) where
      within : j ≤ e.found
      within = least_within e.found (λ j. (ghost_wrong_in (view_of part) j).kind) pj

      before : quiet kinds (e.count + j) ≡ true
      before =
          quiet-intro (e.count + j)
          (λ i h. either (ltb i e.count)
          (λ p. quiet_tree i (omega (arith, ltb-true i e.count p)) (ltb-true i e.count p))
          (λ p.
          let l : e.count ≤ i = ltb-false i e.count p in
          sym (ap (λ (w : Wrong). w.kind) (wrong_ghost i l refl)) ∙ least_quiet e.found (λ j. (ghost_wrong_in (view_of part) j).kind) pj (i - e.count) (omega arith)))

      pub part_ghost : {w : Wrong} {a : Fault} → j < e.found → w ≡ ghost_wrong_in (view_of part) j → a ≡ fault_at 8 (e.count + j) w → a ≡ first_fault 8 all (wrong_in (view_of part))
      part_ghost h p f =
          first_read 8 all (wrong_in (view_of part)) (e.count + j) (omega (arith, known.is_count, known.is_ghosts, known.within)) before (wrong_ghost (e.count + j) (omega arith) (rw (add-sub_cancel_left e.count j) p))
          (λ z. least_wrong e.found (λ j. (ghost_wrong_in (view_of part) j).kind) pj h (sym (ap (λ (w : Wrong). w.kind) p) ∙ z)) f

      pub part_ghost_some : j < e.found → wrong 0 0 ≡ ghost_wrong_in (view_of part) j → ⊥
      part_ghost_some h p = least_wrong e.found (λ j. (ghost_wrong_in (view_of part) j).kind) pj h (sym (ap (λ (w : Wrong). w.kind) p))

      module _ (ghosts : e.found ≤ j) where
        pub part_out : {a : Fault} → e.found < e.ghosts → a ≡ fault_at 8 (e.count + e.found) (wrong 7 0) → a ≡ first_fault 8 all (wrong_in (view_of part))
        part_out o f =
            first_read 8 all (wrong_in (view_of part)) (e.count + e.found) (omega (arith, known.is_count, known.is_ghosts)) (quiet_to (e.count + e.found) kinds (e.count + j) (omega (arith, within)) (omega arith) before) (out-wrong o) (λ z. omega arith) f

        pub part_none : {a : Fault} → e.ghosts ≤ e.found → a ≡ no_fault → a ≡ first_fault 8 all (wrong_in (view_of part))
        part_none o f =
            f ∙ sym (first_none 8 all (wrong_in (view_of part)) (quiet_to all kinds (e.count + j) (omega (arith, known.is_count, known.is_ghosts, known.within, within)) (omega (arith, known.is_count, known.is_ghosts, known.within)) before))
