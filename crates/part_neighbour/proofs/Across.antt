-- What stands across a face is what the definition says.
use Prim.Native.Nat.{ℕ, ◌+◌, ◌-◌, ◌≤◌, ◌<◌}
use native.Mathlib.Omega.{arith}
use mathlib.Core.Path.{◌≡◌, refl, sym, ◌∙◌}
use mathlib.Core.Bool.{Bool, true, false, ◌&&◌}
use mathlib.Core.List.{List}
use lib.Dec.{ltb, eqb}
use lib.ListN.{length}
use borrow.Author.Tests.{le-leb, lt-leb, lt-ltb, le-ltb, ne_eqb}
use Rattle.encoding.specs.Pieces.{piece, Bytes}
use Rattle.encoding.specs.Refusal.{first_failed}
use Rattle.encoding.proofs.Below.{and_fst}
use Rattle.offsets.specs.Table.{ranks, ranks_ok, valid, first_tree, end_tree, tree_count}
use Rattle.records.specs.Shape.{face_count}
use Rattle.records.specs.Record.{core_size, shape_of, neighbour_of, face_of, orientation_of, to_itself}
use Rattle.encoding.specs.declared.refusal.Refusal.{Refusal}
use Rattle.encoding.specs.Refusals.{refusal_number}
use Rattle.encoding.proofs.Refusals.{number_positive}
use Rattle.part_neighbour.specs.declared.link.Link.{Link}
use Rattle.part_neighbour.specs.declared.link.Link.TheVariants.{Boundary, Unused, Local, Ghost}
use Rattle.part.specs.Layout.{tree_place, part_size}
use Rattle.part.specs.Part.{part_count, part_ghost_count, stored_tree, part_header_sound, part_sound}
use Rattle.part_neighbour.specs.Neighbour.{across, link_of}
use Rattle.part.specs.Checks.{rank_checks}
use Rattle.part_neighbour.specs.Calls.{neighbour_checks, neighbour_refused, neighbour_answer}
use Rattle.part.specs.Means.{RankKnown}
use Rattle.part.proofs.Checks.{three_fail, rank_known}
use Rattle.part_check.proofs.Checking.{head_counts, head_laid}

module _ (part : List ℕ) (i f : ℕ) {at shape faces : ℕ} (here : at ≡ tree_place i) (is-shape : shape ≡ shape_of (piece part at core_size)) (is-faces : faces ≡ face_count shape) where
  pub across_unused : faces ≤ f → Unused (across 0 0 0) ≡ link_of part i f
  unfolding link_of stored_tree
  across_unused h = rw (← here, ← is-shape, ← is-faces, le-leb faces f h)

  module _ (used : f < faces) {own : Bool} (is-own : own ≡ to_itself i (piece part at core_size) f) where
    pub across_boundary : own ≡ true → Boundary (across i f 0) ≡ link_of part i f
    unfolding link_of stored_tree
    across_boundary h = rw (← here, ← is-shape, ← is-faces, lt-leb faces f used, ← is-own, h)

    module _ (other : own ≡ false) {j g o n : ℕ} (is-j : j ≡ neighbour_of (piece part at core_size) f) (is_g : g ≡ face_of (piece part at core_size) f)
        (is-o : o ≡ orientation_of (piece part at core_size) f) (is_n : n ≡ part_count part) where
      pub across_local : j < n → Local (across j g o) ≡ link_of part i f
      unfolding link_of stored_tree
      across_local h = rw (← here, ← is-shape, ← is-faces, lt-leb faces f used, ← is-own, other, ← is-j, ← is_g, ← is-o, ← is_n, lt-ltb j n h)

      pub across_ghost : n ≤ j → Ghost (across j g o) ≡ link_of part i f
      unfolding link_of stored_tree
      across_ghost h = rw (← here, ← is-shape, ← is-faces, lt-leb faces f used, ← is-own, other, ← is-j, ← is_g, ← is-o, ← is_n, le-ltb j n h)

-- ---- the call

module _ (part table : List ℕ) (rank i f : ℕ) where
  answer-refused : (m : ℕ) → (m ≡ 0 → ⊥) → m ≡ first_failed (neighbour_checks part table rank i f) → neighbour_refused m ≡ neighbour_answer part table rank i f
  unfolding neighbour_answer
  answer-refused m h e = rw (← e, ne_eqb m 0 h)

  pub answer_rank : (e : Refusal) → refusal_number e ≡ first_failed (rank_checks table rank) → neighbour_refused (refusal_number e) ≡ neighbour_answer part table rank i f
  unfolding first_failed rank_checks neighbour_checks
  answer_rank e checked =
      let h = number_positive e in
      answer-refused (refusal_number e) h (three_fail (ranks_ok table) (valid table) (ltb rank (ranks table)) (ltb rank (ranks table) && ltb i (tree_count table rank) && ltb f 6) _ (λ p. rw p) checked h)

  module _ (checked : 0 ≡ first_failed (rank_checks table rank)) {first end : ℕ} (is_first : first ≡ first_tree table rank) (is_end : end ≡ end_tree table rank) where
    known : RankKnown table rank
    known = rank_known table rank checked refl

    pub answer_index : end - first ≤ i → neighbour_refused 5 ≡ neighbour_answer part table rank i f
    unfolding first_failed neighbour_checks tree_count
    answer_index h =
        answer-refused 5 (λ e. omega arith)
        (rw (known.counted, known.checked, lt-ltb rank (ranks table) known.below, ← is_first, ← is_end, le-ltb i (end - first) h))

    module _ (below : i < end - first) where
      pub answer_face : 6 ≤ f → neighbour_refused 5 ≡ neighbour_answer part table rank i f
      unfolding first_failed neighbour_checks tree_count
      answer_face h =
          answer-refused 5 (λ e. omega arith)
          (rw (known.counted, known.checked, lt-ltb rank (ranks table) known.below, ← is_first, ← is_end, lt-ltb i (end - first) below, le-ltb f 6 h))

      module _ (face : f < 6) {s : Bool} (is-sound : s ≡ part_sound part table rank) where
        pub answer_unsound : s ≡ false → neighbour_refused 8 ≡ neighbour_answer part table rank i f
        unfolding first_failed neighbour_checks tree_count
        answer_unsound h =
            answer-refused 8 (λ e. omega arith)
            (rw (known.counted, known.checked, lt-ltb rank (ranks table) known.below, ← is_first, ← is_end, lt-ltb i (end - first) below, lt-ltb f 6 face, ← is-sound, h))

        module _ (sound : s ≡ true) where
          -- the tree's record is in the buffer
          pub tree_there : Bytes table → tree_place i + core_size ≤ length part
          unfolding part_sound tree_count
          tree_there b =
              let e : (part_header_sound part table rank && eqb (length part) (part_size (part_count part) (part_ghost_count part))) ≡ true = and_fst _ _ (sym is-sound ∙ sound) in
              omega (arith, (head_counts part table rank b known (sym e) refl).2, (head_laid part table rank b known (sym e) refl).long)

          pub answer_link : {at shape : ℕ} {link : Link} → at ≡ tree_place i → shape ≡ shape_of (piece part at core_size) → link ≡ link_of part i f
              → record { refusal = 0; shape = shape; link = link } ≡ neighbour_answer part table rank i f
          unfolding first_failed neighbour_checks neighbour_answer tree_count stored_tree
          answer_link e p q =
              rw (known.counted, known.checked, lt-ltb rank (ranks table) known.below, ← is_first, ← is_end, lt-ltb i (end - first) below, lt-ltb f 6 face, ← is-sound, sound, ← e, p, q)
