-- The part that the code writes is the part of the definition.
use Prim.Native.Nat.{ℕ, zero, suc, ◌+◌, ◌-◌, ◌*◌, ◌≤◌, ◌<◌}
use native.Mathlib.Omega.{arith}
use mathlib.Core.Path.{◌≡◌, refl, sym, ap, ap₂, ◌∙◌}
use mathlib.Core.Bool.{Bool, true, false, cond, ◌&&◌}
use mathlib.Core.List.{List, [], ◌∷◌, ◌++◌, append_assoc}
use lib.Dec.{leb, ltb, eqb}
use lib.ListN.{length, length-append}
use borrow.Author.Tests.{ltb-true, le-leb, lt-leb, eq-eqb, ne_eqb}
use Rattle.encoding.specs.Below.{count_below}
use Rattle.encoding.specs.Pieces.{piece, splice, Bytes}
use Rattle.encoding.specs.Refusal.{check, first_failed}
use Rattle.encoding.specs.Answer.{length_refused, length_answer, write_answer, written}
use Rattle.encoding.proofs.Below.{either, tests, clash, count_le, count_same}
use Rattle.encoding.proofs.Pieces.{piece_length, splice_then}
use Rattle.bits.specs.Bits.{in_set}
use Rattle.offsets.specs.Table.{ranks, ranks_ok, trees, valid, first_tree, end_tree, tree_count, holds}
use Rattle.records.specs.Record.{core_size, tree_size, unused, shape_of, neighbour_of}
use Rattle.records.specs.Shape.{face_count, faces_in}
use Rattle.records.specs.Links.{row_of, rows_of}
use Rattle.records.proofs.Forms.{at_piece, form_unused, unused_neighbour}
use Rattle.mesh.specs.Mesh.{mesh_header, mesh_dimension, mesh_trees, mesh_core, mesh_record, mesh_sound}
use Rattle.mesh.proofs.Soundness.{sound_form, neighbour_below}
use Rattle.part.specs.Layout.{part_header, header_bytes, ghost_place}
use Rattle.part.specs.Ghosts.{is_ghost, ghost_position}
use Rattle.part.specs.Cut.{renamed, rename_row, local_index, part_tree, part_trees, part_ghosts, ghost_count, cut_part}
use Rattle.part.specs.Checks.{rank_checks}
use Rattle.part.specs.Means.{in_range, ghost_in}
use Rattle.part.proofs.Ghosts.{ghosts_none, ghosts_next}
use Rattle.part.proofs.Records.{header_length}
use Rattle.part.proofs.Ranges.{ghost_read}
use Rattle.positions.specs.Means.{cores_below}
use Rattle.positions.proofs.Members.{cores_gap}
use Rattle.part_cut.specs.Calls.{cut_checks, part_length_of, cut_part_of}
use Rattle.part_cut.specs.Means.{CutSpace, GhostSet, Measured, local_in, RecordsRoom, records_with, GhostsRoom, PartRoom, part_with}
use Rattle.part_cut.proofs.Cutting.{cut_size}
use Rattle.part_cut.proofs.Marking.{space_known, space_fits}
use Rattle.part_cut.proofs.Renaming.{records_long}

-- ---- the ghosts

module _ {mesh ws out : List ℕ} {at : ℕ} (room : GhostsRoom mesh ws out at) where
  pub member_long : (k : ℕ) → in_set ws k ≡ true → length (mesh_core mesh k) ≡ core_size
  unfolding mesh_core
  member_long k e = piece_length mesh (mesh_header + tree_size * k) core_size (omega (arith, room.there k e))

pub member_copied : (mesh : List ℕ) (k : ℕ) (out : List ℕ) (to : ℕ) {last : List ℕ} {from : ℕ} → from ≡ mesh_header + tree_size * k → last ≡ splice out to (piece mesh from core_size) → last ≡ splice out to (mesh_core mesh k)
unfolding mesh_core
member_copied mesh k out to e p = p ∙ ap (λ (o : ℕ). splice out to (piece mesh o core_size)) e

-- ---- the three writes

module _ {mesh : List ℕ} {first n : ℕ} {ws behind : List ℕ} {count : ℕ} {out : List ℕ} (part : PartRoom mesh first n ws behind count out) where
  pub records_room : {from faces : ℕ} {mid : List ℕ} → from ≡ mesh_header + tree_size * first → 0 < faces → length mid ≡ length out → RecordsRoom mesh mid from faces first n ws behind count
  records_room e f l =
      record {
        source = omega (arith, part.long, part.within);
        target = omega (arith, part.room);
        faced = f;
        known = record { counted = part.ghosts.counted; range = omega arith; small = part.small };
      }

  member-there : (k : ℕ) → in_set ws k ≡ true → mesh_header + tree_size * k + tree_size ≤ length mesh
  member-there k e = either (ltb k (mesh_trees mesh)) (λ p. omega (tests, part.long)) (λ p. clash e (part.ghosts.past k (omega tests)))

  pub members_room : {at : ℕ} {mid : List ℕ} → at ≡ ghost_place n 0 → length mid ≡ length out → GhostsRoom mesh ws mid at
  members_room e l = record { few = part.ghosts.few; there = member-there; room = omega (arith, part.room, part.ghosts.counted.whole) }

  pub part_written : (P rank : ℕ) {dimension K faces from at : ℕ} {o1 o2 o3 : List ℕ} → dimension ≡ mesh_dimension mesh → K ≡ mesh_trees mesh → faces ≡ faces_in dimension → from ≡ mesh_header + tree_size * first → at ≡ ghost_place n 0
      → o1 ≡ splice out 0 (header_bytes dimension K P rank first n count)
      → o2 ≡ splice o1 part_header (records_with (local_in ws first (first + n)) faces mesh from n)
      → o3 ≡ splice o2 at (cores_below (mesh_core mesh) (in_set ws) (64 * length ws))
      → o3 ≡ splice out 0 (part_with mesh P rank first n ws count)
  unfolding part_with
  part_written P rank {dimension} {K} {faces} {from} {at} {o1} {o2} {o3} d k f s a e1 e2 e3 =
      let H : List ℕ = header_bytes (mesh_dimension mesh) (mesh_trees mesh) P rank first n count in
      let T : List ℕ = records_with (local_in ws first (first + n)) (faces_in (mesh_dimension mesh)) mesh (mesh_header + tree_size * first) n in
      let G : List ℕ = cores_below (mesh_core mesh) (in_set ws) (64 * length ws) in
      let lH : length H ≡ 32 = header_length (mesh_dimension mesh) (mesh_trees mesh) P rank first n count in
      let lT : length T ≡ tree_size * n = records_long (local_in ws first (first + n)) (faces_in (mesh_dimension mesh)) mesh (mesh_header + tree_size * first) n (omega (arith, part.long, part.within)) in
      let q1 : o1 ≡ splice out 0 H = rw (d, k) at e1 in
      let q2 : o2 ≡ splice o1 (0 + 32) T = rw (f, d, s) at e2 in
      let w2 : o2 ≡ splice out 0 (H ++ T) = splice_then out 0 32 H T lH (omega (arith, part.room)) q1 q2 in
      let place : at ≡ 0 + (32 + tree_size * n) = omega arith in
      let q3 : o3 ≡ splice o2 (0 + (32 + tree_size * n)) G = rw place at e3 in
      let lHT : length (H ++ T) ≡ 32 + tree_size * n = rw (length-append, lH, lT) in
      splice_then out 0 (32 + tree_size * n) (H ++ T) G lHT (omega (arith, part.room)) w2 q3 ∙ ap (splice out 0) (append_assoc H T G)

-- ---- the definition

-- renamings that agree on a record's neighbours
renamed_same : (a b : ℕ → ℕ) (F : ℕ) (r : List ℕ) → ((f : ℕ) → f < 6 → a (neighbour_of r f) ≡ b (neighbour_of r f)) → renamed a F r ≡ renamed b F r
unfolding renamed rows_of row_of rename_row
renamed_same a b F r h = rw (h 0 (omega arith), h 1 (omega arith), h 2 (omega arith), h 3 (omega arith), h 4 (omega arith), h 5 (omega arith))

record_neighbour : (mesh : List ℕ) (k f : ℕ) → f < 6 → neighbour_of (mesh_record mesh k) f ≡ neighbour_of (mesh_core mesh k) f
unfolding neighbour_of mesh_record mesh_core
record_neighbour mesh k f h =
    at_piece 4 mesh (mesh_header + tree_size * k) tree_size (8 + 4 * f) (omega arith) ∙ sym (at_piece 4 mesh (mesh_header + tree_size * k) core_size (8 + 4 * f) (omega arith))

record_at_lem : (mesh : List ℕ) (first n : ℕ) → piece mesh (mesh_header + tree_size * first + tree_size * n) tree_size ≡ mesh_record mesh (first + n)
unfolding mesh_record
record_at_lem mesh first n = let e : mesh_header + tree_size * first + tree_size * n ≡ mesh_header + tree_size * (first + n) = omega arith in rw e

module _ (mesh : List ℕ) (sound : mesh_sound mesh ≡ true) where
  -- a neighbour is below K, or the face is unused
  neighbour-within : (k : ℕ) → k < mesh_trees mesh → (f : ℕ) → f < 6 → eqb (neighbour_of (mesh_core mesh k) f) unused ≡ false → neighbour_of (mesh_core mesh k) f ≤ mesh_trees mesh
  neighbour-within k h f l e =
      either (ltb f (face_count (shape_of (mesh_core mesh k))))
      (λ p. omega (arith, neighbour_below mesh sound k h f (ltb-true _ _ p)))
      (λ p. clash (eq-eqb _ _ (unused_neighbour (mesh_core mesh k) f (form_unused k (mesh_core mesh k) (sound_form mesh sound k h) f (omega tests) l))) e)

  module _ (table : List ℕ) (rank : ℕ) {ws behind : List ℕ} {count : ℕ} (set : GhostSet mesh (mesh_trees mesh) (first_tree table rank) (end_tree table rank) ws behind count) where
    abbrev first : ℕ
    first = first_tree table rank

    member_is : (k : ℕ) → k < mesh_trees mesh → in_set ws k ≡ is_ghost (mesh_core mesh) table rank k
    member_is k h = set.members k h ∙ sym (ghost_read (mesh_core mesh) table rank k)

    count_is : (k : ℕ) → k ≤ mesh_trees mesh → count_below k (in_set ws) ≡ ghost_position (mesh_core mesh) table rank k
    unfolding ghost_position
    count_is k h = count_same k (in_set ws) (is_ghost (mesh_core mesh) table rank) (λ i l. member_is i (omega arith))

    ghosts-below : (k : ℕ) → k ≤ mesh_trees mesh → cores_below (mesh_core mesh) (in_set ws) k ≡ part_ghosts mesh table rank k
    unfolding cores_below
    ghosts-below zero h = sym (ghosts_none mesh table rank)
    ghosts-below (suc k) h = rw (ghosts_next mesh table rank k, ghosts-below k (omega arith), member_is k (omega arith))

    ghosts-are : cores_below (mesh_core mesh) (in_set ws) (64 * length ws) ≡ part_ghosts mesh table rank (mesh_trees mesh)
    ghosts-are =
        let N : ℕ = 64 * length ws in
        let s : mesh_trees mesh + (N - mesh_trees mesh) ≡ N = omega (arith, set.room) in
        ap (cores_below (mesh_core mesh) (in_set ws)) (sym s) ∙ cores_gap (mesh_core mesh) (in_set ws) (mesh_trees mesh) (N - mesh_trees mesh) (λ i p q. set.past i p)
        ∙ ghosts-below (mesh_trees mesh) (omega arith)

    -- how many there are
    pub ghosts_many : count ≡ ghost_count mesh table rank
    unfolding ghost_count
    ghosts_many =
        let g : count_below (mesh_trees mesh) (in_set ws) ≡ count_below (mesh_trees mesh) (ghost_in (mesh_core mesh) first (end_tree table rank)) = count_same (mesh_trees mesh) (in_set ws) (ghost_in (mesh_core mesh) first (end_tree table rank)) set.members in
        set.many ∙ sym g ∙ count_is (mesh_trees mesh) (omega arith)

    -- the local index by the set is the one defined
    local-is : (k : ℕ) → (eqb k unused ≡ false → k ≤ mesh_trees mesh) → local_in ws first (end_tree table rank) k ≡ local_index mesh table rank k
    unfolding local_in local_index in_range holds tree_count
    local-is k h = either (eqb k unused) (λ p. rw p) (λ p. rw (p, count_is k (h p)))

    trees_are : (n : ℕ) → first + n ≤ mesh_trees mesh → records_with (local_in ws first (end_tree table rank)) (faces_in (mesh_dimension mesh)) mesh (mesh_header + tree_size * first) n ≡ part_trees mesh table rank n
    unfolding records_with part_trees part_tree
    trees_are zero h = refl
    trees_are (suc n) h =
        ap₂ (λ (a b : List ℕ). a ++ b) (trees_are n (omega arith))
        (ap (renamed (local_in ws first (end_tree table rank)) (faces_in (mesh_dimension mesh))) (record_at_lem mesh first n)
        ∙ renamed_same (local_in ws first (end_tree table rank)) (local_index mesh table rank) (faces_in (mesh_dimension mesh)) (mesh_record mesh (first + n))
        (λ f l. rw (record_neighbour mesh (first + n) f l) (local-is (neighbour_of (mesh_core mesh (first + n)) f) (neighbour-within (first + n) (omega arith) f l))))

    -- the part written is the part defined
    pub part_is : first + tree_count table rank ≡ end_tree table rank → end_tree table rank ≤ mesh_trees mesh → part_with mesh (ranks table) rank first (tree_count table rank) ws count ≡ cut_part mesh table rank
    unfolding part_with cut_part
    part_is e h =
        let t : records_with (local_in ws first (first + tree_count table rank)) (faces_in (mesh_dimension mesh)) mesh (mesh_header + tree_size * first) (tree_count table rank) ≡ part_trees mesh table rank (tree_count table rank) =
        rw e (trees_are (tree_count table rank) (omega arith)) in
        ap₂ (λ (g : ℕ) (l : List ℕ). header_bytes (mesh_dimension mesh) (mesh_trees mesh) (ranks table) rank first (tree_count table rank) g ++ l) ghosts_many
        (ap₂ (λ (a b : List ℕ). a ++ b) t ghosts-are)

-- ---- the call

-- the length of a part that is accepted
pub length_found : (mesh table : List ℕ) (rank : ℕ) {size : ℕ} → 0 ≡ first_failed (cut_checks mesh table rank) → size ≡ length (cut_part mesh table rank) → record { refusal = 0; length = size } ≡ part_length_of mesh table rank
unfolding part_length_of length_answer
length_found mesh table rank checked long = rw (← checked, long)

-- one more check behind those of the cut
more_checks : (a b c d : Bool) (x : ℕ)
    → cond a (cond b (cond c (cond d x 7) 5) 3) 2 ≡ cond (eqb (cond a (cond b (cond c (cond d 0 7) 5) 3) 2) 0) x (cond a (cond b (cond c (cond d 0 7) 5) 3) 2)
more_checks false b c d x = refl
more_checks true false c d x = refl
more_checks true true false d x = refl
more_checks true true true false x = refl
more_checks true true true true x = refl

module _ (mesh table : List ℕ) (rank : ℕ) (out : List ℕ) {r : ℕ} (checked : r ≡ first_failed (cut_checks mesh table rank)) where
  with-room : (b : Bool) → first_failed (cut_checks mesh table rank ++ (check b 22 ∷ [])) ≡ cond (eqb r 0) (cond b 0 22) r
  unfolding first_failed cut_checks rank_checks
  with-room b = rw checked (more_checks (ranks_ok table) (valid table) (ltb rank (ranks table)) (mesh_sound mesh && eqb (mesh_trees mesh) (trees table)) (cond b 0 22))

  pub cut_refused : (r ≡ 0 → ⊥) → (length_refused r, out) ≡ cut_part_of mesh table rank out
  unfolding cut_part_of write_answer length_answer written
  cut_refused h = rw (with-room (leb (length (cut_part mesh table rank)) (length out)), ne_eqb r 0 h, ne_eqb r 0 h)

  module _ (ok : r ≡ 0) {n : ℕ} (long : n ≡ length (cut_part mesh table rank)) where
    pub cut_short : length out < n → (length_refused 22, out) ≡ cut_part_of mesh table rank out
    unfolding cut_part_of write_answer length_answer written
    cut_short h = rw (with-room (leb (length (cut_part mesh table rank)) (length out)), ok, ← long, lt-leb n (length out) h)

    pub cut_done : {last : List ℕ} → n ≤ length out → last ≡ splice out 0 (cut_part mesh table rank) → (record { refusal = 0; length = n }, last) ≡ cut_part_of mesh table rank out
    unfolding cut_part_of write_answer length_answer written
    cut_done h e = rw (with-room (leb (length (cut_part mesh table rank)) (length out)), ok, ← long, le-leb n (length out) h, e)

-- ---- what was measured

module _ {mesh table : List ℕ} {rank : ℕ} {ws₀ behind₀ ws behind : List ℕ} {first n count : ℕ} (space : CutSpace mesh table rank ws₀ behind₀) (bytes : Bytes table) (found : Measured mesh table rank ws behind first n count) where
  ghost-set : GhostSet mesh (mesh_trees mesh) (first_tree table rank) (end_tree table rank) ws behind count
  ghost-set = rw (found.is_end, found.is_first) at found.ghosts

  -- the length of the part
  pub found_long : {size : ℕ} → size ≡ ghost_place n count → size ≡ length (cut_part mesh table rank)
  found_long e =
      let g : count ≡ ghost_count mesh table rank = ghosts_many mesh (space_known space bytes).mesh_sound_lem table rank ghost-set in
      omega (arith, cut_size mesh table rank (sym space.checked) refl bytes, found.is_count)

  module _ (out : List ℕ) where
    pub part_room : {size : ℕ} → size ≡ ghost_place n count → size ≤ length out → PartRoom mesh first n ws behind count out
    part_room e h =
        record {
          long = (space_fits space bytes).mesh_long;
          within = found.within;
          small = omega (arith, found.within, (space_fits space bytes).most, found.ghosts.many, count_le (mesh_trees mesh) (ghost_in (mesh_core mesh) first (first + n)));
          ghosts = found.ghosts;
          room = omega arith;
        }

    pub part_cut : {P : ℕ} {last : List ℕ} → P ≡ ranks table → last ≡ splice out 0 (part_with mesh P rank first n ws count) → last ≡ splice out 0 (cut_part mesh table rank)
    part_cut p e =
        let s = part_is mesh (space_known space bytes).mesh_sound_lem table rank ghost-set (rw (← found.is_first, ← found.is_count) found.is_end) (space_fits space bytes).within in
        (rw (p, found.is_first, found.is_count) at e) ∙ ap (splice out 0) s
