-- Regions and the checks: above the limit they make an object unsound, within it they don't matter.
use Prim.Native.Nat.{ℕ, ◌*◌, ◌≤◌, ◌<◌}
use native.Mathlib.Nat.{le_refl}
use native.Mathlib.Omega.{arith}
use mathlib.Core.Path.{◌≡◌, refl, sym, ◌∙◌}
use mathlib.Core.Bool.{Bool, true, false, cond, ◌&&◌, ◌||◌}
use mathlib.Core.List.{List, []}
use lib.Dec.{leb, ltb, eqb}
use lib.ListN.{length, get_or}
use borrow.Author.Tests.{leb-true, eqb-true, eqb-false, lt-ltb, lt-leb, eq-eqb, ne_eqb}
use Rattle.encoding.specs.Answer.{length_answer, written, write_answer, count_answer}
use Rattle.encoding.specs.Below.{all_below}
use Rattle.encoding.specs.Numbers.{le_at, le_value}
use Rattle.encoding.specs.Pieces.{piece}
use Rattle.encoding.specs.Refusal.{first_failed}
use Rattle.encoding.specs.Words.{all_zero}
use Rattle.encoding.proofs.Below.{either, clash, and_fst, and_snd, all_at, any_none, count_initial, count_none}
use Rattle.encoding.proofs.Pieces.{piece_at}
use Rattle.encoding.proofs.Words.{zero_at_lem}
use Rattle.offsets.specs.Table.{ranks, ranks_ok, valid, tree_count}
use Rattle.records.specs.Record.{core_size, tree_size, region_limit, number_of, region_of, region_ok, in_form}
use Rattle.records.proofs.Forms.{at_agree, form_region, region_below}
use Rattle.mesh.specs.Mesh.{mesh_trees, mesh_core, mesh_sound, mesh_refusal}
use Rattle.mesh.proofs.Soundness.{sound_form}
use Rattle.part.specs.Checks.{rank_checks}
use Rattle.part.specs.Layout.{part_size}
use Rattle.part.specs.View.{View, tree_in_form, ghost_in_form, ghost_ascends, ghosts_exact, links_hold, records_hold}
use Rattle.part.specs.Part.{part_count, part_ghost_count, stored_tree, stored_ghost, view_of, part_header_sound, part_sound}
use Rattle.part.proofs.Checks.{rank_passes}
use Rattle.part_check.specs.Calls.{part_refusal}
use Rattle.part_theorems.proofs.SoundParts.{part_header_lem}
use Rattle.regions.specs.Counts.{region_count, region_counts}
use Rattle.regions.specs.Calls.{regions_refusal, region_counts_of}
use Rattle.regions.proofs.Counting.{written_at}
use Rattle.message.specs.Layout.{message_trees, message_ghosts, message_tree, message_ghost, record_laid, size_laid, after_last, records_laid, in_layout}
use Rattle.message.specs.Calls.{message_refusal}
use Rattle.area.specs.Area.{area_p, area_count, area_ghosts, area_bound, filled_bound, due_heard, tree_slot, tree_slot_core, ghost_slot, area_header_sound, bit_sound, tree_slot_sound, ghost_held_sound, ghost_slot_sound, area_sound}
use Rattle.area.specs.Layout.{heard_words}
use Rattle.area.specs.Deliver.{deliver_checks, deliver_of}
use Rattle.area.specs.Close.{close_checks, close_length_of, close_of}
use Rattle.area_open.specs.Calls.{progress_of}
use Rattle.deliver_all.specs.Calls.{deliver_all_refusal, deliver_all_count, deliver_all_of}
use Rattle.repartition.specs.Regions.{some_above, RegionsRefused, Unmarked, OldFiles}

-- ---- regions above the limit

none_above : (count : ℕ) (r : ℕ → List ℕ) → ((i : ℕ) → i < count → region_ok (r i) ≡ true) → some_above count r ≡ false
unfolding some_above
none_above count r ok = any_none count (λ i. leb region_limit (region_of (r i))) (λ i h. lt-leb region_limit (region_of (r i)) (region_below (r i) (ok i h)))

neither : (a b : Bool) → a ≡ false → b ≡ false → (a || b) ≡ false
neither a b p q = rw (p, q)

-- a record whose bytes 38 and 39 are zero has region 0
region_empty : region_of [] ≡ 0
unfolding region_of le_at le_value piece
region_empty = refl

region_none : (r : List ℕ) → get_or r 38 0 ≡ 0 → get_or r 39 0 ≡ 0 → region_of r ≡ 0
unfolding region_of
region_none r p q =
    at_agree 2 r [] 38
    (λ i h. either (eqb i 0) (λ e. let z : i ≡ 0 = eqb-true i 0 e in rw z p) (λ e. let o : i ≡ 1 = omega (arith, eqb-false i 0 e) in rw o q))
    ∙ region_empty

region_zero_ok : (r : List ℕ) → region_of r ≡ 0 → region_ok r ≡ true
unfolding region_ok
region_zero_ok r e = rw e

-- whole meshes
mesh_none : (m : List ℕ) → mesh_sound m ≡ true → some_above (mesh_trees m) (mesh_core m) ≡ false
mesh_none m s = none_above (mesh_trees m) (mesh_core m) (λ k h. form_region k (mesh_core m k) (sound_form m s k h))

-- parts
module _ (v : View) where
  tree-region-ok : (i : ℕ) → tree_in_form v i ≡ true → region_ok (v.stored i) ≡ true
  unfolding tree_in_form
  tree-region-ok i e = form_region i (v.stored i) (and_fst (in_form i (v.stored i)) _ (and_fst _ _ e))

  ghost-region-ok : (j : ℕ) → ghost_in_form v j ≡ true → region_ok (v.ghost j) ≡ true
  unfolding ghost_in_form
  ghost-region-ok j e = form_region (number_of (v.ghost j)) (v.ghost j) (and_fst (in_form (number_of (v.ghost j)) (v.ghost j)) (ghost_ascends v j) (and_fst _ _ e))

  view-forms : records_hold v ≡ true → (all_below v.n (tree_in_form v) ≡ true) × (all_below v.g (ghost_in_form v) ≡ true)
  unfolding records_hold
  view-forms e =
      let t : Bool = all_below v.n (tree_in_form v) in
      let g : Bool = all_below v.g (ghost_in_form v) in
      let both : (t && g) ≡ true = and_fst (t && g) (ghosts_exact v) (and_fst (t && g && ghosts_exact v) (links_hold v) e) in
      (and_fst t g both, and_snd t g both)

part_none : (part table : List ℕ) (rank : ℕ) → part_sound part table rank ≡ true → (some_above (part_count part) (stored_tree part) || some_above (part_ghost_count part) (stored_ghost part)) ≡ false
unfolding part_sound
part_none part table rank s =
    let v : View = view_of part in
    let forms = view-forms v (and_snd (part_header_sound part table rank && eqb (length part) (part_size (part_count part) (part_ghost_count part))) (records_hold v) s) in
    neither (some_above (part_count part) (stored_tree part)) (some_above (part_ghost_count part) (stored_ghost part))
    (none_above (part_count part) (stored_tree part) (λ i h. tree-region-ok v i (all_at (part_count part) (tree_in_form v) forms.0 i h)))
    (none_above (part_ghost_count part) (stored_ghost part) (λ j h. ghost-region-ok v j (all_at (part_ghost_count part) (ghost_in_form v) forms.1 j h)))

-- messages
laid_region_ok : (m r : List ℕ) → record_laid m r ≡ true → region_ok r ≡ true
unfolding record_laid
laid_region_ok m r e = form_region (number_of r) r (and_fst (in_form (number_of r) r) _ (and_fst _ _ e))

rows_none : (m : List ℕ) (count : ℕ) (r : ℕ → List ℕ) → records_laid m count r ≡ true → some_above count r ≡ false
unfolding records_laid
rows_none m count r e =
    none_above count r (λ i h. laid_region_ok m (r i) (and_fst (record_laid m (r i)) (after_last r i) (all_at count (λ i. record_laid m (r i) && after_last r i) e i h)))

message_none : (m : List ℕ) → in_layout m ≡ true → (some_above (message_trees m) (message_tree m) || some_above (message_ghosts m) (message_ghost m)) ≡ false
unfolding in_layout
message_none m e =
    let t : Bool = records_laid m (message_trees m) (message_tree m) in
    let g : Bool = records_laid m (message_ghosts m) (message_ghost m) in
    neither (some_above (message_trees m) (message_tree m)) (some_above (message_ghosts m) (message_ghost m))
    (rows_none m (message_trees m) (message_tree m) (and_snd (size_laid m) t (and_fst (size_laid m && t) g e)))
    (rows_none m (message_ghosts m) (message_ghost m) (and_snd (size_laid m && t) g e))

-- areas
module _ (a : List ℕ) where
  zero-byte : (i : ℕ) → all_zero (tree_slot a i) ≡ true → (k : ℕ) → k < core_size → get_or (tree_slot_core a i) k 0 ≡ 0
  unfolding tree_slot tree_slot_core
  zero-byte i z k h = piece_at a _ core_size k h ∙ (sym (piece_at a _ tree_size k (omega arith)) ∙ zero_at_lem (tree_slot a i) z k)

  zero-slot : (i : ℕ) → all_zero (tree_slot a i) ≡ true → region_of (tree_slot_core a i) ≡ 0
  zero-slot i z = region_none (tree_slot_core a i) (zero-byte i z 38 (omega arith)) (zero-byte i z 39 (omega arith))

  slot-region : (i : ℕ) → tree_slot_sound a i ≡ true → region_ok (tree_slot_core a i) ≡ true
  unfolding tree_slot_sound
  slot-region i e =
      either (due_heard a i)
      (λ p. form_region _ (tree_slot_core a i) (and_fst (in_form _ (tree_slot_core a i)) _ (rw p at e)))
      (λ p. region_zero_ok (tree_slot_core a i) (zero-slot i (rw p at e)))

  held-region : (j : ℕ) → ghost_held_sound a j ≡ true → region_ok (ghost_slot a j) ≡ true
  unfolding ghost_held_sound
  held-region j e = form_region (number_of (ghost_slot a j)) (ghost_slot a j) (and_fst (in_form (number_of (ghost_slot a j)) (ghost_slot a j)) _ (and_fst _ _ (and_fst _ (after_last (ghost_slot a) j) e)))

  ghost-region : (j : ℕ) → ghost_slot_sound a j ≡ true → region_ok (ghost_slot a j) ≡ true
  unfolding ghost_slot_sound
  ghost-region j e =
      either (ltb j (area_ghosts a))
      (λ p. held-region j (rw p at e))
      (λ p. let z : all_zero (ghost_slot a j) ≡ true = rw p at e in region_zero_ok (ghost_slot a j) (region_none (ghost_slot a j) (zero_at_lem (ghost_slot a j) z 38) (zero_at_lem (ghost_slot a j) z 39)))

  area-none : area_sound a ≡ true → (some_above (area_count a) (tree_slot_core a) || some_above (area_bound a) (ghost_slot a)) ≡ false
  unfolding area_sound
  area-none e =
      let bits : Bool = area_header_sound a && all_below (64 * heard_words (area_p a)) (bit_sound a) in
      let slots : Bool = all_below (area_count a) (tree_slot_sound a) in
      let few : Bool = leb (area_ghosts a) (filled_bound a) in
      let ghosts : Bool = all_below (area_bound a) (ghost_slot_sound a) in
      neither (some_above (area_count a) (tree_slot_core a)) (some_above (area_bound a) (ghost_slot a))
      (none_above (area_count a) (tree_slot_core a) (λ i h. slot-region i (all_at (area_count a) (tree_slot_sound a) (and_snd bits slots (and_fst (bits && slots) few (and_fst (bits && slots && few) ghosts e))) i h)))
      (none_above (area_bound a) (ghost_slot a) (λ j h. ghost-region j (all_at (area_bound a) (ghost_slot_sound a) (and_snd (bits && slots && few) ghosts e) j h)))

-- ---- what the calls answer

-- a test that would deny what is so fails
denied : (s : Bool) {b : Bool} → (s ≡ true → b ≡ false) → b ≡ true → s ≡ false
denied s deny e = either s (λ p. clash e (deny p)) (λ p. p)

mesh_refused : (m : List ℕ) → some_above (mesh_trees m) (mesh_core m) ≡ true → mesh_refusal m ≡ 7
unfolding mesh_refusal first_failed
mesh_refused m e = rw (denied (mesh_sound m) (mesh_none m) e)

part_refused : (part table : List ℕ) (rank : ℕ) → first_failed (rank_checks table rank) ≡ 0
    → (some_above (part_count part) (stored_tree part) || some_above (part_ghost_count part) (stored_ghost part)) ≡ true → part_refusal part table rank ≡ 8
unfolding part_refusal first_failed
part_refused part table rank ok e = rw (rank_passes table rank refl ok, denied (part_sound part table rank) (part_none part table rank) e)

message_refused : (m : List ℕ) → (some_above (message_trees m) (message_tree m) || some_above (message_ghosts m) (message_ghost m)) ≡ true → message_refusal m ≡ 11
unfolding message_refusal first_failed
message_refused m e = rw (denied (in_layout m) (message_none m) e)

module _ (a : List ℕ) (un : area_sound a ≡ false) where
  progress-ten : (progress_of a).refusal ≡ 10
  unfolding progress_of
  progress-ten = rw un

  deliver-ten : (m : List ℕ) → (deliver_of a m).0 ≡ 10
  unfolding deliver_of deliver_checks first_failed
  deliver-ten m = rw un

  all-ten : (bs answers : List ℕ) → (deliver_all_of a bs answers).0.refusal ≡ 10
  unfolding deliver_all_of deliver_all_count deliver_all_refusal count_answer first_failed
  all-ten bs answers = rw un

  length-ten : (close_length_of a).refusal ≡ 10
  unfolding close_length_of close_checks length_answer first_failed
  length-ten = rw un

  close-ten : (out : List ℕ) → (close_of a out).0.refusal ≡ 10
  unfolding close_of close_checks write_answer length_answer first_failed
  close-ten out = rw un

pub regions_refused : RegionsRefused
regions_refused =
    record {
      mesh = mesh_refused;
      part = part_refused;
      area = λ a e.
          let un : area_sound a ≡ false = denied (area_sound a) (area-none a) e in
          record { progress = progress-ten a un; deliver = deliver-ten a un; deliver_all = all-ten a un; close_length = length-ten a un; close = close-ten a un };
      message = message_refused;
    }

-- ---- old files

module _ (part table : List ℕ) (rank : ℕ) (out : List ℕ) where
  five_pass : (a b d s l : Bool) → ◌≡◌ {A = ℕ} (cond a (cond b (cond d (cond s (cond l 0 22) 8) 5) 3) 2) 0 → (s ≡ true) × (l ≡ true)
  five_pass true true true true true e = (refl, refl)
  five_pass true true true true false e = absurd (omega arith)
  five_pass true true true false l e = absurd (omega arith)
  five_pass true true false s l e = absurd (omega arith)
  five_pass true false d s l e = absurd (omega arith)
  five_pass false b d s l e = absurd (omega arith)

  counts-accepted : regions_refusal part table rank out ≡ 0 → (part_sound part table rank ≡ true) × (region_limit ≤ length out)
  unfolding regions_refusal first_failed rank_checks
  counts-accepted e =
      let f = five_pass (ranks_ok table) (valid table) (ltb rank (ranks table)) (part_sound part table rank) (leb region_limit (length out)) e in
      (f.0, leb-true _ _ f.1)

  counts_zero : (region_counts_of part table rank out).0 ≡ 0 → ((i : ℕ) → i < part_count part → Unmarked (stored_tree part i))
      → (b : ℕ) → b < region_limit → get_or (region_counts_of part table rank out).1 b 0 ≡ cond (eqb b 0) (tree_count table rank) 0
  unfolding region_counts_of written region_counts region_count
  counts_zero e old b h =
      let k = counts-accepted e in
      let zero : (i : ℕ) → i < part_count part → region_of (stored_tree part i) ≡ 0 = λ i l. region_none (stored_tree part i) (old i l).0 (old i l).1 in
      rw e
      (written_at out region_limit (region_count part) k.1 b
      ∙ rw (lt-ltb b region_limit h)
      (either (eqb b 0)
      (λ p.
      let z : b ≡ 0 = eqb-true b 0 p in
      rw (p, ← (part_header_lem part table rank k.0).tree_count_lem)
      (count_initial (part_count part) (λ i. eqb (region_of (stored_tree part i)) b) (part_count part) (le_refl (part_count part)) (λ i l. eq-eqb _ _ (zero i l ∙ sym z)) (λ i l m. absurd (omega arith))))
      (λ p. rw p (count_none (part_count part) (λ i. eqb (region_of (stored_tree part i)) b) (λ i l. rw (zero i l) (ne_eqb 0 b (λ q. eqb-false b 0 p (sym q))))))))

pub old_files : OldFiles
old_files =
    record {
      none = λ r u. region_none r u.0 u.1;
      within = λ count r u. none_above count r (λ i h. region_zero_ok (r i) (region_none (r i) (u i h).0 (u i h).1));
      counts = counts_zero;
    }
