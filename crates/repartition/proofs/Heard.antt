-- The canonical area read back, sound, and a function of who is heard.
use Prim.Native.Nat.{ℕ, zero, suc, ◌+◌, ◌*◌, ◌≤◌, ◌<◌}
use native.Mathlib.Nat.{le_refl, le_trans, add-zero, mul-le-mul_left}
use native.Mathlib.Omega.{arith}
use mathlib.Core.Path.{◌≡◌, refl, sym, ap, fun_ext, ◌∙◌}
use mathlib.Core.Bool.{Bool, true, false, not, and-false}
use mathlib.Core.List.{List, [], ◌∷◌, ◌++◌, append-nil}
use lib.Dec.{eqb}
use lib.ListN.{length, get_or, replicate, length-append, length-replicate, get_or-append}
use lib.Seq.{get_or_at}
use borrow.Author.Tests.{eqb-true, eq-eqb, not-true}
use Rattle.encoding.specs.Below.{any_below, least_below, count_below, kept_below}
use Rattle.encoding.specs.Pieces.{piece}
use Rattle.encoding.specs.Words.{all_zero}
use Rattle.encoding.proofs.Below.{either, and_fst, iff_eq, below_suc, any_at, any_intro, least_lt, least_at, count_le, count_none, count_lt, kept_length, kept_at, kept_found, kept_ascends}
use Rattle.encoding.proofs.Pieces.{piece_length}
use Rattle.offsets.specs.Table.{ranks, first_tree, tree_count, holds}
use Rattle.records.specs.Shape.{faces_in}
use Rattle.records.specs.Record.{core_size, tree_size, number_of, in_form}
use Rattle.records.proofs.Forms.{piece_piece}
use Rattle.pattern.specs.Sender.{Tables, sender}
use Rattle.mesh.specs.Mesh.{mesh_header, mesh_dimension, mesh_trees, mesh_core, mesh_record}
use Rattle.mesh.proofs.Soundness.{header_parts, sound_header, sound_fits, sound_core, sound_form, sound_number}
use Rattle.part.specs.Ghosts.{is_ghost}
use Rattle.area.specs.Layout.{heard_words, ghost_bound}
use Rattle.area.specs.Area.{area_ghosts, heard, ghost_slot, area_sound}
use Rattle.area.specs.Open.{fresh_area}
use Rattle.area.specs.Deliver.{among, one_of}
use Rattle.area_theorems.proofs.Joined.{piece_first, piece_last}
use Rattle.area_theorems.proofs.Zones.{Zones, Reads, few_ranks, range_end, area_reads, area_same}
use Rattle.area.proofs.Headers.{words_enough_lem}
use Rattle.area_theorems.proofs.Kept.{ghost_at}
use Rattle.area_theorems.proofs.Sound.{Held, zeros_zero, area_sound_lem}
use Rattle.repartition.specs.Words.{slot_heard}
use Rattle.repartition.proofs.Canonical.{ghost_heard, ghosts_heard, canonical}
use Rattle.repartition.specs.Run.{Run, Setting}
use Rattle.repartition.specs.Lists.{nobody}
use Rattle.repartition.proofs.Receive.{InReceive}
use Rattle.repartition.proofs.Counting.{heard_few}

-- ---- cores in a row, found by number

-- count records are the cores of the numbers below K that pass f, ascending; each core has its number
pub record Kept (K : ℕ) (f : ℕ → Bool) (core : ℕ → List ℕ) (count : ℕ) (r : ℕ → List ℕ) : Type 0 where
  pub many : count ≡ count_below K f
  pub at_place : (j : ℕ) → j < count_below K f → r j ≡ core (get_or (kept_below K f) j 0)
  pub number : (k : ℕ) → k < K → number_of (core k) ≡ k

module _ (K : ℕ) (f : ℕ → Bool) (core : ℕ → List ℕ) (count : ℕ) (r : ℕ → List ℕ) (kept : Kept K f core count r) where
  kept-number : (j : ℕ) → j < count_below K f → number_of (r j) ≡ get_or (kept_below K f) j 0
  kept-number j h = ap number_of (kept.at_place j h) ∙ kept.number (get_or (kept_below K f) j 0) (kept_found K f j 0 h).0

  -- one of them has number k where k passes
  pub among_kept : (k : ℕ) → k < K → among count r k ≡ f k
  unfolding among
  among_kept k h =
      rw kept.many
      (iff_eq (any_below (count_below K f) (λ j. eqb (number_of (r j)) k)) (f k)
      (λ e. let a = any_at (count_below K f) (λ j. eqb (number_of (r j)) k) e in
      let i : get_or (kept_below K f) a.0 0 ≡ k = sym (kept-number a.0 a.1) ∙ eqb-true (number_of (r a.0)) k a.2 in
      rw i at (kept_found K f a.0 0 a.1).1)
      (λ e. let l : count_below k f < count_below K f = count_lt k K f h e in
      any_intro (count_below K f) (λ j. eqb (number_of (r j)) k) (count_below k f) l
      (eq-eqb (number_of (r (count_below k f))) k (kept-number (count_below k f) l ∙ kept_at K f k h e 0))))

  -- and that record is its core
  pub one_kept : (k : ℕ) → k < K → f k ≡ true → one_of count r k ≡ core k
  unfolding one_of among
  one_kept k h e =
      let t : any_below count (λ j. eqb (number_of (r j)) k) ≡ true = among_kept k h ∙ e in
      let j : ℕ = least_below count (λ j. eqb (number_of (r j)) k) in
      let l : j < count_below K f = omega (arith, least_lt count (λ j. eqb (number_of (r j)) k) t, kept.many) in
      let i : get_or (kept_below K f) j 0 ≡ k = sym (kept-number j l) ∙ eqb-true (number_of (r j)) k (least_at count (λ j. eqb (number_of (r j)) k) t) in
      kept.at_place j l ∙ ap core i

-- ---- the canonical area

module _ (run : Run) where
  -- the core of a tree's record
  pub record_core : (k : ℕ) → piece (mesh_record run.mesh k) 0 core_size ≡ mesh_core run.mesh k
  unfolding mesh_record mesh_core
  record_core k = piece_piece run.mesh (mesh_header + tree_size * k) tree_size 0 core_size (omega arith) ∙ ap (λ (at : ℕ). piece run.mesh at core_size) (add-zero (mesh_header + tree_size * k))

  module _ (S : Setting run) (H : ℕ → Bool) where
    abbrev K : ℕ
    K = mesh_trees run.mesh

    abbrev T : Tables run.old run.new
    T = S.tables

    abbrev slot : ℕ → List ℕ
    slot = slot_heard run H

    abbrev test : ℕ → Bool
    test = ghost_heard run H

    abbrev ghosts : ℕ → List ℕ
    ghosts = ghosts_heard run H

    -- the trees of the rank are trees of the mesh
    pub own_tree : (i : ℕ) → i < tree_count run.new run.rank → first_tree run.new run.rank + i < mesh_trees run.mesh
    own_tree i h = omega (arith, range_end run.old run.new run.rank T S.rank_below, S.same_trees_lem)

    -- a tree's record has 64 bytes
    pub record_long : (k : ℕ) → k < mesh_trees run.mesh → length (mesh_record run.mesh k) ≡ tree_size
    unfolding mesh_record
    record_long k h = piece_length run.mesh (mesh_header + tree_size * k) tree_size (sound_fits run.mesh S.mesh_sound_lem k h)

    slot_long : (i : ℕ) → i < tree_count run.new run.rank → length (slot i) ≡ tree_size
    unfolding slot_heard
    slot_long i h =
        either (H (sender run.old (first_tree run.new run.rank + i) run.rank))
        (λ t. rw t (record_long (first_tree run.new run.rank + i) (own_tree i h)))
        (λ t. rw t (length-replicate {A = ℕ} tree_size 0))

    core-long : (k : ℕ) → k < K → length (mesh_core run.mesh k) ≡ core_size
    core-long k h = sound_core run.mesh S.mesh_sound_lem k h

    -- the ghosts heard below k, of 40 bytes each
    ghosts-length : (k : ℕ) → k ≤ K → length (ghosts k) ≡ core_size * count_below k test
    unfolding ghosts_heard count_below
    ghosts-length zero h = refl
    ghosts-length (suc k) h =
        either (test k)
        (λ t. rw (length-append, ghosts-length k (omega arith), t) (omega (arith, core-long k (omega arith))))
        (λ t. rw (length-append, ghosts-length k (omega arith), t) (omega arith))

    -- ghost j is the core of the one with j before it
    ghosts-at : (k : ℕ) → k ≤ K → (j : ℕ) → j < count_below k test → piece (ghosts k) (core_size * j) core_size ≡ mesh_core run.mesh (get_or (kept_below k test) j 0)
    unfolding ghosts_heard count_below kept_below
    ghosts-at zero h j l = absurd (omega arith)
    ghosts-at (suc k) h j l =
        let G : List ℕ = ghosts k in
        let n : ℕ = count_below k test in
        let lG : length G ≡ core_size * n = ghosts-length k (omega arith) in
        let lK : length (kept_below k test) ≡ n = kept_length k test in
        either (test k)
        (λ t. let l' : j < n + 1 = rw t at l in
        rw t
        (below_suc j n (omega arith)
        (λ a. piece_first G (mesh_core run.mesh k) (core_size * j) core_size (omega arith) ∙ ghosts-at k (omega arith) j a
        ∙ ap (mesh_core run.mesh) (sym (get_or-append (kept_below k test) (k ∷ []) 0 j (omega arith))))
        (λ e. piece_last G (mesh_core run.mesh k) (core_size * j) core_size (rw e lG) (core-long k (omega arith))
        ∙ ap (mesh_core run.mesh) (sym (get_or_at (kept_below k test) k [] 0 j (omega arith))))))
        (λ t. let l' : j < n = omega (arith, rw t at l) in
        rw (t, append-nil G, append-nil (kept_below k test)) (ghosts-at k (omega arith) j l'))

    -- a ghost heard is a ghost of the rank
    pub heard_ghost : (k : ℕ) → ghost_heard run H k ≡ true → is_ghost (mesh_core run.mesh) run.new run.rank k ≡ true
    unfolding ghost_heard
    heard_ghost k e = and_fst (is_ghost (mesh_core run.mesh) run.new run.rank k) _ e

    -- so there are slots for them
    pub heard_fit : count_below (mesh_trees run.mesh) (ghost_heard run H) ≤ ghost_bound (faces_in (mesh_dimension run.mesh)) (tree_count run.new run.rank)
    unfolding ghost_bound
    heard_fit =
        le_trans (heard_few run S H)
        (mul-le-mul_left (faces_in (mesh_dimension run.mesh)) (count_le (tree_count run.new run.rank) (λ i. H (sender run.old (first_tree run.new run.rank + i) run.rank))))

    -- the zones of the canonical area
    pub canonical_zones : Zones run.epoch (mesh_dimension run.mesh) run.old run.new run.rank (slot_heard run H)
        (count_below (mesh_trees run.mesh) (ghost_heard run H)) (ghosts_heard run H (mesh_trees run.mesh))
    canonical_zones =
        record {
          tables = T;
          is_rank = S.rank_below;
          is_dimension = (header_parts run.mesh (sound_header run.mesh S.mesh_sound_lem)).0;
          small_epoch = S.epoch_word;
          slots_long = slot_long;
          ghosts_long = ghosts-length K (le_refl K);
          ghosts_fit = heard_fit;
        }

    -- what is read from it, whatever stands behind it
    pub canonical_reads : (tail : List ℕ) → Reads (canonical run H ++ tail) run.epoch (mesh_dimension run.mesh) run.old run.new run.rank H (slot_heard run H)
        (count_below (mesh_trees run.mesh) (ghost_heard run H)) (ghosts_heard run H (mesh_trees run.mesh)) tail
    unfolding canonical
    canonical_reads tail = area_reads run.epoch (mesh_dimension run.mesh) run.old run.new run.rank H slot (count_below K test) (ghosts K) tail canonical_zones

    -- a rank has a bit
    pub rank_bit : (s : ℕ) → s < ranks run.old → s < 64 * heard_words (ranks run.old)
    rank_bit s h = omega (arith, words_enough_lem (ranks run.old) (few_ranks run.old run.new T))

    -- its ghost slots hold the ghosts heard
    pub heard_kept : (tail : List ℕ) → Kept (mesh_trees run.mesh) (ghost_heard run H) (mesh_core run.mesh)
        (area_ghosts (canonical run H ++ tail)) (ghost_slot (canonical run H ++ tail))
    heard_kept tail =
        record {
          many = (canonical_reads tail).at_ghosts;
          at_place = λ j h. (canonical_reads tail).at_ghost j h ∙ ghosts-at K (le_refl K) j h;
          number = sound_number run.mesh S.mesh_sound_lem;
        }

    -- k is among them where it is a ghost heard
    pub among_heard : (tail : List ℕ) (k : ℕ) → k < mesh_trees run.mesh
        → among (area_ghosts (canonical run H ++ tail)) (ghost_slot (canonical run H ++ tail)) k ≡ ghost_heard run H k
    among_heard tail k h =
        let a : List ℕ = canonical run H ++ tail in
        among_kept K test (mesh_core run.mesh) (area_ghosts a) (ghost_slot a) (heard_kept tail) k h

    -- and then with its core
    pub one_heard : (tail : List ℕ) (k : ℕ) → k < mesh_trees run.mesh → ghost_heard run H k ≡ true
        → one_of (area_ghosts (canonical run H ++ tail)) (ghost_slot (canonical run H ++ tail)) k ≡ mesh_core run.mesh k
    one_heard tail k h e =
        let a : List ℕ = canonical run H ++ tail in
        one_kept K test (mesh_core run.mesh) (area_ghosts a) (ghost_slot a) (heard_kept tail) k h e

    -- ---- it is sound

    slot_core : (i : ℕ) → H (sender run.old (first_tree run.new run.rank + i) run.rank) ≡ true → piece (slot i) 0 core_size ≡ mesh_core run.mesh (first_tree run.new run.rank + i)
    unfolding slot_heard
    slot_core i t = rw t (record_core (first_tree run.new run.rank + i))

    slot-zero : (i : ℕ) → H (sender run.old (first_tree run.new run.rank + i) run.rank) ≡ false → all_zero (slot i) ≡ true
    unfolding slot_heard
    slot-zero i t = rw t (zeros_zero tree_size)

    abbrev at : ℕ → ℕ
    at j = get_or (kept_below K test) j 0

    ghost-number : (j : ℕ) → j < count_below K test → number_of (ghost_at (ghosts K) j) ≡ at j
    ghost-number j h = ap number_of (ghosts-at K (le_refl K) j h) ∙ sound_number run.mesh S.mesh_sound_lem (at j) (kept_found K test j 0 h).0

    ghost-in-form : (j : ℕ) → j < count_below K test → in_form (number_of (ghost_at (ghosts K) j)) (ghost_at (ghosts K) j) ≡ true
    ghost-in-form j h = rw (ghost-number j h, ghosts-at K (le_refl K) j h) (sound_form run.mesh S.mesh_sound_lem (at j) (kept_found K test j 0 h).0)

    ghost-out : (k : ℕ) → test k ≡ true → holds run.new run.rank k ≡ false
    unfolding is_ghost
    ghost-out k e = not-true (holds run.new run.rank k) (and_fst (not (holds run.new run.rank k)) _ (heard_ghost k e))

    canonical-held : InReceive run H → Held run.old run.new run.rank H slot (count_below K test) (ghosts K)
    canonical-held r =
        record {
          bit_rank = λ s h t. r.below s t;
          bit_due = λ s h t. r.due s t;
          tree_form = λ i h t. rw (slot_core i t) (sound_form run.mesh S.mesh_sound_lem (first_tree run.new run.rank + i) (own_tree i h));
          tree_number = λ i h t. rw (slot_core i t) (sound_number run.mesh S.mesh_sound_lem (first_tree run.new run.rank + i) (own_tree i h));
          tree_zero = λ i h t. slot-zero i t;
          ghosts_held =
              record {
                long = λ j h. rw (ghosts-at K (le_refl K) j h) (core-long (at j) (kept_found K test j 0 h).0);
                form = ghost-in-form;
                below = λ j h. omega (arith, ghost-number j h, (kept_found K test j 0 h).0, S.same_trees_lem);
                outside = λ j h. rw (ghost-number j h) (ghost-out (at j) (kept_found K test j 0 h).1);
                ascends = λ i j l h. rw (ghost-number i (omega arith), ghost-number j h) (kept_ascends K test i j 0 l h);
              };
        }

    -- where only ranks of the receive set are heard, the area is sound
    pub canonical_sound : (tail : List ℕ) → InReceive run H → area_sound (canonical run H ++ tail) ≡ true
    unfolding canonical
    canonical_sound tail r = area_sound_lem run.epoch (mesh_dimension run.mesh) run.old run.new run.rank H slot (count_below K test) (ghosts K) tail canonical_zones (canonical-held r) (heard_few run S H)

  -- ---- what it depends on

  -- two heard sets of ranks of the receive set that agree below P are equal
  heard-agree : (H₁ H₂ : ℕ → Bool) → InReceive run H₁ → InReceive run H₂ → ((s : ℕ) → s < ranks run.old → H₁ s ≡ H₂ s) → (s : ℕ) → H₁ s ≡ H₂ s
  heard-agree H₁ H₂ r₁ r₂ e s =
      iff_eq (H₁ s) (H₂ s) (λ t. sym (e s (r₁.below s t)) ∙ t) (λ t. e s (r₂.below s t) ∙ t)

  -- equal heard sets give equal areas
  pub canonical_agree : (H₁ H₂ : ℕ → Bool) → ((s : ℕ) → H₁ s ≡ H₂ s) → canonical run H₁ ≡ canonical run H₂
  canonical_agree H₁ H₂ e = ap (canonical run) (fun_ext e)

  -- equal areas have heard the same ranks, whatever stands behind them
  pub canonical_apart_behind : Setting run → (H₁ H₂ : ℕ → Bool) (tail₁ tail₂ : List ℕ)
      → canonical run H₁ ++ tail₁ ≡ canonical run H₂ ++ tail₂ → (s : ℕ) → s < ranks run.old → H₁ s ≡ H₂ s
  canonical_apart_behind S H₁ H₂ tail₁ tail₂ e s h =
      sym ((canonical_reads S H₁ tail₁).at_heard s (rank_bit S H₁ s h)) ∙ ap (λ (a : List ℕ). heard a s) e ∙ (canonical_reads S H₂ tail₂).at_heard s (rank_bit S H₂ s h)

  pub canonical_apart : Setting run → (H₁ H₂ : ℕ → Bool) → canonical run H₁ ≡ canonical run H₂
      → (s : ℕ) → s < ranks run.old → H₁ s ≡ H₂ s
  canonical_apart S H₁ H₂ e = canonical_apart_behind S H₁ H₂ [] [] (ap (λ (a : List ℕ). a ++ []) e)

  -- ---- the fresh area

  nobody-none : (s : ℕ) → false ≡ nobody s
  unfolding nobody
  nobody-none s = refl

  nobody-ghost : (k : ℕ) → ghost_heard run (nobody) k ≡ false
  unfolding ghost_heard nobody
  nobody-ghost k = and-false (is_ghost (mesh_core run.mesh) run.new run.rank k)

  nobody-ghosts : (k : ℕ) → ghosts_heard run (nobody) k ≡ []
  unfolding ghosts_heard
  nobody-ghosts zero = refl
  nobody-ghosts (suc k) = rw (nobody-ghosts k, nobody-ghost k)

  nobody-slot : (i : ℕ) → slot_heard run (nobody) i ≡ replicate tree_size 0
  unfolding slot_heard nobody
  nobody-slot i = refl

  -- in the fresh area nobody is heard
  pub fresh_canonical : fresh_area run.old run.new run.rank (mesh_dimension run.mesh) run.epoch ≡ canonical run (nobody)
  unfolding fresh_area canonical
  fresh_canonical =
      rw (nobody-ghosts (mesh_trees run.mesh), count_none (mesh_trees run.mesh) (ghost_heard run (nobody)) (λ k h. nobody-ghost k))
      (area_same run.epoch (mesh_dimension run.mesh) run.old run.new run.rank (λ s. false) (nobody) (λ i. replicate tree_size 0) (slot_heard run (nobody)) 0 []
      (λ s h. nobody-none s) (λ i h. sym (nobody-slot i)))
