-- Trees behind each other that are alike: what is found of the first holds of all.
use Rattle.std.proofs.Common.{◌≡◌, ℕ, ◌+◌, ◌*◌, ◌%◌, ◌^◌, ◌<◌, ◌≤◌, Bool, true, false, cond, ◌&&◌, eqb, ltb, List, length, get_or, sym, ap, ◌∙◌, subst, le_refl, mod-eq_of_lt, arith, ltb-true, le-ltb, lt-ltb, eq-eqb, eqb-true}
use Rattle.encoding.specs.Below.{all_below, count_below}
use Rattle.encoding.specs.Numbers.{u32_at}
use Rattle.encoding.proofs.Below.{either, tests, iff_eq, and_fst, and_snd, and_intro, all_add, all_intro, count_add, count_initial, count_none}
use Rattle.encoding.proofs.Numbers.{four_bytes}
use Rattle.records.specs.Shape.{face_count, faces_in}
use Rattle.records.specs.Record.{core_size, number_of, shape_of, neighbour_of, code_of, faces_of, face_of, orientation_of, region_of, region_ok, zeros_ok, to_itself, boundary_ok}
use Rattle.records.specs.Means.{face_form}
use Rattle.mesh.specs.Means.{corners_by_dimension, answered_there, answered_by_dimension, link_by_dimension}
use Rattle.part_check.specs.Means.{tree_to, tree_face, tree_up, tree_down, tree_numbered}
use Rattle.columns_read.specs.Columns.{spaced}
use Rattle.columns_read.specs.Means.{tree_column, ghost_column, head_ok, side_ok, side_has, tree_head, tree_side, tree_side_up, tree_side_down, SidesAlike, same_byte, counts_on, side_like, head_like, side_run, head_run, Run}
use Rattle.columns_read.proofs.Spaced.{spaced_length}
use Rattle.columns_read.proofs.Reading.{two}

-- ---- a run

module _ {test : ℕ → Bool} {low : ℕ} where
  pub run_none : Run test low 0 64
  run_none = record { few = omega arith; room = λ k p q. absurd (omega arith); like = λ k p q s. absurd (omega arith) }

  pub run_start : {some : ℕ} → some ≤ 64 → low + some < 256 → Run test low some 0
  run_start h l = record { few = h; room = λ k p q. omega arith; like = λ k p q s. absurd (omega arith) }

  pub run_alike : {some i v : ℕ} → Run test low some i → test (i + 1) ≡ true → v ≤ some → Run test low v (i + 1)
  run_alike {some} {i} so_far found a =
      record {
        few = omega (arith, so_far.few);
        room = λ k p q. so_far.room k p (omega arith);
        like = λ k p q s.
            either (ltb i k)
            (λ t. let last : k ≡ i + 1 = omega tests in rw last found)
            (λ t. so_far.like k p (omega tests) (omega arith));
      }

  pub run_other : {some i v : ℕ} → Run test low some i → v ≤ some → v ≤ i → Run test low v (i + 1)
  run_other so_far a b =
      record {
        few = omega (arith, so_far.few);
        room = λ k p q. so_far.room k p (omega arith);
        like = λ k p q s. so_far.like k p (omega arith) (omega arith);
      }

  pub run_whole : {some i : ℕ} → Run test low some i → 64 ≤ i → Run test low some 64
  run_whole so_far h = record { few = so_far.few; room = so_far.room; like = λ k p q s. so_far.like k p (omega arith) s }

  pub run_less : {some v : ℕ} → Run test low some 64 → v ≤ some → Run test low v 64
  run_less so_far h = record { few = omega (arith, so_far.few); room = λ k p q. so_far.room k p (omega arith); like = λ k p q s. so_far.like k p q (omega arith) }

  -- of each record of a run
  pub run_at : {some : ℕ} → Run test low some 64 → (k : ℕ) → 0 < k → k ≤ some → test k ≡ true
  run_at so_far k p q = so_far.like k p (omega (arith, so_far.few)) q

-- a test that passes at i, and then as often as there
pub all_run : (i r : ℕ) (f : ℕ → Bool) → all_below i f ≡ true → f i ≡ true → ((k : ℕ) → k ≤ r → f (i + k) ≡ f i) → all_below (i + (r + 1)) f ≡ true
all_run i r f h e on =
    all_add i (r + 1) f ∙ and_intro (all_below i f) (all_below (r + 1) (λ k. f (i + k))) h (all_intro (r + 1) (λ k. f (i + k)) (λ k l. on k (omega arith) ∙ e))

-- as many count as there are, or none
pub count_run : {ups t : ℕ} {b : Bool} (i r : ℕ) (f : ℕ → Bool) → ups ≡ count_below i f → b ≡ f i → t ≡ cond b (r + 1) 0 → ((k : ℕ) → k ≤ r → f (i + k) ≡ f i) → ups + t ≡ count_below (i + (r + 1)) f
count_run i r f so_far e q on =
    let all : count_below (r + 1) (λ k. f (i + k)) ≡ cond (f i) (r + 1) 0 =
    either (f i)
    (λ p. rw p (count_initial (r + 1) (λ k. f (i + k)) (r + 1) (le_refl (r + 1)) (λ k l. on k (omega arith) ∙ p) (λ k l h. absurd (omega arith))))
    (λ p. rw p (count_none (r + 1) (λ k. f (i + k)) (λ k l. on k (omega arith) ∙ p))) in
    rw (so_far, q, e, ← all) (sym (count_add i (r + 1) f))

-- ---- two records

module _ (r s : List ℕ) where
  pub same_read : {a b : ℕ} (j : ℕ) → a ≡ get_or s j 0 → b ≡ get_or r j 0 → eqb a b ≡ same_byte r s j
  unfolding same_byte
  same_read j p q = rw (p, q)

  pub counts_read : {a b w : ℕ} {x y z : Bool} (j k : ℕ) → a ≡ get_or s j 0 → b ≡ get_or r j 0 → w ≡ (b + k) % 2 ^ 8 → x ≡ same_byte r s (j + 1) → y ≡ same_byte r s (j + 2) → z ≡ same_byte r s (j + 3)
      → (eqb a w && (x && (y && z))) ≡ counts_on r s j k
  unfolding counts_on
  counts_read j k p q e x y z = rw (p, e, q, x, y, z)

  same_byte_lem : (j : ℕ) → same_byte r s j ≡ true → get_or s j 0 ≡ get_or r j 0
  unfolding same_byte
  same_byte_lem j h = eqb-true (get_or s j 0) (get_or r j 0) h

  module _ (j k : ℕ) (long : j + 4 ≤ length r) (other : j + 4 ≤ length s) (room : get_or r j 0 + k < 256) (h : counts_on r s j k ≡ true) where
    low_byte : get_or s j 0 ≡ get_or r j 0 + k
    unfolding counts_on
    low_byte =
        eqb-true (get_or s j 0) ((get_or r j 0 + k) % 256) (and_fst (eqb (get_or s j 0) ((get_or r j 0 + k) % 256)) (same_byte r s (j + 1) && (same_byte r s (j + 2) && same_byte r s (j + 3))) h)
        ∙ mod-eq_of_lt room

    high-bytes : (same_byte r s (j + 1) && (same_byte r s (j + 2) && same_byte r s (j + 3))) ≡ true
    unfolding counts_on
    high-bytes = and_snd (eqb (get_or s j 0) ((get_or r j 0 + k) % 256)) (same_byte r s (j + 1) && (same_byte r s (j + 2) && same_byte r s (j + 3))) h

    counts-number : u32_at s j ≡ u32_at r j + k
    counts-number =
        let b1 : get_or s (j + 1) 0 ≡ get_or r (j + 1) 0 = same_byte_lem (j + 1) (and_fst (same_byte r s (j + 1)) (same_byte r s (j + 2) && same_byte r s (j + 3)) high-bytes) in
        let rest : (same_byte r s (j + 2) && same_byte r s (j + 3)) ≡ true = and_snd (same_byte r s (j + 1)) (same_byte r s (j + 2) && same_byte r s (j + 3)) high-bytes in
        let b2 : get_or s (j + 2) 0 ≡ get_or r (j + 2) 0 = same_byte_lem (j + 2) (and_fst (same_byte r s (j + 2)) (same_byte r s (j + 3)) rest) in
        let b3 : get_or s (j + 3) 0 ≡ get_or r (j + 3) 0 = same_byte_lem (j + 3) (and_snd (same_byte r s (j + 2)) (same_byte r s (j + 3)) rest) in
        sym (four_bytes s j other) ∙ (rw (low_byte, b1, b2, b3) (omega arith) ∙ ap (λ (x : ℕ). x + k) (four_bytes r j long))

-- what a face has in common with that of a record k before
pub record SideLike (f : ℕ) (r s : List ℕ) (k : ℕ) : Type 0 where
  pub neighbour : neighbour_of s f ≡ neighbour_of r f + k
  pub code : code_of s f ≡ code_of r f
  pub shape : shape_of s ≡ shape_of r

-- and all but the faces
pub record HeadLike (r s : List ℕ) (k : ℕ) : Type 0 where
  pub number : number_of s ≡ number_of r + k
  pub shape : shape_of s ≡ shape_of r
  pub zeros : zeros_ok s ≡ zeros_ok r
  pub region : region_ok s ≡ region_ok r

module _ (r s : List ℕ) (k : ℕ) (long : length r ≡ 40) (other : length s ≡ 40) where
  side-like : (f : ℕ) → f < 6 → get_or r (8 + 4 * f) 0 + k < 256 → side_like f r s k ≡ true → SideLike f r s k
  unfolding side_like neighbour_of code_of shape_of
  side-like f l room h =
      let rest : (same_byte r s (32 + f) && same_byte r s 4) ≡ true = and_snd (counts_on r s (8 + 4 * f) k) (same_byte r s (32 + f) && same_byte r s 4) h in
      record {
        neighbour = counts-number r s (8 + 4 * f) k (omega arith) (omega arith) room (and_fst (counts_on r s (8 + 4 * f) k) (same_byte r s (32 + f) && same_byte r s 4) h);
        code = same_byte_lem r s (32 + f) (and_fst (same_byte r s (32 + f)) (same_byte r s 4) rest);
        shape = same_byte_lem r s 4 (and_snd (same_byte r s (32 + f)) (same_byte r s 4) rest);
      }

  head-like : get_or r 0 0 + k < 256 → head_like r s k ≡ true → HeadLike r s k
  unfolding head_like number_of shape_of zeros_ok region_ok region_of
  head-like room h =
      let h4 = and_snd (counts_on r s 0 k) (same_byte r s 4 && (same_byte r s 5 && (same_byte r s 6 && (same_byte r s 7 && (same_byte r s 38 && same_byte r s 39))))) h in
      let h5 = and_snd (same_byte r s 4) (same_byte r s 5 && (same_byte r s 6 && (same_byte r s 7 && (same_byte r s 38 && same_byte r s 39)))) h4 in
      let h6 = and_snd (same_byte r s 5) (same_byte r s 6 && (same_byte r s 7 && (same_byte r s 38 && same_byte r s 39))) h5 in
      let h7 = and_snd (same_byte r s 6) (same_byte r s 7 && (same_byte r s 38 && same_byte r s 39)) h6 in
      let h8 = and_snd (same_byte r s 7) (same_byte r s 38 && same_byte r s 39) h7 in
      let b5 : get_or s 5 0 ≡ get_or r 5 0 = same_byte_lem r s 5 (and_fst (same_byte r s 5) (same_byte r s 6 && (same_byte r s 7 && (same_byte r s 38 && same_byte r s 39))) h5) in
      let b6 : get_or s 6 0 ≡ get_or r 6 0 = same_byte_lem r s 6 (and_fst (same_byte r s 6) (same_byte r s 7 && (same_byte r s 38 && same_byte r s 39)) h6) in
      let b7 : get_or s 7 0 ≡ get_or r 7 0 = same_byte_lem r s 7 (and_fst (same_byte r s 7) (same_byte r s 38 && same_byte r s 39) h7) in
      let b38 : get_or s 38 0 ≡ get_or r 38 0 = same_byte_lem r s 38 (and_fst (same_byte r s 38) (same_byte r s 39) h8) in
      let b39 : get_or s 39 0 ≡ get_or r 39 0 = same_byte_lem r s 39 (and_snd (same_byte r s 38) (same_byte r s 39) h8) in
      record {
        number = counts-number r s 0 k (omega arith) (omega arith) room (and_fst (counts_on r s 0 k) (same_byte r s 4 && (same_byte r s 5 && (same_byte r s 6 && (same_byte r s 7 && (same_byte r s 38 && same_byte r s 39))))) h);
        shape = same_byte_lem r s 4 (and_fst (same_byte r s 4) (same_byte r s 5 && (same_byte r s 6 && (same_byte r s 7 && (same_byte r s 38 && same_byte r s 39)))) h4);
        zeros = rw (b5, b6, b7);
        region = rw (two r (omega arith), two s (omega arith), b38, b39);
      }

-- ---- in the file

-- numbers that are as much more are equal where the numbers are
eqb_add : (a b k : ℕ) → eqb (a + k) (b + k) ≡ eqb a b
eqb_add a b k = iff_eq (eqb (a + k) (b + k)) (eqb a b) (λ p. eq-eqb a b (omega (arith, eqb-true (a + k) (b + k) p))) (λ p. eq-eqb (a + k) (b + k) (omega (arith, eqb-true a b p)))

ltb_add : (a b k : ℕ) → ltb (a + k) (b + k) ≡ ltb a b
ltb_add a b k = iff_eq (ltb (a + k) (b + k)) (ltb a b) (λ p. lt-ltb a b (omega (arith, ltb-true (a + k) (b + k) p))) (λ p. lt-ltb (a + k) (b + k) (omega (arith, ltb-true a b p)))

module _ (D first n g K f i k : ℕ) (tree ghostly : ℕ → List ℕ) where
  module _ (own : SideLike f (tree i) (tree (i + k)) k) (held : neighbour_of (tree i) f + k < n) where
    up_same : tree_up n tree (i + k) f ≡ tree_up n tree i f
    unfolding tree_up
    up_same =
        let before : neighbour_of (tree i) f < n = omega arith in
        rw (own.neighbour, ltb_add i (neighbour_of (tree i) f) k, lt-ltb (neighbour_of (tree i) f + k) n held, lt-ltb (neighbour_of (tree i) f) n before)

    side-up-same : tree_side_up n tree f (i + k) ≡ tree_side_up n tree f i
    unfolding tree_side_up side_has
    side-up-same = rw (up_same, own.shape)

    side-down-same : tree_side_down n tree f (i + k) ≡ tree_side_down n tree f i
    unfolding tree_side_down side_has tree_down
    side-down-same = rw (up_same, own.shape, own.neighbour, eqb_add (neighbour_of (tree i) f) i k)

    module _ (used : f < face_count (shape_of (tree i))) where
      -- a link that isn't followed
      side-same-up : tree_up n tree i f ≡ true → tree_side (link_by_dimension D) first n g tree ghostly D K f (i + k) ≡ tree_side (link_by_dimension D) first n g tree ghostly D K f i
      unfolding tree_side side_ok face_form boundary_ok to_itself face_of orientation_of faces_of
      side-same-up up =
          rw (up_same, up, own.neighbour, own.code, own.shape, lt-ltb f (face_count (shape_of (tree i))) used, eqb_add (neighbour_of (tree i) f) i k)

      -- one that is, where the neighbours are alike too
      side_same : tree_up n tree i f ≡ false → SideLike (code_of (tree i) f % faces_in D) (tree (neighbour_of (tree i) f)) (tree (neighbour_of (tree i) f + k)) k
          → tree_side (link_by_dimension D) first n g tree ghostly D K f (i + k) ≡ tree_side (link_by_dimension D) first n g tree ghostly D K f i
      unfolding tree_side side_ok face_form boundary_ok to_itself face_of orientation_of faces_of tree_face tree_to link_by_dimension corners_by_dimension answered_by_dimension answered_there
      side_same down others =
          let before : neighbour_of (tree i) f < n = omega arith in
          rw (
            up_same,
            down,
            own.neighbour,
            own.code,
            own.shape,
            lt-ltb f (face_count (shape_of (tree i))) used,
            lt-ltb (neighbour_of (tree i) f + k) n held,
            lt-ltb (neighbour_of (tree i) f) n before,
            others.neighbour,
            others.code,
            others.shape,
            eqb_add (neighbour_of (tree i) f) i k,
            eqb_add (neighbour_of (tree (neighbour_of (tree i) f)) (code_of (tree i) f % faces_in D)) i k,
          )

  head-same : HeadLike (tree i) (tree (i + k)) k → tree_head (link_by_dimension D) first n g tree ghostly D K (i + k) ≡ tree_head (link_by_dimension D) first n g tree ghostly D K i
  unfolding tree_head tree_numbered head_ok
  head-same like =
      let e : first + (i + k) ≡ first + i + k = omega arith in
      rw (like.number, like.shape, like.zeros, like.region, e, eqb_add (number_of (tree i)) (first + i) k)

module _ (file : List ℕ) (step : ℕ) where
  module _ (off k : ℕ) where
    abbrev core : List ℕ
    core = spaced file off step core_size

    abbrev behind : List ℕ
    behind = spaced file (off + k) step core_size

    pub side_read : {x y z : Bool} (f : ℕ) → x ≡ counts_on core behind (8 + 4 * f) k → y ≡ same_byte core behind (32 + f) → z ≡ same_byte core behind 4 → (x && (y && z)) ≡ side_run file off step f k
    unfolding side_run side_like
    side_read f p q s = rw (p, q, s)

    pub head_read : {x a b d e u v : Bool} → x ≡ counts_on core behind 0 k → a ≡ same_byte core behind 4 → b ≡ same_byte core behind 5 → d ≡ same_byte core behind 6 → e ≡ same_byte core behind 7 → u ≡ same_byte core behind 38 → v ≡ same_byte core behind 39
        → (x && (a && (b && (d && (e && (u && v)))))) ≡ head_run file off step k
    unfolding head_run head_like
    head_read p a b d e u v = rw (p, a, b, d, e, u, v)

  side-run : (off k f : ℕ) {some : ℕ} → f < 6 → Run (side_run file off step f) (get_or (spaced file off step core_size) (8 + 4 * f) 0) some 64 → 0 < k → k ≤ some
      → SideLike f (spaced file off step core_size) (spaced file (off + k) step core_size) k
  unfolding side_run
  side-run off k f l run p q =
      side-like (spaced file off step core_size) (spaced file (off + k) step core_size) k (spaced_length file off step 40) (spaced_length file (off + k) step 40) f l (run.room k p q) (run_at run k p q)

  head-run : (off k : ℕ) {some : ℕ} → Run (head_run file off step) (get_or (spaced file off step core_size) 0 0) some 64 → 0 < k → k ≤ some
      → HeadLike (spaced file off step core_size) (spaced file (off + k) step core_size) k
  unfolding head_run
  head-run off k run p q =
      head-like (spaced file off step core_size) (spaced file (off + k) step core_size) k (spaced_length file off step 40) (spaced_length file (off + k) step 40) (run.room k p q) (run_at run k p q)

module _ (file : List ℕ) (n : ℕ) where
  side-trees : (i k f : ℕ) → SideLike f (spaced file (32 + i) n core_size) (spaced file (32 + i + k) n core_size) k → SideLike f (tree_column file n i) (tree_column file n (i + k)) k
  unfolding tree_column
  side-trees i k f like = let e : 32 + i + k ≡ 32 + (i + k) = omega arith in subst (λ (x : ℕ). SideLike f (spaced file (32 + i) n core_size) (spaced file x n core_size) k) e like

  head-trees : (i k : ℕ) → HeadLike (spaced file (32 + i) n core_size) (spaced file (32 + i + k) n core_size) k → HeadLike (tree_column file n i) (tree_column file n (i + k)) k
  unfolding tree_column
  head-trees i k like = let e : 32 + i + k ≡ 32 + (i + k) = omega arith in subst (λ (x : ℕ). HeadLike (spaced file (32 + i) n core_size) (spaced file x n core_size) k) e like

  neighbour-tree : (i f : ℕ) {j : ℕ} → j ≡ u32_at (spaced file (32 + i) n core_size) (8 + 4 * f) → j ≡ neighbour_of (tree_column file n i) f
  unfolding tree_column neighbour_of
  neighbour-tree i f e = e

  code-tree : (i f : ℕ) {code : ℕ} → code ≡ get_or (spaced file (32 + i) n core_size) (32 + f) 0 → code ≡ code_of (tree_column file n i) f
  unfolding tree_column code_of
  code-tree i f e = e

  shape-tree : (i : ℕ) {shape : ℕ} → shape ≡ get_or (spaced file (32 + i) n core_size) 4 0 → shape ≡ shape_of (tree_column file n i)
  unfolding tree_column shape_of
  shape-tree i e = e

  module _ (D first g K i : ℕ) where
    -- the tree itself
    pub sides_none : (f : ℕ) → i < n → SidesAlike (link_by_dimension D) first n g (tree_column file n) (ghost_column file n g) D K f i 0
    sides_none f h =
        record {
          within = omega arith;
          sound = λ k l. let e : i + k ≡ i = omega arith in ap (λ (x : ℕ). tree_side (link_by_dimension D) first n g (tree_column file n) (ghost_column file n g) D K f x) e;
          up = λ k l. let e : i + k ≡ i = omega arith in ap (λ (x : ℕ). tree_side_up n (tree_column file n) f x) e;
          down = λ k l. let e : i + k ≡ i = omega arith in ap (λ (x : ℕ). tree_side_down n (tree_column file n) f x) e;
        }

    pub heads_none : (k : ℕ) → k ≤ 0 → tree_head (link_by_dimension D) first n g (tree_column file n) (ghost_column file n g) D K (i + k) ≡ tree_head (link_by_dimension D) first n g (tree_column file n) (ghost_column file n g) D K i
    heads_none k h = let e : i + k ≡ i = omega arith in ap (λ (x : ℕ). tree_head (link_by_dimension D) first n g (tree_column file n) (ghost_column file n g) D K x) e

    pub heads_run : {r : ℕ} → Run (head_run file (32 + i) n) (get_or (spaced file (32 + i) n core_size) 0 0) r 64
        → (k : ℕ) → k ≤ r → tree_head (link_by_dimension D) first n g (tree_column file n) (ghost_column file n g) D K (i + k) ≡ tree_head (link_by_dimension D) first n g (tree_column file n) (ghost_column file n g) D K i
    heads_run run k h =
        either (ltb 0 k)
        (λ t. head-same D first n g K 0 i k (tree_column file n) (ghost_column file n g) (head-trees i k (head-run file n (32 + i) k run (ltb-true 0 k t) h)))
        (λ t. heads_none k (omega tests))

    module _ (f : ℕ) (six : f < 6) {own j shape faces r : ℕ}
        (mine : Run (side_run file (32 + i) n f) (get_or (spaced file (32 + i) n core_size) (8 + 4 * f) 0) own 64)
        (to : j ≡ u32_at (spaced file (32 + i) n core_size) (8 + 4 * f))
        (shaped : shape ≡ get_or (spaced file (32 + i) n core_size) 4 0) (counted : faces ≡ face_count shape) (used : f < faces)
        (here : i + 64 < n) (held : j + 64 < n) (a : r ≤ own) where
      like : (k : ℕ) → 0 < k → k ≤ r → SideLike f (tree_column file n i) (tree_column file n (i + k)) k
      like k p h = side-trees i k f (side-run file n (32 + i) k f six mine p (omega arith))

      across : (k : ℕ) → k ≤ r → neighbour_of (tree_column file n i) f + k < n
      across k h = subst (λ (x : ℕ). x + k < n) (neighbour-tree i f to) (omega (arith, mine.few))

      has : f < face_count (shape_of (tree_column file n i))
      has = subst (λ (x : ℕ). f < x) (counted ∙ ap face_count (shape-tree i shaped)) used

      upward : tree_up n (tree_column file n) i f ≡ (ltb i j && ltb j n)
      unfolding tree_up
      upward = rw (sym (neighbour-tree i f to))

      -- where the trees' sides are
      alike : ((k : ℕ) → 0 < k → k ≤ r → tree_side (link_by_dimension D) first n g (tree_column file n) (ghost_column file n g) D K f (i + k) ≡ tree_side (link_by_dimension D) first n g (tree_column file n) (ghost_column file n g) D K f i)
          → SidesAlike (link_by_dimension D) first n g (tree_column file n) (ghost_column file n g) D K f i r
      alike sound =
          let self = sides_none f (omega arith) in
          record {
            within = omega (arith, mine.few);
            sound = λ k h. either (ltb 0 k) (λ t. sound k (ltb-true 0 k t) h) (λ t. self.sound k (omega tests));
            up = λ k h. either (ltb 0 k) (λ t. side-up-same D first n g K f i k (tree_column file n) (ghost_column file n g) (like k (ltb-true 0 k t) h) (across k h)) (λ t. self.up k (omega tests));
            down = λ k h. either (ltb 0 k) (λ t. side-down-same D first n g K f i k (tree_column file n) (ghost_column file n g) (like k (ltb-true 0 k t) h) (across k h)) (λ t. self.down k (omega tests));
          }

      pub sides_up : i < j → SidesAlike (link_by_dimension D) first n g (tree_column file n) (ghost_column file n g) D K f i r
      sides_up less =
          let up : tree_up n (tree_column file n) i f ≡ true = upward ∙ and_intro (ltb i j) (ltb j n) (lt-ltb i j less) (lt-ltb j n (omega arith)) in
          alike (λ k p h. side-same-up D first n g K f i k (tree_column file n) (ghost_column file n g) (like k p h) (across k h) has up)

      module _ {code there others : ℕ} (coded : code ≡ get_or (spaced file (32 + i) n core_size) (32 + f) 0) (face : there ≡ code % faces_in D) (small : there < 6)
          (theirs : Run (side_run file (32 + j) n there) (get_or (spaced file (32 + j) n core_size) (8 + 4 * there) 0) others 64) (b : r ≤ others) where
        pub sides_run : j ≤ i → SidesAlike (link_by_dimension D) first n g (tree_column file n) (ghost_column file n g) D K f i r
        sides_run low =
            let down : tree_up n (tree_column file n) i f ≡ false = upward ∙ ap (λ (x : Bool). x && ltb j n) (le-ltb i j low) in
            alike
            (λ k p h.
            let turned : there ≡ code_of (tree_column file n i) f % faces_in D = face ∙ ap (λ (x : ℕ). x % faces_in D) (code-tree i f coded) in
            let other : SideLike there (tree_column file n j) (tree_column file n (j + k)) k = side-trees j k there (side-run file n (32 + j) k there small theirs p (omega arith)) in
            side_same D first n g K f i k (tree_column file n) (ghost_column file n g) (like k p h) (across k h) has down
            (subst (λ (x : ℕ). SideLike (code_of (tree_column file n i) f % faces_in D) (tree_column file n x) (tree_column file n (x + k)) k) (neighbour-tree i f to)
            (subst (λ (x : ℕ). SideLike x (tree_column file n j) (tree_column file n (j + k)) k) turned other)))
