-- A part under another table and rank with the same trees.
use Prim.Native.Nat.{ℕ, zero, suc, ◌+◌, ◌-◌, ◌≤◌, ◌<◌}
use native.Mathlib.Omega.{arith}
use mathlib.Core.Path.{◌≡◌, refl, sym, ap, ap₂, fun_ext, ◌∙◌}
use mathlib.Core.Bool.{Bool, true, cond, not, ◌&&◌}
use mathlib.Core.List.{List, ◌++◌, append_assoc}
use lib.Dec.{eqb}
use lib.ListN.{length, take, drop, length-append}
use lib.Seq.{length-take-le, take_at, drop_at, drop-append-add}
use borrow.Author.Tests.{eqb-true, eq-eqb}
use Rattle.encoding.specs.Below.{any_below, count_below, kept_below}
use Rattle.encoding.specs.Numbers.{le_value, le_bytes, le_at, u32_at}
use Rattle.encoding.specs.Pieces.{piece, splice, Bytes}
use Rattle.encoding.proofs.Below.{and_fst, and_snd}
use Rattle.encoding.proofs.Numbers.{bytes_length, value_bytes, at_bytes}
use Rattle.encoding.proofs.Pieces.{piece_below, piece_above, piece_add, splice_drop, splice_piece}
use Rattle.offsets.specs.Table.{ranks, trees, first_tree, end_tree, tree_count, holds}
use Rattle.offsets.proofs.OnePass.{ranks_known}
use Rattle.offsets.proofs.Tables.{count_add}
use Rattle.records.specs.Record.{core_size, unused, neighbour_of, shape_of}
use Rattle.records.specs.Shape.{face_count}
use Rattle.mesh.specs.Mesh.{mesh_dimension, mesh_trees, mesh_core}
use Rattle.part.specs.Layout.{tree_place, ghost_place, part_size, header_bytes}
use Rattle.part.specs.Ghosts.{is_ghost, ghosts_of, ghost_position}
use Rattle.part.specs.Cut.{cores_of, local_index, part_tree, part_trees, part_ghosts, ghost_count, cut_part}
use Rattle.part.specs.View.{records_hold}
use Rattle.part.specs.Part.{part_dimension, part_k, part_first, part_count, part_ghost_count, stored_tree, stored_ghost, global_number, global_tree, view_of, part_header_sound, part_sound}
use Rattle.part_theorems.proofs.SoundParts.{PartSays, part_header_lem, part_length}
use Rattle.restart.specs.Restart.{same_trees, relabelled}
use Rattle.restart.specs.Theorems.{EqualBoth, RelabelsParts}
use Rattle.restart.proofs.Checks.{PairKnown, pair_known}
use Rattle.restart.proofs.Writing.{part_long, relabelled_length}

-- ---- bytes 8 to 15

label_long : (o : List ℕ) (q : ℕ) → length (le_bytes 4 (ranks o) ++ le_bytes 4 q) ≡ 8
label_long o q = rw (length-append, bytes_length 4 (ranks o), bytes_length 4 q)

-- in the place of as many bytes
splice_middle : (a m x z : List ℕ) (off : ℕ) → length a ≡ off → length m ≡ length x → splice (a ++ (m ++ z)) off x ≡ a ++ (x ++ z)
unfolding splice
splice_middle a m x z off la lm =
    let d : drop (length a + length x) (a ++ (m ++ z)) ≡ drop (length x) (m ++ z) = drop-append-add a (m ++ z) (length x) in
    rw (take_at a (m ++ z) off la, rw la at d, drop_at m z (length x) lm)

front : (x y : List ℕ) (off : ℕ) → splice x off y ≡ take off x ++ (y ++ drop (off + length y) x)
unfolding splice
front x y off = refl

front_kept : (x y : List ℕ) (off : ℕ) → length (take off x) ≡ off → take off (splice x off y) ≡ take off x
unfolding splice
front_kept x y off l = take_at (take off x) (y ++ drop (off + length y) x) off l

splice_twice : (bs a b : List ℕ) (off : ℕ) → length a ≡ length b → off + length a ≤ length bs → splice (splice bs off a) off b ≡ splice bs off b
splice_twice bs a b off e h =
    let l : length (take off bs) ≡ off = length-take-le off bs (omega arith) in
    let d : drop (off + length a) (splice bs off a) ≡ drop (off + length a) bs = splice_drop bs off a h in
    front (splice bs off a) b off ∙ ap₂ (λ (x y : List ℕ). x ++ (b ++ y)) (front_kept bs a off l) (rw e at d) ∙ sym (front bs b off)

at_middle : (v off : ℕ) (a r : List ℕ) → length a ≡ off → v < 4294967296 → u32_at (a ++ (le_bytes 4 v ++ r)) off ≡ v
unfolding le_at piece
at_middle v off a r l h = rw (drop_at a (le_bytes 4 v ++ r) off l, take_at (le_bytes 4 v) r 4 (bytes_length 4 v)) (value_bytes 4 v h)

-- ---- the same trees

module _ (t : List ℕ) (p : ℕ) (o : List ℕ) (q : ℕ) (t-bytes : Bytes t) (o-bytes : Bytes o) (known : PairKnown t p o q) (same : same_trees t p o q ≡ true) where
  two : (eqb (trees t) (trees o) && eqb (first_tree t p) (first_tree o q)) ≡ true
  unfolding same_trees
  two = and_fst (eqb (trees t) (trees o) && eqb (first_tree t p) (first_tree o q)) (eqb (tree_count t p) (tree_count o q)) same

  same_trees_lem : trees t ≡ trees o
  same_trees_lem = eqb-true (trees t) (trees o) (and_fst (eqb (trees t) (trees o)) (eqb (first_tree t p) (first_tree o q)) two)

  same_first : first_tree t p ≡ first_tree o q
  same_first = eqb-true (first_tree t p) (first_tree o q) (and_snd (eqb (trees t) (trees o)) (eqb (first_tree t p) (first_tree o q)) two)

  same_count : tree_count t p ≡ tree_count o q
  unfolding same_trees
  same_count = eqb-true (tree_count t p) (tree_count o q) (and_snd (eqb (trees t) (trees o) && eqb (first_tree t p) (first_tree o q)) (eqb (tree_count t p) (tree_count o q)) same)

  same_end : end_tree t p ≡ end_tree o q
  same_end =
      omega (arith, same_first, same_count, count_add t t-bytes known.rank_is.counted known.rank_is.checked p known.rank_is.below, count_add o o-bytes known.other_is.counted known.other_is.checked q known.other_is.below)

  ranks-small : ranks o < 4294967296
  ranks-small = omega (arith, (ranks_known o known.other_is.counted).high)

  rank-small : q < 4294967296
  rank-small = omega (arith, ranks-small, known.other_is.below)

  same-holds : holds t p ≡ holds o q
  unfolding holds
  same-holds = fun_ext (λ k. rw (same_first, same_end))

  -- ---- what is cut out of a mesh

  module _ (mesh : List ℕ) where
    abbrev core : ℕ → List ℕ
    core = mesh_core mesh

    same-ghost : is_ghost core t p ≡ is_ghost core o q
    unfolding is_ghost
    same-ghost = fun_ext (λ k. ap (λ (h : ℕ → Bool). not (h k) && any_below (face_count (shape_of (core k))) (λ f. h (neighbour_of (core k) f))) same-holds)

    same-position : (k : ℕ) → ghost_position core t p k ≡ ghost_position core o q k
    unfolding ghost_position
    same-position k = ap (count_below k) same-ghost

    same_ghosts : ghost_count mesh t p ≡ ghost_count mesh o q
    unfolding ghost_count
    same_ghosts = same-position (mesh_trees mesh)

    same_cores : part_ghosts mesh t p (mesh_trees mesh) ≡ part_ghosts mesh o q (mesh_trees mesh)
    unfolding part_ghosts ghosts_of
    same_cores = ap (λ (f : ℕ → Bool). cores_of core (kept_below (mesh_trees mesh) f)) same-ghost

    local_at : (k : ℕ) → local_index mesh t p k ≡ local_index mesh o q k
    unfolding local_index
    local_at k =
        ap (λ (h : ℕ → Bool). cond (eqb k unused) unused (cond (h k) (k - first_tree t p) (tree_count t p + ghost_position core t p k))) same-holds
        ∙ rw (same_first, same_count, same-position k)

    same-local : local_index mesh t p ≡ local_index mesh o q
    same-local = fun_ext local_at

    same-tree : (i : ℕ) → part_tree mesh t p i ≡ part_tree mesh o q i
    unfolding part_tree
    same-tree i = rw (same-local, same_first)

    same-records : (n : ℕ) → part_trees mesh t p n ≡ part_trees mesh o q n
    unfolding part_trees
    same-records zero = refl
    same-records (suc n) = rw (same-records n, same-tree n)

    -- the header as its first 8 bytes, the next 8 and the rest
    header_parts : (d K P r f n g : ℕ) (rest : List ℕ)
        → header_bytes d K P r f n g ++ rest
        ≡ (le_bytes 4 d ++ le_bytes 4 K) ++ ((le_bytes 4 P ++ le_bytes 4 r) ++ ((le_bytes 4 f ++ (le_bytes 4 n ++ (le_bytes 4 g ++ le_bytes 4 0))) ++ rest))
    unfolding header_bytes
    header_parts d K P r f n g rest = simp append_assoc

    relabel-header : (d K P r f n g : ℕ) (rest : List ℕ) → splice (header_bytes d K P r f n g ++ rest) 8 (le_bytes 4 (ranks o) ++ le_bytes 4 q) ≡ header_bytes d K (ranks o) q f n g ++ rest
    relabel-header d K P r f n g rest =
        let a : List ℕ = le_bytes 4 d ++ le_bytes 4 K in
        let m : List ℕ = le_bytes 4 P ++ le_bytes 4 r in
        let x : List ℕ = le_bytes 4 (ranks o) ++ le_bytes 4 q in
        let z : List ℕ = (le_bytes 4 f ++ (le_bytes 4 n ++ (le_bytes 4 g ++ le_bytes 4 0))) ++ rest in
        let la : length a ≡ 8 = rw (length-append, bytes_length 4 d, bytes_length 4 K) in
        let lm : length m ≡ 8 = rw (length-append, bytes_length 4 P, bytes_length 4 r) in
        ap (λ (l : List ℕ). splice l 8 x) (header_parts d K P r f n g rest) ∙ splice_middle a m x z 8 la (lm ∙ sym (label_long o q)) ∙ sym (header_parts d K (ranks o) q f n g rest)

    relabel-cut : relabelled (cut_part mesh t p) o q ≡ cut_part mesh o q
    unfolding relabelled cut_part
    relabel-cut =
        relabel-header (mesh_dimension mesh) (mesh_trees mesh) (ranks t) p (first_tree t p) (tree_count t p) (ghost_count mesh t p) (part_trees mesh t p (tree_count t p) ++ part_ghosts mesh t p (mesh_trees mesh))
        ∙ rw (same_first, same_count, same_ghosts, same-records (tree_count o q), same_cores)

-- ---- what a sound part reads after it

-- two views that agree
same_view : {d d' k k' f f' n n' g g' : ℕ} {s s' a a' h h' : ℕ → List ℕ} → d ≡ d' → k ≡ k' → f ≡ f' → n ≡ n' → g ≡ g' → s ≡ s' → a ≡ a' → h ≡ h'
    → records_hold (record { dimension = d; K = k; first = f; n = n; g = g; stored = s; tree = a; ghost = h })
    ≡ records_hold (record { dimension = d'; K = k'; first = f'; n = n'; g = g'; stored = s'; tree = a'; ghost = h' })
same_view e1 e2 e3 e4 e5 e6 e7 e8 = rw (e1, e2, e3, e4, e5, e6, e7, e8)

module _ (part o : List ℕ) (q : ℕ) (long : 32 ≤ length part) where
  abbrev S : List ℕ
  S = relabelled part o q

  -- bytes before 8 and from 16 on stay
  below : (at n : ℕ) → at + n ≤ 8 → piece S at n ≡ piece part at n
  unfolding relabelled
  below at n h = piece_below part 8 (le_bytes 4 (ranks o) ++ le_bytes 4 q) at n (omega (arith, label_long o q)) h

  above : (at n : ℕ) → 16 ≤ at → piece S at n ≡ piece part at n
  unfolding relabelled
  above at n h = piece_above part 8 (le_bytes 4 (ranks o) ++ le_bytes 4 q) at n (omega (arith, label_long o q)) (omega (arith, label_long o q))

  word_below : (at : ℕ) → at + 4 ≤ 8 → u32_at S at ≡ u32_at part at
  unfolding le_at
  word_below at h = ap le_value (below at 4 h)

  word-above : (at : ℕ) → 16 ≤ at → u32_at S at ≡ u32_at part at
  unfolding le_at
  word-above at h = ap le_value (above at 4 h)

  -- P and rank are the other ones
  flat : S ≡ take 8 part ++ (le_bytes 4 (ranks o) ++ (le_bytes 4 q ++ drop 16 part))
  unfolding relabelled splice
  flat = rw (label_long o q) (ap (λ (l : List ℕ). take 8 part ++ l) (append_assoc (le_bytes 4 (ranks o)) (le_bytes 4 q) (drop 16 part)))

  front_long : length (take 8 part) ≡ 8
  front_long = length-take-le 8 part (omega arith)

  ranks-read : ranks o < 4294967296 → u32_at S 8 ≡ ranks o
  ranks-read h = ap (λ (l : List ℕ). u32_at l 8) flat ∙ at_middle (ranks o) 8 (take 8 part) (le_bytes 4 q ++ drop 16 part) front_long h

  rank-read : q < 4294967296 → u32_at S 12 ≡ q
  rank-read h =
      let l : length (take 8 part ++ le_bytes 4 (ranks o)) ≡ 12 = rw (length-append, front_long, bytes_length 4 (ranks o)) in
      ap (λ (l : List ℕ). u32_at l 12) (flat ∙ sym (append_assoc (take 8 part) (le_bytes 4 (ranks o)) (le_bytes 4 q ++ drop 16 part)))
      ∙ at_middle q 12 (take 8 part ++ le_bytes 4 (ranks o)) (drop 16 part) l h

  dimension-kept : part_dimension S ≡ part_dimension part
  unfolding part_dimension
  dimension-kept = word_below 0 (omega arith)

  K-kept : part_k S ≡ part_k part
  unfolding part_k
  K-kept = word_below 4 (omega arith)

  first-kept : part_first S ≡ part_first part
  unfolding part_first
  first-kept = word-above 16 (omega arith)

  count_kept : part_count S ≡ part_count part
  unfolding part_count
  count_kept = word-above 20 (omega arith)

  ghosts-kept : part_ghost_count S ≡ part_ghost_count part
  unfolding part_ghost_count
  ghosts-kept = word-above 24 (omega arith)

  stored-kept : stored_tree S ≡ stored_tree part
  unfolding stored_tree
  stored-kept = fun_ext (λ i. above (tree_place i) core_size (omega arith))

  ghost-kept : stored_ghost S ≡ stored_ghost part
  unfolding stored_ghost
  ghost-kept = fun_ext (λ j. rw count_kept (above (ghost_place (part_count part) j) core_size (omega arith)))

  number-kept : global_number S ≡ global_number part
  unfolding global_number
  number-kept = fun_ext (λ j. rw (count_kept, ghosts-kept, stored-kept, ghost-kept))

  tree-kept : global_tree S ≡ global_tree part
  unfolding global_tree
  tree-kept = fun_ext (λ i. rw (number-kept, dimension-kept, stored-kept))

  records-kept : records_hold (view_of S) ≡ records_hold (view_of part)
  records-kept = same_view dimension-kept K-kept first-kept count_kept ghosts-kept stored-kept tree-kept ghost-kept

module _ (t : List ℕ) (p : ℕ) (o : List ℕ) (q : ℕ) (t-bytes : Bytes t) (o-bytes : Bytes o) (known : PairKnown t p o q) (same : same_trees t p o q ≡ true) where
  module _ (part : List ℕ) (sound : part_sound part t p ≡ true) where
    says : PartSays part t p
    says = part_header_lem part t p sound

    long : 32 ≤ length part
    long = part_long part t p sound

    header-kept : part_header_sound (relabelled part o q) o q ≡ true
    unfolding part_header_sound
    header-kept =
        let r : List ℕ = relabelled part o q in
        rw (
          dimension-kept part o q long,
          says.dimension,
          eq-eqb (part_k r) (trees o) (K-kept part o q long ∙ says.all_trees ∙ same_trees_lem t p o q t-bytes o-bytes known same),
          eq-eqb (u32_at r 8) (ranks o) (ranks-read part o q long (ranks-small t p o q t-bytes o-bytes known same)),
          eq-eqb (u32_at r 12) q (rank-read part o q long (rank-small t p o q t-bytes o-bytes known same)),
          eq-eqb (part_first r) (first_tree o q) (first-kept part o q long ∙ says.first_tree_lem ∙ same_first t p o q t-bytes o-bytes known same),
          eq-eqb (part_count r) (tree_count o q) (count_kept part o q long ∙ says.tree_count_lem ∙ same_count t p o q t-bytes o-bytes known same),
          eq-eqb (u32_at r 28) 0 (word-above part o q long 28 (omega arith) ∙ says.last_word),
        )

    records-hold : records_hold (view_of part) ≡ true
    unfolding part_sound
    records-hold = and_snd (part_header_sound part t p && eqb (length part) (part_size (part_count part) (part_ghost_count part))) (records_hold (view_of part)) sound

    size-kept : length (relabelled part o q) ≡ part_size (part_count (relabelled part o q)) (part_ghost_count (relabelled part o q))
    size-kept = relabelled_length part o q long ∙ part_length part t p sound ∙ sym (ap₂ part_size (count_kept part o q long) (ghosts-kept part o q long))

    relabel-sound : part_sound (relabelled part o q) o q ≡ true
    unfolding part_sound
    relabel-sound =
        rw (header-kept, eq-eqb (length (relabelled part o q)) (part_size (part_count (relabelled part o q)) (part_ghost_count (relabelled part o q))) size-kept)
        (records-kept part o q long ∙ records-hold)

    relabel-back : Bytes part → relabelled (relabelled part o q) t p ≡ part
    unfolding relabelled
    relabel-back bytes =
        let own : le_bytes 4 (ranks t) ++ le_bytes 4 p ≡ piece part 8 8 =
        ap₂ (λ (x y : ℕ). le_bytes 4 x ++ le_bytes 4 y) (sym says.all_ranks) (sym says.own_rank)
        ∙ ap₂ (λ (x y : List ℕ). x ++ y) (at_bytes 4 part 8 bytes (omega (arith, long))) (at_bytes 4 part 12 bytes (omega (arith, long)))
        ∙ sym (piece_add part 8 4 4) in
        splice_twice part (le_bytes 4 (ranks o) ++ le_bytes 4 q) (le_bytes 4 (ranks t) ++ le_bytes 4 p) 8 (label_long o q ∙ sym (label_long t p)) (omega (arith, long, label_long o q))
        ∙ ap (splice part 8) own
        ∙ splice_piece part 8 8 (omega (arith, long))

  relabel-equal : (a b : List ℕ) → Bytes a → Bytes b → part_sound a t p ≡ true → part_sound b t p ≡ true → EqualBoth a b o q
  relabel-equal a b x y e f =
      record {
        parts = λ h. sym (relabel-back a e x) ∙ ap (λ (l : List ℕ). relabelled l t p) h ∙ relabel-back b f y;
        labels = ap (λ (l : List ℕ). relabelled l o q);
      }

pub relabels_parts : RelabelsParts
relabels_parts table rank other q bytes other-bytes e same =
    let k = pair_known table rank other q e in
    record {
      cuts = relabel-cut table rank other q bytes other-bytes k same;
      sounds = relabel-sound table rank other q bytes other-bytes k same;
      back = λ part b s. relabel-back table rank other q bytes other-bytes k same part s b;
      equal = relabel-equal table rank other q bytes other-bytes k same;
    }
