-- Reading a cut part back: its header, its trees and its ghosts.
use Prim.Native.Nat.{ℕ, zero, suc, ◌+◌, ◌*◌, ◌≤◌, ◌<◌}
use native.Mathlib.Nat.{add-zero, zero-add, le_refl}
use native.Mathlib.Omega.{arith}
use mathlib.Core.Path.{◌≡◌, sym, ap, ◌∙◌}
use mathlib.Core.Bool.{Bool, true}
use mathlib.Core.List.{List, [], ◌∷◌, ◌++◌, map, append_assoc, append-nil}
use mathlib.Core.Logic.{⊎_elim}
use lib.ListN.{length, get_or, drop, length-drop, get_or-append}
use lib.Seq.{drop-append-add, drop-append-le, take-append-le, take_all, get_or_at}
use Rattle.encoding.specs.Below.{count_below, kept_below}
use Rattle.encoding.specs.Numbers.{le_value, le_bytes, le_at, u32_at}
use Rattle.encoding.specs.Pieces.{piece, splice, Bytes}
use Rattle.encoding.proofs.Below.{either, below_suc, count_le, count_lt, kept_length}
use Rattle.encoding.proofs.Numbers.{bytes_length, value_bytes}
use Rattle.encoding.proofs.Pieces.{piece_length, piece_same, piece_above, length_splice}
use Rattle.offsets.specs.Table.{ranks, first_tree, end_tree, tree_count}
use Rattle.offsets.proofs.Tables.{first_le_end, end_trees, trees_high, ranks_high_lem, size}
use Rattle.records.specs.Record.{core_size, tree_size, number_of}
use Rattle.records.specs.Links.{rows_of, neighbour_bytes, code_bytes, with_rows}
use Rattle.records.specs.Shape.{faces_in}
use Rattle.records.proofs.Forms.{piece_piece}
use Rattle.records.proofs.Rows.{splice_inside}
use Rattle.mesh.specs.Mesh.{mesh_header, mesh_dimension, mesh_trees, mesh_core, mesh_record, mesh_sound}
use Rattle.mesh.proofs.Soundness.{sound_length, sound_dimension, sound_fits, sound_core, sound_number}
use Rattle.part.specs.Layout.{part_header, tree_place, header_bytes}
use Rattle.part.specs.Ghosts.{is_ghost, ghosts_of, ghost_position}
use Rattle.part.specs.Cut.{renamed, rename_row, local_index, part_tree, part_trees, part_ghosts, ghost_count, cut_part}
use Rattle.part.specs.Part.{part_dimension, part_k, part_first, part_count, part_ghost_count, stored_tree, stored_ghost}
use Rattle.part_cut.proofs.Cutting.{Cuttable, CutFits, tree_length, trees_length, cores_length}
use Rattle.part.proofs.Records.{links_length, header_length, rows_core}
use Rattle.part.proofs.Ghosts.{ghosts_next, ghost_at}

-- ---- pieces of two lists

-- a piece of the second of two lists
piece_behind : (a b : List ℕ) (m off n : ℕ) → length a ≡ m → piece (a ++ b) (m + off) n ≡ piece b off n
unfolding piece
piece_behind a b m off n l = rw (← l, drop-append-add a b off)

-- a piece of the first
piece_before : (a b : List ℕ) (off n : ℕ) → off + n ≤ length a → piece (a ++ b) off n ≡ piece a off n
unfolding piece
piece_before a b off n h =
    let l : n ≤ length (drop off a) = simp length-drop (omega arith) in
    rw (drop-append-le off a b (omega arith), take-append-le n (drop off a) b l)

piece_whole : (a : List ℕ) (n : ℕ) → length a ≡ n → piece a 0 n ≡ a
unfolding piece
piece_whole a n l = take_all n a (omega arith)

-- the second of two lists, whole
piece_last : (a b : List ℕ) (m n : ℕ) → length a ≡ m → length b ≡ n → piece (a ++ b) m n ≡ b
piece_last a b m n l k = ap (λ (o : ℕ). piece (a ++ b) o n) (sym (add-zero m)) ∙ piece_behind a b m 0 n l ∙ piece_whole b n k

-- ---- the header

word_first : (v : ℕ) (b : List ℕ) → v < 4294967296 → u32_at (le_bytes 4 v ++ b) 0 ≡ v
unfolding le_at
word_first v b h =
    ap le_value (piece_before (le_bytes 4 v) b 0 4 (omega (arith, bytes_length 4 v)) ∙ piece_whole (le_bytes 4 v) 4 (bytes_length 4 v)) ∙ value_bytes 4 v h

word_next : (v off : ℕ) (b : List ℕ) → u32_at (le_bytes 4 v ++ b) (4 + off) ≡ u32_at b off
unfolding le_at
word_next v off b = ap le_value (piece_behind (le_bytes 4 v) b 4 off 4 (bytes_length 4 v))

-- the eight numbers of a header, of 32 bits each
module _ (a b c d e f g : ℕ) (rest : List ℕ) where
  header-flat : header_bytes a b c d e f g ++ rest
      ≡ le_bytes 4 a ++ (le_bytes 4 b ++ (le_bytes 4 c ++ (le_bytes 4 d ++ (le_bytes 4 e ++ (le_bytes 4 f ++ (le_bytes 4 g ++ (le_bytes 4 0 ++ rest)))))))
  unfolding header_bytes
  header-flat = simp append_assoc

  header_at : {v : ℕ} (off : ℕ)
      → u32_at (le_bytes 4 a ++ (le_bytes 4 b ++ (le_bytes 4 c ++ (le_bytes 4 d ++ (le_bytes 4 e ++ (le_bytes 4 f ++ (le_bytes 4 g ++ (le_bytes 4 0 ++ rest)))))))) off ≡ v
      → u32_at (header_bytes a b c d e f g ++ rest) off ≡ v
  header_at off h = ap (λ (l : List ℕ). u32_at l off) header-flat ∙ h

  header-0 : a < 4294967296 → u32_at (header_bytes a b c d e f g ++ rest) 0 ≡ a
  header-0 h = header_at 0 (word_first a _ h)

  header-4 : b < 4294967296 → u32_at (header_bytes a b c d e f g ++ rest) 4 ≡ b
  header-4 h = header_at 4 (word_next a 0 _ ∙ word_first b _ h)

  header-8 : c < 4294967296 → u32_at (header_bytes a b c d e f g ++ rest) 8 ≡ c
  header-8 h = header_at 8 (word_next a 4 _ ∙ word_next b 0 _ ∙ word_first c _ h)

  header-12 : d < 4294967296 → u32_at (header_bytes a b c d e f g ++ rest) 12 ≡ d
  header-12 h = header_at 12 (word_next a 8 _ ∙ word_next b 4 _ ∙ word_next c 0 _ ∙ word_first d _ h)

  header-16 : e < 4294967296 → u32_at (header_bytes a b c d e f g ++ rest) 16 ≡ e
  header-16 h = header_at 16 (word_next a 12 _ ∙ word_next b 8 _ ∙ word_next c 4 _ ∙ word_next d 0 _ ∙ word_first e _ h)

  header-20 : f < 4294967296 → u32_at (header_bytes a b c d e f g ++ rest) 20 ≡ f
  header-20 h = header_at 20 (word_next a 16 _ ∙ word_next b 12 _ ∙ word_next c 8 _ ∙ word_next d 4 _ ∙ word_next e 0 _ ∙ word_first f _ h)

  header-24 : g < 4294967296 → u32_at (header_bytes a b c d e f g ++ rest) 24 ≡ g
  header-24 h = header_at 24 (word_next a 20 _ ∙ word_next b 16 _ ∙ word_next c 12 _ ∙ word_next d 8 _ ∙ word_next e 4 _ ∙ word_next f 0 _ ∙ word_first g _ h)

  header-28 : u32_at (header_bytes a b c d e f g ++ rest) 28 ≡ 0
  header-28 = header_at 28 (word_next a 24 _ ∙ word_next b 20 _ ∙ word_next c 16 _ ∙ word_next d 12 _ ∙ word_next e 8 _ ∙ word_next f 4 _ ∙ word_next g 0 _ ∙ word_first 0 _ (omega arith))

  header-behind : (off n : ℕ) → piece (header_bytes a b c d e f g ++ rest) (part_header + off) n ≡ piece rest off n
  header-behind off n = piece_behind (header_bytes a b c d e f g) rest part_header off n (header_length a b c d e f g)

-- ---- the records

-- the links of a record written into its first n bytes
piece_splice : (r : List ℕ) (j n : ℕ) (X : List ℕ) → j + length X ≤ n → n ≤ length r → piece (splice r j X) 0 n ≡ splice (piece r 0 n) j X
piece_splice r j n X h k =
    let P : List ℕ = splice (piece r 0 n) j X in
    let lp : length (piece r 0 n) ≡ n = piece_length r 0 n (omega arith) in
    let l : length P ≡ n = length_splice (piece r 0 n) j X (omega arith) ∙ lp in
    let e : splice r 0 P ≡ splice r j X = rw zero-add at (splice_inside r 0 n j X h (omega arith)) in
    ap (λ (s : List ℕ). piece s 0 n) (sym e) ∙ ap (λ (m : ℕ). piece (splice r 0 P) 0 m) (sym l) ∙ piece_same r 0 P (omega arith)

-- a tree record with its neighbours renamed: its core is the core with its neighbours renamed, and its tree data stays
module _ (rename : ℕ → ℕ) (F : ℕ) (mesh : List ℕ) (k : ℕ) (fits : mesh_header + tree_size * k + tree_size ≤ length mesh) where
  record_long : length (mesh_record mesh k) ≡ tree_size
  unfolding mesh_record
  record_long = piece_length mesh (mesh_header + tree_size * k) tree_size fits

  record_core : piece (mesh_record mesh k) 0 core_size ≡ mesh_core mesh k
  unfolding mesh_record mesh_core
  record_core =
      piece_piece mesh (mesh_header + tree_size * k) tree_size 0 core_size (omega arith) ∙ ap (λ (o : ℕ). piece mesh o core_size) (add-zero (mesh_header + tree_size * k))

  record_data : piece (mesh_record mesh k) core_size 24 ≡ piece mesh (mesh_header + tree_size * k + core_size) 24
  unfolding mesh_record
  record_data = piece_piece mesh (mesh_header + tree_size * k) tree_size core_size 24 (omega arith)

  record-rows : rows_of (mesh_record mesh k) F ≡ rows_of (mesh_core mesh k) F
  unfolding mesh_record mesh_core
  record-rows = rows_core mesh (mesh_header + tree_size * k) F

  -- the new links
  abbrev links : List ℕ
  links = let rows : List (List ℕ) = map (rename_row rename) (rows_of (mesh_record mesh k) F) in neighbour_bytes rows 6 ++ code_bytes rows F 6

  renamed-core : piece (renamed rename F (mesh_record mesh k)) 0 core_size ≡ renamed rename F (mesh_core mesh k)
  unfolding renamed with_rows
  renamed-core =
      piece_splice (mesh_record mesh k) 8 core_size links (omega (arith, links_length (map (rename_row rename) (rows_of (mesh_record mesh k) F)) F)) (omega (arith, record_long)) ∙ rw (record_core, record-rows)

  renamed-data : piece (renamed rename F (mesh_record mesh k)) core_size 24 ≡ piece mesh (mesh_header + tree_size * k + core_size) 24
  unfolding renamed with_rows
  renamed-data =
      let l : length links ≡ 30 = links_length (map (rename_row rename) (rows_of (mesh_record mesh k) F)) F in
      piece_above (mesh_record mesh k) 8 links core_size 24 (omega (arith, record_long)) (omega arith) ∙ record_data

-- ---- the parts of a cut

module _ (mesh table : List ℕ) (rank : ℕ) (sound : mesh_sound mesh ≡ true) where
  -- tree i of the first n
  trees-at : (n : ℕ) → first_tree table rank + n ≤ mesh_trees mesh → (i : ℕ) → i < n → piece (part_trees mesh table rank n) (tree_size * i) tree_size ≡ part_tree mesh table rank i
  unfolding part_trees
  trees-at zero h i l = absurd (omega arith)
  trees-at (suc n) h i l =
      let T : List ℕ = part_trees mesh table rank n in
      let lT : length T ≡ tree_size * n = trees_length mesh table rank sound n (omega arith) in
      below_suc i n l
      (λ p. piece_before T (part_tree mesh table rank n) (tree_size * i) tree_size (omega arith) ∙ trees-at n (omega arith) i p)
      (λ q. piece_last T (part_tree mesh table rank n) (tree_size * i) tree_size (rw q lT) (tree_length mesh table rank sound n (omega arith)) ∙ ap (part_tree mesh table rank) (sym q))

  abbrev ghost : ℕ → Bool
  ghost = is_ghost (mesh_core mesh) table rank

  ghosts_long : (k : ℕ) → k ≤ mesh_trees mesh → length (part_ghosts mesh table rank k) ≡ core_size * count_below k ghost
  unfolding ghost_position
  ghosts_long = cores_length mesh table rank sound

  -- ghost j of those below k
  cores-at : (k : ℕ) → k ≤ mesh_trees mesh → (j : ℕ) → j < count_below k ghost → piece (part_ghosts mesh table rank k) (core_size * j) core_size ≡ mesh_core mesh (get_or (kept_below k ghost) j 0)
  unfolding count_below kept_below
  cores-at zero h j l = absurd (omega arith)
  cores-at (suc k) h j l =
      let G : List ℕ = part_ghosts mesh table rank k in
      let n : ℕ = count_below k ghost in
      let lG : length G ≡ core_size * n = ghosts_long k (omega arith) in
      let lK : length (kept_below k ghost) ≡ n = kept_length k ghost in
      either (ghost k)
      (λ t. let l' : j < n + 1 = rw t at l in
      rw (ghosts_next mesh table rank k, t)
      (below_suc j n (omega arith)
      (λ p. piece_before G (mesh_core mesh k) (core_size * j) core_size (omega arith) ∙ cores-at k (omega arith) j p ∙ ap (mesh_core mesh) (sym (get_or-append (kept_below k ghost) (k ∷ []) 0 j (omega arith))))
      (λ q. piece_last G (mesh_core mesh k) (core_size * j) core_size (rw q lG) (sound_core mesh sound k (omega arith)) ∙ ap (mesh_core mesh) (sym (get_or_at (kept_below k ghost) k [] 0 j (omega arith))))))
      (λ t. let l' : j < n = omega (arith, rw t at l) in
      rw (ghosts_next mesh table rank k, t, append-nil (part_ghosts mesh table rank k), append-nil (kept_below k ghost)) (cores-at k (omega arith) j l'))

-- ---- the theorems

-- all numbers of the header are below 2 ^ 32
pub record HeaderFits (mesh table : List ℕ) (rank : ℕ) : Type 0 where
  pub dimension_word : mesh_dimension mesh < 4294967296
  pub trees_word_lem : mesh_trees mesh < 4294967296
  pub ranks_word_lem : ranks table < 4294967296
  pub rank_word : rank < 4294967296
  pub first_word : first_tree table rank < 4294967296
  pub count_word : tree_count table rank < 4294967296
  pub ghosts_word : ghost_count mesh table rank < 4294967296

-- the bounds that follow where a part can be cut
pub cuttable_fits : (mesh table : List ℕ) (rank : ℕ) → Cuttable mesh table rank → Bytes table → CutFits mesh table rank
cuttable_fits mesh table rank h b =
    let t = trees_high table b h.table_ranks h.table_valid in
    let l = end_trees table b h.table_ranks h.table_valid rank h.rank_below in
    let s = size table b h.table_ranks h.table_valid in
    record {
      rises = first_le_end table b h.table_ranks h.table_valid rank h.rank_below;
      within = omega arith;
      most = omega arith;
      table_long = omega arith;
      mesh_long = sound_length mesh h.mesh_sound_lem;
    }

module _ (mesh table : List ℕ) (rank : ℕ) (ok : Cuttable mesh table rank) (bytes : Bytes table) where
  fits : CutFits mesh table rank
  fits = cuttable_fits mesh table rank ok bytes

  -- so the header can hold them
  pub header_fits : HeaderFits mesh table rank
  unfolding tree_count ghost_count ghost_position
  header_fits =
      let p = ranks_high_lem table bytes ok.table_ranks ok.table_valid in
      let b = ok.rank_below in
      let f = fits in
      record {
        dimension_word = ⊎_elim (λ e. omega arith) (λ e. omega arith) (sound_dimension mesh ok.mesh_sound_lem);
        trees_word_lem = omega arith;
        ranks_word_lem = omega arith;
        rank_word = omega arith;
        first_word = omega arith;
        count_word = omega arith;
        ghosts_word = omega (arith, count_le (mesh_trees mesh) (is_ghost (mesh_core mesh) table rank));
      }

  abbrev body : List ℕ
  body = part_trees mesh table rank (tree_count table rank) ++ part_ghosts mesh table rank (mesh_trees mesh)

  -- the header read back
  pub cut_dimension : part_dimension (cut_part mesh table rank) ≡ mesh_dimension mesh
  unfolding cut_part part_dimension
  cut_dimension = header-0 _ _ _ _ _ _ _ body header_fits.dimension_word

  pub cut_k : part_k (cut_part mesh table rank) ≡ mesh_trees mesh
  unfolding cut_part part_k
  cut_k = header-4 _ _ _ _ _ _ _ body header_fits.trees_word_lem

  pub cut_ranks : u32_at (cut_part mesh table rank) 8 ≡ ranks table
  unfolding cut_part
  cut_ranks = header-8 _ _ _ _ _ _ _ body header_fits.ranks_word_lem

  pub cut_rank : u32_at (cut_part mesh table rank) 12 ≡ rank
  unfolding cut_part
  cut_rank = header-12 _ _ _ _ _ _ _ body header_fits.rank_word

  pub cut_first : part_first (cut_part mesh table rank) ≡ first_tree table rank
  unfolding cut_part part_first
  cut_first = header-16 _ _ _ _ _ _ _ body header_fits.first_word

  pub cut_count : part_count (cut_part mesh table rank) ≡ tree_count table rank
  unfolding cut_part part_count
  cut_count = header-20 _ _ _ _ _ _ _ body header_fits.count_word

  pub cut_ghosts : part_ghost_count (cut_part mesh table rank) ≡ ghost_count mesh table rank
  unfolding cut_part part_ghost_count
  cut_ghosts = header-24 _ _ _ _ _ _ _ body header_fits.ghosts_word

  pub cut_zero : u32_at (cut_part mesh table rank) 28 ≡ 0
  unfolding cut_part
  cut_zero = header-28 _ _ _ _ _ _ _ body

  -- one past the last tree
  pub cut_end : first_tree table rank + tree_count table rank ≡ end_tree table rank
  unfolding tree_count
  cut_end = let f = fits in omega arith

  -- the trees are among the K
  pub cut_within : first_tree table rank + tree_count table rank ≤ mesh_trees mesh
  cut_within = let f = fits in let e = cut_end in omega arith

  -- what stands behind the header
  behind-header : (off n : ℕ) → piece (cut_part mesh table rank) (part_header + off) n ≡ piece body off n
  unfolding cut_part
  behind-header off n = header-behind _ _ _ _ _ _ _ body off n

  trees_long : length (part_trees mesh table rank (tree_count table rank)) ≡ tree_size * tree_count table rank
  trees_long = trees_length mesh table rank ok.mesh_sound_lem (tree_count table rank) cut_within

  module _ (i : ℕ) (tree : i < tree_count table rank) where
    tree_fits_lem : mesh_header + tree_size * (first_tree table rank + i) + tree_size ≤ length mesh
    tree_fits_lem = sound_fits mesh ok.mesh_sound_lem (first_tree table rank + i) (omega (arith, cut_within))

    -- tree record i is the mesh's record with its neighbours renamed
    pub cut_record : piece (cut_part mesh table rank) (tree_place i) tree_size ≡ part_tree mesh table rank i
    cut_record =
        behind-header (tree_size * i) tree_size
        ∙ piece_before (part_trees mesh table rank (tree_count table rank)) _ (tree_size * i) tree_size (omega (arith, trees_long))
        ∙ trees-at mesh table rank ok.mesh_sound_lem (tree_count table rank) cut_within i tree

    -- its core
    pub cut_stored : stored_tree (cut_part mesh table rank) i ≡ piece (part_tree mesh table rank i) 0 core_size
    unfolding stored_tree
    cut_stored =
        ap (λ (o : ℕ). piece (cut_part mesh table rank) o core_size) (sym (add-zero (tree_place i)))
        ∙ sym (piece_piece (cut_part mesh table rank) (tree_place i) tree_size 0 core_size (omega arith))
        ∙ ap (λ (r : List ℕ). piece r 0 core_size) cut_record

    -- which is the mesh's core with its neighbours renamed
    pub cut_tree : stored_tree (cut_part mesh table rank) i ≡ renamed (local_index mesh table rank) (faces_in (mesh_dimension mesh)) (mesh_core mesh (first_tree table rank + i))
    unfolding part_tree
    cut_tree = cut_stored ∙ renamed-core (local_index mesh table rank) (faces_in (mesh_dimension mesh)) mesh (first_tree table rank + i) tree_fits_lem

    -- its tree data is the mesh's
    pub cut_data : piece (cut_part mesh table rank) (tree_place i + core_size) 24 ≡ piece mesh (mesh_header + tree_size * (first_tree table rank + i) + core_size) 24
    unfolding part_tree
    cut_data =
        sym (piece_piece (cut_part mesh table rank) (tree_place i) tree_size core_size 24 (omega arith))
        ∙ ap (λ (r : List ℕ). piece r core_size 24) cut_record
        ∙ renamed-data (local_index mesh table rank) (faces_in (mesh_dimension mesh)) mesh (first_tree table rank + i) tree_fits_lem

  -- ghost j is the mesh's core of the j-th ghost
  pub cut_ghost : (j : ℕ) → j < ghost_count mesh table rank → stored_ghost (cut_part mesh table rank) j ≡ mesh_core mesh (get_or (ghosts_of (mesh_core mesh) table rank (mesh_trees mesh)) j 0)
  unfolding stored_ghost ghost_count ghost_position ghosts_of
  cut_ghost j h =
      let n : ℕ = tree_count table rank in
      ap (λ (m : ℕ). piece (cut_part mesh table rank) (part_header + (tree_size * m + core_size * j)) core_size) cut_count
      ∙ behind-header (tree_size * n + core_size * j) core_size
      ∙ piece_behind (part_trees mesh table rank n) (part_ghosts mesh table rank (mesh_trees mesh)) (tree_size * n) (core_size * j) core_size trees_long
      ∙ cores-at mesh table rank ok.mesh_sound_lem (mesh_trees mesh) (le_refl (mesh_trees mesh)) j h

  module _ (k : ℕ) (below : k < mesh_trees mesh) (ghostly : is_ghost (mesh_core mesh) table rank k ≡ true) where
    -- its position is below the number of ghosts
    pub position_below : ghost_position (mesh_core mesh) table rank k < ghost_count mesh table rank
    unfolding ghost_count ghost_position
    position_below = count_lt k (mesh_trees mesh) (is_ghost (mesh_core mesh) table rank) below ghostly

    -- the record at the position of ghost k is its core
    pub cut_ghost_at : stored_ghost (cut_part mesh table rank) (ghost_position (mesh_core mesh) table rank k) ≡ mesh_core mesh k
    cut_ghost_at = cut_ghost (ghost_position (mesh_core mesh) table rank k) position_below ∙ ap (mesh_core mesh) (ghost_at (mesh_core mesh) table rank (mesh_trees mesh) k 0 below ghostly)

    -- so it has that number
    pub cut_ghost_number : number_of (stored_ghost (cut_part mesh table rank) (ghost_position (mesh_core mesh) table rank k)) ≡ k
    cut_ghost_number = ap number_of cut_ghost_at ∙ sound_number mesh ok.mesh_sound_lem k below
