-- The records of a cut part that stand at the front of a buffer.
use Prim.Native.Nat.{ℕ, ◌+◌, ◌-◌, ◌≤◌, ◌<◌}
use native.Mathlib.Omega.{arith}
use mathlib.Core.Path.{◌≡◌, sym, ap, fun_ext, ◌∙◌}
use mathlib.Core.Bool.{true}
use mathlib.Core.List.{List, ◌++◌}
use lib.ListN.{length, get_or}
use Rattle.encoding.specs.Below.{kept_below}
use Rattle.encoding.specs.Numbers.{le_value, le_at, u32_at}
use Rattle.encoding.specs.Pieces.{piece, Bytes}
use Rattle.encoding.proofs.Below.{kept_found}
use Rattle.offsets.specs.Table.{first_tree, tree_count, holds}
use Rattle.records.specs.Shape.{faces_in}
use Rattle.records.specs.Record.{core_size, tree_size, number_of}
use Rattle.mesh.specs.Mesh.{mesh_dimension, mesh_trees, mesh_core, mesh_record}
use Rattle.mesh.proofs.Soundness.{sound_core, sound_number}
use Rattle.part.specs.Layout.{part_header, tree_place, ghost_place, part_size}
use Rattle.part.specs.Ghosts.{is_ghost, ghosts_of, ghost_position}
use Rattle.part.specs.Cut.{renamed, local_index, ghost_count, cut_part}
use Rattle.part.specs.Part.{part_dimension, part_first, part_count, part_ghost_count, stored_tree, stored_ghost, global_number}
use Rattle.part_cut.proofs.Cutting.{Cuttable}
use Rattle.part_theorems.proofs.Renamed.{renamed_number}
use Rattle.part_theorems.proofs.CutRead.{cut_first, cut_count, cut_ghosts, cut_within, cut_tree, cut_ghost}
use Rattle.part_theorems.proofs.CutSound.{range_local, cut_sound}
use Rattle.part_theorems.proofs.SoundParts.{part_length, dimension_same, first_same, index_same}
use Rattle.message.specs.Build.{part_record}
use Rattle.area_theorems.proofs.Joined.{piece_first}
use Rattle.repartition.proofs.Building.{own_record}

module _ (mesh table : List ℕ) (rank : ℕ) (ok : Cuttable mesh table rank) (mesh_bytes : Bytes mesh) (bytes : Bytes table) (rest : List ℕ) where
  abbrev part : List ℕ
  part = cut_part mesh table rank

  part_long : length part ≡ part_size (tree_count table rank) (ghost_count mesh table rank)
  part_long =
      let l : length part ≡ part_size (part_count part) (part_ghost_count part) = part_length part table rank (cut_sound mesh table rank ok mesh_bytes bytes) in
      rw (cut_count mesh table rank ok bytes, cut_ghosts mesh table rank ok bytes) at l

  header-word : (at : ℕ) → at + 4 ≤ 32 → u32_at (part ++ rest) at ≡ u32_at part at
  unfolding le_at
  header-word at h = ap le_value (piece_first part rest at 4 (omega (arith, part_long)))

  -- how many there are
  pub front_count : part_count (cut_part mesh table rank ++ rest) ≡ tree_count table rank
  unfolding part_count
  front_count = header-word 20 (omega arith) ∙ cut_count mesh table rank ok bytes

  pub front_ghosts : part_ghost_count (cut_part mesh table rank ++ rest) ≡ ghost_count mesh table rank
  unfolding part_ghost_count
  front_ghosts = header-word 24 (omega arith) ∙ cut_ghosts mesh table rank ok bytes

  -- tree record i has the number of the rank's tree i
  pub front_tree : (i : ℕ) → i < tree_count table rank → number_of (stored_tree (cut_part mesh table rank ++ rest) i) ≡ first_tree table rank + i
  unfolding stored_tree
  front_tree i h =
      let k : ℕ = first_tree table rank + i in
      let b : k < mesh_trees mesh = omega (arith, cut_within mesh table rank ok bytes) in
      ap number_of (piece_first part rest (tree_place i) core_size (omega (arith, part_long)) ∙ cut_tree mesh table rank ok bytes i h)
      ∙ renamed_number (local_index mesh table rank) (faces_in (mesh_dimension mesh)) (mesh_core mesh k) (sound_core mesh ok.mesh_sound_lem k b)
      ∙ sound_number mesh ok.mesh_sound_lem k b

  -- ghost j is the part's
  ghost-first : (j : ℕ) → j < ghost_count mesh table rank → stored_ghost (part ++ rest) j ≡ stored_ghost part j
  unfolding stored_ghost
  ghost-first j h =
      ap (λ (n : ℕ). piece (part ++ rest) (ghost_place n j) core_size) (front_count)
      ∙ piece_first part rest (ghost_place (tree_count table rank) j) core_size (omega (arith, part_long))
      ∙ ap (λ (n : ℕ). piece part (ghost_place n j) core_size) (sym (cut_count mesh table rank ok bytes))

  -- the core of the rank's ghost j
  ghost_core_lem : (j : ℕ) → j < ghost_count mesh table rank → stored_ghost (part ++ rest) j ≡ mesh_core mesh (get_or (ghosts_of (mesh_core mesh) table rank (mesh_trees mesh)) j 0)
  ghost_core_lem j h = ghost-first j h ∙ cut_ghost mesh table rank ok bytes j h

  -- ghost record j that of a ghost of the rank
  pub front_ghost : (j : ℕ) → j < ghost_count mesh table rank
      → (number_of (stored_ghost (cut_part mesh table rank ++ rest) j) < mesh_trees mesh) × (is_ghost (mesh_core mesh) table rank (number_of (stored_ghost (cut_part mesh table rank ++ rest) j)) ≡ true)
  unfolding ghosts_of ghost_count ghost_position
  front_ghost j h =
      let f = kept_found (mesh_trees mesh) (is_ghost (mesh_core mesh) table rank) j 0 h in
      let k : ℕ = get_or (kept_below (mesh_trees mesh) (is_ghost (mesh_core mesh) table rank)) j 0 in
      let e : number_of (stored_ghost (part ++ rest) j) ≡ k = ap number_of (ghost_core_lem j h) ∙ sound_number mesh ok.mesh_sound_lem k f.0 in
      rw e (f.0, f.1)

  -- it is the mesh's core
  pub front_ghost_core : (j : ℕ) → j < ghost_count mesh table rank
      → stored_ghost (cut_part mesh table rank ++ rest) j ≡ mesh_core mesh (number_of (stored_ghost (cut_part mesh table rank ++ rest) j))
  unfolding ghosts_of ghost_count ghost_position
  front_ghost_core j h =
      let f = kept_found (mesh_trees mesh) (is_ghost (mesh_core mesh) table rank) j 0 h in
      let k : ℕ = get_or (kept_below (mesh_trees mesh) (is_ghost (mesh_core mesh) table rank)) j 0 in
      let e : number_of (stored_ghost (part ++ rest) j) ≡ k = ap number_of (ghost_core_lem j h) ∙ sound_number mesh ok.mesh_sound_lem k f.0 in
      ghost_core_lem j h ∙ ap (mesh_core mesh) (sym e)

  -- ---- the tree records whole

  same_header : piece (part ++ rest) 0 part_header ≡ piece part 0 part_header
  same_header = piece_first part rest 0 part_header (omega (arith, part_long))

  same_trees_lem : (i : ℕ) → i < part_count (part ++ rest) → stored_tree (part ++ rest) i ≡ stored_tree part i
  unfolding stored_tree
  same_trees_lem i h = piece_first part rest (tree_place i) core_size (omega (arith, part_long, front_count))

  same_ghosts : (j : ℕ) → j < part_ghost_count (part ++ rest) → stored_ghost (part ++ rest) j ≡ stored_ghost part j
  same_ghosts j h = ghost-first j (omega (arith, front_ghosts))

  -- tree i's record, its neighbours as global numbers, is the mesh's
  pub front_record : (i : ℕ) → i < tree_count table rank → part_record (cut_part mesh table rank ++ rest) (first_tree table rank + i) ≡ mesh_record mesh (first_tree table rank + i)
  unfolding part_record
  front_record i h =
      let k : ℕ = first_tree table rank + i in
      let here : holds table rank k ≡ true = range_local mesh table rank ok mesh_bytes bytes i h in
      let back : k - part_first part ≡ i = rw (cut_first mesh table rank ok bytes) (omega arith) in
      rw (dimension_same (part ++ rest) part same_header, first_same (part ++ rest) part same_header)
      (ap (λ (r : List ℕ). renamed (global_number (part ++ rest)) (faces_in (part_dimension part)) r) (piece_first part rest (tree_place (k - part_first part)) tree_size (omega (arith, back, part_long)))
      ∙ ap (λ (rename : ℕ → ℕ). renamed rename (faces_in (part_dimension part)) (piece part (tree_place (k - part_first part)) tree_size)) (fun_ext (index_same (part ++ rest) part same_header same_trees_lem same_ghosts))
      ∙ own_record mesh table rank ok mesh_bytes bytes k here)
