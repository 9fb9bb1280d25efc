-- Laws of the cut: what its checks tell, and the length of the part.
use Prim.Native.Nat.{ℕ, zero, suc, ◌+◌, ◌-◌, ◌*◌, ◌≤◌, ◌<◌}
use native.Mathlib.Nat.{le_refl}
use native.Mathlib.Omega.{arith}
use mathlib.Core.Path.{◌≡◌, refl, sym, ◌∙◌}
use mathlib.Core.Bool.{Bool, true, false, cond, ◌&&◌}
use mathlib.Core.List.{List, []}
use lib.Dec.{ltb, eqb}
use lib.ListN.{length, length-append}
use borrow.Author.Tests.{ltb-true, eqb-true, ne_eqb}
use Rattle.encoding.specs.Below.{count_below}
use Rattle.encoding.specs.Pieces.{piece, Bytes}
use Rattle.encoding.specs.Refusal.{first_failed}
use Rattle.encoding.specs.Answer.{length_answer, length_refused}
use Rattle.encoding.proofs.Below.{and_fst, and_snd}
use Rattle.encoding.proofs.Pieces.{piece_length}
use Rattle.offsets.specs.Limits.{max_trees}
use Rattle.offsets.specs.Table.{ranks, ranks_ok, trees, valid, first_tree, end_tree, tree_count}
use Rattle.offsets.proofs.Tables.{first_le_end, end_trees, trees_high, size}
use Rattle.records.specs.Record.{core_size, tree_size}
use Rattle.mesh.specs.Mesh.{mesh_header, mesh_trees, mesh_core, mesh_record, mesh_sound}
use Rattle.mesh.proofs.Soundness.{sound_length, sound_fits, sound_core}
use Rattle.part.specs.Layout.{part_size}
use Rattle.part.specs.Ghosts.{is_ghost, ghost_position}
use Rattle.part.specs.Cut.{renamed, part_tree, part_trees, part_ghosts, ghost_count, cut_part}
use Rattle.part.proofs.Ghosts.{ghosts_none, ghosts_next}
use Rattle.part.specs.Checks.{rank_checks}
use Rattle.part_cut.specs.Calls.{cut_checks, part_length_of}
use Rattle.part.proofs.Records.{rows_length, header_length}

-- ---- the checks

-- a check that is not the one that failed
passes : (b : Bool) (n m : ℕ) → cond b n (suc m) ≡ 0 → (b ≡ true) × (n ≡ 0)
passes true n m e = (refl, e)
passes false n m e = absurd (omega arith)

module _ (mesh table : List ℕ) (rank : ℕ) where
  -- what holds where no check fails
  pub record Cuttable : Type 0 where
    pub table_ranks : ranks_ok table ≡ true
    pub table_valid : valid table ≡ true
    pub rank_below : rank < ranks table
    pub mesh_sound_lem : mesh_sound mesh ≡ true
    pub same_trees_lem : mesh_trees mesh ≡ trees table

  -- the bounds that follow
  pub record CutFits : Type 0 where
    pub rises : first_tree table rank ≤ end_tree table rank
    pub within : end_tree table rank ≤ mesh_trees mesh
    pub most : mesh_trees mesh ≤ max_trees
    pub table_long : 8 * (rank + 1 + 1) ≤ length table
    pub mesh_long : length mesh ≡ mesh_header + tree_size * mesh_trees mesh

  pub cuttable : first_failed (cut_checks mesh table rank) ≡ 0 → Cuttable
  unfolding first_failed cut_checks rank_checks
  cuttable e =
      let last : Bool = mesh_sound mesh && eqb (mesh_trees mesh) (trees table) in
      let a = passes (ranks_ok table) (cond (valid table) (cond (ltb rank (ranks table)) (cond last 0 7) 5) 3) 1 e in
      let b = passes (valid table) (cond (ltb rank (ranks table)) (cond last 0 7) 5) 2 a.1 in
      let d = passes (ltb rank (ranks table)) (cond last 0 7) 4 b.1 in
      let f = passes last 0 6 d.1 in
      record {
        table_ranks = a.0;
        table_valid = b.0;
        rank_below = ltb-true _ _ d.0;
        mesh_sound_lem = and_fst (mesh_sound mesh) _ f.0;
        same_trees_lem = eqb-true _ _ (and_snd (mesh_sound mesh) _ f.0);
      }

-- ---- the length

module _ (mesh table : List ℕ) (rank : ℕ) (sound : mesh_sound mesh ≡ true) where
  -- tree record i
  pub tree_length : (i : ℕ) → first_tree table rank + i < mesh_trees mesh → length (part_tree mesh table rank i) ≡ tree_size
  unfolding part_tree renamed mesh_record
  tree_length i h =
      let l : length (piece mesh (mesh_header + tree_size * (first_tree table rank + i)) tree_size) ≡ tree_size = piece_length mesh _ tree_size (sound_fits mesh sound (first_tree table rank + i) h) in
      rows_length _ _ _ (rw l (omega arith)) ∙ l

  pub trees_length : (n : ℕ) → first_tree table rank + n ≤ mesh_trees mesh → length (part_trees mesh table rank n) ≡ tree_size * n
  unfolding part_trees
  trees_length zero h = refl
  trees_length (suc n) h = rw (length-append, trees_length n (omega arith), tree_length n (omega arith)) (omega arith)

  core_length : (b : Bool) (k : ℕ) → k < mesh_trees mesh → length (cond b (mesh_core mesh k) []) ≡ core_size * cond b 1 0
  core_length true k h = sound_core mesh sound k h
  core_length false k h = refl

  pub cores_length : (k : ℕ) → k ≤ mesh_trees mesh → length (part_ghosts mesh table rank k) ≡ core_size * ghost_position (mesh_core mesh) table rank k
  unfolding ghost_position count_below
  cores_length zero h = rw (ghosts_none mesh table rank)
  cores_length (suc k) h = rw (ghosts_next mesh table rank k, length-append, cores_length k (omega arith), core_length (is_ghost (mesh_core mesh) table rank k) k (omega arith)) (omega arith)

  -- the length of the part
  pub cut_length : first_tree table rank ≤ end_tree table rank → end_tree table rank ≤ mesh_trees mesh
      → length (cut_part mesh table rank) ≡ part_size (tree_count table rank) (ghost_count mesh table rank)
  unfolding cut_part tree_count ghost_count
  cut_length f e =
      rw (length-append, header_length _ _ _ _ _ _ _, length-append, trees_length (end_tree table rank - first_tree table rank) (omega arith), cores_length (mesh_trees mesh) (le_refl (mesh_trees mesh)))

-- ---- the call

module _ (mesh table : List ℕ) (rank : ℕ) {r : ℕ} (checked : r ≡ first_failed (cut_checks mesh table rank)) where
  pub length_refused_lem : (r ≡ 0 → ⊥) → length_refused r ≡ part_length_of mesh table rank
  unfolding part_length_of length_answer
  length_refused_lem h = rw (← checked, ne_eqb r 0 h)

  module _ (ok : r ≡ 0) where
    pub all_hold : Cuttable mesh table rank
    all_hold = cuttable mesh table rank (sym checked ∙ ok)

    pub cut_fits : Bytes table → CutFits mesh table rank
    cut_fits b =
        let h = all_hold in
        let t = trees_high table b h.table_ranks h.table_valid in
        let l = end_trees table b h.table_ranks h.table_valid rank h.rank_below in
        let s = size table b h.table_ranks h.table_valid in
        record {
          rises = first_le_end table b h.table_ranks h.table_valid rank h.rank_below;
          within = omega arith;
          most = omega arith;
          table_long = omega arith;
          mesh_long = sound_length mesh h.mesh_sound_lem;
        }

    -- the length of the part, where no check fails
    pub cut_size : Bytes table → length (cut_part mesh table rank) ≡ part_size (tree_count table rank) (ghost_count mesh table rank)
    cut_size b = cut_length mesh table rank all_hold.mesh_sound_lem (cut_fits b).rises (cut_fits b).within
