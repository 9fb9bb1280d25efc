-- Restart on another number of ranks: parts of P ranks, padded, moved and relabelled, give each new rank its part under the new ranks' own table.
use Rattle.std.specs.Prelude.{ℕ, ◌≤◌, ◌<◌, ◌≡◌, true, cond, List, leb, length, take}
use Rattle.encoding.specs.Answer.{write_answer}
use Rattle.encoding.specs.Pieces.{Bytes}
use Rattle.encoding.specs.Refusal.{first_failed}
use Rattle.offsets.specs.Table.{ranks, trees}
use Rattle.mesh.specs.Mesh.{mesh_dimension, mesh_trees, mesh_sound}
use Rattle.part.specs.Layout.{part_header}
use Rattle.part.specs.Cut.{cut_part}
use Rattle.restart.specs.Restart.{padded_table}
use Rattle.restart.specs.Calls.{pad_checks, empty_part_of, relabel_part}
use Rattle.repartition.specs.Run.{Run, Setting}
use Rattle.repartition.specs.Lists.{Call, AllBuilt}
use Rattle.repartition.specs.Demand.{size, close_after}

-- a whole mesh, the table of the ranks that wrote its parts, that of the ranks that read them, to how many ranks both are padded, one of the new ranks, and an epoch
module _ (mesh old new : List ℕ) (M rank epoch : ℕ) where
  -- the run between the padded tables
  abbrev pub padded_run : Run
  padded_run = record { mesh = mesh; old = padded_table old M; new = padded_table new M; rank = rank; epoch = epoch }

  -- the mesh is sound, pad_table accepts both tables, they have the mesh's K, the rank is one of the new ranks, the epoch a u32
  pub record Restartable : Type 0 where
    pub mesh_bytes : Bytes mesh
    pub mesh_sound_lem : mesh_sound mesh ≡ true
    pub old_bytes : Bytes old
    pub new_bytes : Bytes new
    pub old_pads : first_failed (pad_checks old M) ≡ 0
    pub new_pads : first_failed (pad_checks new M) ≡ 0
    pub old_trees : mesh_trees mesh ≡ trees old
    pub new_trees : mesh_trees mesh ≡ trees new
    pub rank_below : rank < ranks new
    pub padded_below : rank < M
    pub epoch_word : epoch < 4294967296

  -- what an accepted close writes after a list of calls of this run
  abbrev pub closed_part : List ℕ → List Call → List ℕ → List ℕ
  closed_part b cs closed = take (close_after padded_run b cs closed).0.length (close_after padded_run b cs closed).1

  -- what the calls give
  pub record Restarted : Type 0 where
    -- demand 3 speaks of this run
    pub setting : Setting padded_run
    -- it begins with the cuts of the mesh under the padded old table: each part of an old rank, relabelled
    pub begins : (p : ℕ) → p < ranks old → p < M → (out : List ℕ)
        → relabel_part (cut_part mesh old p) old p (padded_table old M) p out
        ≡ write_answer (cond (leb (length (cut_part mesh old p)) (length out)) 0 22) (cut_part mesh (padded_table old M) p) out
    -- and an empty part for each other rank
    pub fills : (p : ℕ) → ranks old ≤ p → p < M → (out : List ℕ)
        → empty_part_of (padded_table old M) p (mesh_dimension mesh) out ≡ write_answer (cond (leb part_header (length out)) 0 22) (cut_part mesh (padded_table old M) p) out
    -- what an accepted close writes after every list of calls, relabelled, is the cut of the mesh under the new ranks' own table
    pub ends : (b : List ℕ) → size padded_run ≤ length b → (cs : List Call) → AllBuilt padded_run cs → (closed : List ℕ) → (close_after padded_run b cs closed).0.refusal ≡ 0 → (out : List ℕ)
        → relabel_part (closed_part b cs closed) (padded_table new M) rank new rank out
        ≡ write_answer (cond (leb (length (cut_part mesh new rank)) (length out)) 0 22) (cut_part mesh new rank) out

-- wherever the tables can be padded
abbrev pub Restarts : Type 0
Restarts = (mesh old new : List ℕ) (M rank epoch : ℕ) → Restartable mesh old new M rank epoch → Restarted mesh old new M rank epoch
