-- The area of a rank, as a function of the senders heard. A heard set is a test of ranks.
use Prim.Native.Nat.{ℕ, zero, suc}
use mathlib.Core.Bool.{Bool, cond, ◌&&◌}
use mathlib.Core.List.{List, [], ◌++◌}
use Rattle.encoding.specs.Below.{count_below}
use Rattle.mesh.specs.Mesh.{mesh_dimension, mesh_trees, mesh_core}
use Rattle.part.specs.Ghosts.{is_ghost}
use Rattle.message.specs.Means.{ghost_sender}
use Rattle.area.specs.Layout.{area_with}
use Rattle.repartition.specs.Run.{Run}
use Rattle.repartition.specs.Words.{slot_heard}

module _ (run : Run) where
  -- g is a ghost of the rank under the new table, and its one sender is heard
  unfoldable pub ghost_heard : (ℕ → Bool) → ℕ → Bool
  ghost_heard H g = is_ghost (mesh_core run.mesh) run.new run.rank g && H (ghost_sender (mesh_core run.mesh) run.old run.new run.rank g)

  -- the cores of those below k, ascending
  unfoldable pub ghosts_heard : (ℕ → Bool) → ℕ → List ℕ
  ghosts_heard H zero = []
  ghosts_heard H (suc k) = ghosts_heard H k ++ cond (ghost_heard H k) (mesh_core run.mesh k) []

  -- the area
  unfoldable pub canonical : (ℕ → Bool) → List ℕ
  canonical H =
      area_with run.epoch (mesh_dimension run.mesh) run.old run.new run.rank H (slot_heard run H) (count_below (mesh_trees run.mesh) (ghost_heard H)) (ghosts_heard H (mesh_trees run.mesh))
