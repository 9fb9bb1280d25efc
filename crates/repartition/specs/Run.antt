-- A run: what a repartition is about, and when its parts fit together.
use Rattle.std.specs.Prelude.{ℕ, ◌<◌, true, ◌≡◌, List}
use Rattle.encoding.specs.Pieces.{Bytes}
use Rattle.offsets.specs.Table.{ranks, trees}
use Rattle.pattern.specs.Sender.{Tables}
use Rattle.mesh.specs.Mesh.{mesh_trees, mesh_sound}

-- a whole mesh, the old and the new table, the rank that assembles, and an epoch
pub record Run : Type 0 where
  pub mesh : List ℕ
  pub old : List ℕ
  pub new : List ℕ
  pub rank : ℕ
  pub epoch : ℕ

-- both tables valid with the same P and K, the rank one of theirs, the mesh sound and with their K, the epoch a u32
pub record Setting (run : Run) : Type 0 where
  pub tables : Tables run.old run.new
  pub rank_below : run.rank < ranks run.old
  pub mesh_bytes : Bytes run.mesh
  pub mesh_sound_lem : mesh_sound run.mesh ≡ true
  pub same_trees_lem : mesh_trees run.mesh ≡ trees run.old
  pub epoch_word : run.epoch < 4294967296
