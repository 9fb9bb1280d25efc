-- Means, no part of what is promised: the one sender of a ghost, the rule applied to a whole mesh; trees and ghosts alike, as the code looks at them, a row of records in a buffer.
use Rattle.std.specs.Prelude.{ℕ, ◌+◌, ◌*◌, ◌≤◌, cond, List, ltb, length}
use Rattle.encoding.specs.Below.{least_below}
use Rattle.encoding.specs.Pieces.{piece}
use Rattle.offsets.specs.Table.{ranks}
use Rattle.records.specs.Record.{core_size}
use Rattle.mesh.specs.Mesh.{mesh_dimension, mesh_trees, mesh_core, mesh_record}
use Rattle.message.specs.Rule.{sends_beside, rule_message}

-- the one sender of ghost g to q: among the senders of g's neighbours in f'(q), q if it is one, else the least
unfoldable pub ghost_sender : (ℕ → List ℕ) → List ℕ → List ℕ → ℕ → ℕ → ℕ
ghost_sender core old new q g = cond (sends_beside core old new q q g) q (least_below (ranks old) (λ r. sends_beside core old new r q g))

-- the rule applied to a whole mesh
unfoldable pub mesh_message : List ℕ → List ℕ → List ℕ → ℕ → ℕ → ℕ → List ℕ
mesh_message mesh old new p q epoch =
    rule_message (mesh_core mesh) old new (λ k. ltb k (mesh_trees mesh)) (mesh_record mesh) p q epoch (mesh_dimension mesh)

-- the core of record i of those from byte start, one every stride bytes
unfoldable pub laid_core : List ℕ → ℕ → ℕ → ℕ → List ℕ
laid_core m start stride i = piece m (start + stride * i) core_size

-- count such records are in the buffer
pub record LaidRow (m : List ℕ) (start stride count : ℕ) : Type 0 where
  pub core : core_size ≤ stride
  pub fits : start + stride * count ≤ length m
