-- Demand 3, as one statement: order does not matter.
use Rattle.std.specs.Prelude.{ℕ, ◌≤◌, ◌<◌, ◌≡◌, Bool, true, List, length, take, drop}
use Rattle.encoding.specs.declared.answer.Length.{Length}
use Rattle.offsets.specs.Table.{ranks, tree_count, holds}
use Rattle.records.specs.Record.{number_of}
use Rattle.mesh.specs.Mesh.{mesh_dimension, mesh_trees, mesh_core}
use Rattle.part.specs.Ghosts.{is_ghost}
use Rattle.part.specs.Part.{part_count, part_ghost_count, stored_tree, stored_ghost}
use Rattle.message.specs.Build.{part_record}
use Rattle.area.specs.Layout.{area_size}
use Rattle.area.specs.Close.{close_of}
use Rattle.repartition.specs.Run.{Run, Setting}
use Rattle.repartition.specs.Lists.{Call, count_in, AllIn, tree_in, ghost_with, TreeIs, GhostIs, nobody, AllBuilt, opened, area_after_all, answers_of, accepted_by, hears_all, all_due, due_all}

module _ (run : Run) where
  -- how long the area is
  abbrev pub size : ℕ
  size = area_size (mesh_dimension run.mesh) (ranks run.old) (tree_count run.new run.rank)

  -- who is heard by a list's calls from a fresh area
  abbrev pub heard_by : List Call → ℕ → Bool
  heard_by = hears_all run nobody

  -- the bytes of a buffer after the open call and a list
  abbrev pub bytes_after : List ℕ → List Call → List ℕ
  bytes_after buffer = area_after_all run (opened run buffer).1

  -- the messages accepted
  abbrev pub came_in : List ℕ → List Call → List (List ℕ)
  came_in buffer = accepted_by run (opened run buffer).1

  -- a close after the list: its answer, and its buffer after it
  abbrev pub close_after : List ℕ → List Call → List ℕ → Length × List ℕ
  close_after buffer cs out = close_of (bytes_after buffer cs) out

  -- what demand 3 says of two buffers b and c and two lists of calls
  pub record TwoLists (b c : List ℕ) (cs ds : List Call) : Type 0 where
    -- the open call accepts
    pub opens : (opened run b).0.refusal ≡ 0
    -- where the same senders are heard, the areas are equal in every byte
    pub same_area : ((s : ℕ) → heard_by cs s ≡ heard_by ds s) → take size (bytes_after b cs) ≡ take size (bytes_after c ds)
    -- and only there
    pub same_heard : take size (bytes_after b cs) ≡ take size (bytes_after c ds) → (s : ℕ) → heard_by cs s ≡ heard_by ds s
    -- the bytes behind the area stay
    pub behind : drop size (bytes_after b cs) ≡ drop size b
    -- every answer is the one that the calls so far say: first deliveries accepted, 15, 13; 20, 22 or the new table's part
    pub answers : answers_of run (opened run b).1 cs ≡ due_all run nobody cs
    -- once all are heard, each tree and each ghost of the new table's part came in exactly one accepted message
    pub tree_once : all_due run (heard_by cs) ≡ true → (k : ℕ) → holds run.new run.rank k ≡ true → count_in (tree_in k) (came_in b cs) ≡ 1
    pub ghost_once : all_due run (heard_by cs) ≡ true → (k : ℕ) → k < mesh_trees run.mesh → is_ghost (mesh_core run.mesh) run.new run.rank k ≡ true
        → count_in (ghost_with k) (came_in b cs) ≡ 1
    -- and so did the tree in each tree record and the ghost in each ghost record that an accepted close writes
    pub tree_record_once : (out : List ℕ) → (close_after b cs out).0.refusal ≡ 0 → (i : ℕ) → i < part_count (close_after b cs out).1
        → count_in (tree_in (number_of (stored_tree (close_after b cs out).1 i))) (came_in b cs) ≡ 1
    pub ghost_record_once : (out : List ℕ) → (close_after b cs out).0.refusal ≡ 0 → (j : ℕ) → j < part_ghost_count (close_after b cs out).1
        → count_in (ghost_with (number_of (stored_ghost (close_after b cs out).1 j))) (came_in b cs) ≡ 1
    -- whole: the record in the accepted message is the one written, a tree with its data, its neighbours as global numbers
    pub tree_record_whole : (out : List ℕ) → (close_after b cs out).0.refusal ≡ 0 → (i : ℕ) → i < part_count (close_after b cs out).1
        → AllIn (TreeIs (number_of (stored_tree (close_after b cs out).1 i)) (part_record (close_after b cs out).1 (number_of (stored_tree (close_after b cs out).1 i)))) (came_in b cs)
    pub ghost_record_whole : (out : List ℕ) → (close_after b cs out).0.refusal ≡ 0 → (j : ℕ) → j < part_ghost_count (close_after b cs out).1
        → AllIn (GhostIs (number_of (stored_ghost (close_after b cs out).1 j)) (stored_ghost (close_after b cs out).1 j)) (came_in b cs)

-- Demand 3. Take any sound whole mesh, two valid tables that agree in P and in the mesh's K, a rank of theirs and an epoch; two buffers of any content that are at least as long as the area; and any
-- two lists of deliver and close calls, in any order and with repeats, where each delivery is the message that an old rank built from its part of the mesh, for this rank or another. Then the open
-- call accepts, and after the lists the areas are equal in every byte exactly when the same senders are heard by the lists; the bytes behind the area stay; the first delivery of each message meant
-- for the rank is accepted, a repeated one gets 15, one for another rank 13; a close gets 20 until the receive set is heard, then 22 if its buffer is shorter than the part, and else its buffer begins
-- with the part that cutting the mesh by the new table gives, and its answer is that length; and once all are heard, each tree and each ghost of that part came in exactly one accepted message, its
-- record there the one in the part.
abbrev pub Demand3 : Type 0
Demand3 =
    (run : Run) → Setting run → (b c : List ℕ) → size run ≤ length b → size run ≤ length c
    → (cs ds : List Call) → AllBuilt run cs → AllBuilt run ds → TwoLists run b c cs ds
