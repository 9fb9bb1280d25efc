-- The examples of document 01, and of document 02 where it changes one, on the values in the calls' contracts.
use Rattle.std.specs.Prelude.{ℕ, zero, suc, ◌+◌, ◌-◌, ◌*◌, ◌^◌, ◌≤◌, ◌≡◌, List, [], ◌∷◌, ◌++◌, map, length, take, replicate}
use Rattle.encoding.specs.Numbers.{le_bytes}
use Rattle.encoding.specs.declared.answer.Length.{Length}
use Rattle.offsets.specs.Table.{table_bytes}
use Rattle.offsets.specs.Calls.{table_refusal, range_answer, table_range}
use Rattle.offsets_write.specs.Calls.{write_table}
use Rattle.leaves.specs.Calls.{table_from_leaves}
use Rattle.records.specs.Record.{unused}
use Rattle.mesh.specs.Mesh.{mesh_refusal}
use Rattle.part.specs.Cut.{cut_part}
use Rattle.part_cut.specs.Calls.{cut_part_of}
use Rattle.message.specs.Calls.{build_message_of}
use Rattle.repartition.specs.Run.{Run}
use Rattle.repartition.specs.Lists.{deliver, Call, close, Answer, delivery, closing, opened, answers_of}
use Rattle.repartition.specs.Demand.{bytes_after}

-- ---- answers

-- a call that writes an object was accepted: the object's length, and a buffer that begins with it
abbrev pub accepted : List ℕ → List ℕ → Length × List ℕ
accepted object rest = (record { refusal = 0; length = length object }, object ++ rest)

-- it was refused: the number, and the buffer as it was
abbrev pub refused : ℕ → List ℕ → Length × List ℕ
refused number out = (record { refusal = number; length = 0 }, out)

-- ---- tables

-- the 64 bits of −n
abbrev pub minus : ℕ → ℕ
minus n = 2 ^ 64 - n

-- five valid tables and four that are refused
unfoldable pub nine_tables : List (List ℕ)
nine_tables =
    table_bytes (0 ∷ 1 ∷ [])
    ∷ table_bytes (0 ∷ minus 1 ∷ 1 ∷ [])
    ∷ table_bytes (0 ∷ 0 ∷ 0 ∷ 5 ∷ [])
    ∷ table_bytes (0 ∷ 3 ∷ minus 3 ∷ 5 ∷ [])
    ∷ table_bytes (0 ∷ minus 3 ∷ minus 3 ∷ 5 ∷ [])
    ∷ table_bytes (0 ∷ 0 ∷ [])
    ∷ table_bytes (minus 1 ∷ 1 ∷ [])
    ∷ table_bytes (0 ∷ 4 ∷ 3 ∷ 5 ∷ [])
    ∷ table_bytes (0 ∷ minus 4 ∷ minus 3 ∷ 5 ∷ [])
    ∷ []

-- rank 1 is empty, tree 2 on ranks 0 and 2
unfoldable pub shared_table : List ℕ
shared_table = table_bytes (0 ∷ 3 ∷ minus 3 ∷ 5 ∷ [])

-- ---- records

-- numbers of four bytes, one after the other
unfoldable pub words : List ℕ → List ℕ
words [] = []
words (n ∷ ns) = le_bytes 4 n ++ words ns

-- a core record: number, shape, six neighbours, six face codes
unfoldable pub core_bytes : ℕ → ℕ → List ℕ → List ℕ → List ℕ
core_bytes number shape neighbours codes = le_bytes 4 number ++ ((shape ∷ 0 ∷ 0 ∷ 0 ∷ []) ++ (words neighbours ++ (codes ++ (0 ∷ 0 ∷ []))))

-- a tree record: the core and 24 bytes of tree data, here x each
unfoldable pub tree_bytes : List ℕ → ℕ → List ℕ
tree_bytes core x = core ++ replicate 24 x

-- ---- three triangles

-- triangle k: face 0 meets face 1 of tree n, face 1 meets face 0 of tree m, face 2 is the boundary
unfoldable pub triangle : ℕ → ℕ → ℕ → List ℕ
triangle k n m = core_bytes k 1 (n ∷ m ∷ k ∷ unused ∷ unused ∷ unused ∷ []) (1 ∷ 0 ∷ 2 ∷ 0 ∷ 0 ∷ 0 ∷ [])

-- their cores, and the mesh
unfoldable pub three : ℕ → List ℕ
three zero = triangle 0 1 2
three (suc zero) = triangle 1 2 0
three (suc (suc k)) = triangle 2 0 1

unfoldable pub triangles : List ℕ
triangles = words (2 ∷ 3 ∷ []) ++ (tree_bytes (three 0) 10 ++ (tree_bytes (three 1) 11 ++ tree_bytes (three 2) 12))

unfoldable pub old_three : List ℕ
old_three = table_bytes (0 ∷ 1 ∷ 3 ∷ 3 ∷ [])

unfoldable pub new_three : List ℕ
new_three = table_bytes (0 ∷ minus 1 ∷ 2 ∷ 3 ∷ [])

-- rank p builds its message for q, in epoch 7, into 250 bytes of 9
unfoldable pub builds : ℕ → ℕ → Length × List ℕ
builds p q = build_message_of (cut_part triangles old_three p) old_three new_three p q 7 (replicate 250 9)

-- the header of that message: epoch, dimension, K, P, sender, receiver, tree count, ghost count
abbrev pub header : ℕ → ℕ → ℕ → ℕ → List ℕ
header p q n g = words (7 ∷ 2 ∷ 3 ∷ 3 ∷ p ∷ q ∷ n ∷ g ∷ [])

-- the part of rank 2 under the new table: tree 2, across whose faces 0 and 1 stand ghosts 0 and 1, at local indices 1 and 2
unfoldable pub part_two : List ℕ
part_two =
    words (2 ∷ 3 ∷ 3 ∷ 2 ∷ 2 ∷ 1 ∷ 2 ∷ 0 ∷ [])
    ++ (tree_bytes (core_bytes 2 1 (1 ∷ 2 ∷ 0 ∷ unused ∷ unused ∷ unused ∷ []) (1 ∷ 0 ∷ 2 ∷ 0 ∷ 0 ∷ 0 ∷ [])) 12 ++ (three 0 ++ three 1))

-- that of rank 1: trees 0 and 1 and ghost 2
unfoldable pub part_one : List ℕ
part_one = words (2 ∷ 3 ∷ 3 ∷ 1 ∷ 0 ∷ 2 ∷ 1 ∷ 0 ∷ []) ++ (tree_bytes (three 0) 10 ++ (tree_bytes (three 1) 11 ++ three 2))

-- ---- three solids

-- a hexahedron, a prism and a tetrahedron: face 0 of the first two meet with orientation 3; face 3 of the prism meets face 1 of the tetrahedron, the prism's orientation given, the tetrahedron's 2
unfoldable pub solids : ℕ → List ℕ
solids orientation =
    words (3 ∷ 3 ∷ [])
    ++ (tree_bytes (core_bytes 0 2 (1 ∷ 0 ∷ 0 ∷ 0 ∷ 0 ∷ 0 ∷ []) (18 ∷ 1 ∷ 2 ∷ 3 ∷ 4 ∷ 5 ∷ [])) 0
    ++ (tree_bytes (core_bytes 1 4 (0 ∷ 1 ∷ 1 ∷ 2 ∷ 1 ∷ unused ∷ []) (18 ∷ 1 ∷ 2 ∷ (6 * orientation + 1) ∷ 4 ∷ 0 ∷ [])) 0
    ++ tree_bytes (core_bytes 2 3 (2 ∷ 1 ∷ 2 ∷ 2 ∷ unused ∷ unused ∷ []) (0 ∷ 15 ∷ 2 ∷ 3 ∷ 0 ∷ 0 ∷ [])) 0))

-- ---- what is shown of them

pub record Examples : Type 0 where
  -- the nine tables
  pub tables : map table_refusal nine_tables ≡ 0 ∷ 0 ∷ 0 ∷ 0 ∷ 0 ∷ 3 ∷ 3 ∷ 3 ∷ 3 ∷ []
  pub shared_0 : table_range shared_table 0 ≡ range_answer 0 0 3
  pub shared_1 : table_range shared_table 1 ≡ range_answer 0 3 0
  pub shared_2 : table_range shared_table 2 ≡ range_answer 0 2 3
  -- its ranges written again; the first of the empty rank isn't read
  pub shared_written : write_table 3 (0 ∷ 77 ∷ 2 ∷ []) (3 ∷ 0 ∷ 3 ∷ []) (replicate 40 9) ≡ accepted shared_table (replicate 8 9)
  -- leaf counts on three ranks: 4,4 as document 01 and 1,1 as document 02, C-15, has it
  pub leaves_4_4 : table_from_leaves 3 (4 ∷ 4 ∷ []) (replicate 32 9) ≡ accepted (table_bytes (0 ∷ minus 1 ∷ minus 2 ∷ 2 ∷ [])) []
  pub leaves_1_1 : table_from_leaves 3 (1 ∷ 1 ∷ []) (replicate 32 9) ≡ accepted (table_bytes (0 ∷ 1 ∷ 2 ∷ 2 ∷ [])) []
  -- the meshes are sound; the solids aren't where the prism's orientation differs from the tetrahedron's
  pub triangles_sound : mesh_refusal triangles ≡ 0
  pub solids_sound : mesh_refusal (solids 2) ≡ 0
  pub solids_unsound : mesh_refusal (solids 1) ≡ 7
  -- a part
  pub part_2 : cut_part_of triangles new_three 2 (replicate 200 9) ≡ accepted part_two (replicate 24 9)
  -- 0 to 0 tree 0, ghosts 1,2; 0 to 1 tree 0, no ghost; 1 to 1 tree 1, ghost 2; 1 to 2 tree 2, ghosts 0,1
  pub message_0_0 : builds 0 0 ≡ accepted (header 0 0 1 2 ++ (tree_bytes (three 0) 10 ++ (three 1 ++ three 2))) (replicate 74 9)
  pub message_0_1 : builds 0 1 ≡ accepted (header 0 1 1 0 ++ tree_bytes (three 0) 10) (replicate 154 9)
  pub message_1_1 : builds 1 1 ≡ accepted (header 1 1 1 1 ++ (tree_bytes (three 1) 11 ++ three 2)) (replicate 114 9)
  pub message_1_2 : builds 1 2 ≡ accepted (header 1 2 1 2 ++ (tree_bytes (three 2) 12 ++ (three 0 ++ three 1))) (replicate 74 9)
  -- and no other message
  pub message_0_2 : builds 0 2 ≡ refused 9 (replicate 250 9)
  pub message_1_0 : builds 1 0 ≡ refused 9 (replicate 250 9)
  pub message_2_0 : builds 2 0 ≡ refused 9 (replicate 250 9)
  pub message_2_1 : builds 2 1 ≡ refused 9 (replicate 250 9)
  pub message_2_2 : builds 2 2 ≡ refused 9 (replicate 250 9)

-- ---- demand 3 on the triangles

-- rank 1 assembles
unfoldable pub run_one : Run
run_one = record { mesh = triangles; old = old_three; new = new_three; rank = 1; epoch = 7 }

-- a close too early, a message, one for another rank, a repeated one, the other message, a close into a short buffer and one into a long one
unfoldable pub seven_calls : List Call
seven_calls =
    close [] ∷ deliver 1 1 ∷ deliver 0 0 ∷ deliver 1 1 ∷ deliver 0 1 ∷ close (replicate 199 9) ∷ close (replicate 300 9) ∷ []

unfoldable pub seven_answers : List Answer
seven_answers =
    closing (refused 20 [])
    ∷ delivery 0
    ∷ delivery 13
    ∷ delivery 15
    ∷ delivery 0
    ∷ closing (refused 22 (replicate 199 9))
    ∷ closing (accepted part_one (replicate 100 9))
    ∷ []

-- the messages in the other order
unfoldable pub two_calls : List Call
two_calls = deliver 0 1 ∷ deliver 1 1 ∷ []

-- in any two buffers of at least 672 bytes: the seven answers, and the same area as after the two
abbrev pub SevenCalls : Type 0
SevenCalls =
    (b c : List ℕ) → 672 ≤ length b → 672 ≤ length c
    → (answers_of run_one (opened run_one b).1 seven_calls ≡ seven_answers) × (take 672 (bytes_after run_one b seven_calls) ≡ take 672 (bytes_after run_one c two_calls))
