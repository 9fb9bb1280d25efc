-- Where the records of a message in layout stand.
use Prim.Native.Nat.{ℕ, ◌+◌, ◌≤◌, ◌<◌}
use native.Mathlib.Omega.{arith}
use mathlib.Core.Path.{◌≡◌}
use mathlib.Core.Bool.{true}
use mathlib.Core.List.{List}
use lib.ListN.{length}
use Rattle.records.specs.Record.{core_size}
use Rattle.message.specs.Layout.{message_header, message_tree_place, message_ghost_place, message_trees, message_ghosts, in_layout}
use Rattle.message.proofs.Layouts.{size_length, layout_size}

-- a message in layout has its header and its trees
pub layout_header : (m : List ℕ) → in_layout m ≡ true → message_header ≤ length m
layout_header m e = omega (arith, size_length m (layout_size m e))

pub layout_room : (m : List ℕ) → in_layout m ≡ true → {n : ℕ} → n ≡ message_trees m → message_tree_place n ≤ length m
layout_room m e q = omega (arith, size_length m (layout_size m e))

pub tree_room : (m : List ℕ) → in_layout m ≡ true → {n i at : ℕ} → n ≡ message_trees m → i < n → at ≡ message_tree_place i → at + core_size ≤ length m
tree_room m e p h r = omega (arith, size_length m (layout_size m e))

pub ghost_room : (m : List ℕ) → in_layout m ≡ true → {n g j at : ℕ} → n ≡ message_trees m → g ≡ message_ghosts m → j < g → at ≡ message_ghost_place n j → at + core_size ≤ length m
ghost_room m e p q h r = omega (arith, size_length m (layout_size m e))
