-- What is proved of probes beyond the call's contract.
use Rattle.std.specs.Prelude.{ℕ, ◌≤◌, ◌<◌, ◌≡◌, true, ◌&&◌, List, ltb, Float, length, get_or, take}
use Rattle.std.specs.Float.{binary32}
use Rattle.std.specs.Float.Ieee.{le, lt, of_bits}
use Rattle.encoding.specs.Below.{member}
use Rattle.encoding.specs.Pieces.{piece}
use Rattle.offsets.specs.Table.{tree_count}
use Rattle.part.specs.Layout.{part_header}
use Rattle.part.specs.Part.{part_count, part_ghost_count, stored_tree, stored_ghost}
use Rattle.probes.specs.declared.Probe.{Probe}
use Rattle.probes.specs.declared.Probe.TheVariants.{Point, HalfSpace, Slab}
use Rattle.probes.specs.Probes.{box_number, low, high, axis_ok, probe_ok, meets}
use Rattle.probes.specs.Calls.{trees_near}

-- what an accepted call leaves in its list
pub record Lists (part table : List ℕ) (rank : ℕ) (probe : Probe) (count : ℕ) (out : List ℕ) : Type 0 where
  -- as many entries as it says, at most n
  pub most : count ≤ tree_count table rank
  -- ascending, and so each once
  pub ascends : (i j : ℕ) → i < j → j < count → get_or out i 0 < get_or out j 0
  -- the local trees that the probe meets, and no others
  pub members : (i : ℕ) → member i (take count out) ≡ (ltb i (tree_count table rank) && meets probe part i)

abbrev pub ListsTreesMet : Type 0
ListsTreesMet =
    (part table : List ℕ) (rank : ℕ) (probe : Probe) (out : List ℕ) → (trees_near part table rank probe out).0.refusal ≡ 0
    → Lists part table rank probe (trees_near part table rank probe out).0.count (trees_near part table rank probe out).1

-- n entries always suffice
abbrev pub EnoughEntries : Type 0
EnoughEntries =
    (part table : List ℕ) (rank : ℕ) (probe : Probe) (out : List ℕ) → tree_count table rank ≤ length out → (trees_near part table rank probe out).0.refusal ≡ 22 → ⊥

-- 0 and -0, by their bits
abbrev pub plus_zero : Float
plus_zero = of_bits binary32 0

abbrev pub minus_zero : Float
minus_zero = of_bits binary32 2147483648

-- -0 is compared as 0, on either side of the two comparisons that the definitions use: ≤ in what a probe meets, < in the checks 31 and 32
pub record ComparedAlike (x : Float) : Type 0 where
  pub le_left : le minus_zero x ≡ le plus_zero x
  pub le_right : le x minus_zero ≡ le x plus_zero
  pub lt_left : lt minus_zero x ≡ lt plus_zero x
  pub lt_right : lt x minus_zero ≡ lt x plus_zero

abbrev pub ZerosAlike : Type 0
ZerosAlike = (x : Float) → ComparedAlike x

-- so a slab may go from 0 to -0, and a box may have low 0 and high -0
pub record ZerosAccepted : Type 0 where
  pub limits : (axis : ℕ) → axis < 3 → probe_ok (Slab axis plus_zero minus_zero) ≡ true
  pub corners : (part : List ℕ) (i axis : ℕ) → low part i axis ≡ plus_zero → high part i axis ≡ minus_zero → axis_ok part i axis ≡ true

-- two floats that are the same number: one float, or the two zeros
pub data SameNumber (x y : Float) : Type 0 where
  same : x ≡ y → SameNumber x y
  minus_plus : x ≡ minus_zero → y ≡ plus_zero → SameNumber x y
  plus_minus : x ≡ plus_zero → y ≡ minus_zero → SameNumber x y

-- two probes with the same numbers
pub data SameProbe : Probe → Probe → Type 0 where
  points : {x y z a b c : Float} → SameNumber x a → SameNumber y b → SameNumber z c → SameProbe (Point x y z) (Point a b c)
  half_spaces : {axis : ℕ} {x a : Float} → SameNumber x a → SameProbe (HalfSpace axis x) (HalfSpace axis a)
  slabs : {axis : ℕ} {x y a b : Float} → SameNumber x a → SameNumber y b → SameProbe (Slab axis x y) (Slab axis a b)

-- two parts with the same length, header and cores, and the same numbers in their boxes
pub record SameBoxes (a b : List ℕ) : Type 0 where
  pub same_length : length a ≡ length b
  pub same_header : piece a 0 part_header ≡ piece b 0 part_header
  pub same_trees_lem : (i : ℕ) → i < part_count a → stored_tree a i ≡ stored_tree b i
  pub same_ghosts : (j : ℕ) → j < part_ghost_count a → stored_ghost a j ≡ stored_ghost b j
  pub same_numbers : (i k : ℕ) → i < part_count a → k < 6 → SameNumber (box_number a i k) (box_number b i k)

-- the call answers both alike, and leaves the same list
abbrev pub ZerosAnswered : Type 0
ZerosAnswered =
    (a b table : List ℕ) (rank : ℕ) (p q : Probe) (out : List ℕ) → SameBoxes a b → SameProbe p q
    → trees_near a table rank p out ≡ trees_near b table rank q out
