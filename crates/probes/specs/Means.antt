-- Means, no part of what is promised: bits as integers in the order of the floats, and what reading the boxes and listing the trees need.
use Rattle.std.specs.Prelude.{ℕ, ◌+◌, ◌-◌, ◌*◌, ◌%◌, ◌≤◌, ◌≡◌, true, cond, List, leb, length}
use Rattle.encoding.specs.Below.{count_below}
use Rattle.encoding.specs.Numbers.{u32_at}
use Rattle.records.specs.Record.{core_size, tree_size}
use Rattle.part.specs.Layout.{tree_place}
use Rattle.part.specs.Part.{part_count}
use Rattle.probes.specs.declared.Probe.{Probe}
use Rattle.probes.specs.Probes.{box_ok, boxes_ok, probe_ok, meets}

-- the bits of number k of the six of tree i
abbrev pub box_bits : List ℕ → ℕ → ℕ → ℕ
box_bits part i k = u32_at part (tree_place i + (core_size + 4 * k))

-- the bits of a binary32 that is no NaN, as one integer in the order of the floats: 2^31 for both zeros, above it the positive ones
unfoldable pub order_of : ℕ → ℕ
order_of b = cond (leb 2147483648 b) (2147483648 - b % 2147483648) (2147483648 + b % 2147483648)

-- the record of tree i is there
pub record HasTree (part : List ℕ) (i : ℕ) : Type 0 where
  pub fits : tree_place i + tree_size ≤ length part

-- and its box is sound
pub record HasBox (part : List ℕ) (i : ℕ) : Type 0 where
  pub tree : HasTree part i
  pub sound : box_ok part i ≡ true

-- every tree record is there
pub record HasTrees (part : List ℕ) : Type 0 where
  pub fits : tree_place (part_count part) ≤ length part

-- and every box is sound, and the probe: their floats may be compared
pub record Comparable (part : List ℕ) (probe : Probe) : Type 0 where
  pub trees : HasTrees part
  pub boxes : boxes_ok part ≡ true
  pub probe_sound : probe_ok probe ≡ true

-- and the list has an entry for each of the trees met
pub record Listable (part : List ℕ) (probe : Probe) (met : ℕ) (out : List ℕ) : Type 0 where
  pub comparable : Comparable part probe
  pub counted : met ≡ count_below (part_count part) (meets probe part)
  pub room : met ≤ length out
