-- Probes, the boxes of trees, and which trees a probe meets. Floats and their comparisons are those of IEEE 754: -0 equals 0, and a comparison with a NaN is false.
use Rattle.std.specs.Prelude.{ℕ, ◌+◌, ◌*◌, Bool, not, ◌&&◌, List, ltb, Float}
use Rattle.std.specs.Float.{binary32}
use Rattle.std.specs.Float.Ieee.{is_nan, le, lt, of_bits}
use Rattle.encoding.specs.Below.{all_below, kept_below}
use Rattle.encoding.specs.Numbers.{u32_at}
use Rattle.records.specs.Record.{core_size}
use Rattle.part.specs.Layout.{tree_place}
use Rattle.part.specs.Part.{part_count}
use Rattle.probes.specs.declared.Probe.{Probe}
use Rattle.probes.specs.declared.Probe.TheVariants.{Point, HalfSpace, Slab}

-- the tree data of tree i is six f32: number k of them
unfoldable pub box_number : List ℕ → ℕ → ℕ → Float
box_number part i k = of_bits binary32 (u32_at part (tree_place i + (core_size + 4 * k)))

-- low corner, then high corner, on three axes
abbrev pub low : List ℕ → ℕ → ℕ → Float
low part i axis = box_number part i axis

abbrev pub high : List ℕ → ℕ → ℕ → Float
high part i axis = box_number part i (3 + axis)

-- 32: a box has no NaN, and low isn't above high
unfoldable pub axis_ok : List ℕ → ℕ → ℕ → Bool
axis_ok part i axis = not (is_nan (low part i axis)) && not (is_nan (high part i axis)) && not (lt (high part i axis) (low part i axis))

unfoldable pub box_ok : List ℕ → ℕ → Bool
box_ok part i = all_below 3 (axis_ok part i)

unfoldable pub boxes_ok : List ℕ → Bool
boxes_ok part = all_below (part_count part) (box_ok part)

-- 31: a probe has no NaN, no axis above 2 and no lower limit above its upper
unfoldable pub probe_ok : Probe → Bool
probe_ok (Point x y z) = not (is_nan x) && not (is_nan y) && not (is_nan z)
probe_ok (HalfSpace axis limit) = ltb axis 3 && not (is_nan limit)
probe_ok (Slab axis lower upper) = ltb axis 3 && not (is_nan lower) && not (is_nan upper) && not (lt upper lower)

-- low ≤ value ≤ high on all axes; low ≤ limit; low ≤ upper limit and lower limit ≤ high
unfoldable pub meets : Probe → List ℕ → ℕ → Bool
meets (Point x y z) part i =
    le (low part i 0) x && le x (high part i 0) && le (low part i 1) y && le y (high part i 1) && le (low part i 2) z && le z (high part i 2)
meets (HalfSpace axis limit) part i = le (low part i axis) limit
meets (Slab axis lower upper) part i = le (low part i axis) upper && le lower (high part i axis)

-- the local indices of all trees met, ascending, each once
unfoldable pub trees_met : List ℕ → Probe → List ℕ
trees_met part probe = kept_below (part_count part) (meets probe part)
