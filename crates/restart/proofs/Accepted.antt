-- What the calls answer where no check fails but that of the room, and that they fit together.
use Prim.Native.Nat.{ℕ, zero, suc, ◌+◌, ◌/◌, ◌<◌}
use native.Mathlib.Omega.{arith}
use mathlib.Core.Path.{◌≡◌, sym, ap}
use mathlib.Core.Bool.{true, cond}
use mathlib.Core.List.{List, [], ◌∷◌, ◌++◌}
use lib.Dec.{leb}
use lib.ListN.{length}
use borrow.Author.Tests.{lt-ltb, eq-eqb}
use Rattle.encoding.specs.Answer.{write_answer}
use Rattle.encoding.specs.Numbers.{le_bytes}
use Rattle.encoding.specs.Pieces.{Bytes}
use Rattle.encoding.specs.Refusal.{Check, check, first_failed}
use Rattle.offsets.specs.Table.{ranks, trees, first_tree, tree_count}
use Rattle.mesh.specs.Mesh.{dimension_ok}
use Rattle.part.specs.Layout.{part_header}
use Rattle.part.specs.Means.{RankKnown}
use Rattle.part.specs.Part.{part_sound}
use Rattle.restart.specs.Restart.{padded_entry, padded_entries, padded_table, empty_part, same_trees, relabelled}
use Rattle.restart.specs.Calls.{empty_checks, empty_part_of, pair_checks, relabel_checks, relabel_part}
use Rattle.restart.specs.Theorems.{Padded}
use Rattle.restart.proofs.Answers.{all_pass, rest_decides}

-- ---- the calls

-- the room decides
room_decides : (cs : List Check) (n : ℕ) (object out : List ℕ) → all_pass cs ≡ true
    → write_answer (first_failed (cs ++ (check (leb n (length out)) 22 ∷ []))) object out ≡ write_answer (cond (leb n (length out)) 0 22) object out
unfolding first_failed
room_decides cs n object out e = ap (λ (r : ℕ). write_answer r object out) (rest_decides cs (check (leb n (length out)) 22 ∷ []) e)

pub pair_accepted : (t : List ℕ) (p : ℕ) (o : List ℕ) (q : ℕ) → RankKnown t p → RankKnown o q → first_failed (pair_checks t p o q) ≡ 0
unfolding pair_checks first_failed
pair_accepted t p o q a b = rw (a.counted, b.counted, a.checked, b.checked, lt-ltb p (ranks t) a.below, lt-ltb q (ranks o) b.below)

pub relabel_accepted : (part t : List ℕ) (p : ℕ) (o : List ℕ) (q : ℕ) (out : List ℕ) → RankKnown t p → RankKnown o q → part_sound part t p ≡ true → same_trees t p o q ≡ true
    → relabel_part part t p o q out ≡ write_answer (cond (leb (length part) (length out)) 0 22) (relabelled part o q) out
unfolding relabel_part relabel_checks pair_checks all_pass
relabel_accepted part t p o q out a b sound same =
    room_decides (relabel_checks part t p o q) (length part) (relabelled part o q) out
    (rw (a.counted, b.counted, a.checked, b.checked, lt-ltb p (ranks t) a.below, lt-ltb q (ranks o) b.below, sound, same))

pub empty_none : (t : List ℕ) (p d : ℕ) → RankKnown t p → dimension_ok d ≡ true → tree_count t p ≡ 0 → first_failed (empty_checks t p d) ≡ 0
unfolding empty_checks first_failed
empty_none t p d a e z = rw (a.counted, a.checked, lt-ltb p (ranks t) a.below, e, z)

pub empty_accepted : (t : List ℕ) (p d : ℕ) (out : List ℕ) → RankKnown t p → dimension_ok d ≡ true → tree_count t p ≡ 0
    → empty_part_of t p d out ≡ write_answer (cond (leb part_header (length out)) 0 22) (empty_part t p d) out
unfolding empty_part_of empty_checks all_pass
empty_accepted t p d out a e z =
    room_decides (empty_checks t p d) part_header (empty_part t p d) out (rw (a.counted, a.checked, lt-ltb p (ranks t) a.below, e, z))

-- ---- a padded table

-- its ranks
pub padded_rank : {t : List ℕ} {n p : ℕ} → Padded t n → p < n → RankKnown (padded_table t n) p
padded_rank a h = record { counted = a.counted; checked = a.checked; below = omega (arith, a.many) }

-- a rank of both has the same trees
module _ {t : List ℕ} {n p : ℕ} (a : Padded t n) (h : p < ranks t) (l : p < n) where
  counts : tree_count (padded_table t n) p ≡ tree_count t p
  unfolding tree_count
  counts = rw (a.firsts p h l, a.ends p h l)

  pub padded_same : same_trees (padded_table t n) p t p ≡ true
  unfolding same_trees
  padded_same =
      rw (
        eq-eqb (trees (padded_table t n)) (trees t) a.same_k,
        eq-eqb (first_tree (padded_table t n) p) (first_tree t p) (a.firsts p h l),
        eq-eqb (tree_count (padded_table t n) p) (tree_count t p) counts,
      )

  pub same_padded : same_trees t p (padded_table t n) p ≡ true
  unfolding same_trees
  same_padded =
      rw (
        eq-eqb (trees t) (trees (padded_table t n)) (sym a.same_k),
        eq-eqb (first_tree t p) (first_tree (padded_table t n) p) (sym (a.firsts p h l)),
        eq-eqb (tree_count t p) (tree_count (padded_table t n) p) (sym counts),
      )

-- its bytes
bytes_append : (a b : List ℕ) → Bytes a → Bytes b → Bytes (a ++ b)
bytes_append [] b h k i = k i
bytes_append (x ∷ a) b h k zero = h zero
bytes_append (x ∷ a) b h k (suc i) = bytes_append a b (λ j. h (suc j)) k i

bytes_of : (w v : ℕ) → Bytes (le_bytes w v)
unfolding le_bytes
bytes_of zero v i = omega arith
bytes_of (suc w) v zero = omega arith
bytes_of (suc w) v (suc i) = bytes_of w (v / 256) i

entries_bytes : (t : List ℕ) (n : ℕ) → Bytes (padded_entries t n)
unfolding padded_entries
entries_bytes t zero i = omega arith
entries_bytes t (suc n) i = bytes_append (padded_entries t n) (le_bytes 8 (padded_entry t n)) (entries_bytes t n) (bytes_of 8 (padded_entry t n)) i

pub padded_bytes : (t : List ℕ) (n : ℕ) → Bytes (padded_table t n)
unfolding padded_table
padded_bytes t n = entries_bytes t (n + 1)
