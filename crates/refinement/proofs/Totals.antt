-- What a tree's count is: the leaves of its refinement, and a count that the table from leaf counts takes.
use Prim.Native.Nat.{ℕ, zero, suc, ◌+◌, ◌≤◌}
use native.Mathlib.Nat.{zero-add}
use native.Mathlib.Omega.{arith}
use mathlib.Core.Path.{◌≡◌, refl, sym, ap, ◌∙◌}
use mathlib.Core.Bool.{Bool, true, false, cond}
use mathlib.Core.List.{List, [], ◌∷◌, ◌++◌}
use lib.Dec.{leb, ltb, eqb}
use lib.ListN.{length, replicate}
use borrow.Author.Tests.{le-leb, leb-true, eqb-true}
use Rattle.encoding.specs.Refusal.{first_failed}
use Rattle.encoding.proofs.Below.{either, clash, and_fst, and_snd}
use Rattle.leaf_shares.specs.Leaves.{max_leaves}
use Rattle.refinement.specs.Refinement.{refinable, Row, end, leaf, refined, Kind, upright, inverted, one, children, child_kinds, max_depth, fits, refines, bits, leaves_in, leaves}
use Rattle.refinement.specs.Reading.{string_ok, refinement_of}
use Rattle.refinement.specs.Calls.{upright_leaves, inverted_leaves, tree_leaves, count_refusal, leaves_answer, count_leaves}
use Rattle.refinement.specs.Promises.{CountsAreLeaves, zero_bytes, EveryLeafCounted, OthersUpright, CountInLimits}
use Rattle.refinement.proofs.Strings.{written_is_accepted, accepted_fits}
use Rattle.refinement.proofs.Counts.{kinds_length}

-- the answer for a refinement's string is its leaves
pub counts_are_leaves : CountsAreLeaves
unfolding count_leaves count_refusal leaves_answer first_failed tree_leaves upright_leaves inverted_leaves
counts_are_leaves shape r so e l =
    let a : string_ok shape (bits r) ≡ true = (written_is_accepted shape r e).0 in
    let b : refinement_of shape (bits r) ≡ r = (written_is_accepted shape r e).1 in
    rw (so, a, b, le-leb (leaves shape upright r + leaves shape inverted r) max_leaves l)

-- only triangles have inverted leaves
upright_row : (shape : ℕ) → eqb shape 1 ≡ false → (r : Row) (m : ℕ) → leaves_in shape inverted r (replicate m upright) ≡ 0
unfolding leaves_in child_kinds
upright_row shape f end m = refl
upright_row shape f (leaf r) zero = refl
upright_row shape f (leaf r) (suc m) = rw (upright_row shape f r m)
upright_row shape f (refined c r) zero = refl
upright_row shape f (refined c r) (suc m) = rw (upright_row shape f r m, f, upright_row shape f c (children shape))

none_inverted : (shape : ℕ) → eqb shape 1 ≡ false → (r : Row) → leaves shape inverted r ≡ 0
unfolding leaves
none_inverted shape f r = upright_row shape f r 1

one_each : (k : Kind) (a b : ℕ) → 1 ≤ one upright k + a + (one inverted k + b)
one_each upright a b = omega arith
one_each inverted a b = omega arith

some_children : (shape : ℕ) → 1 ≤ children shape
unfolding children
some_children shape = either (ltb shape 2) (λ e. rw e (omega arith)) (λ e. rw e (omega arith))

-- a row with an element has a leaf
one_leaf : (shape : ℕ) (r : Row) (depth : ℕ) (ks : List Kind) → 1 ≤ length ks → fits (children shape) r depth (length ks) ≡ true → 1 ≤ leaves_in shape upright r ks + leaves_in shape inverted r ks
unfolding fits leaves_in
one_leaf shape end depth [] h e = absurd (omega arith)
one_leaf shape end depth (k ∷ ks) h e = clash e refl
one_leaf shape (leaf r) depth [] h e = absurd (omega arith)
one_leaf shape (leaf r) depth (k ∷ ks) h e = one_each k (leaves_in shape upright r ks) (leaves_in shape inverted r ks)
one_leaf shape (refined c r) depth [] h e = absurd (omega arith)
one_leaf shape (refined c r) zero (k ∷ ks) h e = clash e refl
one_leaf shape (refined c r) (suc depth) (k ∷ ks) h e =
    let f : fits (children shape) c depth (children shape) ≡ true = and_fst (fits (children shape) c depth (children shape)) (fits (children shape) r (suc depth) (length ks)) e in
    let l : 1 ≤ length (child_kinds shape k) = omega (arith, kinds_length shape k, some_children shape) in
    omega (arith, one_leaf shape c depth (child_kinds shape k) l (rw (kinds_length shape k) f))

-- an accepted string has a leaf
pub accepted_leaf : (shape : ℕ) (s : List ℕ) → string_ok shape s ≡ true → 1 ≤ tree_leaves shape s
unfolding tree_leaves upright_leaves inverted_leaves leaves refines
accepted_leaf shape s e = one_leaf shape (refinement_of shape s) max_depth (upright ∷ []) (omega arith) (accepted_fits shape s e).0

-- the checks that hold where nothing is refused
passed_one : {C : Type 0} (a b c : Bool) → ◌≡◌ {A = ℕ} (cond a (cond b (cond c 0 25) 23) 24) 0 → (b ≡ true → c ≡ true → C) → C
passed_one false b c h f = absurd (omega arith)
passed_one true false c h f = absurd (omega arith)
passed_one true true false h f = absurd (omega arith)
passed_one true true true h f = f refl refl

-- ---- a leaf for each byte 0

zeros_append : (s t : List ℕ) → zero_bytes (s ++ t) ≡ zero_bytes s + zero_bytes t
unfolding zero_bytes
zeros_append [] t = sym (zero-add (zero_bytes t))
zeros_append (zero ∷ s) t = omega (arith, zeros_append s t)
zeros_append (suc b ∷ s) t = zeros_append s t

one_kind : (k : Kind) (a b : ℕ) → one upright k + a + (one inverted k + b) ≡ suc (a + b)
one_kind upright a b = omega arith
one_kind inverted a b = omega arith

-- a row that fits has as many leaves as its string has bytes 0
row_leaves : (shape : ℕ) (r : Row) (depth : ℕ) (ks : List Kind) → fits (children shape) r depth (length ks) ≡ true → leaves_in shape upright r ks + leaves_in shape inverted r ks ≡ zero_bytes (bits r)
unfolding fits leaves_in zero_bytes bits
row_leaves shape end depth ks e = refl
row_leaves shape (leaf r) depth [] e = clash e refl
row_leaves shape (leaf r) depth (k ∷ ks) e = one_kind k (leaves_in shape upright r ks) (leaves_in shape inverted r ks) ∙ ap suc (row_leaves shape r depth ks e)
row_leaves shape (refined c r) zero ks e = clash e refl
row_leaves shape (refined c r) (suc depth) [] e = clash e refl
row_leaves shape (refined c r) (suc depth) (k ∷ ks) e =
    let m : length (child_kinds shape k) ≡ children shape = kinds_length shape k in
    let i = row_leaves shape c depth (child_kinds shape k) (rw m (and_fst (fits (children shape) c depth (children shape)) (fits (children shape) r (suc depth) (length ks)) e)) in
    let j = row_leaves shape r (suc depth) ks (and_snd (fits (children shape) c depth (children shape)) (fits (children shape) r (suc depth) (length ks)) e) in
    omega (arith, i, j, zeros_append (bits c) (bits r))

pub accepted_leaves : (shape : ℕ) (s : List ℕ) → string_ok shape s ≡ true → upright_leaves shape s + inverted_leaves shape s ≡ zero_bytes s
unfolding upright_leaves inverted_leaves leaves refines
accepted_leaves shape s e =
    let f = accepted_fits shape s e in
    row_leaves shape (refinement_of shape s) max_depth (upright ∷ []) f.0 ∙ ap zero_bytes (sym f.1)

-- what the call answers for an accepted string
module _ (shape : ℕ) (s : List ℕ) (e : (count_leaves shape s).refusal ≡ 0) where
  checks_passed : count_refusal shape s ≡ 0
  unfolding count_leaves leaves_answer
  checks_passed =
      either (eqb (count_refusal shape s) 0) (eqb-true (count_refusal shape s) 0) (λ t. rw t at e)

  string-passed : string_ok shape s ≡ true
  unfolding count_refusal first_failed
  string-passed = passed_one (refinable shape) (string_ok shape s) (leb (tree_leaves shape s) max_leaves) checks_passed (λ b c. b)

  answer-is : count_leaves shape s ≡ record { refusal = 0; upright = upright_leaves shape s; inverted = inverted_leaves shape s; leaves = upright_leaves shape s + inverted_leaves shape s }
  unfolding count_leaves leaves_answer
  answer-is = rw checks_passed

pub every_leaf_counted : EveryLeafCounted
every_leaf_counted shape s e = rw (answer-is shape s e) (accepted_leaves shape s (string-passed shape s e), accepted_leaves shape s (string-passed shape s e))

pub others_upright : OthersUpright
unfolding inverted_leaves
others_upright shape f = (
  none_inverted shape f,
  λ s e. let n : inverted_leaves shape s ≡ 0 = none_inverted shape f (refinement_of shape s) in
      rw (answer-is shape s e) (omega (arith, accepted_leaves shape s (string-passed shape s e)), n),
)

-- one tree's count is within the limits of a leaf count
pub count_in_limits : CountInLimits
unfolding count_refusal first_failed
count_in_limits shape s e =
    passed_one (refinable shape) (string_ok shape s) (leb (tree_leaves shape s) max_leaves) e (λ b c. (accepted_leaf shape s b, leb-true (tree_leaves shape s) max_leaves c))
