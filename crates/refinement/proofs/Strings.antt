-- Strings and refinements: each accepted string writes one refinement, and each refinement has one string.
use Prim.Native.Nat.{ℕ, zero, suc}
use mathlib.Core.Path.{◌≡◌, refl, sym, ap, ◌∙◌}
use mathlib.Core.Bool.{Bool, true, false}
use mathlib.Core.List.{List, [], ◌∷◌, ◌++◌, append_assoc, append-nil}
use Rattle.encoding.proofs.Below.{clash, and_fst, and_snd, and_intro}
use Rattle.refinement.specs.Refinement.{Row, end, leaf, refined, children, max_depth, fits, refines, bits}
use Rattle.refinement.specs.Reading.{Reading, stopped, found, after_leaf, after_children, after_refined, read_row, read_children, read_tree, whole, row_read, string_ok, refinement_of}
use Rattle.refinement.specs.Promises.{AcceptedIsWritten, WrittenIsAccepted, OnlyString}

-- the children of an element that may be refined so deep
abbrev below : ℕ → ℕ → Row → Bool
below n zero c = false
below n (suc depth) c = fits n c depth n

-- what was read was written, and fits
abbrev Written : (Row → Bool) → List ℕ → Reading → Type 0
Written ok s stopped = Unit {0}
Written ok s (found r t) = (s ≡ bits r ++ t) × (ok r ≡ true)

module _ (n depth : ℕ) where
  fits-refined : (d m : ℕ) (c r : Row) → below n d c ≡ true → fits n r d m ≡ true → fits n (refined c r) d (suc m) ≡ true
  unfolding fits
  fits-refined zero m c r p q = p
  fits-refined (suc d) m c r p q = and_intro (fits n c d n) (fits n r (suc d) m) p q

  written-leaf : (m : ℕ) (s : List ℕ) (q : Reading) → Written (λ r. fits n r depth m) s q → Written (λ r. fits n r depth (suc m)) (0 ∷ s) (after_leaf q)
  unfolding bits fits
  written-leaf m s stopped w = tt
  written-leaf m s (found r t) w = (ap (λ (l : List ℕ). 0 ∷ l) w.0, w.1)

  written_after : (m : ℕ) (s t : List ℕ) (c : Row) → s ≡ bits c ++ t → below n depth c ≡ true → (q : Reading) → Written (λ r. fits n r depth m) t q
      → Written (λ r. fits n r depth (suc m)) (1 ∷ s) (after_children c q)
  unfolding bits
  written_after m s t c e p stopped w = tt
  written_after m s t c e p (found r u) w =
      (ap (λ (l : List ℕ). 1 ∷ l) (e ∙ (ap (λ (l : List ℕ). bits c ++ l) w.0 ∙ sym (append_assoc (bits c) (bits r) u))), fits-refined depth m c r p w.1)

  written-refined : (m : ℕ) (s : List ℕ) (q : Reading) (after : List ℕ → Reading) → Written (below n depth) s q → ((t : List ℕ) → Written (λ r. fits n r depth m) t (after t))
      → Written (λ r. fits n r depth (suc m)) (1 ∷ s) (after_refined q after)
  written-refined m s stopped after w h = tt
  written-refined m s (found c t) after w h = written_after m s t c w.0 w.1 (after t) (h t)

  written_row : (inner : List ℕ → Reading) → ((s : List ℕ) → Written (below n depth) s (inner s)) → (m : ℕ) (s : List ℕ) → Written (λ r. fits n r depth m) s (read_row inner m s)
  unfolding read_row bits fits
  written_row inner h zero s = (refl, refl)
  written_row inner h (suc m) [] = tt
  written_row inner h (suc m) (zero ∷ s) = written-leaf m s (read_row inner m s) (written_row inner h m s)
  written_row inner h (suc m) (suc zero ∷ s) = written-refined m s (inner s) (λ t. read_row inner m t) (h s) (λ t. written_row inner h m t)
  written_row inner h (suc m) (suc (suc b) ∷ s) = tt

written_children : (n depth : ℕ) (s : List ℕ) → Written (below n depth) s (read_children n depth s)
unfolding read_children
written_children n zero s = tt
written_children n (suc depth) s = written_row n depth (read_children n depth) (written_children n depth) n s

-- the string of a row that fits is read back
read_back : (n : ℕ) (r : Row) (depth m : ℕ) (t : List ℕ) → fits n r depth m ≡ true → read_row (read_children n depth) m (bits r ++ t) ≡ found r t
unfolding fits read_row bits read_children
read_back n end depth zero t e = refl
read_back n end depth (suc m) t e = clash e refl
read_back n (leaf r) depth zero t e = clash e refl
read_back n (leaf r) depth (suc m) t e = ap after_leaf (read_back n r depth m t e)
read_back n (refined c r) zero m t e = clash e refl
read_back n (refined c r) (suc depth) zero t e = clash e refl
read_back n (refined c r) (suc depth) (suc m) t e =
    ap (λ (l : List ℕ). after_refined (read_row (read_children n depth) n l) (λ u. read_row (read_children n (suc depth)) m u)) (append_assoc (bits c) (bits r) t)
    ∙ (ap (λ q. after_refined q (λ u. read_row (read_children n (suc depth)) m u)) (read_back n c depth n (bits r ++ t) (and_fst (fits n c depth n) (fits n r (suc depth) m) e))
    ∙ ap (after_children c) (read_back n r (suc depth) m t (and_snd (fits n c depth n) (fits n r (suc depth) m) e)))

tree_read_back : (shape : ℕ) (r : Row) → refines shape r ≡ true → read_tree shape (bits r) ≡ found r []
unfolding refines read_tree
tree_read_back shape r e = ap (read_row (read_children (children shape) max_depth) 1) (sym (append-nil (bits r))) ∙ read_back (children shape) r max_depth 1 [] e

-- the string of every refinement is accepted and read back
pub written_is_accepted : WrittenIsAccepted
unfolding string_ok refinement_of whole row_read
written_is_accepted shape r e = (ap whole (tree_read_back shape r e), ap row_read (tree_read_back shape r e))

whole_written : (ok : Row → Bool) (s : List ℕ) (q : Reading) → Written ok s q → whole q ≡ true → (ok (row_read q) ≡ true) × (s ≡ bits (row_read q))
unfolding whole row_read
whole_written ok s stopped w e = clash e refl
whole_written ok s (found r []) w e = (w.1, w.0 ∙ append-nil (bits r))
whole_written ok s (found r (b ∷ t)) w e = clash e refl

pub accepted_fits : (shape : ℕ) (s : List ℕ) → string_ok shape s ≡ true → (refines shape (refinement_of shape s) ≡ true) × (s ≡ bits (refinement_of shape s))
unfolding string_ok refinement_of refines read_tree
accepted_fits shape s e =
    whole_written (λ r. fits (children shape) r max_depth 1) s (read_tree shape s)
    (written_row (children shape) max_depth (read_children (children shape) max_depth) (written_children (children shape) max_depth) 1 s) e

-- an accepted string is that of its refinement, and of no other
pub accepted_is_written : AcceptedIsWritten
accepted_is_written shape s e =
    (accepted_fits shape s e, λ r h p. sym (written_is_accepted shape r h).1 ∙ ap (refinement_of shape) (sym p))

-- accepted strings of one refinement are one string
pub only_string : OnlyString
only_string shape s t e f p = (accepted_fits shape s e).1 ∙ (ap bits p ∙ sym (accepted_fits shape t f).1)
