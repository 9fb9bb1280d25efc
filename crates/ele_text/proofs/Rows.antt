-- A line's row, field by field.
use Prim.Native.Nat.{ℕ, ◌+◌, ◌-◌, ◌≤◌, ◌<◌}
use mathlib.Core.Path.{◌≡◌, refl, sym, ◌∙◌}
use mathlib.Core.Bool.{true, false, and-false}
use mathlib.Core.List.{List, [], ◌∷◌}
use native.Mathlib.Omega.{arith}
use lib.Dec.{ltb, eqb}
use lib.ListN.{length, take, drop}
use borrow.Author.Tests.{lt-ltb, le-ltb, eqb-true, eqb-false}
use Rattle.encoding.proofs.Below.{either}
use Rattle.std.specs.Prelude.{None, Some}
use Rattle.std.specs.declared.option.Option.{Option}
use Rattle.std.proofs.lemmas.Option.{none-some, same_Some}
use Rattle.ele_text.specs.declared.line.Row.{Row}
use Rattle.ele_text.specs.Text.{pieces, is_empty, is_number, field_number}
use Rattle.ele_text.specs.Means.{until_either, numeral_of, empty_row, add_field, with_field, with_fields, row_of}
use Rattle.ele_text.proofs.Splits.{split_most, split_last, split_more, first_piece_lem}

-- ---- one field

pub empty_none : (s : List ℕ) → length s ≡ 0 → s ≡ []
empty_none [] e = refl
empty_none (b ∷ s) e = absurd (omega arith)

pub some_filled : (s : List ℕ) → (length s ≡ 0 → ⊥) → is_empty s ≡ false
unfolding is_empty
some_filled [] h = absurd (h refl)
some_filled (b ∷ s) h = refl

number_fails : (s : List ℕ) → None ≡ numeral_of s → is_number s ≡ false
unfolding numeral_of
number_fails s e = either (is_number s) (λ p. absurd (none-some (field_number s) (rw p at e))) (λ p. p)

number_given : (s : List ℕ) (n : ℕ) → Some n ≡ numeral_of s → (is_number s ≡ true) × (n ≡ field_number s)
unfolding numeral_of
number_given s n e =
    either (is_number s)
    (λ p. (p, same_Some n (field_number s) (rw p at e)))
    (λ p. absurd (none-some n (sym (rw p at e))))

module _ (r : Row) (s : List ℕ) where
  pub field_none : length s ≡ 0 → Some r ≡ with_field (Some r) s
  unfolding with_field is_empty
  field_none e = rw (empty_none s e)

  module _ (some : length s ≡ 0 → ⊥) where
    -- the fifth field
    pub field_over : 4 ≤ r.count → None ≡ with_field (Some r) s
    unfolding with_field add_field
    field_over h = rw (some_filled s some, le-ltb r.count 4 h)

    -- no number
    pub field_refused : None ≡ numeral_of s → None ≡ with_field (Some r) s
    unfolding with_field add_field
    field_refused e = rw (some_filled s some, number_fails s e, and-false (ltb r.count 4))

    pub field_taken : (n : ℕ) → r.count < 4 → Some n ≡ numeral_of s → Some (record { count = r.count + 1; a = r.b; b = r.c; c = r.d; d = n }) ≡ with_field (Some r) s
    unfolding with_field add_field
    field_taken n h e =
        let k = number_given s n e in
        rw (some_filled s some, lt-ltb r.count 4 h, k.0, k.1)

-- ---- all fields of a line without its comment

fields_over : (ps : List (List ℕ)) → with_fields None ps ≡ None
unfolding with_fields with_field add_field
fields_over [] = refl
fields_over (p ∷ ps) = either (is_empty p) (λ q. rw q (fields_over ps)) (λ q. rw q (fields_over ps))

-- up to a place the fields are in the row
abbrev pub Walked : List ℕ → Row → ℕ → Type 0
Walked s r at = (at ≤ length s) × ((r.count ≤ 4) × (with_fields (Some empty_row) (pieces 32 9 s) ≡ with_fields (Some r) (pieces 32 9 (drop at s))))

pub walked_none : (s : List ℕ) → Walked s empty_row 0
walked_none s = (omega arith, (omega arith, refl))

module _ (s : List ℕ) (r : Row) (at u : ℕ) (h : Walked s r at) (e : u ≡ until_either 32 9 (take (length s - at) (drop at s))) {o : Option Row}
    (w : o ≡ with_field (Some r) (take (at + u - at) (drop at s))) where
  pub walked_end : at + u ≡ length s → o ≡ with_fields (Some empty_row) (pieces 32 9 s)
  unfolding with_fields
  walked_end l = w ∙ sym (h.1.1 ∙ rw (split_last 32 9 s at u h.0 e l))

  walked_more : (at + u ≡ length s → ⊥) → with_fields (Some empty_row) (pieces 32 9 s) ≡ with_fields o (pieces 32 9 (drop (at + u + 1) s))
  unfolding with_fields
  walked_more l =
      let m : pieces 32 9 (drop at s) ≡ take (at + u - at) (drop at s) ∷ pieces 32 9 (drop (at + u + 1) s) = split_more 32 9 s at u h.0 e l in
      h.1.1 ∙ rw (m, w)

  -- a field that the row doesn't take
  pub walked_over : o ≡ None → None ≡ with_fields (Some empty_row) (pieces 32 9 s)
  walked_over n =
      either (eqb (at + u) (length s))
      (λ p. sym n ∙ walked_end (eqb-true (at + u) (length s) p))
      (λ p. sym (walked_more (eqb-false (at + u) (length s) p) ∙ rw n (fields_over (pieces 32 9 (drop (at + u + 1) s)))))

  pub walked_on : (q : Row) → o ≡ Some q → q.count ≤ 4 → (at + u ≡ length s → ⊥) → Walked s q (at + u + 1)
  walked_on q n k l = (omega (arith, split_most 32 9 s at u h.0 e), (k, walked_more l ∙ rw n))

-- ---- a whole line

pub row_read_lem : (line : List ℕ) (u : ℕ) {r : Option Row} → u ≡ until_either 35 35 line → r ≡ with_fields (Some empty_row) (pieces 32 9 (take u line)) → r ≡ row_of line
unfolding row_of
row_read_lem line u e q = q ∙ rw (first_piece_lem 35 35 line, e)
