-- Taking a row in, and reading a text to its end.
use Prim.Native.Nat.{ℕ, suc, ◌+◌, ◌-◌, ◌*◌, ◌≤◌, ◌<◌}
use mathlib.Core.Path.{◌≡◌, refl, ap, ◌∙◌}
use mathlib.Core.Bool.{Bool, true, false, cond, ◌&&◌, ◌||◌, and-false}
use mathlib.Core.List.{List, [], ◌∷◌, ◌++◌, append_assoc}
use native.Mathlib.Omega.{arith}
use lib.Dec.{leb, eqb}
use lib.ListN.{length, take, drop, set, length-set}
use lib.Seq.{take-suc-set}
use borrow.Author.Tests.{not-true, not-false, leb-true, eqb-true, eq-eqb, ne_eqb}
use Rattle.encoding.proofs.Below.{either, and_fst, and_snd}
use Rattle.std.specs.Prelude.{None, Some}
use Rattle.std.specs.declared.option.Option.{Option}
use Rattle.ele_text.specs.declared.line.Row.{Row}
use Rattle.ele_text.specs.declared.file.File.{File}
use Rattle.ele_text.specs.Text.{pieces, is_empty, max_triangles}
use Rattle.ele_text.specs.Means.{until_either, row_of, Read, nothing_read, is_head, is_triangle, add_row, blank, with_row, accepted, read_end, with_lines, read_of, Within, Taken}
use Rattle.ele_text.proofs.Splits.{split_most, split_last, split_more, pieces_some}
use Rattle.ele_text.proofs.Rows.{some_filled}

-- what a triangle's row tells of its number
pub triangle_bounds : (rows count next : ℕ) (r : Row) → is_triangle rows count next r ≡ true → next ≤ rows → (rows ≤ count) × (r.a ≤ rows)
unfolding is_triangle
triangle_bounds rows count next r e h =
    let s : (eqb r.a next || (eqb rows 1 && eqb r.a 1)) ≡ true = and_snd (eqb r.count 4 && leb rows count) _ e in (
      leb-true rows count (and_snd (eqb r.count 4) _ (and_fst (eqb r.count 4 && leb rows count) _ e)),
      either (eqb r.a next)
          (λ p. omega (arith, eqb-true r.a next p))
          (λ p. let t : (eqb rows 1 && eqb r.a 1) ≡ true = rw p at s in
          omega (arith, eqb-true rows 1 (and_fst (eqb rows 1) _ t), eqb-true r.a 1 (and_snd (eqb rows 1) _ t))),
    )

pub head_bounds : (r : Row) → is_head r ≡ true → r.b ≤ max_triangles
unfolding is_head
head_bounds r e = leb-true r.b max_triangles (and_snd (leb 1 r.b) _ (and_snd (eqb r.count 3 && (eqb r.c 3 && eqb r.d 0)) _ e))

module _ (f : File) (r : Row) (vs : List ℕ) where
  pub row_none : Within f → r.count ≡ 0 → Taken (read_of f vs) r vs (Some f)
  unfolding with_row blank
  row_none w e = (w, rw e)

  module _ (some : r.count ≡ 0 → ⊥) where
    pub row_head : f.rows ≡ 0 → is_head r ≡ true → Taken (read_of f vs) r vs (Some (record { rows = 1; count = r.b; next = 0 }))
    unfolding with_row blank add_row
    row_head z e = (
      record { count = head_bounds r e; rows = omega arith; next = omega arith },
      rw (ne_eqb r.count 0 some, z, e),
    )

    pub row_no_head : f.rows ≡ 0 → is_head r ≡ false → Taken (read_of f vs) r vs None
    unfolding with_row blank add_row
    row_no_head z e = rw (ne_eqb r.count 0 some, z, e)

    module _ (z : f.rows ≡ 0 → ⊥) where
      pub row_no_triangle : is_triangle f.rows f.count f.next r ≡ false → Taken (read_of f vs) r vs None
      unfolding with_row blank add_row
      row_no_triangle e = rw (ne_eqb r.count 0 some, ne_eqb f.rows 0 z, e)

      pub row_triangle : Within f → 3 * max_triangles ≤ length vs → is_triangle f.rows f.count f.next r ≡ true
          → Taken (read_of f vs) r (set (set (set vs (3 * (f.rows - 1)) r.b) (3 * (f.rows - 1) + 1) r.c) (3 * (f.rows - 1) + 2) r.d)
          (Some (record { rows = f.rows + 1; count = f.count; next = r.a + 1 }))
      unfolding with_row blank add_row
      row_triangle w room e =
          let b : (f.rows ≤ f.count) × (r.a ≤ f.rows) = triangle_bounds f.rows f.count f.next r e w.next in (
            record { count = w.count; rows = omega arith; next = omega arith },
            rw (ne_eqb r.count 0 some, ne_eqb f.rows 0 z, e)
                (ap (λ (l : List ℕ). Some (record { rows = f.rows + 1; count = f.count; next = r.a + 1; vertices = l }))
                (three (3 * (f.rows - 1)) (omega (arith, w.count)) (omega arith))),
          )
        where
          three : (i : ℕ) → i + 3 ≤ length vs → 3 * (f.rows + 1 - 1) ≡ suc (suc (suc i))
              → take (3 * (f.rows + 1 - 1)) (set (set (set vs i r.b) (i + 1) r.c) (i + 2) r.d) ≡ take i vs ++ (r.b ∷ r.c ∷ r.d ∷ [])
          three i l q =
              let i1 : i + 1 ≡ suc i = omega arith in
              let i2 : i + 2 ≡ suc (suc i) = omega arith in
              let l0 : i < length vs = omega arith in
              let l1 : suc i < length (set vs i r.b) = simp length-set (omega arith) in
              let l2 : suc (suc i) < length (set (set vs i r.b) (suc i) r.c) = simp length-set (omega arith) in
              rw (
                q,
                i1,
                i2,
                take-suc-set (set (set vs i r.b) (suc i) r.c) (suc (suc i)) r.d l2,
                take-suc-set (set vs i r.b) (suc i) r.c l1,
                take-suc-set vs i r.b l0,
                append_assoc (take i vs ++ (r.b ∷ [])) (r.c ∷ []) (r.d ∷ []),
                append_assoc (take i vs) (r.b ∷ []) (r.c ∷ r.d ∷ []),
              )

-- ---- all lines

lines_over : (ps : List (List ℕ)) → with_lines None ps ≡ None
unfolding with_lines with_row add_row read_end accepted
lines_over [] = refl
lines_over (p ∷ ps) =
    either (is_empty ps)
    (λ q. rw (q, and-false (is_empty p)))
    (λ q. rw (q, cond_same (blank (row_of p))) (lines_over ps))
  where
    cond_same : (b : Bool) → cond {A = Option Read} b None None ≡ None
    cond_same true = refl
    cond_same false = refl

-- up to a place the lines are taken in
pub record Gone (text start vs : List ℕ) (f : File) (at : ℕ) : Type 0 where
  pub inside : at ≤ length text
  pub within : Within f
  pub room : 3 * max_triangles ≤ length vs
  pub same : length vs ≡ length start
  pub left : with_lines (Some nothing_read) (pieces 10 10 text) ≡ with_lines (Some (read_of f vs)) (pieces 10 10 (drop at text))

pub gone_none : (text vs : List ℕ) → 3 * max_triangles ≤ length vs → Gone text vs vs (record { rows = 0; count = 0; next = 0 }) 0
gone_none text vs h =
    record { inside = omega arith; within = record { count = omega arith; rows = omega arith; next = omega arith }; room = h; same = refl; left = refl }

module _ (text start vs : List ℕ) (f : File) (at u : ℕ) (h : Gone text start vs f at) (e : u ≡ until_either 10 10 (take (length text - at) (drop at text))) where
  pub gone_most : at + u ≤ length text
  gone_most = split_most 10 10 text at u h.inside e

  -- at the end
  gone-last : at + u ≡ length text → with_lines (Some nothing_read) (pieces 10 10 text) ≡ read_end (Some (read_of f vs)) (take (at + u - at) (drop at text))
  unfolding with_lines is_empty
  gone-last l = h.left ∙ rw (split_last 10 10 text at u h.inside e l)

  pub gone_accepted : at + u ≡ length text → (eqb at (at + u) && eqb f.rows (f.count + 1)) ≡ true → with_lines (Some nothing_read) (pieces 10 10 text) ≡ Some (read_of f vs)
  unfolding read_end is_empty accepted
  gone_accepted l t =
      let q : at ≡ at + u = eqb-true at (at + u) (and_fst (eqb at (at + u)) _ t) in
      let z : at + u - at ≡ 0 = omega arith in
      gone-last l ∙ rw (z, and_snd (eqb at (at + u)) _ t)

  pub gone_refused : at + u ≡ length text → (eqb at (at + u) && eqb f.rows (f.count + 1)) ≡ false → with_lines (Some nothing_read) (pieces 10 10 text) ≡ None
  unfolding read_end is_empty accepted
  gone_refused l t =
      either (eqb at (at + u))
      (λ p. let q : at ≡ at + u = eqb-true at (at + u) p in
      let z : at + u - at ≡ 0 = omega arith in
      gone-last l ∙ rw (z, rw p at t))
      (λ p. gone-last l ∙ rw (some_filled (take (at + u - at) (drop at text)) (λ k. full p k)))
    where
      full : eqb at (at + u) ≡ false → length (take (at + u - at) (drop at text)) ≡ 0 → ⊥
      full p k =
          let n : (at ≡ at + u) → ⊥ = borrow.Author.Tests.eqb-false at (at + u) p in
          let m : length (take (at + u - at) (drop at text)) ≡ at + u - at = lib.Seq.length-take-le (at + u - at) (drop at text) (omega (arith, lib.ListN.length-drop at text)) in
          n (omega arith)

  module _ {o : Option Row} (more : at + u ≡ length text → ⊥) (w : o ≡ row_of (take (at + u - at) (drop at text))) where
    gone-more : with_lines (Some nothing_read) (pieces 10 10 text) ≡ with_lines (with_row (Some (read_of f vs)) o) (pieces 10 10 (drop (at + u + 1) text))
    unfolding with_lines
    gone-more =
        let m : pieces 10 10 (drop at text) ≡ take (at + u - at) (drop at text) ∷ pieces 10 10 (drop (at + u + 1) text) = split_more 10 10 text at u h.inside e more in
        h.left ∙ rw (m, pieces_some 10 10 (drop (at + u + 1) text), w)

    -- a line that is no row
    pub gone_broken : o ≡ None → with_lines (Some nothing_read) (pieces 10 10 text) ≡ None
    unfolding with_row add_row blank
    gone_broken n = gone-more ∙ rw n (lines_over (pieces 10 10 (drop (at + u + 1) text)))

    -- a row that the file doesn't take
    pub gone_over : (r : Row) → o ≡ Some r → None ≡ with_row (Some (read_of f vs)) (Some r) → with_lines (Some nothing_read) (pieces 10 10 text) ≡ None
    gone_over r n t = gone-more ∙ rw (n, ← t) (lines_over (pieces 10 10 (drop (at + u + 1) text)))

    pub gone_on : (r : Row) {g : File} {next : List ℕ} → o ≡ Some r → Taken (read_of f vs) r next (Some g) → length next ≡ length vs → Gone text start next g (at + u + 1)
    gone_on r {g} {next} n t k =
        record {
          inside = omega (arith, gone_most);
          within = t.0;
          room = omega (arith, h.room);
          same = k ∙ h.same;
          left = gone-more ∙ rw (n, ← t.1);
        }
