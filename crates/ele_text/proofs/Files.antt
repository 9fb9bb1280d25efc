-- What is read line by line is what `Text` says.
use Prim.Native.Nat.{ℕ, suc, ◌+◌, ◌-◌, ◌*◌, ◌≤◌}
use mathlib.Core.Path.{◌≡◌, refl, sym, ap, subst, ◌∙◌}
use mathlib.Core.Bool.{Bool, true, false, cond, ◌&&◌, ◌||◌, and-true, and-false}
use mathlib.Core.List.{List, [], ◌∷◌, ◌++◌, append_assoc, append-nil}
use native.Mathlib.Nat.{add-zero}
use native.Mathlib.Numerals.{add-one}
use native.Mathlib.Omega.{arith}
use lib.Dec.{leb, ltb, eqb}
use lib.ListN.{length, take}
use borrow.Author.Tests.{leb-true, eqb-true, le-leb, eq-eqb, ne_eqb}
use Rattle.encoding.proofs.Below.{either, clash, and_fst, and_snd, and_intro}
use Rattle.std.specs.Prelude.{None, Some}
use Rattle.std.specs.declared.option.Option.{Option}
use Rattle.ele_text.specs.declared.line.Row.{Row}
use Rattle.ele_text.specs.declared.file.File.{File}
use Rattle.ele_text.specs.Text.{pieces, is_empty, first_piece, but_last, last_piece, filled, lines, ended, fields, rows as rows_in, is_number, row_number, all_numbers, row_ok, max_triangles, head_ok, numbered, rows_ok, text_ok, behind_first, vertices_of, vertices as vertices_in, triangles}
use Rattle.ele_text.specs.Means.{empty_row, add_field, with_field, with_fields, row_of, Read, nothing_read, is_head, is_triangle, add_row, blank, with_row, accepted, read_end, with_lines, read_of, Within, TextRead}
use Rattle.ele_text.proofs.Splits.{pieces_some}

or_right : (a b : Bool) → b ≡ true → (a || b) ≡ true
or_right true b e = refl
or_right false b e = e

-- ---- fields

add_fields : Option Row → List (List ℕ) → Option Row
add_fields r [] = r
add_fields r (p ∷ ps) = add_fields (add_field r p) ps

-- a row of fields
as_row : List (List ℕ) → Option Row
as_row fs = add_fields (Some empty_row) fs

fields_filled : (r : Option Row) (ps : List (List ℕ)) → with_fields r ps ≡ add_fields r (filled ps)
unfolding with_fields with_field filled add_fields
fields_filled r [] = refl
fields_filled r (p ∷ ps) = either (is_empty p) (λ q. rw q (fields_filled r ps)) (λ q. rw q (fields_filled (add_field r p) ps))

row_fields : (line : List ℕ) → row_of line ≡ as_row (fields line)
unfolding row_of fields as_row
row_fields line = fields_filled (Some empty_row) (pieces 32 9 (first_piece (pieces 35 35 line)))

broken_fields : (fs : List (List ℕ)) → add_fields None fs ≡ None
unfolding add_fields add_field
broken_fields [] = refl
broken_fields (p ∷ ps) = broken_fields ps

added_filled : (r : Option Row) (p : List ℕ) → blank (add_field r p) ≡ false
unfolding blank add_field
added_filled None p = refl
added_filled (Some r) p =
    either (ltb r.count 4 && is_number p) (λ q. rw q (ne_eqb (r.count + 1) 0 (λ e. omega arith))) (λ q. rw q)

filled_on : (r : Option Row) (fs : List (List ℕ)) → blank r ≡ false → blank (add_fields r fs) ≡ false
unfolding add_fields
filled_on r [] h = h
filled_on r (p ∷ ps) h = filled_on (add_field r p) ps (added_filled r p)

row_skip : (m : Option Read) (fs : List (List ℕ)) → is_empty fs ≡ true → with_row m (as_row fs) ≡ m
unfolding with_row as_row add_fields is_empty blank
row_skip m [] e = refl
row_skip m (p ∷ ps) e = clash refl (sym e)

row_kept : (m : Option Read) (fs : List (List ℕ)) → is_empty fs ≡ false → with_row m (as_row fs) ≡ add_row m (as_row fs)
unfolding with_row as_row add_fields is_empty blank
row_kept m [] e = clash refl e
row_kept m (p ∷ ps) e = let b : blank (add_fields (add_field (Some empty_row) p) ps) ≡ false = filled_on (add_field (Some empty_row) p) ps (added_filled (Some empty_row) p) in rw b

-- five fields or more
long_row : (a b c d e : List ℕ) (fs : List (List ℕ)) → as_row (a ∷ b ∷ c ∷ d ∷ e ∷ fs) ≡ None
unfolding as_row add_fields add_field
long_row a b c d e fs =
    either (is_number a)
    (λ p. either (is_number b)
    (λ q. either (is_number c)
    (λ s. either (is_number d) (λ t. rw (p, q, s, t, broken_fields fs)) (λ t. rw (p, q, s, t, broken_fields fs)))
    (λ s. rw (p, q, s, broken_fields fs)))
    (λ q. rw (p, q, broken_fields fs)))
    (λ p. rw (p, broken_fields fs))

-- ---- rows

add_rows : Option Read → List (List (List ℕ)) → Option Read
add_rows m [] = m
add_rows m (fs ∷ rs) = add_rows (add_row m (as_row fs)) rs

broken_rows : (rs : List (List (List ℕ))) → add_rows None rs ≡ None
unfolding add_rows add_row
broken_rows [] = refl
broken_rows (fs ∷ rs) = broken_rows rs

lines_rows : (ps : List (List ℕ)) (m : Option Read) → is_empty ps ≡ false → with_lines m ps ≡ read_end (add_rows m (rows_in (but_last ps))) (last_piece ps)
unfolding with_lines is_empty but_last last_piece rows_in add_rows
lines_rows [] m e = clash refl e
lines_rows (p ∷ []) m e = refl
lines_rows (p ∷ q ∷ ps) m e =
    either (is_empty (fields p))
    (λ z. rw (z, row_fields p, row_skip m (fields p) z) (lines_rows (q ∷ ps) m refl))
    (λ z. rw (z, row_fields p, row_kept m (fields p) z) (lines_rows (q ∷ ps) (add_row m (as_row (fields p))) refl))

-- ---- the first row

head_added : (h : List (List ℕ)) → add_row (Some nothing_read) (as_row h) ≡ cond (head_ok h) (Some (record { rows = 1; count = row_number h 0; next = 0; vertices = [] })) None
unfolding add_row as_row add_fields add_field is_head head_ok row_ok all_numbers row_number
head_added [] = refl
head_added (a ∷ []) = either (is_number a) (λ p. rw p) (λ p. rw p)
head_added (a ∷ b ∷ []) = either (is_number a) (λ p. either (is_number b) (λ q. rw (p, q)) (λ q. rw (p, q))) (λ p. rw p)
head_added (a ∷ b ∷ c ∷ []) =
    either (is_number a)
    (λ p. either (is_number b) (λ q. either (is_number c) (λ s. rw (p, q, s)) (λ s. rw (p, q, s))) (λ q. rw (p, q)))
    (λ p. rw p)
head_added (a ∷ b ∷ c ∷ d ∷ []) =
    either (is_number a)
    (λ p. either (is_number b)
    (λ q. either (is_number c) (λ s. either (is_number d) (λ t. rw (p, q, s, t)) (λ t. rw (p, q, s, t))) (λ s. rw (p, q, s)))
    (λ q. rw (p, q)))
    (λ p. rw p)
head_added (a ∷ b ∷ c ∷ d ∷ e ∷ fs) =
    let n : eqb (length (a ∷ b ∷ c ∷ d ∷ e ∷ fs)) 3 ≡ false = ne_eqb (length (a ∷ b ∷ c ∷ d ∷ e ∷ fs)) 3 (λ q. omega arith) in
    rw (long_row a b c d e fs, n)

-- ---- the others

-- the row is that of the next triangle
is_next : ℕ → ℕ → ℕ → List (List ℕ) → Bool
is_next rows count next t = (row_ok 4 t && leb rows count) && (eqb (row_number t 0) next || (eqb rows 1 && eqb (row_number t 0) 1))

module _ (rows count next : ℕ) (vs : List ℕ) (some : 1 ≤ rows) where
  later : eqb rows 0 ≡ false
  later = ne_eqb rows 0 (λ q. omega arith)

  triangle-added : (t : List (List ℕ)) → add_row (Some (record { rows = rows; count = count; next = next; vertices = vs })) (as_row t)
      ≡ cond (is_next rows count next t) (Some (record { rows = rows + 1; count = count; next = row_number t 0 + 1; vertices = vs ++ (row_number t 1 ∷ row_number t 2 ∷ row_number t 3 ∷ []) })) None
  unfolding add_row as_row add_fields add_field is_triangle is_next row_ok all_numbers row_number
  triangle-added [] = rw later
  triangle-added (a ∷ []) = either (is_number a) (λ p. rw (p, later)) (λ p. rw p)
  triangle-added (a ∷ b ∷ []) = either (is_number a) (λ p. either (is_number b) (λ q. rw (p, q, later)) (λ q. rw (p, q))) (λ p. rw p)
  triangle-added (a ∷ b ∷ c ∷ []) =
      either (is_number a)
      (λ p. either (is_number b) (λ q. either (is_number c) (λ s. rw (p, q, s, later)) (λ s. rw (p, q, s))) (λ q. rw (p, q)))
      (λ p. rw p)
  triangle-added (a ∷ b ∷ c ∷ d ∷ []) =
      either (is_number a)
      (λ p. either (is_number b)
      (λ q. either (is_number c) (λ s. either (is_number d) (λ t. rw (p, q, s, t, later)) (λ t. rw (p, q, s, t))) (λ s. rw (p, q, s)))
      (λ q. rw (p, q)))
      (λ p. rw p)
  triangle-added (a ∷ b ∷ c ∷ d ∷ e ∷ fs) =
      let n : eqb (length (a ∷ b ∷ c ∷ d ∷ e ∷ fs)) 4 ≡ false = ne_eqb (length (a ∷ b ∷ c ∷ d ∷ e ∷ fs)) 4 (λ q. omega arith) in
      rw (long_row a b c d e fs, n)

accepted_at : (rows n k : ℕ) (vs : List ℕ) → accepted (Some (record { rows = rows; count = n; next = k; vertices = vs })) ≡ eqb rows (n + 1)
unfolding accepted
accepted_at rows n k vs = refl

accepted_none : accepted None ≡ false
unfolding accepted
accepted_none = refl

-- all n triangles, with these vertices
record Accepted (m : Option Read) (n : ℕ) (vs : List ℕ) : Type 0 where
  next : ℕ
  is : m ≡ Some (record { rows = n + 1; count = n; next = next; vertices = vs })

numbered_cons : (k : ℕ) (t : List (List ℕ)) (ts : List (List (List ℕ))) → row_ok 4 t ≡ true → row_number t 0 ≡ k → numbered (suc k) ts ≡ true → numbered k (t ∷ ts) ≡ true
unfolding numbered
numbered_cons k t ts a b c = and_intro (row_ok 4 t && eqb (row_number t 0) k) (numbered (suc k) ts) (and_intro (row_ok 4 t) _ a (eq-eqb (row_number t 0) k b)) c

numbered_none : (k : ℕ) → numbered k [] ≡ true
unfolding numbered
numbered_none k = refl

module _ (k : ℕ) (t : List (List ℕ)) (ts : List (List (List ℕ))) (e : numbered k (t ∷ ts) ≡ true) where
  this-ok : row_ok 4 t ≡ true
  unfolding numbered
  this-ok = and_fst (row_ok 4 t) _ (and_fst (row_ok 4 t && eqb (row_number t 0) k) _ e)

  this-number : row_number t 0 ≡ k
  unfolding numbered
  this-number = eqb-true (row_number t 0) k (and_snd (row_ok 4 t) _ (and_fst (row_ok 4 t && eqb (row_number t 0) k) _ e))

  rest-numbered : numbered (suc k) ts ≡ true
  unfolding numbered
  rest-numbered = and_snd (row_ok 4 t && eqb (row_number t 0) k) _ e

run_yes : (ts : List (List (List ℕ))) (rows n k : ℕ) (vs : List ℕ) → 2 ≤ rows → numbered k ts ≡ true → rows + length ts ≡ n + 1
    → Accepted (add_rows (Some (record { rows = rows; count = n; next = k; vertices = vs })) ts) n (vs ++ vertices_of ts)
unfolding add_rows vertices_of is_next
run_yes [] rows n k vs h e l = let q : rows ≡ n + 1 = omega arith in record { next = k; is = rw (q, append-nil vs) }
run_yes (t ∷ ts) rows n k vs h e l =
    let a : row_number t 0 ≡ k = this-number k t ts e in
    let s : k + 1 ≡ suc k = add-one k in
    let ih : Accepted (add_rows (Some (record { rows = rows + 1; count = n; next = suc k; vertices = vs ++ (row_number t 1 ∷ row_number t 2 ∷ row_number t 3 ∷ []) })) ts) n ((vs ++ (row_number t 1 ∷ row_number t 2 ∷ row_number t 3 ∷ [])) ++ vertices_of ts) =
    run_yes ts (rows + 1) n (suc k) (vs ++ (row_number t 1 ∷ row_number t 2 ∷ row_number t 3 ∷ [])) (omega arith) (rest-numbered k t ts e) (omega arith) in
    rw (triangle-added rows n k vs (omega arith) t, this-ok k t ts e, le-leb rows n (omega arith), a, eq-eqb k k refl, s) (rw append_assoc at ih)

-- what `is_next` says
module _ (rows n k : ℕ) (t : List (List ℕ)) (e : is_next rows n k t ≡ true) where
  next-ok : row_ok 4 t ≡ true
  unfolding is_next
  next-ok = and_fst (row_ok 4 t) _ (and_fst (row_ok 4 t && leb rows n) _ e)

  next-number : (eqb (row_number t 0) k || (eqb rows 1 && eqb (row_number t 0) 1)) ≡ true
  unfolding is_next
  next-number = and_snd (row_ok 4 t && leb rows n) _ e

run_no : (ts : List (List (List ℕ))) (rows n k : ℕ) (vs : List ℕ) → 2 ≤ rows → (numbered k ts && eqb (rows + length ts) (n + 1)) ≡ false
    → accepted (add_rows (Some (record { rows = rows; count = n; next = k; vertices = vs })) ts) ≡ false
unfolding add_rows
run_no [] rows n k vs h e = accepted_at rows n k vs ∙ rw (numbered_none k, add-zero) at e
run_no (t ∷ ts) rows n k vs h e =
    either (is_next rows n k t)
    (λ p. rw (triangle-added rows n k vs (omega arith) t, p, number p, add-one k)
    (run_no ts (rows + 1) n (suc k) (vs ++ (row_number t 1 ∷ row_number t 2 ∷ row_number t 3 ∷ [])) (omega arith) (rest p)))
    (λ p. rw (triangle-added rows n k vs (omega arith) t, p, broken_rows ts) accepted_none)
  where
    number : is_next rows n k t ≡ true → row_number t 0 ≡ k
    number p =
        either (eqb (row_number t 0) k)
        (eqb-true (row_number t 0) k)
        (λ q. clash (rw q at (next-number rows n k t p)) (rw (ne_eqb rows 1 (λ z. omega arith))))

    rest : is_next rows n k t ≡ true → (numbered (suc k) ts && eqb (rows + 1 + length ts) (n + 1)) ≡ false
    rest p =
        either (numbered (suc k) ts && eqb (rows + 1 + length ts) (n + 1))
        (λ q. clash
        (and_intro (numbered k (t ∷ ts)) (eqb (rows + length (t ∷ ts)) (n + 1)) (numbered_cons k t ts (next-ok rows n k t p) (number p) (and_fst (numbered (suc k) ts) _ q))
        (eq-eqb (rows + length (t ∷ ts)) (n + 1) (omega (arith, eqb-true (rows + 1 + length ts) (n + 1) (and_snd (numbered (suc k) ts) _ q)))))
        e)
        (λ q. q)

-- ---- from the first triangle on

-- numbered from 0 or from 1, as many as n
in_order : ℕ → List (List (List ℕ)) → Bool
in_order n ts = eqb (length ts) n && (numbered 0 ts || numbered 1 ts)

zero_one : (a : ℕ) → a ≤ 1 → (eqb a 0 || eqb a 1) ≡ true
zero_one a h = either (eqb a 0) (λ p. rw p) (λ p. rw p (eq-eqb a 1 (let n : (a ≡ 0) → ⊥ = borrow.Author.Tests.eqb-false a 0 p in omega arith)))

module _ (n : ℕ) (some : 1 ≤ n) where
  start : Option Read
  start = Some (record { rows = 1; count = n; next = 0; vertices = [] })

  first-from : (k : ℕ) (ts : List (List (List ℕ))) → k ≤ 1 → numbered k ts ≡ true → length ts ≡ n → Accepted (add_rows start ts) n (vertices_of ts)
  unfolding add_rows vertices_of is_next start
  first-from k [] h e l = absurd (omega arith)
  first-from k (t ∷ ts) h e l =
      let a : row_number t 0 ≡ k = this-number k t ts e in
      rw (triangle-added 1 n 0 [] (omega arith) t, this-ok k t ts e, le-leb 1 n some, a, zero_one k h, add-one k)
      (run_yes ts 2 n (suc k) (row_number t 1 ∷ row_number t 2 ∷ row_number t 3 ∷ []) (omega arith) (rest-numbered k t ts e) (omega arith))

  first-yes : (ts : List (List (List ℕ))) → in_order n ts ≡ true → Accepted (add_rows start ts) n (vertices_of ts)
  unfolding in_order
  first-yes ts e =
      let l : length ts ≡ n = eqb-true (length ts) n (and_fst (eqb (length ts) n) _ e) in
      let o : (numbered 0 ts || numbered 1 ts) ≡ true = and_snd (eqb (length ts) n) _ e in
      either (numbered 0 ts) (λ p. first-from 0 ts (omega arith) p l) (λ p. first-from 1 ts (omega arith) (rw p at o) l)

  first-no : (ts : List (List (List ℕ))) → in_order n ts ≡ false → accepted (add_rows start ts) ≡ false
  unfolding add_rows start in_order
  first-no [] e = accepted_at 1 n 0 [] ∙ ne_eqb 1 (n + 1) (λ q. omega arith)
  first-no (t ∷ ts) e =
      either (is_next 1 n 0 t)
      (λ p. rw (triangle-added 1 n 0 [] (omega arith) t, p, add-one (row_number t 0))
      (run_no ts 2 n (suc (row_number t 0)) (row_number t 1 ∷ row_number t 2 ∷ row_number t 3 ∷ []) (omega arith) (rest p)))
      (λ p. rw (triangle-added 1 n 0 [] (omega arith) t, p, broken_rows ts) accepted_none)
    where
      either_way : is_next 1 n 0 t ≡ true → numbered (suc (row_number t 0)) ts ≡ true → (numbered 0 (t ∷ ts) || numbered 1 (t ∷ ts)) ≡ true
      either_way p q =
          either (eqb (row_number t 0) 0)
          (λ z. let a : row_number t 0 ≡ 0 = eqb-true (row_number t 0) 0 z in rw (numbered_cons 0 t ts (next-ok 1 n 0 t p) a (rw a at q)))
          (λ z. let a : row_number t 0 ≡ 1 = eqb-true (row_number t 0) 1 (rw z at (next-number 1 n 0 t p)) in
          or_right (numbered 0 (t ∷ ts)) (numbered 1 (t ∷ ts)) (numbered_cons 1 t ts (next-ok 1 n 0 t p) a (rw a at q)))

      rest : is_next 1 n 0 t ≡ true → (numbered (suc (row_number t 0)) ts && eqb (2 + length ts) (n + 1)) ≡ false
      rest p =
          either (numbered (suc (row_number t 0)) ts && eqb (2 + length ts) (n + 1))
          (λ q. clash
          (and_intro (eqb (length (t ∷ ts)) n) (numbered 0 (t ∷ ts) || numbered 1 (t ∷ ts))
          (eq-eqb (length (t ∷ ts)) n (omega (arith, eqb-true (2 + length ts) (n + 1) (and_snd (numbered (suc (row_number t 0)) ts) _ q))))
          (either_way p (and_fst (numbered (suc (row_number t 0)) ts) _ q)))
          e)
          (λ q. q)

-- ---- the whole text

-- what was read of rows and of the bytes behind the last LF
abbrev Result : Option Read → Bool → List (List (List ℕ)) → Type 0
Result None good rs = good ≡ false
Result (Some m) good rs = (good ≡ true) × (m.count ≡ length (behind_first rs)) × (m.vertices ≡ vertices_of (behind_first rs))

no_result : (rs : List (List (List ℕ))) → Result None false rs
no_result rs = refl

end_no : (m : Option Read) (p : List ℕ) → accepted m ≡ false → read_end m p ≡ None
unfolding read_end
end_no m p e = rw (e, and-false (is_empty p))

end_yes : (m : Option Read) (p : List ℕ) → accepted m ≡ true → read_end m p ≡ cond (is_empty p) m None
unfolding read_end
end_yes m p e = rw e (either (is_empty p) (λ q. rw q) (λ q. rw q))

head_some : (h : List (List ℕ)) → head_ok h ≡ true → 1 ≤ row_number h 0
unfolding head_ok
head_some h e =
    leb-true 1 (row_number h 0)
    (and_fst (leb 1 (row_number h 0)) _ (and_snd (row_ok 3 h && (eqb (row_number h 1) 3 && eqb (row_number h 2) 0)) (leb 1 (row_number h 0) && leb (row_number h 0) max_triangles) e))

accepted_all : {m : Option Read} {n : ℕ} {vs : List ℕ} → Accepted m n vs → accepted m ≡ true
unfolding accepted
accepted_all {m} {n} a = rw a.is (eq-eqb (n + 1) (n + 1) refl)

rows_good : (m : Option Read) (h : List (List ℕ)) (ts : List (List (List ℕ))) (p : List ℕ) → Accepted m (length ts) (vertices_of ts) → Result (read_end m p) (is_empty p) (h ∷ ts)
unfolding behind_first
rows_good m h ts p a =
    rw (end_yes m p (accepted_all a))
    (either (is_empty p)
    (λ q. rw (q, a.is) (refl, refl, refl))
    (λ q. rw q (no_result (h ∷ ts))))

read_rows : (rs : List (List (List ℕ))) (p : List ℕ) → Result (read_end (add_rows (Some nothing_read) rs) p) (is_empty p && rows_ok rs) rs
unfolding add_rows rows_ok row_number in_order start
read_rows [] p = rw (end_no (Some nothing_read) p (accepted_at 0 0 0 []), and-false (is_empty p)) (no_result [])
read_rows (h ∷ ts) p =
    either (head_ok h)
    (λ q. rw (head_added h, q)
    (either (in_order (row_number h 0) ts)
    (λ i. rw (ordered i, and-true (is_empty p)) (rows_good (add_rows (start (row_number h 0) (head_some h q)) ts) h ts p (many q i)))
    (λ i. rw (ordered i, and-false (is_empty p), end_no (add_rows (start (row_number h 0) (head_some h q)) ts) p (first-no (row_number h 0) (head_some h q) ts i)) (no_result (h ∷ ts)))))
    (λ q. rw (head_added h, q, broken_rows ts, end_no None p accepted_none, and-false (is_empty p)) (no_result (h ∷ ts)))
  where
    ordered : {b : Bool} → in_order (row_number h 0) ts ≡ b → (eqb (length ts) (row_number h 0) && (numbered 0 ts || numbered 1 ts)) ≡ b
    ordered i = i

    many : (q : head_ok h ≡ true) → in_order (row_number h 0) ts ≡ true → Accepted (add_rows (start (row_number h 0) (head_some h q)) ts) (length ts) (vertices_of ts)
    many q i =
        let n : row_number h 0 ≡ length ts = sym (eqb-true (length ts) (row_number h 0) (and_fst (eqb (length ts) (row_number h 0)) _ i)) in
        subst (λ (k : ℕ). Accepted (add_rows (start (row_number h 0) (head_some h q)) ts) k (vertices_of ts)) n (first-yes (row_number h 0) (head_some h q) ts i)

read_text : (text : List ℕ) → Result (with_lines (Some nothing_read) (pieces 10 10 text)) (text_ok text) (rows_in (lines text))
unfolding text_ok ended lines
read_text text = rw (lines_rows (pieces 10 10 text) (Some nothing_read) (pieces_some 10 10 text)) (read_rows (rows_in (but_last (pieces 10 10 text))) (last_piece (pieces 10 10 text)))

-- ---- what `read` ensures

module _ (text vs : List ℕ) where
  pub text_accepted : (f : File) → Within f → eqb f.rows (f.count + 1) ≡ true → with_lines (Some nothing_read) (pieces 10 10 text) ≡ Some (read_of f vs) → TextRead text vs (Some f.count)
  unfolding vertices_in triangles
  text_accepted f w t e =
      let r : Result (Some (read_of f vs)) (text_ok text) (rows_in (lines text)) = subst (λ (m : Option Read). Result m (text_ok text) (rows_in (lines text))) e (read_text text) in
      let n : f.rows ≡ f.count + 1 = eqb-true f.rows (f.count + 1) t in
      let k : 3 * (f.rows - 1) ≡ 3 * f.count = omega arith in
      record { ok = r.0; count = r.1; within = w.count; filled = ap (λ (i : ℕ). take i vs) (sym k) ∙ r.2 }

  pub text_refused : with_lines (Some nothing_read) (pieces 10 10 text) ≡ None → TextRead text vs None
  text_refused e = subst (λ (m : Option Read). Result m (text_ok text) (rows_in (lines text))) e (read_text text)
