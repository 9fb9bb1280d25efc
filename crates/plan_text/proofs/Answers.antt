-- The output is that of the input, and the program has room for it.
use Prim.Native.Nat.{ℕ, zero, suc, ◌+◌, ◌*◌, ◌/◌, ◌≤◌}
use native.Mathlib.Omega.{arith}
use mathlib.Core.Path.{◌≡◌, refl, sym, ap, ◌∙◌}
use mathlib.Core.Bool.{Bool, true, false, cond, ◌&&◌, ◌||◌}
use mathlib.Core.List.{List, [], ◌∷◌, ◌++◌}
use lib.Dec.{leb, eqb}
use lib.ListN.{length, take}
use lib.Seq.{length-take-le}
use borrow.Author.Tests.{leb-true, le-leb, eq-eqb, ne_eqb, eqb-true, eqb-false}
use Rattle.encoding.specs.Pieces.{Bytes}
use Rattle.encoding.specs.Numbers.{le_bytes}
use Rattle.encoding.specs.declared.answer.Length.{Length}
use Rattle.encoding.specs.Answer.{length_refused, length_answer, written, write_answer}
use Rattle.encoding.specs.Refusal.{Check, check, first_failed}
use Rattle.encoding.proofs.Below.{either, clash, and_snd}
use Rattle.encoding.proofs.Refusals.{number_positive}
use Rattle.encoding.proofs.Pieces.{splice_take}
use Rattle.offsets.specs.Table.{table_length, ranks, ranks_ok, trees, valid, table_bytes}
use Rattle.pattern.specs.Calls.{table_checks}
use Rattle.pattern.proofs.Sets.{move_bound}
use Rattle.pattern.proofs.Answers.{tables_agree}
use Rattle.plan_read.specs.Text.{ranks_word}
use Rattle.plan_read.specs.Means.{form_ok, parse, Fills, InputRead}
use Rattle.plan_write.specs.Moves.{plan_ranks, trees_word, messages_word, refused_word, line_text, move_count, moves_output}
use Rattle.plan_text.specs.Plan.{plan_ranks_ok, text_checks, plan_refusal, plan_moves, plan_answer, plan_output, plan_output_answer}
use Rattle.plan_write.specs.Means.{PlanTables, output_answer}
use Rattle.plan_text.specs.Means.{tables_answer}
use Rattle.encoding.specs.declared.refusal.Refusal.{Refusal}
use Rattle.encoding.specs.Refusals.{refusal_number}
use Rattle.std.specs.declared.option.Option.{Option}
use Rattle.std.proofs.Common.{Some, None, Err}
use Rattle.std.specs.Option.{ok_or}
use Rattle.plan_read.proofs.Picked.{some_picked, none_picked}
use Rattle.plan_read.proofs.Decimals.{decimal_most}
use Rattle.plan_read.proofs.Grammar.{table_length_lem, formed}
use Rattle.plan_write.proofs.Writing.{text_most, line_length, output_length}

-- ---- the program's buffer of 131,072 bytes always suffices

bytes_front : (w v : ℕ) (l : List ℕ) → Bytes l → Bytes (le_bytes w v ++ l)
unfolding le_bytes
bytes_front zero v l h i = h i
bytes_front (suc w) v l h zero = omega arith
bytes_front (suc w) v l h (suc i) = bytes_front w (v / 256) l h i

-- a table is made of bytes
pub table_bytes_lem : (vs : List ℕ) → Bytes (table_bytes vs)
unfolding table_bytes
table_bytes_lem [] i = omega arith
table_bytes_lem (v ∷ vs) i = bytes_front 8 v (table_bytes vs) (table_bytes_lem vs) i

two_pass : (a b : Bool) (n : ℕ) → cond a (cond b n 2) 1 ≡ 0 → (a ≡ true) × (b ≡ true) × (n ≡ 0)
two_pass true true n e = (refl, refl, e)
two_pass true false n e = absurd (omega arith)
two_pass false b n e = absurd (omega arith)

-- P within the program's limit
pub ranks_most : (P : ℕ) → plan_ranks_ok P ≡ true → P ≤ plan_ranks
unfolding plan_ranks_ok
ranks_most P e = leb-true P plan_ranks (and_snd (leb 1 P) _ e)

-- a table no longer than that of the limit
pub table_few : (t : List ℕ) → length t ≤ table_length plan_ranks → ranks t ≤ plan_ranks
unfolding ranks
table_few t h = omega arith

-- a table at the start of a buffer
pub prefix_few : (t : List ℕ) (n : ℕ) → n ≤ length t → n ≤ table_length plan_ranks → length (take n t) ≤ table_length plan_ranks
prefix_few t n h l = omega (arith, length-take-le n t h)

-- an input that isn't refused gives two tables that agree, within the limit
pub plan_tables : (text : List ℕ) → plan_refusal text ≡ 0 → PlanTables (table_bytes (parse text).old) (table_bytes (parse text).new)
unfolding plan_refusal first_failed parse
plan_tables text e =
    let old = table_bytes (parse text).old in
    let new = table_bytes (parse text).new in
    let p = two_pass (parse text).ok (plan_ranks_ok (parse text).ranks) (first_failed (table_checks old new)) e in
    record {
      agree = tables_agree old new (first_failed (table_checks old new)) refl (table_bytes_lem (parse text).old) (table_bytes_lem (parse text).new) p.2;
      few = table_few old (omega (arith, table_length_lem (parse text).old, (formed text p.0).old_many, ranks_most (parse text).ranks p.1));
    }

-- a number takes at most 8 bytes of a line
line_most : (word : List ℕ) (n : ℕ) → length (line_text word n) ≤ length word + 9
line_most word n = omega (arith, line_length word n, decimal_most n)

moves_fit : (old new : List ℕ) → PlanTables old new → length (moves_output old new) ≤ 131072
unfolding move_count
moves_fit old new T =
    omega (
      arith,
      output_length old new,
      line_most ranks_word (ranks old),
      line_most trees_word (trees old),
      line_most messages_word (move_count old new),
      text_most old new (ranks old),
      move_bound old new T.agree,
      T.few,
    )

-- no output is longer
pub output_fits : (text : List ℕ) → length (plan_output text) ≤ 131072
unfolding plan_output plan_moves
output_fits text =
    either (eqb (plan_refusal text) 0)
    (λ t. rw t (moves_fit _ _ (plan_tables text (eqb-true (plan_refusal text) 0 t))))
    (λ f. rw f (omega (arith, line_most refused_word (plan_refusal text))))

-- so a buffer of that size is never too short
pub plan_written : (text out : List ℕ) → 131072 ≤ length out → plan_output_answer text out ≡ write_answer 0 (plan_output text) out
unfolding plan_output_answer first_failed
plan_written text out h = rw (le-leb (length (plan_output text)) (length out) (omega (arith, output_fits text)))

-- ---- the call of a plan: its checks in order

-- the checks behind those of two tables count where they pass
three_then : (a b c : Bool) (n : ℕ) → cond a (cond b (cond c n 4) 3) 2 ≡ cond (eqb (cond a (cond b (cond c 0 4) 3) 2) 0) n (cond a (cond b (cond c 0 4) 3) 2)
three_then true true true n = refl
three_then true true false n = refl
three_then true false c n = refl
three_then false b c n = refl

tables_then : (old new : List ℕ) (cs : List Check)
    → first_failed (table_checks old new ++ cs) ≡ cond (eqb (first_failed (table_checks old new)) 0) (first_failed cs) (first_failed (table_checks old new))
unfolding table_checks first_failed
tables_then old new cs = three_then (ranks_ok old && ranks_ok new) (valid old && valid new) (eqb (ranks old) (ranks new) && eqb (trees old) (trees new)) (first_failed cs)

-- the last check: room for the plan
abbrev room : List ℕ → List ℕ → List Check
room output out = check (leb (length output) (length out)) 22 ∷ []

module _ (old new : List ℕ) {r : ℕ} (e : r ≡ first_failed (table_checks old new)) (out : List ℕ) where
  -- tables that fail a check
  pub tables_refused : (r ≡ 0 → ⊥) → (length_refused r, out) ≡ tables_answer old new out
  unfolding tables_answer write_answer length_answer written
  tables_refused n = rw (tables_then old new (room (moves_output old new) out), ← e, ne_eqb r 0 n, ne_eqb r 0 n)

  -- tables that pass
  pub tables_moved : r ≡ 0 → output_answer (moves_output old new) out ≡ tables_answer old new out
  unfolding tables_answer output_answer
  tables_moved z = rw (tables_then old new (room (moves_output old new) out), ← e, eq-eqb r 0 z)

module _ (text out : List ℕ) where
  -- an input of another form
  pub plan_unformed : form_ok text ≡ false → (length_refused 1, out) ≡ plan_answer text out
  unfolding plan_answer first_failed parse write_answer length_answer written
  plan_unformed e = rw e

  module _ (e : form_ok text ≡ true) where
    -- too few or too many ranks
    pub plan_unranked : plan_ranks_ok (parse text).ranks ≡ false → (length_refused 2, out) ≡ plan_answer text out
    unfolding plan_answer first_failed parse write_answer length_answer written
    plan_unranked f = rw (e, f)

    module _ (t : plan_ranks_ok (parse text).ranks ≡ true) where
      -- else the tables decide
      pub plan_tabled : tables_answer (table_bytes (parse text).old) (table_bytes (parse text).new) out ≡ plan_answer text out
      unfolding plan_answer plan_moves first_failed parse tables_answer
      plan_tabled = rw (e, t)

-- no input was read
pub unread : (o : Option ℕ) {e : Refusal} → Err e ≡ ok_or o Refusal.Input → (o ≡ None) × (e ≡ Refusal.Input)
unread (Some n) h = absurd cc
unread None h = (refl, cc)

-- what the input says, read into two tables with room for the program's limit of P
module _ {text old_entry old_exit new_entry new_exit : List ℕ} where
  pub read_unformed : InputRead text old_entry old_exit new_entry new_exit None → (out : List ℕ) → (length_refused 1, out) ≡ plan_answer text out
  read_unformed R out = plan_unformed text out (none_picked (form_ok text) _ R.gives)

  module _ {P : ℕ} (R : InputRead text old_entry old_exit new_entry new_exit (Some P)) where
    form_is : form_ok text ≡ true
    form_is = (some_picked (form_ok text) R.gives).0

    ranks_are : P ≡ (parse text).ranks
    ranks_are = (some_picked (form_ok text) R.gives).1

    pub read_unranked : (out : List ℕ) → plan_ranks_ok P ≡ false → (length_refused 2, out) ≡ plan_answer text out
    read_unranked out f = plan_unranked text out form_is (ap plan_ranks_ok (sym ranks_are) ∙ f)

    module _ (t : plan_ranks_ok P ≡ true) where
      pub read_most : table_length P ≤ table_length plan_ranks
      read_most = omega (arith, ranks_most P t)

      -- the entries of a list that was read are the table of P ranks
      part : (vs bs out : List ℕ) → length vs ≡ P + 1 → table_length plan_ranks ≤ length bs → Fills (parse text).ranks vs bs out → take (8 * (P + 1)) out ≡ table_bytes vs
      part vs bs out l b f =
          let m : 0 + length (table_bytes vs) ≡ 8 * (P + 1) = omega (arith, table_length_lem vs) in
          rw (f (rw (← ranks_are) (omega (arith, read_most))), ← m) (splice_take bs 0 (table_bytes vs) (omega (arith, read_most)))

      pub read_tables : (out : List ℕ) → table_length plan_ranks ≤ length old_entry → table_length plan_ranks ≤ length new_entry
          → tables_answer (take (8 * (P + 1)) old_exit) (take (8 * (P + 1)) new_exit) out ≡ plan_answer text out
      unfolding parse
      read_tables out o n =
          let form = formed text form_is in
          rw (part (parse text).old old_entry old_exit (form.old_many ∙ rw ranks_are) o (R.old form_is), part (parse text).new new_entry new_exit (form.new_many ∙ rw ranks_are) n (R.new form_is))
          (plan_tabled text out form_is (ap plan_ranks_ok (sym ranks_are) ∙ t))

-- ---- the call of the output, over that of a plan

-- the checks behind those of a text count where they pass
two_then : (a b : Bool) (k m n : ℕ) → k ≡ cond (eqb m 0) n m → cond a (cond b k 2) 1 ≡ cond (eqb (cond a (cond b m 2) 1) 0) n (cond a (cond b m 2) 1)
two_then true true k m n e = e
two_then true false k m n e = refl
two_then false b k m n e = refl

two_small : (a b : Bool) (m : ℕ) → m ≤ 4 → cond a (cond b m 2) 1 ≤ 4
two_small true true m h = h
two_small true false m h = omega arith
two_small false b m h = omega arith

three_small : (a b c : Bool) → cond a (cond b (cond c 0 4) 3) 2 ≤ 4
three_small true true true = omega arith
three_small true true false = omega arith
three_small true false c = omega arith
three_small false b c = omega arith

length_refusal : (r n : ℕ) → (length_answer r n).refusal ≡ r
unfolding length_answer
length_refusal r n = either (eqb r 0) (λ t. rw t (sym (eqb-true r 0 t))) (λ f. rw f)

module _ (text : List ℕ) where
  text-then : (cs : List Check) → first_failed (text_checks text ++ cs) ≡ cond (eqb (plan_refusal text) 0) (first_failed cs) (plan_refusal text)
  unfolding plan_refusal first_failed
  text-then cs =
      let old = table_bytes (parse text).old in
      let new = table_bytes (parse text).new in
      two_then (parse text).ok (plan_ranks_ok (parse text).ranks) (first_failed (table_checks old new ++ cs)) (first_failed (table_checks old new)) (first_failed cs) (tables_then old new cs)

  -- a text's refusal is at most 4
  refusal-small : plan_refusal text ≤ 4
  unfolding plan_refusal first_failed table_checks
  refusal-small =
      let old = table_bytes (parse text).old in
      let new = table_bytes (parse text).new in
      two_small (parse text).ok (plan_ranks_ok (parse text).ranks) _
      (three_small (ranks_ok old && ranks_ok new) (valid old && valid new) (eqb (ranks old) (ranks new) && eqb (trees old) (trees new)))

  module _ (out : List ℕ) where
    -- a text that isn't refused: the plan is the output
    plan-kept : plan_refusal text ≡ 0 → plan_answer text out ≡ plan_output_answer text out
    unfolding plan_answer plan_output_answer plan_output
    plan-kept z = rw (text-then (room (plan_moves text) out), eq-eqb (plan_refusal text) 0 z)

    -- its refusal is 0 or 22
    fits : Bool
    fits = leb (length (plan_moves text)) (length out)

    kept-refusal : plan_refusal text ≡ 0 → (plan_answer text out).0.refusal ≡ cond fits 0 22
    unfolding plan_answer write_answer fits first_failed
    kept-refusal z = rw (text-then (room (plan_moves text) out), eq-eqb (plan_refusal text) 0 z) (length_refusal _ _)

    -- one that is refused: nothing is written
    refused-plan : (plan_refusal text ≡ 0 → ⊥) → plan_answer text out ≡ (length_refused (plan_refusal text), out)
    unfolding plan_answer write_answer length_answer written
    refused-plan n = rw (text-then (room (plan_moves text) out), ne_eqb (plan_refusal text) 0 n, ne_eqb (plan_refusal text) 0 n)

    -- and the line is the output
    refused-output : (plan_refusal text ≡ 0 → ⊥) → output_answer (line_text refused_word (plan_refusal text)) out ≡ plan_output_answer text out
    unfolding plan_output_answer output_answer plan_output
    refused-output n = rw (ne_eqb (plan_refusal text) 0 n)

zero_or_22 : (b : Bool) (r : ℕ) → r ≡ cond b 0 22 → (eqb r 0 || eqb r 22) ≡ true
zero_or_22 true r e = rw e
zero_or_22 false r e = rw e

neither : (r : ℕ) → 1 ≤ r → r ≤ 4 → (eqb r 0 || eqb r 22) ≡ false
neither r l h = rw (ne_eqb r 0 (omega arith), ne_eqb r 22 (omega arith))

-- the plan's answer, and what it leaves in the buffer
module _ (text out : List ℕ) {mid : List ℕ} {l : Length} (h : (l, mid) ≡ plan_answer text out) where
  refusal_is : l.refusal ≡ (plan_answer text out).0.refusal
  refusal_is = ap (λ (a : Length × List ℕ). a.0.refusal) h

  refused-is : (plan_refusal text ≡ 0 → ⊥) → l.refusal ≡ plan_refusal text
  refused-is n = refusal_is ∙ ap (λ (a : Length × List ℕ). a.0.refusal) (refused-plan text out n)

  -- 0 or 22 is the answer for the output too
  pub output_kept : (eqb l.refusal 0 || eqb l.refusal 22) ≡ true → (l, mid) ≡ plan_output_answer text out
  output_kept t =
      either (eqb (plan_refusal text) 0)
      (λ z. h ∙ plan-kept text out (eqb-true (plan_refusal text) 0 z))
      (λ z. let n = eqb-false (plan_refusal text) 0 z in
      clash t (rw (refused-is n) (neither (plan_refusal text) (omega arith) (refusal-small text))))

  module _ (f : (eqb l.refusal 0 || eqb l.refusal 22) ≡ false) where
    -- any other is the text's refusal
    is-refused : plan_refusal text ≡ 0 → ⊥
    is-refused z = clash (zero_or_22 (fits text out) l.refusal (refusal_is ∙ kept-refusal text out z)) f

    pub output_refused : {answer : Length × List ℕ} → answer ≡ output_answer (line_text refused_word l.refusal) mid → answer ≡ plan_output_answer text out
    output_refused e =
        let same : mid ≡ out = ap (λ (a : Length × List ℕ). a.1) h ∙ ap (λ (a : Length × List ℕ). a.1) (refused-plan text out is-refused) in
        (rw (same, refused-is is-refused) at e) ∙ refused-output text out is-refused

-- no other refusal has the number 22
buffer_only : (e : Refusal) → refusal_number e ≡ 22 → e ≡ Refusal.Buffer
buffer_only e h = grind arith

-- every refusal but 22
pub other_refusal : (e : Refusal) → (e ≡ Refusal.Buffer → ⊥) → (eqb (refusal_number e) 0 || eqb (refusal_number e) 22) ≡ false
other_refusal e n = rw (ne_eqb (refusal_number e) 0 (number_positive e), ne_eqb (refusal_number e) 22 (λ h. n (buffer_only e h)))
