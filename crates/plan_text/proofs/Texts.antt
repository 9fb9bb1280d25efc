-- What the two calls answer for every text.
use Prim.Native.Nat.{ℕ}
use mathlib.Core.Path.{◌≡◌, refl, sym, ap, ◌∙◌}
use mathlib.Core.Bool.{true, false, cond}
use mathlib.Core.List.{List, [], ◌∷◌, ◌++◌}
use lib.Dec.{leb}
use lib.ListN.{length}
use Rattle.encoding.specs.Answer.{length_answer, written, write_answer}
use Rattle.encoding.specs.Refusal.{check, first_failed}
use Rattle.encoding.proofs.Below.{either}
use Rattle.plan_read.specs.Text.{render, Rendered}
use Rattle.plan_read.specs.Means.{Parsed, form_ok, parse}
use Rattle.plan_read.proofs.Grammar.{form_exact, parse_render}
use Rattle.plan_write.specs.Moves.{refused_word, line_text}
use Rattle.plan_text.specs.Plan.{input_checks, input_refusal, input_moves, input_output, plan_refusal, plan_moves, plan_answer, plan_output, plan_output_answer}
use Rattle.plan_text.specs.Promises.{TextOf, PlanTexts}
use Rattle.plan_text.proofs.Answers.{plan_unformed, plan_written}

module _ (P : ℕ) (old new : List ℕ) (i : TextOf P old new) where
  read_back : parse (render P old new) ≡ record { ok = true; ranks = P; old = old; new = new }
  read_back = parse_render P old new i.input i.short

  module _ (out : List ℕ) where
    plan-rendered : plan_answer (render P old new) out
        ≡ write_answer (first_failed (input_checks P old new ++ (check (leb (length (input_moves old new)) (length out)) 22 ∷ []))) (input_moves old new) out
    unfolding plan_answer plan_moves first_failed
    plan-rendered = rw read_back

  output_is : plan_output (render P old new) ≡ input_output P old new
  unfolding plan_output plan_moves plan_refusal input_output input_refusal first_failed
  output_is = rw read_back

module _ (text : List ℕ) (n : Rendered text → ⊥) where
  unformed : form_ok text ≡ false
  unformed = either (form_ok text) (λ ok. absurd (n ((form_exact text).0 ok))) (λ bad. bad)

  plan-other : (out : List ℕ) → plan_answer text out ≡ write_answer 1 [] out
  unfolding write_answer length_answer written
  plan-other out = sym (plan_unformed text out unformed)

  output-one : plan_output text ≡ line_text refused_word 1
  unfolding plan_output plan_refusal first_failed parse
  output-one = rw unformed

-- the answer for an output
output_answer_lem : (text out output : List ℕ) → plan_output text ≡ output → plan_output_answer text out ≡ write_answer (cond (leb (length output) (length out)) 0 22) output out
unfolding plan_output_answer first_failed
output_answer_lem text out output e = rw e

written_fits : (object out : List ℕ) → (write_answer 0 object out).0.refusal ≡ 0
unfolding write_answer length_answer
written_fits object out = refl

-- a rendered text gives the output of what was rendered, every other text `refused=1`
pub plan_texts : PlanTexts
plan_texts =
    record {
      rendered = λ P old new out i. plan-rendered P old new i out;
      other = λ text out n. plan-other text n out;
      output_rendered = λ P old new out i. output_answer_lem (render P old new) out (input_output P old new) (output_is P old new i);
      output_other = λ text out n. output_answer_lem text out (line_text refused_word 1) (output-one text n);
      output_fits = λ text out h. ap (λ a. a.0.refusal) (plan_written text out h) ∙ written_fits (plan_output text) out;
      one_input = λ P Q old new old' new' i j e.
          let s = sym (read_back P old new i) ∙ ap parse e ∙ read_back Q old' new' j in
          (ap (λ (r : Parsed). r.ranks) s, ap (λ (r : Parsed). r.old) s, ap (λ (r : Parsed). r.new) s);
    }
