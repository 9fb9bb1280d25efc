-- What the two calls answer for every text: a rendered one by what was rendered, every other one with refusal 1.
use Rattle.std.specs.Prelude.{ℕ, ◌≤◌, ◌≡◌, cond, List, [], ◌∷◌, ◌++◌, leb, length}
use Rattle.encoding.specs.Answer.{write_answer}
use Rattle.encoding.specs.Refusal.{check, first_failed}
use Rattle.plan_read.specs.Text.{input_limit, render, Input, Rendered}
use Rattle.plan_write.specs.Moves.{refused_word, line_text}
use Rattle.plan_text.specs.Plan.{input_checks, input_moves, input_output, plan_answer, plan_output_answer}

-- the program's buffer for its output
abbrev pub output_room : ℕ
output_room = 131072

-- what an input's text was rendered from
pub record TextOf (P : ℕ) (old new : List ℕ) : Type 0 where
  pub input : Input P old new
  pub short : length (render P old new) ≤ input_limit

pub record PlanTexts : Type 0 where
  -- the plan: the first of the checks of what was rendered that fails (2, 3, 4), 22 where the plan doesn't fit, else the plan
  pub rendered : (P : ℕ) (old new out : List ℕ) → TextOf P old new
      → plan_answer (render P old new) out
      ≡ write_answer (first_failed (input_checks P old new ++ (check (leb (length (input_moves old new)) (length out)) 22 ∷ []))) (input_moves old new) out
  -- every other text is refused with 1, and the buffer stays as it was
  pub other : (text out : List ℕ) → (Rendered text → ⊥) → plan_answer text out ≡ write_answer 1 [] out
  -- the whole output of the program: that of what was rendered
  pub output_rendered : (P : ℕ) (old new out : List ℕ) → TextOf P old new
      → plan_output_answer (render P old new) out ≡ write_answer (cond (leb (length (input_output P old new)) (length out)) 0 22) (input_output P old new) out
  -- for every other text the line `refused=1`
  pub output_other : (text out : List ℕ) → (Rendered text → ⊥)
      → plan_output_answer text out ≡ write_answer (cond (leb (length (line_text refused_word 1)) (length out)) 0 22) (line_text refused_word 1) out
  -- and in the program's buffer it always fits
  pub output_fits : (text out : List ℕ) → output_room ≤ length out → (plan_output_answer text out).0.refusal ≡ 0
  -- a text is rendered from one input only
  pub one_input : (P Q : ℕ) (old new old' new' : List ℕ) → TextOf P old new → TextOf Q old' new' → render P old new ≡ render Q old' new'
      → (P ≡ Q) × (old ≡ old') × (new ≡ new')
