use Rattle.std.proofs.lemmas.Result.{err_from_is_err_and}
use Rattle.encoding.proofs.Refusals.{number_positive}
use Rattle.pattern.proofs.Answers.{tables_agree}
use Rattle.plan_text.proofs.Answers.{table_few, tables_refused, tables_moved}
use mathlib.Core.Path.{◌∙◌, refl}
use Rattle.plan_text.proofs.buffers.plan_tables.Goals as goal

pub returns-in_err-check_tables : goal.returns-in_err-check_tables
returns-in_err-check_tables c =
    let p = err_from_is_err_and c.from_residual.result c.from_residual.ensures.1 in
    rw (p.1, p.2) (tables_refused _ _ c.in_err-check_tables.ensures _ (number_positive _))

pub write_moves-requires : goal.write_moves-requires
write_moves-requires c =
    record {
      agree = tables_agree _ _ _ c.in_ok-check_tables.ensures (λ i. (c.shared_slice_known-1.given i).fits) (λ i. (c.shared_slice_known-2-1.given i).fits) refl;
      few = table_few _ c.requires;
    }

pub returns : goal.returns
returns c = c.write_moves.ensures ∙ tables_moved _ _ c.in_ok-check_tables.ensures _ refl
