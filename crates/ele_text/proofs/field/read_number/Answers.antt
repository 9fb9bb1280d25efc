use mathlib.Core.Path.{◌≡◌, sym, refl, ◌∙◌}
use mathlib.Core.Bool.{◌&&◌}
use lib.Dec.{leb}
use lib.ListN.{length, get_or}
use native.Mathlib.Omega.{arith}
use borrow.Author.Rules.{rules}
use Rattle.ele_text.specs.Text.{is_digit}
use Rattle.ele_text.proofs.Numbers.{reading_none, reading_small, reading_more, sized_most, digit_range, number_long, number_broken, number_done}
use Rattle.ele_text.proofs.field.read_number.Goals as goal

pub returns-then-not-contains : goal.returns-then-not-contains
returns-then-not-contains c =
    let sized : c.contains.result ≡ (leb 1 (length c.args.s.now) && leb (length c.args.s.now) 8) = c.contains.ensures.value ∙ (search rules) in
    number_long _ (sym sized ∙ c.if-not-contains.true)

pub loop-b-init : goal.loop-b-init
loop-b-init c = reading_none _

pub returns-then-not-is_ascii_digit : goal.returns-then-not-is_ascii_digit
unfolding is_digit
returns-then-not-is_ascii_digit c = number_broken _ _ c.loop-b-test.true (sym c.is_ascii_digit.ensures.value ∙ c.if-not-is_ascii_digit.true)

pub overflow_mul-v : goal.overflow_mul-v
overflow_mul-v c =
    let sized : c.contains.result ≡ (leb 1 (length c.args.s.now) && leb (length c.args.s.now) 8) = c.contains.ensures.value ∙ (search rules) in
    omega (arith, reading_small _ _ _ c.loop-b.invariant (omega (arith, sized_most c.args.s.now (sym sized ∙ c.if-not-contains.false))))

pub overflow_sub-v : goal.overflow_sub-v
unfolding is_digit
overflow_sub-v c = (digit_range _ (sym c.is_ascii_digit.ensures.value ∙ c.if-not-is_ascii_digit.false)).0

pub overflow_add-v : goal.overflow_add-v
unfolding is_digit
overflow_add-v c =
    let sized : c.contains.result ≡ (leb 1 (length c.args.s.now) && leb (length c.args.s.now) 8) = c.contains.ensures.value ∙ (search rules) in
    let digit = digit_range (get_or c.args.s.now c.loop-b.b-index 0) (sym c.is_ascii_digit.ensures.value ∙ c.if-not-is_ascii_digit.false) in
    omega (arith, digit, reading_small _ _ _ c.loop-b.invariant (omega (arith, sized_most c.args.s.now (sym sized ∙ c.if-not-contains.false))))

pub loop-b-preserved : goal.loop-b-preserved
unfolding is_digit
loop-b-preserved c = reading_more _ _ _ _ c.loop-b.invariant c.loop-b-test.true refl (sym c.is_ascii_digit.ensures.value ∙ c.if-not-is_ascii_digit.false)

pub returns : goal.returns
returns c =
    let sized : c.contains.result ≡ (leb 1 (length c.args.s.now) && leb (length c.args.s.now) 8) = c.contains.ensures.value ∙ (search rules) in
    number_done _ _ _ (sym sized ∙ c.if-not-contains.false) c.loop-b.invariant c.loop-b-test.false
