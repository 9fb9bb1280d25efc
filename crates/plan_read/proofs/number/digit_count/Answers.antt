use Rattle.std.specs.Char.{is_ascii_digit}
use Rattle.plan_read.specs.Means.{byte_at, is_digit, digit_count}
use Rattle.encoding.proofs.Below.{all_at, all_more, least_is, least_none, any_none}
use Rattle.encoding.specs.Below.{all_below}
use lib.ListN.{length}
use native.Mathlib.Omega.{arith}
use mathlib.Core.List.{List}
use mathlib.Core.Bool.{true, false, not}
use mathlib.Core.Path.{◌≡◌, sym, refl, ◌∙◌}
use Prim.Native.Nat.{ℕ, ◌+◌, ◌-◌, ◌≤◌, ◌<◌}
use Rattle.plan_read.proofs.number.digit_count.Goals as goal

ascii : (b : ℕ) → is_ascii_digit b ≡ is_digit b
unfolding is_digit
ascii b = refl

module _ (text : List ℕ) (at n : ℕ) where
  -- the count, where a byte that is no digit follows n digits
  stops : all_below n (λ i. is_digit (byte_at text (at + i))) ≡ true → at + n < length text → is_digit (byte_at text (at + n)) ≡ false → n ≡ digit_count text at
  unfolding digit_count
  stops a l e =
      sym (least_is (length text - at) (λ i. not (is_digit (byte_at text (at + i)))) n (omega arith) (rw e) (λ j k. rw (all_at n (λ i. is_digit (byte_at text (at + i))) a j k)))

  -- the count, where the text ends behind n digits
  ends : n ≤ length text - at → all_below n (λ i. is_digit (byte_at text (at + i))) ≡ true → length text ≤ at + n → n ≡ digit_count text at
  unfolding digit_count
  ends h a l =
      let e : length text - at ≡ n = omega arith in
      rw e
      (sym (least_none n (λ i. not (is_digit (byte_at text (at + i)))) (any_none n (λ i. not (is_digit (byte_at text (at + i)))) (λ j k. rw (all_at n (λ i. is_digit (byte_at text (at + i))) a j k)))))

pub loop-i-init : goal.loop-i-init
unfolding all_below
loop-i-init c = let e : c.args.at - c.args.at ≡ 0 = omega arith in (omega arith, rw e)

pub returns-then-not-is_ascii_digit : goal.returns-then-not-is_ascii_digit
returns-then-not-is_ascii_digit c =
    let loop = c.loop-i in
    let at = c.args.at in
    let e : at + (loop.i - at) ≡ loop.i = omega arith in
    (stops _ _ _ loop.invariant.1 (omega arith) (rw e (sym (ascii _) ∙ (sym c.is_ascii_digit.ensures.value ∙ c.if-not-is_ascii_digit.true))), omega arith)

pub loop-i-preserved : goal.loop-i-preserved
loop-i-preserved c =
    let args = c.args in
    let loop = c.loop-i in
    let e : args.at + (loop.i - args.at) ≡ loop.i = omega arith in
    let f : loop.i + 1 - args.at ≡ loop.i - args.at + 1 = omega arith in
    rw f (omega arith, all_more _ (λ i. is_digit (byte_at args.text.now (args.at + i))) loop.invariant.1 (rw e (sym (ascii _) ∙ (sym c.is_ascii_digit.ensures.value ∙ c.if-not-is_ascii_digit.false))))

pub returns : goal.returns
returns c =
    let loop = c.loop-i in
    let e : loop.i - c.args.at ≡ length c.args.text.now - c.args.at = omega (arith, loop.invariant.0) in
    (omega (arith, c.saturating_sub.ensures, ends _ _ (loop.i - c.args.at) loop.invariant.0 loop.invariant.1 (omega arith)), omega (arith, c.saturating_sub.ensures))
