use Rattle.std.specs.Cmp.Lexicographic.{same_text, other_text, pointwise}
use Rattle.std.proofs.lemmas.List.{take_rest}
use Rattle.plan_read.proofs.Grammar.{word_piece, piece_word}
use Rattle.plan_read.specs.Means.{word_at}
use Rattle.encoding.specs.Pieces.{piece}
use Rattle.encoding.proofs.Below.{either}
use Rattle.std.proofs.Common.{nat_eq, take, drop}
use lib.ListN.{length, get_or}
use native.Mathlib.Omega.{arith}
use mathlib.Core.List.{List}
use mathlib.Core.Bool.{true, false}
use mathlib.Core.Path.{◌≡◌, sym, ◌∙◌}
use Prim.Native.Nat.{ℕ, ◌-◌, ◌<◌}
use Rattle.plan_read.proofs.input.behind.Goals.{else-at-text-via-then-at-text+else-starts_with, else-at-text-via-else-at-text}
use Rattle.plan_read.proofs.input.behind.Goals as goal

module _ (text : List ℕ) (at : ℕ) (word : List ℕ) where
  found : true ≡ pointwise nat_eq word (take (length word) (take (length text - at) (drop at text))) → word_at text at word ≡ true
  unfolding piece
  found e =
      let f : true ≡ pointwise nat_eq word (take (length word) (drop at text)) = rw (take_rest text at) at e in
      piece_word text at word (same_text _ _ f)

  module _ (h : 0 < get_or word (length word - 1) 0) where
    missing : false ≡ pointwise nat_eq word (take (length word) (take (length text - at) (drop at text))) → word_at text at word ≡ false
    unfolding piece
    missing e =
        let f : false ≡ pointwise nat_eq word (take (length word) (drop at text)) = rw (take_rest text at) at e in
        either (word_at text at word) (λ t. absurd (other_text _ _ f (sym (word_piece text at word h t).1))) (λ f. f)

    past : length text < at → word_at text at word ≡ false
    past l = either (word_at text at word) (λ t. absurd (omega (arith, (word_piece text at word h t).0))) (λ f. f)

pub returns-then-starts_with : goal.returns-then-starts_with
returns-then-starts_with c = rw (found _ _ _ (sym c.if-starts_with.true ∙ c.starts_with.ensures.value))

pub returns-else-at-text : goal.returns-else-at-text
returns-else-at-text c =
    elim c.else-at-text.branch [
      | else-at-text-via-then-at-text+else-starts_with w ↦ rw (missing c.args.text.now c.args.at c.args.word.now c.requires (sym w.if-starts_with.false ∙ w.starts_with.ensures.value))
      | else-at-text-via-else-at-text w ↦ rw (past c.args.text.now c.args.at c.args.word.now c.requires w.if-at-text.false)
    ]
