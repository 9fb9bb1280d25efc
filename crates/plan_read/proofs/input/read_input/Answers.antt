use Rattle.std.proofs.Common.{Some, None}
use Rattle.plan_read.proofs.Grammar.{number_sound, formed, Formed}
use Rattle.plan_read.proofs.Picked.{some_picked, none_picked, number_picked, number_missed}
use Rattle.plan_read.specs.Means.{number_to, place_behind, ListRead, InputRead, byte_at, is_digit, digit_count, digits_ok, read_number, read_list, word_at, read_ranks, read_old, read_new, form_ok, parse, Number}
use Rattle.plan_read.specs.Text.{input_limit, number_limit, ranks_word, old_word, new_word}
use Rattle.plan_read.specs.declared.input.Counted.{Counted}
use Rattle.encoding.specs.Below.{all_below}
use Rattle.encoding.proofs.Below.{either, clash, least_le, and_fst, and_snd, and_intro, all_add, all_same}
use borrow.Author.Tests.{le-leb, eq-eqb}
use lib.Dec.{eqb}
use lib.ListN.{length, get_or}
use native.Mathlib.Nat.{add-zero}
use native.Mathlib.Omega.{arith}
use mathlib.Core.List.{List, ◌∷◌}
use mathlib.Core.Bool.{Bool, true, false, not, ◌&&◌}
use mathlib.Core.Path.{◌≡◌, sym, ap, ◌∙◌}
use Prim.Native.Nat.{ℕ, suc, ◌+◌, ◌-◌, ◌≤◌, ◌<◌}
use Rattle.plan_read.proofs.input.read_input.Goals.{then-new_list-text-via-then-new_list-text, then-new_list-text-via-else-new_list-text+then-old_list-count, then-new_list-text-via-else-new_list-text+else-old_list-count+then-new_list-count}
use Rattle.plan_read.proofs.input.read_input.Goals as goal

-- a number ends at most as many bytes on as the text has
number_next : (text : List ℕ) (at : ℕ) → (read_number text at).next ≤ at + length text
unfolding read_number digit_count
number_next text at = omega (arith, least_le (length text - at) (λ i. not (is_digit (byte_at text (at + i)))))

number_value : (text : List ℕ) (at : ℕ) → (read_number text at).value < number_limit
unfolding read_number
number_value text at = either (digits_ok text at) (λ p. (number_sound text at p).0) (λ p. rw p (omega arith))

-- LF and a word
line_word : (text : List ℕ) (at : ℕ) (word : List ℕ) → word_at text at (10 ∷ word) ≡ (eqb (byte_at text at) 10 && word_at text (at + 1) word)
unfolding word_at all_below
line_word text at word =
    let f : ℕ → Bool = λ i. eqb (byte_at text (at + i)) (get_or (10 ∷ word) i 0) in
    let n : suc (length word) ≡ 1 + length word = omega arith in
    let rest : all_below (length word) (λ i. f (1 + i)) ≡ all_below (length word) (λ i. eqb (byte_at text (at + 1 + i)) (get_or word i 0)) =
    all_same (length word) (λ i. f (1 + i)) (λ i. eqb (byte_at text (at + 1 + i)) (get_or word i 0))
    (λ i h. let s : 1 + i ≡ suc i = omega arith in let p : at + suc i ≡ at + 1 + i = omega arith in rw (s, p)) in
    ap (λ (m : ℕ). all_below m f) n ∙ (all_add 1 (length word) f ∙ rw (add-zero, rest))

module _ (text : List ℕ) where
  unformed : (Formed text → ⊥) → form_ok text ≡ false
  unformed h = either (form_ok text) (λ t. absurd (h (formed text t))) (λ f. f)

  -- a text that isn't in form says nothing
  nothing : {old_entry old_exit new_entry new_exit : List ℕ} → form_ok text ≡ false → InputRead text old_entry old_exit new_entry new_exit None
  nothing e = record { gives = rw e; old = λ p. clash p e; new = λ p. clash p e }

  too_long : input_limit < length text → form_ok text ≡ false
  too_long h = unformed (λ f. omega (arith, f.size))

  ranks_missing : None ≡ place_behind text 0 ranks_word → form_ok text ≡ false
  ranks_missing e = unformed (λ f. clash f.ranks_name (none_picked (word_at text 0 ranks_word) _ e))

  module _ {a : ℕ} (ea : Some a ≡ place_behind text 0 ranks_word) where
    ranks_place : read_number text a ≡ read_ranks text
    unfolding read_ranks
    ranks_place = ap (read_number text) (some_picked (word_at text 0 ranks_word) ea).1

    ranks_broken : (read_number text a).ok ≡ false → form_ok text ≡ false
    ranks_broken e = unformed (λ f. clash f.ranks_read (rw ranks_place at e))

    module _ {p next : ℕ} (ep : number_to (Some p) next ≡ read_number text a) where
      ranks_is : number_to (Some p) next ≡ read_ranks text
      ranks_is = ep ∙ ranks_place

      next_is : next ≡ (read_ranks text).next
      next_is = ap (λ (m : Number). m.next) ranks_is

      value_is : p ≡ (read_ranks text).value
      value_is = ap (λ (m : Number). m.value) ranks_is

      value_limit : p < number_limit
      unfolding read_ranks
      value_limit = omega (arith, value_is, number_value text 6)

      old_missing : None ≡ place_behind text next (10 ∷ old_word) → form_ok text ≡ false
      old_missing e =
          unformed
          (λ f.
          let t : word_at text next (10 ∷ old_word) ≡ true = rw next_is (line_word text (read_ranks text).next old_word ∙ and_intro _ _ (eq-eqb _ _ f.ranks_end) f.old_name) in
          clash t (none_picked (word_at text next (10 ∷ old_word)) _ e))

      module _ {b : ℕ} (eb : Some b ≡ place_behind text next (10 ∷ old_word)) where
        old_place : read_list (length text) text b ≡ read_old text
        unfolding read_old
        old_place = ap (read_list (length text) text) ((some_picked (word_at text next (10 ∷ old_word)) eb).1 ∙ ap (λ (n : ℕ). n + 5) next_is)

        module _ {old_entry old_exit : List ℕ} where
          old_broken : ListRead text (read_list (length text) text b) old_entry old_exit None → form_ok text ≡ false
          old_broken l = unformed (λ f. clash f.old_read (none_picked (read_old text).ok _ (rw old_place at l.gives)))

          module _ {o : Counted} (lo : ListRead text (read_list (length text) text b) old_entry old_exit (Some o)) where
            old_is : ListRead text (read_old text) old_entry old_exit (Some o)
            old_is = rw old_place at lo

            old_parts : ((read_old text).ok ≡ true) × (o.count ≡ length (read_old text).values) × (o.next ≡ (read_old text).next)
            old_parts =
                let p = some_picked (read_old text).ok old_is.gives in
                (p.0, ap (λ (r : Counted). r.count) p.1, ap (λ (r : Counted). r.next) p.1)

            new_missing : None ≡ place_behind text o.next new_word → form_ok text ≡ false
            new_missing e = unformed (λ f. clash f.new_name (none_picked (word_at text (read_old text).next new_word) _ (rw old_parts.2 at e)))

            module _ {d : ℕ} (ed : Some d ≡ place_behind text o.next new_word) where
              new_place : read_list (length text) text d ≡ read_new text
              unfolding read_new
              new_place = ap (read_list (length text) text) ((some_picked (word_at text o.next new_word) ed).1 ∙ ap (λ (n : ℕ). n + 4) old_parts.2)

              module _ {new_entry new_exit : List ℕ} where
                new_broken : ListRead text (read_list (length text) text d) new_entry new_exit None → form_ok text ≡ false
                new_broken l = unformed (λ f. clash f.new_read (none_picked (read_new text).ok _ (rw new_place at l.gives)))

                module _ {n : Counted} (ln : ListRead text (read_list (length text) text d) new_entry new_exit (Some n)) where
                  new_is : ListRead text (read_new text) new_entry new_exit (Some n)
                  new_is = rw new_place at ln

                  new_parts : ((read_new text).ok ≡ true) × (n.count ≡ length (read_new text).values) × (n.next ≡ (read_new text).next)
                  new_parts =
                      let p = some_picked (read_new text).ok new_is.gives in
                      (p.0, ap (λ (r : Counted). r.count) p.1, ap (λ (r : Counted). r.next) p.1)

                  not_ended : (n.next ≡ length text → ⊥) → form_ok text ≡ false
                  not_ended h = unformed (λ f. h (new_parts.2 ∙ f.end))

                  old_miscounted : (o.count ≡ p + 1 → ⊥) → form_ok text ≡ false
                  old_miscounted h = unformed (λ f. h (omega (arith, f.old_many, old_parts.1, value_is)))

                  new_miscounted : (n.count ≡ p + 1 → ⊥) → form_ok text ≡ false
                  new_miscounted h = unformed (λ f. h (omega (arith, f.new_many, new_parts.1, value_is)))

                  form_is : length text ≤ input_limit → n.next ≡ length text → o.count ≡ p + 1 → n.count ≡ p + 1 → form_ok text ≡ true
                  unfolding form_ok
                  form_is l e h k =
                      let w = some_picked (word_at text next (10 ∷ old_word)) eb in
                      let line : (eqb (byte_at text (read_ranks text).next) 10 && word_at text ((read_ranks text).next + 1) old_word) ≡ true = sym (line_word text (read_ranks text).next old_word) ∙ rw next_is at w.0 in
                      let ranks_read : (read_ranks text).ok ≡ true = sym (ap (λ (m : Number). m.ok) ranks_is) in
                      let name : word_at text (read_old text).next new_word ≡ true = rw old_parts.2 at (some_picked (word_at text o.next new_word) ed).0 in
                      rw (
                        le-leb (length text) input_limit l,
                        (some_picked (word_at text 0 ranks_word) ea).0,
                        ranks_read,
                        and_fst (eqb (byte_at text (read_ranks text).next) 10) (word_at text ((read_ranks text).next + 1) old_word) line,
                        and_snd (eqb (byte_at text (read_ranks text).next) 10) (word_at text ((read_ranks text).next + 1) old_word) line,
                        old_parts.0,
                        name,
                        new_parts.0,
                        eq-eqb (read_new text).next (length text) (sym new_parts.2 ∙ e),
                        eq-eqb (length (read_old text).values) ((read_ranks text).value + 1) (omega (arith, old_parts.1, value_is)),
                        eq-eqb (length (read_new text).values) ((read_ranks text).value + 1) (omega (arith, new_parts.1, value_is)),
                      )

                  all_read : length text ≤ input_limit → n.next ≡ length text → o.count ≡ p + 1 → n.count ≡ p + 1
                      → InputRead text old_entry old_exit new_entry new_exit (Some p)
                  unfolding parse
                  all_read l e h k =
                      let t = form_is l e h k in
                      let f = formed text t in
                      record {
                        gives = rw (t, value_is);
                        old = λ q r. old_is.filled f.old_read (rw f.old_many r);
                        new = λ q r. new_is.filled f.new_read (rw f.new_many r);
                      }

pub returns-then-text-gt32768 : goal.returns-then-text-gt32768
returns-then-text-gt32768 c = nothing _ (too_long _ c.if-text-gt32768.true)

pub returns-in_err-ranks_at : goal.returns-in_err-ranks_at
returns-in_err-ranks_at c = rw c.from_residual.ensures (nothing _ (ranks_missing _ c.in_err-ranks_at.ensures))

pub returns-in_err-p : goal.returns-in_err-p
returns-in_err-p c = rw c.from_residual-in_err-p.ensures (nothing _ (ranks_broken _ c.in_ok-ranks_at.ensures (number_missed _ c.in_err-p.was c.read_number-ranks.ensures)))

pub returns-in_err-old_at : goal.returns-in_err-old_at
returns-in_err-old_at c = rw c.from_residual-in_err-old_at.ensures (nothing _ (old_missing _ c.in_ok-ranks_at.ensures (number_picked c.in_ok-p.was c.read_number-ranks.ensures) c.in_err-old_at.ensures))

pub returns-in_err-old_list : goal.returns-in_err-old_list
returns-in_err-old_list c =
    rw c.from_residual-in_err-old_list.ensures (nothing _ (old_broken _ c.in_ok-ranks_at.ensures (number_picked c.in_ok-p.was c.read_number-ranks.ensures) c.in_ok-old_at.ensures c.in_err-old_list.ensures))

pub returns-in_err-new_at : goal.returns-in_err-new_at
returns-in_err-new_at c =
    rw c.from_residual-in_err-new_at.ensures (nothing _ (new_missing _ c.in_ok-ranks_at.ensures (number_picked c.in_ok-p.was c.read_number-ranks.ensures) c.in_ok-old_at.ensures c.in_ok-old_list.ensures c.in_err-new_at.ensures))

pub returns-in_err-new_list : goal.returns-in_err-new_list
returns-in_err-new_list c =
    rw c.from_residual-in_err-new_list.ensures
    (nothing _ (new_broken _ c.in_ok-ranks_at.ensures (number_picked c.in_ok-p.was c.read_number-ranks.ensures) c.in_ok-old_at.ensures c.in_ok-old_list.ensures c.in_ok-new_at.ensures c.in_err-new_list.ensures))

pub overflow_add-count : goal.overflow_add-count
overflow_add-count c = omega (arith, value_limit _ c.in_ok-ranks_at.ensures (number_picked c.in_ok-p.was c.read_number-ranks.ensures))

pub returns-then-new_list-text : goal.returns-then-new_list-text
returns-then-new_list-text c =
    elim c.then-new_list-text.branch [
      | then-new_list-text-via-then-new_list-text w ↦
          nothing _ (not_ended _ c.in_ok-ranks_at.ensures (number_picked c.in_ok-p.was c.read_number-ranks.ensures) c.in_ok-old_at.ensures c.in_ok-old_list.ensures c.in_ok-new_at.ensures c.in_ok-new_list.ensures w.if-new_list-text.true)
      | then-new_list-text-via-else-new_list-text+then-old_list-count w ↦
          nothing _ (old_miscounted _ c.in_ok-ranks_at.ensures (number_picked c.in_ok-p.was c.read_number-ranks.ensures) c.in_ok-old_at.ensures c.in_ok-old_list.ensures c.in_ok-new_at.ensures c.in_ok-new_list.ensures w.if-old_list-count.true)
      | then-new_list-text-via-else-new_list-text+else-old_list-count+then-new_list-count w ↦
          nothing _ (new_miscounted _ c.in_ok-ranks_at.ensures (number_picked c.in_ok-p.was c.read_number-ranks.ensures) c.in_ok-old_at.ensures c.in_ok-old_list.ensures c.in_ok-new_at.ensures c.in_ok-new_list.ensures w.if-new_list-count.true)
    ]

pub returns : goal.returns
returns c =
    all_read _ c.in_ok-ranks_at.ensures (number_picked c.in_ok-p.was c.read_number-ranks.ensures) c.in_ok-old_at.ensures c.in_ok-old_list.ensures c.in_ok-new_at.ensures c.in_ok-new_list.ensures c.if-text-gt32768.false c.if-new_list-text.false c.if-old_list-count.false c.if-new_list-count.false
