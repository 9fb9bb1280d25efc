use Rattle.std.proofs.lemmas.Result.{err_from_is_err_and}
use Rattle.encoding.proofs.Refusals.{number_positive}
use mathlib.Core.Path.{refl, sym, ◌∙◌}
use Rattle.message_build.proofs.Answers.{may_send, may_range, words_known, marks_room, length_refused_lem, length_read}
use Rattle.message_ghosts.proofs.Marking.{prefix_length}
use Rattle.message_build.proofs.message_length.Goals as goal

pub returns-in_err-check_build : goal.returns-in_err-check_build
returns-in_err-check_build c =
    let p = err_from_is_err_and c.from_residual.result c.from_residual.ensures.1 in
    rw (p.1, p.2) (length_refused_lem _ _ _ _ _ c.in_err-check_build.ensures (number_positive _))

pub sent-sent-requires : goal.sent-sent-requires
sent-sent-requires c =
    let shared-slice-known2 = c.shared_slice_known-2-1 in
    let shared-slice-known3 = c.shared_slice_known-3-1 in
    (may_send _ _ _ _ _ c.in_ok-check_build.ensures (λ i. (shared-slice-known2.given i).fits) (λ i. (shared-slice-known3.given i).fits) refl).pair

pub mark_words-words-requires : goal.mark_words-words-requires
mark_words-words-requires c =
    let shared-slice-known2 = c.shared_slice_known-2-1 in
    let shared-slice-known3 = c.shared_slice_known-3-1 in
    words_known _ _ _ _ _ _ _ (may_range _ _ _ _ _ c.in_ok-check_build.ensures (λ i. (shared-slice-known2.given i).fits) (λ i. (shared-slice-known3.given i).fits) refl c.sent-sent.ensures.0 c.sent-sent.ensures.1)

pub slice_bounds-going-end : goal.slice_bounds-going-end
slice_bounds-going-end c = sym (prefix_length 16384 c.mark_words-words.ensures.1)

pub going-g-requires : goal.going-g-requires
going-g-requires c =
    let shared-slice-known2 = c.shared_slice_known-2-1 in
    let shared-slice-known3 = c.shared_slice_known-3-1 in
    let sent = c.sent-sent in
    let mark-words = c.mark_words-words in
    let range = may_range _ _ _ _ _ c.in_ok-check_build.ensures (λ i. (shared-slice-known2.given i).fits) (λ i. (shared-slice-known3.given i).fits) refl sent.ensures.0 sent.ensures.1 in
    ((range, λ i. (c.shared_slice_known-1.given i).fits), marks_room _ _ _ _ _ _ _ range _ (prefix_length 16384 mark-words.ensures.1) mark-words.ensures.0 mark-words.ensures.1)

pub returns : goal.returns
returns c =
    let going = c.going-g in
    length_read _ _ _ _ _ c.in_ok-check_build.ensures refl (c.ghost_at.ensures ∙ going.ensures.long 0)
