use Rattle.std.proofs.lemmas.Result.{err_from_is_err_and}
use Rattle.encoding.proofs.Refusals.{number_positive}
use Rattle.build_all.proofs.Answers.{words_known, may_build, build_from, build_refused, all_short, all_built}
use Rattle.message_ghosts.proofs.Marking.{prefix_length}
use mathlib.Core.Path.{refl, sym}
use Rattle.build_all.proofs.build_all.Goals as goal

pub returns-in_err-check_build : goal.returns-in_err-check_build
returns-in_err-check_build c =
    let p = err_from_is_err_and c.from_residual.result c.from_residual.ensures.1 in
    rw (p.1, p.2) (build_refused _ _ _ _ c.in_err-check_build.ensures _ _ (number_positive _))

pub mark_words-words-requires : goal.mark_words-words-requires
mark_words-words-requires c =
    let shared-slice-known2 = c.shared_slice_known-2-1 in
    let shared-slice-known3 = c.shared_slice_known-3-1 in
    words_known _ _ _ _ c.in_ok-check_build.ensures (λ i. (shared-slice-known2.given i).fits) (λ i. (shared-slice-known3.given i).fits) refl

pub slice_bounds-build_messages-end : goal.slice_bounds-build_messages-end
slice_bounds-build_messages-end c = sym (prefix_length 16384 c.mark_words-words.ensures.1)

pub build_messages-requires : goal.build_messages-requires
build_messages-requires c =
    let shared-slice-known2 = c.shared_slice_known-2-1 in
    let shared-slice-known3 = c.shared_slice_known-3-1 in
    let mark-words = c.mark_words-words in
    build_from _ _ _ _ c.in_ok-check_build.ensures (λ i. (shared-slice-known2.given i).fits) (λ i. (shared-slice-known3.given i).fits) refl (λ i. (c.shared_slice_known-1.given i).fits) _ (prefix_length 16384 mark-words.ensures.1) mark-words.ensures.0 mark-words.ensures.1

pub returns-in_err-length : goal.returns-in_err-length
returns-in_err-length c =
    let p = err_from_is_err_and c.from_residual-in_err-length.result c.from_residual-in_err-length.ensures.1 in
    rw (p.1, p.2) (all_short _ _ _ _ c.in_ok-check_build.ensures _ _ refl c.in_err-length.ensures (number_positive _))

pub set_count-count-requires : goal.set_count-count-requires
set_count-count-requires c =
    let args = c.args in
    let shared-slice-known2 = c.shared_slice_known-2-1 in
    let shared-slice-known3 = c.shared_slice_known-3-1 in
    may_build args.part.now _ _ _ c.in_ok-check_build.ensures (λ i. (shared-slice-known2.given i).fits) (λ i. (shared-slice-known3.given i).fits) refl

pub returns : goal.returns
returns c = all_built _ _ _ _ c.in_ok-check_build.ensures _ _ refl c.in_ok-length.ensures refl c.set_count-count.ensures.0
