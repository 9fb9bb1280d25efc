use mathlib.Core.Path.{refl}
use Rattle.std.proofs.lemmas.Result.{err_from_is_err_and}
use Rattle.encoding.proofs.Refusals.{number_positive}
use Rattle.message_build.proofs.Answers.{may_send, may_range, build_refused, build_left}
use Rattle.message_build.proofs.build_message.Goals as goal

pub returns-in_err-check_build : goal.returns-in_err-check_build
returns-in_err-check_build c =
    let p = err_from_is_err_and c.from_residual.result c.from_residual.ensures.1 in
    rw (p.1, p.2) (build_refused _ _ _ _ _ c.in_err-check_build.ensures _ _ (number_positive _))

pub sent-sent-requires : goal.sent-sent-requires
sent-sent-requires c =
    let shared-slice-known2 = c.shared_slice_known-2-1 in
    let shared-slice-known3 = c.shared_slice_known-3-1 in
    (may_send _ _ _ _ _ c.in_ok-check_build.ensures (λ i. (shared-slice-known2.given i).fits) (λ i. (shared-slice-known3.given i).fits) refl).pair

pub build_sent-requires : goal.build_sent-requires
build_sent-requires c =
    let shared-slice-known2 = c.shared_slice_known-2-1 in
    let shared-slice-known3 = c.shared_slice_known-3-1 in
    let sent = c.sent-sent in
    (may_range _ _ _ _ _ c.in_ok-check_build.ensures (λ i. (shared-slice-known2.given i).fits) (λ i. (shared-slice-known3.given i).fits) refl sent.ensures.0 sent.ensures.1, λ i. (c.shared_slice_known-1.given i).fits)

pub returns : goal.returns
returns c =
    let build-sent = c.build_sent in
    build_left _ _ _ _ _ c.in_ok-check_build.ensures _ _ refl build-sent.ensures
