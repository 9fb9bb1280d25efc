use Rattle.std.proofs.lemmas.Result.{err_from_is_err_and}
use Rattle.encoding.proofs.Refusals.{number_positive}
use mathlib.Core.Path.{refl}
use Rattle.pattern.proofs.Answers.{old_ranks_lem}
use Rattle.message_build.proofs.Answers.{fails_tables, fails_sender, fails_receiver, pair_of, rank_known, fails_part, fails_none, none_fails}
use Rattle.message_build.proofs.check.check_build.Goals as goal

pub returns-in_err-check_tables : goal.returns-in_err-check_tables
returns-in_err-check_tables c =
    let p = err_from_is_err_and c.from_residual.result c.from_residual.ensures.1 in
    rw (p.1, p.2) (fails_tables _ _ _ _ _ c.in_err-check_tables.ensures (number_positive _))

pub ranks-ranks-requires : goal.ranks-ranks-requires
ranks-ranks-requires c =
    let shared-slice-known2 = c.shared_slice_known-2-1 in
    let shared-slice-known3 = c.shared_slice_known-3-1 in
    old_ranks_lem _ _ _ c.in_ok-check_tables.ensures (λ i. (shared-slice-known2.given i).fits) (λ i. (shared-slice-known3.given i).fits) refl

pub returns-then-ranks-p : goal.returns-then-ranks-p
returns-then-ranks-p c =
    let ranks = c.ranks-ranks in
    fails_sender _ _ _ _ _ c.in_ok-check_tables.ensures refl ranks.ensures.0 c.if-ranks-p.true

pub returns-then-ranks-q : goal.returns-then-ranks-q
returns-then-ranks-q c =
    let ranks = c.ranks-ranks in
    let if2 = c.if-ranks-p in
    fails_receiver _ _ _ _ _ c.in_ok-check_tables.ensures refl ranks.ensures.0 if2.false c.if-ranks-q.true

pub part_sound-requires : goal.part_sound-requires
part_sound-requires c =
    let shared-slice-known2 = c.shared_slice_known-2-1 in
    let shared-slice-known3 = c.shared_slice_known-3-1 in
    let ranks = c.ranks-ranks in
    let if2 = c.if-ranks-p in
    rank_known _ _ _ _ (λ i. (shared-slice-known2.given i).fits) (λ i. (shared-slice-known3.given i).fits) c.in_ok-check_tables.ensures refl ranks.ensures.0 if2.false c.if-ranks-q.false

pub returns-then-not-part_sound : goal.returns-then-not-part_sound
returns-then-not-part_sound c =
    let ranks = c.ranks-ranks in
    let if2 = c.if-ranks-p in
    let if3 = c.if-ranks-q in
    let part_sound_call = c.part_sound in
    fails_part _ _ _ _ _ c.in_ok-check_tables.ensures refl ranks.ensures.0 if2.false if3.false part_sound_call.ensures (c.if-not-part_sound.true)

pub sends_some-requires : goal.sends_some-requires
sends_some-requires c =
    let shared-slice-known2 = c.shared_slice_known-2-1 in
    let shared-slice-known3 = c.shared_slice_known-3-1 in
    let ranks = c.ranks-ranks in
    let if2 = c.if-ranks-p in
    let if3 = c.if-ranks-q in
    pair_of _ _ _ _ (λ i. (shared-slice-known2.given i).fits) (λ i. (shared-slice-known3.given i).fits) c.in_ok-check_tables.ensures refl ranks.ensures.0 if2.false if3.false

pub returns-then-not-sends_some : goal.returns-then-not-sends_some
returns-then-not-sends_some c =
    let ranks = c.ranks-ranks in
    let if2 = c.if-ranks-p in
    let if3 = c.if-ranks-q in
    let part_sound_call = c.part_sound in
    let if4 = c.if-not-part_sound in
    let sends_some = c.sends_some in
    fails_none _ _ _ _ _ c.in_ok-check_tables.ensures refl ranks.ensures.0 if2.false if3.false part_sound_call.ensures (if4.false) sends_some.ensures (c.if-not-sends_some.true)

pub returns : goal.returns
returns c =
    let ranks = c.ranks-ranks in
    let if2 = c.if-ranks-p in
    let if3 = c.if-ranks-q in
    let part_sound_call = c.part_sound in
    let if4 = c.if-not-part_sound in
    let sends_some = c.sends_some in
    none_fails _ _ _ _ _ c.in_ok-check_tables.ensures refl ranks.ensures.0 if2.false if3.false part_sound_call.ensures (if4.false) sends_some.ensures (c.if-not-sends_some.false)
