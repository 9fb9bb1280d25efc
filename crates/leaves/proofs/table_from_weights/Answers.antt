use Rattle.std.proofs.lemmas.Result.{err_from_is_err_and}
use Rattle.encoding.specs.Answer.{write_answer, length_answer, written}
use Rattle.encoding.specs.Refusal.{first_failed}
use Rattle.offsets_write.proofs.RoomChecks.{ranks_pass, ranks_fail, room_pass, room_fail}
use borrow.Author.Tests.{leb-true}
use mathlib.Core.Path.{◌∙◌, sym}
use Rattle.leaves.specs.Calls.{table_from_weights, weights_refusal}
use Rattle.leaves.proofs.WeightedShares.{weighted_length}
use Rattle.leaves.proofs.table_from_weights.Goals as goal

pub returns-in_err-check_ranks : goal.returns-in_err-check_ranks
unfolding table_from_weights weights_refusal first_failed write_answer length_answer written
returns-in_err-check_ranks c =
    let p = err_from_is_err_and c.from_residual.result c.from_residual.ensures.1 in
    let f = ranks_fail _ _ c.in_err-check_ranks.ensures in
    rw (p.1, p.2, f.1) (simp f.0)

pub weights_ok-requires : goal.weights_ok-requires
weights_ok-requires c = ranks_pass _ c.in_ok-check_ranks.ensures

pub returns-then-not-weights_ok : goal.returns-then-not-weights_ok
unfolding table_from_weights weights_refusal first_failed write_answer length_answer written
returns-then-not-weights_ok c = simp (ranks_pass _ c.in_ok-check_ranks.ensures, sym c.weights_ok.ensures ∙ c.if-not-weights_ok.true)

pub returns-then-not-leaves_ok : goal.returns-then-not-leaves_ok
unfolding table_from_weights weights_refusal first_failed write_answer length_answer written
returns-then-not-leaves_ok c = simp (ranks_pass _ c.in_ok-check_ranks.ensures, sym c.weights_ok.ensures ∙ c.if-not-weights_ok.false, sym c.leaves_ok.ensures ∙ c.if-not-leaves_ok.true)

pub check_room-requires : goal.check_room-requires
check_room-requires c = ranks_pass _ c.in_ok-check_ranks.ensures

pub returns-in_err-n : goal.returns-in_err-n
unfolding table_from_weights weights_refusal first_failed write_answer length_answer written
returns-in_err-n c =
    let p = err_from_is_err_and c.from_residual-in_err-n.result c.from_residual-in_err-n.ensures.1 in
    let f = room_fail _ _ _ c.in_err-n.ensures.0 in
    rw (p.1, p.2, f.1) (simp (ranks_pass _ c.in_ok-check_ranks.ensures, sym c.weights_ok.ensures ∙ c.if-not-weights_ok.false, sym c.leaves_ok.ensures ∙ c.if-not-leaves_ok.false, f.0))

pub total-requires : goal.total-requires
total-requires c = sym c.leaves_ok.ensures ∙ c.if-not-leaves_ok.false

pub write-requires : goal.write-requires
write-requires c =
    record {
      ranks_fit = ranks_pass _ c.in_ok-check_ranks.ensures;
      weights_fit = sym c.weights_ok.ensures ∙ c.if-not-weights_ok.false;
      leaves_fit = sym c.leaves_ok.ensures ∙ c.if-not-leaves_ok.false;
      total = c.total.ensures.0;
      room = leb-true _ _ (room_pass _ _ c.in_ok-n.ensures.0);
    }

pub returns : goal.returns
unfolding table_from_weights weights_refusal first_failed write_answer length_answer written
returns c =
    simp (
      ranks_pass _ c.in_ok-check_ranks.ensures,
      sym c.weights_ok.ensures ∙ c.if-not-weights_ok.false,
      sym c.leaves_ok.ensures ∙ c.if-not-leaves_ok.false,
      room_pass _ _ c.in_ok-n.ensures.0,
      c.in_ok-n.ensures.1,
      c.write.ensures,
      weighted_length c.args.weights.now c.args.leaves.now,
    )
