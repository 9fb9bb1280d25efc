use Rattle.std.proofs.lemmas.Result.{err_from_is_err_and}
use Rattle.encoding.specs.Answer.{write_answer, length_answer, written}
use Rattle.encoding.specs.Refusal.{first_failed}
use Rattle.offsets_write.proofs.RoomChecks.{ranks_pass, ranks_fail, room_pass, room_fail}
use borrow.Author.Tests.{leb-true}
use mathlib.Core.Path.{◌∙◌, sym}
use Rattle.leaves.specs.Calls.{table_from_blocks, blocks_refusal}
use Rattle.encoding.proofs.Below.{and_fst, and_snd}
use Rattle.leaves.specs.Blocks.{sums_ok}
use Rattle.leaf_shares.specs.Leaves.{leaves_ok}
use Rattle.leaves.proofs.BlockTotals.{pairs_add, blocks_agree, all_sums}
use Rattle.leaf_shares.proofs.LeafCounts.{leaf_table_length}
use Rattle.leaves.proofs.table_from_blocks.Goals as goal

pub returns-in_err-check_ranks : goal.returns-in_err-check_ranks
unfolding table_from_blocks blocks_refusal first_failed write_answer length_answer written
returns-in_err-check_ranks c =
    let p = err_from_is_err_and c.from_residual.result c.from_residual.ensures.1 in
    let f = ranks_fail _ _ c.in_err-check_ranks.ensures in
    rw (p.1, p.2, f.1) (simp f.0)

pub returns-then-not-blocks_ok : goal.returns-then-not-blocks_ok
unfolding table_from_blocks blocks_refusal first_failed write_answer length_answer written
returns-then-not-blocks_ok c = simp (ranks_pass _ c.in_ok-check_ranks.ensures, sym c.blocks_ok.ensures ∙ c.if-not-blocks_ok.true)

pub check_room-requires : goal.check_room-requires
check_room-requires c = ranks_pass _ c.in_ok-check_ranks.ensures

pub returns-in_err-n : goal.returns-in_err-n
unfolding table_from_blocks blocks_refusal first_failed write_answer length_answer written
returns-in_err-n c =
    let p = err_from_is_err_and c.from_residual-in_err-n.result c.from_residual-in_err-n.ensures.1 in
    let f = room_fail _ _ _ c.in_err-n.ensures.0 in
    rw (p.1, p.2, f.1) (simp (ranks_pass _ c.in_ok-check_ranks.ensures, sym c.blocks_ok.ensures ∙ c.if-not-blocks_ok.false, f.0))

pub total-requires : goal.total-requires
total-requires c = all_sums c.args.leaves.now c.args.sums.now (sym c.blocks_ok.ensures ∙ c.if-not-blocks_ok.false)

pub write-requires : goal.write-requires
write-requires c =
    let ls = c.args.leaves.now in
    let sums = c.args.sums.now in
    let ok = sym c.blocks_ok.ensures ∙ c.if-not-blocks_ok.false in
    record {
      ranks_fit = ranks_pass _ c.in_ok-check_ranks.ensures;
      leaves_fit = and_fst (leaves_ok ls) (sums_ok ls sums) ok;
      total = c.total.ensures ∙ pairs_add ls sums (and_snd (leaves_ok ls) (sums_ok ls sums) ok);
      room = leb-true _ _ (room_pass _ _ c.in_ok-n.ensures.0);
    }

pub returns : goal.returns
unfolding table_from_blocks blocks_refusal first_failed write_answer length_answer written
returns c =
    let ls = c.args.leaves.now in
    let sums = c.args.sums.now in
    let ok = sym c.blocks_ok.ensures ∙ c.if-not-blocks_ok.false in
    simp (
      ranks_pass _ c.in_ok-check_ranks.ensures,
      sym c.blocks_ok.ensures ∙ c.if-not-blocks_ok.false,
      room_pass _ _ c.in_ok-n.ensures.0,
      c.in_ok-n.ensures.1,
      c.write.ensures,
      (blocks_agree c.args.ranks ls sums (and_snd (leaves_ok ls) (sums_ok ls sums) ok)).1,
      leaf_table_length c.args.ranks ls,
    )
