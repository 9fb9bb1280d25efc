use Rattle.std.proofs.lemmas.Result.{err_from_is_err_and}
use Rattle.encoding.proofs.Refusals.{number_positive}
use mathlib.Core.Path.{refl}
use Rattle.probes.proofs.Answers.{near_part, near_probe, has_trees_lem, near_box, comparable, near_short, listable, near_listed}
use Rattle.probes.proofs.trees_near.Goals as goal

pub returns-in_err-check_part : goal.returns-in_err-check_part
returns-in_err-check_part c =
    let p = err_from_is_err_and c.from_residual.result c.from_residual.ensures.1 in
    rw (p.1, p.2) (near_part _ _ _ _ _ c.in_err-check_part.ensures (number_positive _) refl)

pub returns-then-not-probe_ok : goal.returns-then-not-probe_ok
returns-then-not-probe_ok c =
    let probe-ok = c.probe_ok in
    let if2 = c.if-not-probe_ok in
    near_probe _ _ _ _ _ c.in_ok-check_part.ensures refl probe-ok.ensures (if2.true) refl

pub boxes_ok-requires : goal.boxes_ok-requires
boxes_ok-requires c =
    let args = c.args in
    let probe-ok = c.probe_ok in
    has_trees_lem _ _ _ _ args.out.now c.in_ok-check_part.ensures refl probe-ok.ensures (c.if-not-probe_ok.false)

pub returns-then-not-boxes_ok : goal.returns-then-not-boxes_ok
returns-then-not-boxes_ok c =
    let probe-ok = c.probe_ok in
    let if2 = c.if-not-probe_ok in
    let boxes-ok = c.boxes_ok in
    let if3 = c.if-not-boxes_ok in
    near_box _ _ _ _ _ c.in_ok-check_part.ensures refl probe-ok.ensures (if2.false) boxes-ok.ensures (if3.true) refl

pub count_met-count-requires : goal.count_met-count-requires
count_met-count-requires c =
    let args = c.args in
    let probe-ok = c.probe_ok in
    let if2 = c.if-not-probe_ok in
    let boxes-ok = c.boxes_ok in
    comparable _ _ _ _ args.out.now c.in_ok-check_part.ensures refl probe-ok.ensures (if2.false) boxes-ok.ensures (c.if-not-boxes_ok.false)

pub returns-then-out-count : goal.returns-then-out-count
returns-then-out-count c =
    let probe-ok = c.probe_ok in
    let if2 = c.if-not-probe_ok in
    let boxes-ok = c.boxes_ok in
    let if3 = c.if-not-boxes_ok in
    let count-met = c.count_met-count in
    let if4 = c.if-out-count in
    near_short _ _ _ _ _ c.in_ok-check_part.ensures refl probe-ok.ensures (if2.false) boxes-ok.ensures (if3.false) count-met.ensures if4.true refl

pub write-requires : goal.write-requires
write-requires c =
    let probe-ok = c.probe_ok in
    let if2 = c.if-not-probe_ok in
    let boxes-ok = c.boxes_ok in
    let if3 = c.if-not-boxes_ok in
    let count-met = c.count_met-count in
    let if4 = c.if-out-count in
    listable _ _ _ _ _ c.in_ok-check_part.ensures refl probe-ok.ensures (if2.false) boxes-ok.ensures (if3.false) count-met.ensures if4.false

pub returns : goal.returns
returns c =
    let probe-ok = c.probe_ok in
    let if2 = c.if-not-probe_ok in
    let boxes-ok = c.boxes_ok in
    let if3 = c.if-not-boxes_ok in
    let count-met = c.count_met-count in
    let if4 = c.if-out-count in
    let write = c.write in
    near_listed _ _ _ _ _ c.in_ok-check_part.ensures refl probe-ok.ensures (if2.false) boxes-ok.ensures (if3.false) count-met.ensures if4.false write.ensures
