use Rattle.faults.proofs.Records.{number_wrong, shape_wrong, bytes_wrong, dimension_wrong, record_right}
use Rattle.faults.proofs.record.check_record.Goals as goal

pub returns-then-not-in_order : goal.returns-then-not-in_order
returns-then-not-in_order c = number_wrong _ _ (c.if-not-in_order.true)

pub returns-then-not-shape_ok : goal.returns-then-not-shape_ok
returns-then-not-shape_ok c =
    let if1 = c.if-not-in_order in
    let shape_of = c.shape_of-shape in
    let shape-ok = c.shape_ok in
    shape_wrong _ _ (if1.false) shape_of.ensures shape-ok.ensures (c.if-not-shape_ok.true)

pub returns-then-not-zeros_ok-region_ok : goal.returns-then-not-zeros_ok-region_ok
returns-then-not-zeros_ok-region_ok c =
    let if1 = c.if-not-in_order in
    let shape_of = c.shape_of-shape in
    let shape-ok = c.shape_ok in
    let if2 = c.if-not-shape_ok in
    let zeros-ok = c.zeros_ok in
    let region-ok = c.region_ok in
    bytes_wrong _ _ (if1.false) shape_of.ensures shape-ok.ensures (if2.false) zeros-ok.ensures region-ok.ensures (c.if-not-zeros_ok-region_ok.true)

pub returns-then-dimension_of-dimension : goal.returns-then-dimension_of-dimension
returns-then-dimension_of-dimension c =
    let if1 = c.if-not-in_order in
    let shape_of = c.shape_of-shape in
    let shape-ok = c.shape_ok in
    let if2 = c.if-not-shape_ok in
    let zeros-ok = c.zeros_ok in
    let region-ok = c.region_ok in
    let if3 = c.if-not-zeros_ok-region_ok in
    let dimension_of_call = c.dimension_of in
    dimension_wrong _ _ (if1.false) shape_of.ensures shape-ok.ensures (if2.false) zeros-ok.ensures region-ok.ensures (if3.false) dimension_of_call.ensures c.if-dimension_of-dimension.true

pub returns : goal.returns
returns c =
    let if1 = c.if-not-in_order in
    let shape_of = c.shape_of-shape in
    let shape-ok = c.shape_ok in
    let if2 = c.if-not-shape_ok in
    let zeros-ok = c.zeros_ok in
    let region-ok = c.region_ok in
    let if3 = c.if-not-zeros_ok-region_ok in
    let dimension_of_call = c.dimension_of in
    record_right _ _ (if1.false) shape_of.ensures shape-ok.ensures (if2.false) zeros-ok.ensures region-ok.ensures (if3.false) dimension_of_call.ensures c.if-dimension_of-dimension.false
