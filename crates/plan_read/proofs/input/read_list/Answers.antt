use Rattle.plan_read.proofs.Picked.{number_picked, number_missed}
use Rattle.plan_read.proofs.input.read_list.Answers.Turns.{Reading, reading_none, reading_refused, reading_moves, reading_within, exit_size, reading_last, reading_broken, reading_more}
use native.Mathlib.Omega.{arith}
use Rattle.plan_read.proofs.input.read_list.Goals as goal
pub mod Turns

pub loop-v-init : goal.loop-v-init
loop-v-init c = reading_none _ _ _

pub returns-in_err-v : goal.returns-in_err-v
returns-in_err-v c = rw c.from_residual.ensures (reading_refused c.loop-v.invariant (number_missed _ c.in_err-v.was c.read_entry-n.ensures))

pub overflow_add-count : goal.overflow_add-count
overflow_add-count c = omega (arith, c.loop-v.invariant.ahead, reading_moves c.loop-v.invariant (number_picked c.in_ok-v.was c.read_entry-n.ensures))

pub overflow_add-result : goal.overflow_add-result
overflow_add-result c = omega (arith, reading_within c.loop-v.invariant (number_picked c.in_ok-v.was c.read_entry-n.ensures) c.store.ensures c.byte_at-b.ensures (omega arith))

pub shape_of-table-then-b-eq10 : goal.shape_of-table-then-b-eq10
shape_of-table-then-b-eq10 c = exit_size c.loop-v.invariant (number_picked c.in_ok-v.was c.read_entry-n.ensures) c.store.ensures c.byte_at-b.ensures

pub returns-then-b-eq10 : goal.returns-then-b-eq10
returns-then-b-eq10 c = reading_last c.loop-v.invariant (number_picked c.in_ok-v.was c.read_entry-n.ensures) c.store.ensures c.byte_at-b.ensures c.if-b-eq10.true

pub shape_of-table-then-b-ne44 : goal.shape_of-table-then-b-ne44
shape_of-table-then-b-ne44 c = exit_size c.loop-v.invariant (number_picked c.in_ok-v.was c.read_entry-n.ensures) c.store.ensures c.byte_at-b.ensures

pub returns-then-b-ne44 : goal.returns-then-b-ne44
returns-then-b-ne44 c = reading_broken c.loop-v.invariant (number_picked c.in_ok-v.was c.read_entry-n.ensures) c.store.ensures c.byte_at-b.ensures c.if-b-eq10.false c.if-b-ne44.true

pub overflow_add-place : goal.overflow_add-place
overflow_add-place c = omega (arith, reading_within c.loop-v.invariant (number_picked c.in_ok-v.was c.read_entry-n.ensures) c.store.ensures c.byte_at-b.ensures (omega arith))

pub loop-v-smaller : goal.loop-v-smaller
loop-v-smaller c = omega (arith, reading_moves c.loop-v.invariant (number_picked c.in_ok-v.was c.read_entry-n.ensures))

pub loop-v-preserved : goal.loop-v-preserved
loop-v-preserved c = reading_more c.loop-v.invariant (number_picked c.in_ok-v.was c.read_entry-n.ensures) c.store.ensures c.byte_at-b.ensures c.if-b-ne44.false
