use native.Mathlib.Omega.{arith}
use borrow.Author.Tests.{ne_eqb}
use Rattle.refinement.specs.Means.Walks.{going}
use Rattle.refinement.proofs.Counts.{tree_found, tree_stopped, triangle_found, triangle_stopped}
use Rattle.refinement.proofs.walk.tree.Goals as goal

pub returns-in_err-past_triangle : goal.returns-in_err-past_triangle
returns-in_err-past_triangle c = rw c.from_residual.ensures (triangle_stopped c.args.shape c.args.s.now c.if-shape-eq1.true c.in_err-past_triangle.ensures, tt)

pub returns-then-shape-eq1 : goal.returns-then-shape-eq1
returns-then-shape-eq1 c = triangle_found c.args.shape c.args.s.now (going c.past_triangle.new.w) c.if-shape-eq1.true c.in_ok-past_triangle.ensures.0 c.in_ok-past_triangle.ensures.1 c.found.ensures

pub past_element-requires : goal.past_element-requires
past_element-requires c = record {
  shape_value = ne_eqb _ _ c.if-shape-eq1.false;
  passing = record { within = omega arith; few = omega arith };
}

pub returns-in_err-past_element : goal.returns-in_err-past_element
returns-in_err-past_element c = rw c.from_residual-in_err-past_element.ensures (tree_stopped c.args.shape c.args.s.now c.in_err-past_element.ensures, tt)

pub returns : goal.returns
returns c = tree_found c.args.shape c.args.s.now (going c.past_element.new.w) c.in_ok-past_element.ensures.0 c.in_ok-past_element.ensures.1 c.found-2.ensures
