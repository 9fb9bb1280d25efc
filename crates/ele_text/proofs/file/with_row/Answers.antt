use mathlib.Core.Path.{sym, ◌∙◌}
use lib.ListN.{length-set}
use native.Mathlib.Omega.{arith}
use Rattle.ele_text.proofs.Storing.{triangle_bounds, row_none, row_head, row_no_head, row_triangle, row_no_triangle}
use Rattle.ele_text.proofs.file.with_row.Goals as goal

pub returns-then-r-eq0 : goal.returns-then-r-eq0
returns-then-r-eq0 c = row_none _ _ _ c.requires.0 c.if-r-eq0.true

pub returns-then-not-is_head : goal.returns-then-not-is_head
returns-then-not-is_head c = row_no_head _ _ _ c.if-r-eq0.false c.if-f-eq0.true (sym c.is_head.ensures ∙ c.if-not-is_head.true)

pub returns-then-f-eq0 : goal.returns-then-f-eq0
returns-then-f-eq0 c = row_head _ _ _ c.if-r-eq0.false c.if-f-eq0.true (sym c.is_head.ensures ∙ c.if-not-is_head.false)

pub returns-then-not-is_triangle : goal.returns-then-not-is_triangle
returns-then-not-is_triangle c = row_no_triangle _ _ _ c.if-r-eq0.false c.if-f-eq0.false (sym c.is_triangle.ensures ∙ c.if-not-is_triangle.true)

pub bounds-vertices-i : goal.bounds-vertices-i
bounds-vertices-i c = omega (arith, c.requires.0.count, triangle_bounds _ _ _ _ (sym c.is_triangle.ensures ∙ c.if-not-is_triangle.false) c.requires.0.next)

pub bounds-vertices-i-2 : goal.bounds-vertices-i-2
bounds-vertices-i-2 c = simp length-set (omega (arith, c.requires.0.count, triangle_bounds _ _ _ _ (sym c.is_triangle.ensures ∙ c.if-not-is_triangle.false) c.requires.0.next))

pub bounds-vertices-i-3 : goal.bounds-vertices-i-3
bounds-vertices-i-3 c = simp length-set (omega (arith, c.requires.0.count, triangle_bounds _ _ _ _ (sym c.is_triangle.ensures ∙ c.if-not-is_triangle.false) c.requires.0.next))

pub overflow_add-result-2 : goal.overflow_add-result-2
overflow_add-result-2 c = omega (arith, c.requires.0.count, triangle_bounds _ _ _ _ (sym c.is_triangle.ensures ∙ c.if-not-is_triangle.false) c.requires.0.next)

pub returns : goal.returns
returns c = row_triangle _ _ _ c.if-r-eq0.false c.if-f-eq0.false c.requires.0 c.requires.1 (sym c.is_triangle.ensures ∙ c.if-not-is_triangle.false)
