-- Means, no part of what is promised: what the form of a face tells before its link is looked at.
use Rattle.std.specs.Prelude.{ℕ, cond, List, ltb}
use Rattle.records.specs.Shape.{face_count}
use Rattle.records.specs.Record.{shape_of, unused_ok, boundary_ok}

-- the kind of face f, its link apart
unfoldable pub form_kind : ℕ → List ℕ → ℕ → ℕ
form_kind own r f = cond (ltb f (face_count (shape_of r))) (cond (boundary_ok own r f) 0 11) (cond (unused_ok r f) 0 10)
