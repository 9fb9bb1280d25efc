-- Means, no part of what is promised: the same of bytes in grids.
use Rattle.std.specs.Prelude.{ℕ, List}
use Rattle.columns.specs.declared.turn.Grid.{Grid}
use Rattle.columns.specs.Means.{Lines, Sides, Moved}

-- n records of w columns are there
abbrev pub InGrid : List ℕ → Grid → ℕ → ℕ → Type 0
InGrid bs g n w = Lines bs g.start g.step g.leap n w

-- records become columns, or columns records
abbrev pub Turns : Grid → Grid → Type 0
Turns from to = Sides from.step from.leap to.step to.leap

-- from old to new they were moved
abbrev pub Carried : List ℕ → Grid → List ℕ → List ℕ → Grid → ℕ → ℕ → Type 0
Carried src from old new to n w = Moved src from.start from.step from.leap old new to.start to.step to.leap n w
