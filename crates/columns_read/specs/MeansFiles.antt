-- Means, no part of what is promised: the same of a file with the fields of its header.
use Rattle.std.specs.Prelude.{ℕ, Bool, List}
use Rattle.mesh.specs.Means.{link_by_dimension}
use Rattle.part_check.specs.Means.{PartLaid}
use Rattle.columns_read.specs.declared.file.Columns.{Columns}
use Rattle.columns_read.specs.Means.{tree_column, ghost_column, tree_head, tree_side, SidesAlike}

-- the fields are those of the header, and the file is as long as they say
abbrev pub Laid : Columns → Type 0
Laid c = PartLaid c.file.now c.first c.count c.ghosts c.trees

-- the core of tree i, and of ghost j
abbrev pub tree_of : Columns → ℕ → List ℕ
tree_of c = tree_column c.file.now c.count

abbrev pub ghost_of : Columns → ℕ → List ℕ
ghost_of c = ghost_column c.file.now c.count c.ghosts

-- tree i, its faces apart
abbrev pub head_of : Columns → ℕ → Bool
head_of c = tree_head (link_by_dimension c.dimension) c.first c.count c.ghosts (tree_of c) (ghost_of c) c.dimension c.trees

-- face f of tree i
abbrev pub side_of : Columns → ℕ → ℕ → Bool
side_of c = tree_side (link_by_dimension c.dimension) c.first c.count c.ghosts (tree_of c) (ghost_of c) c.dimension c.trees

-- the r trees behind tree i are like it in face f
abbrev pub Alike : Columns → ℕ → ℕ → ℕ → Type 0
Alike c f i r = SidesAlike (link_by_dimension c.dimension) c.first c.count c.ghosts (tree_of c) (ghost_of c) c.dimension c.trees f i r
