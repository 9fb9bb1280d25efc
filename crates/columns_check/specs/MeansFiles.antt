-- Means, no part of what is promised: the same of a file with the fields of its header, and with the index of its ghosts.
use Rattle.std.specs.Prelude.{ℕ, Bool}
use Rattle.mesh.specs.Means.{link_by_dimension}
use Rattle.columns_read.specs.declared.file.Columns.{Columns}
use Rattle.columns_read.specs.MeansFiles.{tree_of, ghost_of}
use Rattle.columns_check.specs.declared.sound.Indexed.{Indexed}
use Rattle.columns_check.specs.Means.{ghost_head, ghost_side, ghost_side_low, ghost_side_up, ghost_side_down, ghost_side_listed, ghost_side_linked, faces_sound, faces_up, faces_down, links_sound, FileNumbered, FileIndexed}

-- with sound numbers
abbrev pub Numbered : Columns → Type 0
Numbered c = FileNumbered c.file.now c.first c.count c.ghosts c.trees

-- and the index of its ghosts
abbrev pub HasIndex : Indexed → Type 0
HasIndex x = FileIndexed x.columns.file.now x.columns.first x.columns.count x.columns.ghosts x.columns.trees x.marks.now x.behind.now

-- ghost j, its number and its faces apart
abbrev pub ghost_head_of : Columns → ℕ → Bool
ghost_head_of c = ghost_head (link_by_dimension c.dimension) c.first c.count c.ghosts (tree_of c) (ghost_of c) c.dimension c.trees

-- face f of ghost j
abbrev pub ghost_side_of : Columns → ℕ → ℕ → Bool
ghost_side_of c = ghost_side (link_by_dimension c.dimension) c.first c.count c.ghosts (tree_of c) (ghost_of c) c.dimension c.trees

-- it passes without its neighbour; it leads up, down, to a ghost that isn't higher; such a link passes
abbrev pub low_of : Columns → ℕ → ℕ → Bool
low_of c = ghost_side_low c.trees (ghost_of c)

abbrev pub up_of : Columns → ℕ → ℕ → Bool
up_of c = ghost_side_up c.first c.count c.ghosts (ghost_of c)

abbrev pub down_of : Columns → ℕ → ℕ → Bool
down_of c = ghost_side_down c.ghosts (ghost_of c)

abbrev pub listed_of : Columns → ℕ → ℕ → Bool
listed_of c = ghost_side_listed c.ghosts (ghost_of c)

abbrev pub linked_of : Columns → ℕ → ℕ → Bool
linked_of c = ghost_side_linked (link_by_dimension c.dimension) c.first c.count c.ghosts (tree_of c) (ghost_of c) c.dimension c.trees

-- face f of all records, and how many of them lead up and down
abbrev pub face_of : Columns → ℕ → Bool
face_of c = faces_sound (link_by_dimension c.dimension) c.first c.count c.ghosts (tree_of c) (ghost_of c) c.dimension c.trees

abbrev pub ups_of : Columns → ℕ → ℕ
ups_of c = faces_up (link_by_dimension c.dimension) c.first c.count c.ghosts (tree_of c) (ghost_of c) c.dimension c.trees

abbrev pub downs_of : Columns → ℕ → ℕ
downs_of c = faces_down (link_by_dimension c.dimension) c.first c.count c.ghosts (tree_of c) (ghost_of c) c.dimension c.trees

-- all faces
abbrev pub links_of : Columns → Bool
links_of c = links_sound (link_by_dimension c.dimension) c.first c.count c.ghosts (tree_of c) (ghost_of c) c.dimension c.trees
