-- Document 02, C-12: bricks of hexahedra made here.
pub mod Brick
pub mod Calls
pub mod Theorems
pub mod Means
