-- Document 01, "Records, whole mesh and part": the part, in its order.
pub mod Layout
pub mod Ghosts
pub mod Cut
pub mod View
pub mod Part
pub mod Checks
pub mod Means
