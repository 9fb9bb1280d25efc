-- Document 01, "Records, whole mesh and part": what stands across a face.
pub mod Neighbour
pub mod Calls
