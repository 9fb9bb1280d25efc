-- Document 01, "Records, whole mesh and part": the whole mesh.
pub mod Link
pub mod Mesh
pub mod Means
