-- Document 01, "Records, whole mesh and part": checking a part.
pub mod Calls
pub mod Means
