-- Document 01, "Records, whole mesh and part": cutting a part out.
pub mod Calls
pub mod Means
