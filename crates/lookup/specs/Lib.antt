-- Document 01, "Records, whole mesh and part": finding a record.
pub mod Lookup
pub mod Theorems
