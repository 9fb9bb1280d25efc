-- Document 01, "Records, whole mesh and part": shapes, records, links.
pub mod Shape
pub mod Record
pub mod Links
pub mod Means
