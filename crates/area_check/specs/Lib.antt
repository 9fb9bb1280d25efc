-- Document 01, "Messages and assembly": when an area is sound.
pub mod Means
