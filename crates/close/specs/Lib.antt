-- Document 01, "Messages and assembly": close.
pub mod Means
