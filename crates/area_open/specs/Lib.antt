-- Document 01, "Messages and assembly": opening an area, and how far it is.
pub mod Calls
pub mod Answers
pub mod Means
