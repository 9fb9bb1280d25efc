-- Document 01, "The program `plan`": its input.
pub mod Text
pub mod Means
