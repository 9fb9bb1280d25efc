-- Document 01, "The program `plan`": its output.
pub mod Moves
pub mod Pairs
pub mod Promises
pub mod Means
