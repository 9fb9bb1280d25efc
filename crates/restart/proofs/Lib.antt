-- Laws, for this crate's proofs and for the crates above.
pub mod Answers
pub mod Ranges
pub mod Checks
pub mod Writing
pub mod Padding
pub mod Empty
pub mod Relabelling
pub mod Accepted
