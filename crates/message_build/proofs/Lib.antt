-- Laws, for this crate's proofs and for the crates above.
pub mod Writing
pub mod Trees
pub mod Ghosts
pub mod Whole
pub mod Answers
