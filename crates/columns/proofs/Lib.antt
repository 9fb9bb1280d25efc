-- Laws, for this crate's proofs and for the crates above.
pub mod Moving
pub mod Squares
pub mod Writing
pub mod Answers
pub mod Theorems
