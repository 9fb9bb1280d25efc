-- Laws, for this crate's proofs and for the crates above.
pub mod Counting
pub mod Answers
pub mod Theorems
