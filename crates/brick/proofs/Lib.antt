-- Laws, for this crate's proofs and for the crates above.
pub mod Axes
pub mod Sound
pub mod Rows
pub mod Answers
pub mod Turns
pub mod Examples
