-- Laws, for this crate's proofs and for the crates above.
pub mod Floats
pub mod Order
pub mod Corners
pub mod Listing
pub mod Answers
pub mod Theorems
pub mod Zeros
