-- Laws of the first wrong field, for this crate's proofs and for the crates above.
pub mod FirstWrong
pub mod Theorems
pub mod Examples
