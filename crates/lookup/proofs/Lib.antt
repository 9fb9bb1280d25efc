-- Laws, for this crate's proofs and for the crates above.
pub mod Finding
pub mod Theorems
