-- Laws, for this crate's proofs and for the crates above.
pub mod Handed
pub mod Stepped
pub mod Whole
