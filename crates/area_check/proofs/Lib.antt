-- Laws, for this crate's proofs.
pub mod Slots
pub mod Checking
