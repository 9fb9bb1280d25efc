-- Laws, for this crate's proofs and for the crates above.
pub mod Checks
pub mod Cutting
pub mod Marking
pub mod Renaming
pub mod Parts
