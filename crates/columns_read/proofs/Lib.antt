-- Laws, for this crate's proofs and for the crates above.
pub mod Spaced
pub mod Reading
pub mod Runs
