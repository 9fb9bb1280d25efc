-- Laws, for this crate's proofs and for the crates above.
pub mod Positions
pub mod Members
