-- Laws, for this crate's proofs and for the crates above.
pub mod Slots
pub mod Lengths
pub mod Joining
pub mod Closing
