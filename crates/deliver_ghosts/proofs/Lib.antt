-- Laws, for this crate's proofs and for the crates above.
pub mod Rooms
pub mod Marking
