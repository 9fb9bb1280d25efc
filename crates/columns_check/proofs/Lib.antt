-- Laws, for this crate's proofs and for the crates above.
pub mod Finding
pub mod Judging
pub mod Turned
pub mod Held
pub mod Summing
pub mod Accepting
