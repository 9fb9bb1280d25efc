-- Laws, for this crate's proofs and for the crates above.
pub mod Records
pub mod Building
pub mod Writing
