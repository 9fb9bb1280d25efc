-- Laws of the faults of tables, for this crate's proofs and for the crates above.
pub mod Entries
pub mod Theorems
pub mod Examples
