-- Laws of faults, for this crate's proofs and for the crates above.
pub mod Positive
pub mod Firsts
pub mod Records
pub mod Right
pub mod OneRecord
pub mod Searches
pub mod Theorems
pub mod Examples
