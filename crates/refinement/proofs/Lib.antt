-- Laws of refinements and of walks over their strings, for this crate's proofs and for the crates above.
mod Steps
pub mod Strings
pub mod Counts
pub mod Totals
pub mod Examples
