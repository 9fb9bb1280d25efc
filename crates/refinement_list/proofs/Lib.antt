-- Laws of the counts of a list of trees, for this crate's proofs and for the crates above.
mod Lists
pub mod Totals
