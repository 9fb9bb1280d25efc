-- Laws of leaf counts, for this crate's proofs and for the crates above.
pub mod LeafCounts
pub mod Examples
