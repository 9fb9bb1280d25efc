-- Laws of faces, for this crate's proofs and for the crate above.
pub mod Pairs
