-- Laws, for this crate's proofs and for the crates above.
pub mod Shapes
pub mod Forms
pub mod Rows
