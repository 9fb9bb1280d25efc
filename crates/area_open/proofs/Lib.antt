-- Laws, for this crate's proofs.
pub mod Opening
pub mod Progressing
