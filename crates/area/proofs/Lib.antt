-- Laws, for this crate's proofs and for the crates above.
pub mod Copying
pub mod Ranges
pub mod Headers
pub mod Tabled
pub mod Soundness
