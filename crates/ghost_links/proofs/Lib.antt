-- Laws, for this crate's proofs and for the crates above.
pub mod Forms
pub mod Checking
pub mod FromOneEnd
