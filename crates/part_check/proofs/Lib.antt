-- Laws, for this crate's proofs and for the crates above.
pub mod Checks
pub mod Judging
pub mod FromOneEnd
pub mod ByDimension
pub mod Checking
pub mod OneLoop
pub mod PlainTrees
