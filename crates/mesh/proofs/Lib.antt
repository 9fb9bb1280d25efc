-- Laws, for this crate's proofs and for the crates above.
pub mod Counting
pub mod OneEnd
pub mod Soundness
pub mod ByDimension
pub mod FromAbove
pub mod Packing
pub mod Checking
pub mod PlainTrees
pub mod Examples
