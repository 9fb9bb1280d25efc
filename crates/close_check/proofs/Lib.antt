-- Laws, for this crate's proofs and for the crates above.
pub mod Links
pub mod ByDimension
pub mod AreaSlots
pub mod Joining
pub mod OneLoop
pub mod Reading
pub mod Checks
