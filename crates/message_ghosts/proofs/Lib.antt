-- Laws, for this crate's proofs.
pub mod Going
pub mod Records
pub mod Reading
pub mod Ranging
pub mod Localising
pub mod Walking
pub mod Marking
