-- Laws, for this crate's proofs and for the crates above.
pub mod Layouts
pub mod Reading
pub mod Checking
pub mod Ghosts
pub mod Messages
