-- Laws, for this crate's proofs and for the crates above.
pub mod Ghosts
pub mod Checks
pub mod Records
pub mod Ranges
pub mod Search
pub mod Global
pub mod Views
pub mod Sound
pub mod Same
