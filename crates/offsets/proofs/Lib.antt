-- Laws of tables, for this crate's proofs and for the crates above.
pub mod OnePass
pub mod Tables
pub mod Examples
pub mod Checked
