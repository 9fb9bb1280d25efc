-- Laws of the sender and of the sets, for this crate's proofs and for the crates above.
pub mod Counting
pub mod Senders
pub mod Sets
pub mod Laws
pub mod Windows
pub mod Answers
pub mod Examples
