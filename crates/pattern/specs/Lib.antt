-- Document 01, "Who sends", in its order. `Means` holds what contracts of inner functions alone cite.
pub mod Sender
pub mod Sets
pub mod Calls
pub mod Means
pub mod Answers
