-- Laws of the plan's output.
pub mod Writing
pub mod Listing
