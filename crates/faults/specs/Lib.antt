-- Where a whole mesh fails: the kinds of faults, each by its own test in document 01's words, and the first fault.
pub mod Answer
pub mod Kinds
pub mod Record
pub mod Mesh
pub mod Calls
pub mod Theorems
pub mod Means
