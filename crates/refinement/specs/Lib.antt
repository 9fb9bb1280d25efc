-- Document 02, C-11: the leaf count of a tree from its refinement string. `Means` holds what contracts of inner functions alone cite.
pub mod Refinement
pub mod Reading
pub mod Calls
pub mod Answers
pub mod Promises
pub mod Means
