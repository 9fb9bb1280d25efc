-- Where a table fails: the kinds of faults, each by its own test in document 01's words, and the first fault. `Means` holds what contracts of inner functions alone cite.
pub mod Table
pub mod Calls
pub mod Theorems
pub mod Means
