-- Document 02, C-11: leaf counts of a list of trees from their refinement strings. `Means` holds what contracts of inner functions alone cite.
pub mod Calls
pub mod Promises
pub mod Means
