-- Document 02, C-14: the mesh of Triangle's element files. `Means` holds what contracts of inner functions alone cite.
pub mod Calls
pub mod Theorems
pub mod Means
