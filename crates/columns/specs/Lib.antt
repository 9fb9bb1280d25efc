-- Document 02, C-23: writing a part by columns, and back.
pub mod Calls
pub mod Theorems
pub mod Means
pub mod MeansGrids
