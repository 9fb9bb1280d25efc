-- Document 02, C-22: how many trees of a part each region has.
pub mod Counts
pub mod Calls
pub mod Theorems
pub mod Means
