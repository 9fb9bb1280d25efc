-- Document 01, "Ranks, trees and offset tables": the table that leaf counts give.
pub mod Weighted
pub mod Blocks
pub mod Calls
pub mod Promises
pub mod Means
