-- Document 01, "Ranks, trees and offset tables": partitions, their tables, what a negative entry means, the calls that write a table, and when they refuse.
pub mod Partition
pub mod Sharing
pub mod Calls
pub mod Promises
pub mod Means
