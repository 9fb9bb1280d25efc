-- Document 01, "Ranks, trees and offset tables": limits, tables, and the calls that read one.
pub mod Limits
pub mod Table
pub mod Calls
pub mod Means
pub mod Answers
