-- Document 01, "Ranks, trees and offset tables": the partition that leaf counts give. `Means` holds what contracts of inner functions alone cite.
pub mod Leaves
pub mod Means
