-- Laws of leaf counts.
pub mod LeafTables
pub mod WeightedShares
pub mod BlockTotals
