-- Laws of a delivery.
pub mod Merged
pub mod Merging
pub mod Splices
pub mod Ready
pub mod Written
