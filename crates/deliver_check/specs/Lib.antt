-- The checks of a delivery.
pub mod Means
