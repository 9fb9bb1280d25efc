-- Theorems on areas.
pub mod Joined
pub mod Heard
pub mod Zones
pub mod Kept
pub mod Sound
pub mod Again
pub mod Delivered
pub mod Counting
pub mod Deliveries
