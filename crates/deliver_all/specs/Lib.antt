-- Messages end to end, delivered under one check of the area.
pub mod Messages
pub mod Calls
pub mod Means
