-- The messages to all receivers, built under one check of the part.
pub mod Messages
pub mod Calls
pub mod Answers
pub mod Means
