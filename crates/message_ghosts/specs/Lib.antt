-- Which ghosts go with a message, as a set of numbers.
pub mod Means
pub mod MeansSent
