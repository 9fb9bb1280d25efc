-- Building a message from a part.
pub mod Means
pub mod MeansSent
