-- What the inner functions of the checks of a close give.
pub mod Means
