-- The checks of a message's ghosts.
pub mod Means
