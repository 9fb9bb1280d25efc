-- What the functions that look at the links of ghosts give.
pub mod Means
