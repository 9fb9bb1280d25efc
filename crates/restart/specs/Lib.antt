-- Restart on another number of ranks: the tables, the parts, the calls, and what is proved of them.
pub mod Restart
pub mod Calls
pub mod Theorems
pub mod Means
