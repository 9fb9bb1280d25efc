-- Document 02, C-20: the trees of a part near a probe.
pub mod Probes
pub mod Calls
pub mod Theorems
pub mod Means
