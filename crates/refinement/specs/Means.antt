-- Means, no part of what is promised: what contracts of inner functions cite.
pub mod Walks
pub mod Trees
