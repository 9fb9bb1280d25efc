-- Where a part fails: what may be wrong with its trees and ghosts, and the first fault.
pub mod Wrong
pub mod Calls
pub mod Theorems
pub mod Means
