-- Laws of the faults of a part.
pub mod Found
pub mod Finding
pub mod Right
pub mod Clauses
pub mod Passing
pub mod Theorems
