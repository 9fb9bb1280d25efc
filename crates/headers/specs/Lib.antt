-- What is wrong with the header or the length of a part or a whole mesh: the first field that isn't what is due.
pub mod Answer
pub mod Answers
pub mod Fields
pub mod Calls
pub mod Theorems
pub mod Means
