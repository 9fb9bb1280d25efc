-- Document 01, "The program `plan`": the plan of an input, the program's output, refusals included.
pub mod Plan
pub mod Promises
pub mod Means
