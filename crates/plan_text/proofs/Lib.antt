-- Laws of the plan's text.
pub mod Answers
pub mod Refusals
pub mod Texts
pub mod Examples
