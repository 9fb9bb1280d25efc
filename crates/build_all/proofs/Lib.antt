-- Laws of the messages to all receivers.
pub mod Rows
pub mod Answers
