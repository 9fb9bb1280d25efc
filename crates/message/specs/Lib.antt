-- Document 01, "Messages and assembly": the message.
pub mod Layout
pub mod Reading
pub mod Rule
pub mod Build
pub mod Calls
pub mod Means
