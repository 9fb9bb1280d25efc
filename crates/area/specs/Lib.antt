-- Document 01, "Messages and assembly": the area.
pub mod Layout
pub mod Area
pub mod Open
pub mod Deliver
pub mod Close
pub mod Means
