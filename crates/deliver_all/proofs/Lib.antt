-- Laws of messages end to end.
pub mod Parting
pub mod Delivering
