-- Laws of the text of an element file.
pub mod Splits
pub mod Numbers
pub mod Rows
pub mod Storing
pub mod Files
