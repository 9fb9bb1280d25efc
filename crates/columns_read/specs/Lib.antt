-- Document 02, C-23: parts stored by columns.
pub mod Columns
pub mod Means
pub mod MeansFiles
