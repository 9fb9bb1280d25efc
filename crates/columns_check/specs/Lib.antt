-- Document 02, C-23: parts stored by columns.
pub mod Means
pub mod MeansFiles
