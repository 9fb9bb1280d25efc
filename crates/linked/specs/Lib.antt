-- What the functions that look at the links of records find.
pub mod Means
