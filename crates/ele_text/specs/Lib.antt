-- Document 02, C-14: the text of Triangle's element files. `Means` holds what contracts of inner functions alone cite.
pub mod Text
pub mod Means
