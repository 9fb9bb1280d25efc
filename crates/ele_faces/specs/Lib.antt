-- Document 02, C-14: the faces of Triangle's element files. `Means` holds what contracts of inner functions alone cite.
pub mod Faces
pub mod Means
