-- Laws of the byte layer's definitions, for this crate's proofs and for the crates above.
pub mod Below
pub mod Pieces
pub mod Numbers
pub mod Words
pub mod Copying
pub mod Headers
pub mod Refusals
