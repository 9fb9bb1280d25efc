-- The byte layer's definitions: bounded loops, pieces of buffers, little-endian numbers, and refusals.
pub mod Below
pub mod Pieces
pub mod Numbers
pub mod Words
pub mod Header
pub mod Refusal
pub mod Answer
pub mod Refusals
