-- Sets of numbers as words of 64 bits.
pub mod Bits
