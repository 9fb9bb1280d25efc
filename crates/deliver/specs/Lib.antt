-- What the functions of a delivery require, and values that mirror their code.
pub mod Means
