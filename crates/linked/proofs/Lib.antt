-- The links of records that stand together, from one end.
pub mod Reading
pub mod Seeing
pub mod Numbers
pub mod FromOneEnd
