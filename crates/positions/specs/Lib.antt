-- The position of a number among core records that ascend.
pub mod Means
