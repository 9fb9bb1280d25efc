-- Laws of the plan's input.
pub mod Decimals
pub mod Grammar
pub mod Picked
