-- Laws of chains and links.
pub mod Latest
pub mod Chains
pub mod Joins
pub mod Surveys
pub mod Meshes
pub mod Examples
