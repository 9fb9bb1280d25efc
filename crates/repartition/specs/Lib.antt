-- The promises over all layers: demand 3 in one piece, demand 2 sentence by sentence, and document 01's examples.
pub mod Run
pub mod Lists
pub mod Demand
pub mod AfterList
pub mod Words
pub mod Deliveries
pub mod Runs
pub mod Promises
pub mod Refinement
pub mod Refusals
pub mod Lengths
pub mod Examples
pub mod Regions
pub mod Restart
pub mod TreeData
