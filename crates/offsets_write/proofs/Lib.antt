-- Laws of partitions and their tables, for this crate's proofs and for `leaves`, when ranges are refused, and what a passed check tells.
pub mod Partitions
pub mod Refusals
pub mod RoomChecks
