-- Theorems on parts.
pub mod CutRead
pub mod Renamed
pub mod CutSound
pub mod CutLinks
pub mod SoundParts
pub mod RowParts
