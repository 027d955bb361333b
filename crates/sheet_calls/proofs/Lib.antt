pub mod Counts
pub mod Offsets
