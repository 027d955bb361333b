pub mod Offsets
pub mod Filling
pub mod HeaderWords
pub mod Chunks
pub mod Written
