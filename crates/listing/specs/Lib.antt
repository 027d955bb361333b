pub mod Putting
pub mod Families
