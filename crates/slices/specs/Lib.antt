pub mod Lent
pub mod Putting
pub mod Rows
