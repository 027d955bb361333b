pub mod Words
pub mod Orders
pub mod Merged
pub mod Places
pub mod Signs
