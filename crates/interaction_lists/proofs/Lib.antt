pub mod Walked
pub mod Messages
pub mod Steps
