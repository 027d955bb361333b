pub mod Sounds
pub mod Expanded
pub mod Printed
pub mod Inputs
mod Reading
