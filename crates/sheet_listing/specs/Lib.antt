pub mod Fronts
pub mod Inputs
