pub mod Steps
pub mod Picking
pub mod Adds
pub mod Rooting
pub mod Visits
