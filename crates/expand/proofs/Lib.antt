pub mod Nodes
pub mod Leaves
pub mod Working
pub mod Storing
pub mod Finishes
pub mod Far
pub mod Expanding
pub mod Roots
