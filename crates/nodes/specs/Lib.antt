pub mod Picks
pub mod Memory
pub mod Nodes
