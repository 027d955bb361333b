pub mod Access
pub mod Named
pub mod Nodes
pub mod Orders
