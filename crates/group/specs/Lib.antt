pub mod Grouped
pub mod Waiting
pub mod Groups
pub mod OneProof
