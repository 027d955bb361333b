pub mod Making
pub mod Walking
pub mod Walks
