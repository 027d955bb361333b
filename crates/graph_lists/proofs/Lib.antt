pub mod Flags
pub mod Sweeps
pub mod Naming
pub mod Renaming
pub mod Closing
pub mod Graphing
