pub mod NamedLists
pub mod Finished
pub mod RootItems
pub mod Fitting
pub mod Slices
