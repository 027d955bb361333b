pub mod NodeLaws
pub mod Searches
pub mod Marks
pub mod States
