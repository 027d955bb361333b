pub mod Readings
pub mod Scans
pub mod Replies
