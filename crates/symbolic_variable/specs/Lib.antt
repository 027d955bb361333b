pub mod Variable
pub mod Replies
