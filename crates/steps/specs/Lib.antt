pub mod Keeping
pub mod Replies
