pub mod Marks
pub mod Replies
