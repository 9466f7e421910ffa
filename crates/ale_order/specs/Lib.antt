pub mod Answers
pub mod Calls
pub mod Entries
pub mod Groups
pub mod Orders
pub mod Searches
