pub mod Marking
pub mod Replying
