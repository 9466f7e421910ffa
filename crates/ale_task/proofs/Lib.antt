pub mod Seen
pub mod Shown
pub mod Satisfying
pub mod Promising
pub mod Texts
