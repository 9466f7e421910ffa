pub mod Goals
pub mod Views
pub mod Kept
pub mod Fragment
