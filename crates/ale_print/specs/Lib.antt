pub mod Appending
pub mod Naming
pub mod Pairing
pub mod Sameness
pub mod Steps
pub mod Tagging
pub mod Texts
pub mod Walking
