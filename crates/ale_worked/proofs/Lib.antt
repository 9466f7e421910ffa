pub mod Accepted
pub mod Lawful
pub mod Searched
