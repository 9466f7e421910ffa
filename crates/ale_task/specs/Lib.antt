pub mod Tasks
pub mod Satisfiers
pub mod Promises
pub mod Written
pub mod Laws
