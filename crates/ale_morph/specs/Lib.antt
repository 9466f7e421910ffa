pub mod Appending
pub mod Fits
pub mod Search
pub mod Bound
pub mod Laws
pub mod Stack
pub mod Underway
