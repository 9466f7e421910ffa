pub mod Describing
pub mod Firsts
pub mod Found
pub mod Keying
pub mod Named
pub mod Pairing
pub mod Proving
