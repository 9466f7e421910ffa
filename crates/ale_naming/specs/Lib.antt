pub mod Places
pub mod Faults
pub mod Known
pub mod Rounds
pub mod Naming
pub mod Answers
pub mod Laws
