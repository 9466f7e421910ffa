pub mod Accepted
pub mod Faults
pub mod Hierarchy
pub mod Limits
pub mod Order
pub mod Ranks
pub mod Refusals
pub mod Stages
