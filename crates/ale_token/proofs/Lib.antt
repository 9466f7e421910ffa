pub mod Clauses
pub mod Cutting
pub mod Longest
pub mod Quoting
pub mod Ranges
pub mod Reading
pub mod Standing
