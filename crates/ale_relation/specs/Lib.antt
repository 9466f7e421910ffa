pub mod Has
pub mod Paths
pub mod Rows
