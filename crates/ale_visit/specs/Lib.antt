pub mod Owing
pub mod Views
