pub mod ListNames
