pub mod Declarations
pub mod Lists
pub mod Names
pub mod Numbering
