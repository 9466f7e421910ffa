pub mod Declarations
pub mod Forms
pub mod Directives
pub mod Answers
pub mod Reading
pub mod Distinct
