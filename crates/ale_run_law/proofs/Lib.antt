pub mod Answers
pub mod Enough
pub mod First
pub mod Kept
pub mod Modelled
pub mod Rises
pub mod Runs
pub mod Whole
