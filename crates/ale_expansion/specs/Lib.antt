pub mod Marks
pub mod Met
pub mod Walking
