pub mod Checked
pub mod Deepest
pub mod Numbers
pub mod Wholes
pub mod Words
