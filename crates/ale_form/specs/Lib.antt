pub mod Nesting
pub mod LeftOut
pub mod Results
pub mod Whole
pub mod Numbers
