pub mod Numbered
pub mod Sought
pub mod Turned
pub mod Visits
