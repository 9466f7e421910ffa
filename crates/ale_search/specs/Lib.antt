pub mod NextLaws
pub mod Outcomes
pub mod Searches
pub mod Solutions
pub mod Told
pub mod ToldLaws
pub mod Views
pub mod Waiting
