pub mod Budget
pub mod EngineLaw
pub mod InTurn
pub mod Lists
