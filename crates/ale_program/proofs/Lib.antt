pub mod GoalRules
pub mod PlainParts
pub mod Keeping
