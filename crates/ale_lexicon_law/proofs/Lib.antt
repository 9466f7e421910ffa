pub mod Budgets
pub mod Levels
pub mod Lexica
pub mod RuleStart
pub mod Rules
