pub mod Grammars
pub mod Premises
pub mod Sample
pub mod Worked
