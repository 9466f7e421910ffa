pub mod Answers
pub mod Declarations
pub mod Names
pub mod Pieces
pub mod Places
pub mod Symbols
pub mod Tokens
