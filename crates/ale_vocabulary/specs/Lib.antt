pub mod First
pub mod Keys
pub mod Vocabularies
pub mod Mentions
pub mod Knowing
pub mod Laws
pub mod Pairs
