pub mod Subsumed
