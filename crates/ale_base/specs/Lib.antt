pub mod Faults
pub mod HeldFiles
pub mod MemorySinks
pub mod NamedBytes
pub mod ReadErrors
pub mod Readings
pub mod Systems
