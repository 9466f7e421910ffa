pub mod Faults
pub mod HeldFilesLemmas
pub mod Streams
