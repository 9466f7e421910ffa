pub mod Bits
pub mod Pass
pub mod Paths
pub mod Via
