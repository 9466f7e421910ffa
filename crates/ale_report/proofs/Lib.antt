pub mod Backwards
pub mod Printed
pub mod Seen
pub mod Written
