pub mod Grows
pub mod Puts
pub mod Spells
pub mod Stays
pub mod Through
pub mod Visible
pub mod Wholes
