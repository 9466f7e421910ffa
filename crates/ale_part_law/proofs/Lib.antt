pub mod Adding
pub mod Attaching
pub mod Drafts
pub mod Gluing
pub mod Keeping
pub mod VisiblePart
