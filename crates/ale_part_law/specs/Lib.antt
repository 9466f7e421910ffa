pub mod VisibleParts
