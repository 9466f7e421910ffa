pub mod Generations
pub mod HeadedOn
pub mod Rising
pub mod Soon
pub mod Spanned
