pub mod Engine
pub mod EngineLaws
pub mod Growth
pub mod GrowthLaws
