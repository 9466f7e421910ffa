pub mod MapSteps
pub mod MorphismLaws
pub mod MorphismSteps
pub mod ReachSteps
pub mod Reaching
pub mod RootSteps
pub mod VisibleLaws
pub mod WalkSteps
