pub mod Files
pub mod Reading
pub mod Grammars
pub mod Commands
pub mod Results
pub mod Views
pub mod Laws
