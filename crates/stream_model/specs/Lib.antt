pub mod Stream
pub mod Laws
pub mod Done
