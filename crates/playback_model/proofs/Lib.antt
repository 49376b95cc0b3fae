pub mod Laws
pub mod Calls
pub mod Unserved
pub mod Done
pub mod IllFormed
pub mod Demand
