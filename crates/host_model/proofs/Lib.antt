pub mod Calling
pub mod Hosting
pub mod Laws
pub mod Types
pub mod Along
pub mod Replaying
pub mod Demand
pub mod DataDemand
