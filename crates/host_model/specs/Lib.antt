pub mod Host
pub mod Laws
pub mod Types
pub mod Along
pub mod Demand
pub mod DataDemand
