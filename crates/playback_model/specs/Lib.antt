pub mod Replay
pub mod Laws
pub mod Done
pub mod Demand
