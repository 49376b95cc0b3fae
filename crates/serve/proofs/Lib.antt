pub mod Guards
pub mod Settled
