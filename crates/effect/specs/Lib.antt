pub mod Ops
pub mod Effects
pub mod Seen
