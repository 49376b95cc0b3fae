pub mod Shifting
pub mod Moving
