pub mod Format
pub mod Head
