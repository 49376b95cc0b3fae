pub mod Given
pub mod Zeros
