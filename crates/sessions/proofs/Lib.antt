pub mod Cutting
pub mod Worked
pub mod ByLines
