pub mod Engines
pub mod Growing
pub mod TestLines
