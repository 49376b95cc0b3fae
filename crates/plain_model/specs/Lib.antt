pub mod Areas
pub mod Moves
pub mod FitsArea
pub mod Plain
pub mod PlainLaws
pub mod PlainCases
