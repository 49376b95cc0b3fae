pub mod Refused
pub mod Table
pub mod Sections
pub mod Worked
pub mod Heads
