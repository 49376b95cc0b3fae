pub mod Record
pub mod Writer
pub mod Done
