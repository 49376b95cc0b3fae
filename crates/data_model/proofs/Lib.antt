pub mod Bytes
pub mod Flow
pub mod Books
pub mod Moves
pub mod Calls
pub mod Account
pub mod Worked
