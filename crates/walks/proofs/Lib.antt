pub mod Among
pub mod Leaves
pub mod Statements
pub mod Borrows
