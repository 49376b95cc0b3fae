pub mod Numbers
pub mod Tries
