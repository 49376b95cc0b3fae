pub mod Numbers
pub mod Words
pub mod Encoded
pub mod Back
pub mod Laws
