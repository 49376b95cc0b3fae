pub mod Choices
pub mod Cases
pub mod Grammar
