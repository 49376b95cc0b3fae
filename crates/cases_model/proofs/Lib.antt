pub mod Cases
pub mod Accesses
