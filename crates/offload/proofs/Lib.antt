pub mod Barred
