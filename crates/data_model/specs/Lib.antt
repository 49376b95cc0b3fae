pub mod Ledger
pub mod Account
pub mod Worked
