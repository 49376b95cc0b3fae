pub mod Fives
pub mod Bits
pub mod Phases
pub mod Bursts
pub mod Queues
pub mod SetUp
pub mod Formed
pub mod Ready
