pub mod OneQueue
pub mod FiveQueues
pub mod Headless
pub mod Beside
pub mod PlainLaws
pub mod PlainCases
