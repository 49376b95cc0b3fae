pub mod Each
pub mod Kept
pub mod Writing
pub mod RoundTrip
pub mod Joined
pub mod Canonical
pub mod Made
pub mod Within
