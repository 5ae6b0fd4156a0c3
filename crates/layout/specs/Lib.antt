pub mod Refused
pub mod Limits
pub mod Plant
