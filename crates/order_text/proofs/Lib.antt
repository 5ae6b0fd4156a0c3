pub mod Spelling
pub mod Saying
pub mod OneOrder
