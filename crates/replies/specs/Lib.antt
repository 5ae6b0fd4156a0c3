pub mod Written
pub mod Replied
pub mod Carried
