pub mod Listed
pub mod Nexts
pub mod Props
