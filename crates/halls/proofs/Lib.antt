pub mod Marking
pub mod Counted
pub mod Striking
