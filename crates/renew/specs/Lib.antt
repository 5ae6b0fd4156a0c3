pub mod Flags
pub mod Renewed
