pub mod Cuts
pub mod Taken
pub mod Values
