pub mod Kinds
pub mod Heard
pub mod Told
pub mod Formed
pub mod Hears
pub mod Parts
pub mod Reads
pub mod Agreed
